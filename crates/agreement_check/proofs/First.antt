-- The first item that passes a test, in a list behind whose last item an open one stands, which passes.
use Rattle.std.proofs.Common.{◌≡◌, ℕ, zero, suc, ◌+◌, ◌<◌, ◌≤◌, List, [], ◌∷◌, Bool, true, false, cond, not, refl, arith, length, position, nat_lt, slice_get, sym, Some, None, Option}
use Rattle.std.specs.List.{position_or_len}
use Rattle.std.specs.Option.{option_map_or}

-- whether the item at a place passes
abbrev pub passes_at : {A : Type 0} → (A → Bool) → List A → ℕ → Bool
passes_at p items k = option_map_or p (slice_get items k) true

first_step : {A : Type 0} (p : A → Bool) (x : A) (xs : List A) (t : Bool) → p x ≡ t → passes_at p xs (position_or_len p xs) ≡ true →
    passes_at p (x ∷ xs) (cond (not t) (1 + position_or_len p xs) 0) ≡ true
first_step p x xs true e h = e
first_step p x xs false e h = let s : 1 + position_or_len p xs ≡ suc (position_or_len p xs) = omega arith in rw s h

pub first-passes : {A : Type 0} (p : A → Bool) (xs : List A) → passes_at p xs (position_or_len p xs) ≡ true
first-passes p [] = refl
first-passes p (x ∷ xs) = first_step p x xs (p x) refl (first-passes p xs)

not_first : (t : Bool) (n : ℕ) → t ≡ true → 0 < cond (not t) (1 + n) 0 → ⊥
not_first true n e h = omega (arith, h)
not_first false n e h = absurd (cc e)

later : (t : Bool) (k n : ℕ) → suc k < cond (not t) (1 + n) 0 → k < n
later true k n h = absurd (omega (arith, h))
later false k n h = omega (arith, h)

-- nothing before it does
pub none-before : {A : Type 0} (p : A → Bool) (xs : List A) (k : ℕ) → k < position_or_len p xs → passes_at p xs k ≡ true → ⊥
none-before p [] k h t = omega (arith, h)
none-before p (x ∷ xs) zero h t = not_first (p x) (position_or_len p xs) t h
none-before p (x ∷ xs) (suc k) h t = none-before p xs k (later (p x) k (position_or_len p xs) h) t

shorter : (t : Bool) (k n : ℕ) → k ≤ n → cond (not t) (1 + k) 0 ≤ suc n
shorter true k n h = omega arith
shorter false k n h = omega (arith, h)

pub up_to_length : {A : Type 0} (p : A → Bool) (xs : List A) → position_or_len p xs ≤ length xs
up_to_length p [] = omega arith
up_to_length p (x ∷ xs) = shorter (p x) (position_or_len p xs) (length xs) (up_to_length p xs)

-- a place that was found, or the length
found_place : (k r : ℕ) (t : Bool) → cond t (Some k) None ≡ Some r → r ≡ k
found_place k r true e = sym cc
found_place k r false e = absurd (cc e)

none_place : (k n : ℕ) (t : Bool) → nat_lt k n ≡ t → k ≤ n → (let o : Option ℕ = cond t (Some k) None in o) ≡ None → n ≡ k
none_place k n true e h f = absurd (cc f)
none_place k n false e h f = grind (arith, e, h)

pub place-some : {A : Type 0} (p : A → Bool) (xs : List A) (r : ℕ) → position p xs ≡ Some r → r ≡ position_or_len p xs
place-some p xs r e = found_place (position_or_len p xs) r (nat_lt (position_or_len p xs) (length xs)) e

pub place-none : {A : Type 0} (p : A → Bool) (xs : List A) → position p xs ≡ None → length xs ≡ position_or_len p xs
place-none p xs e = none_place (position_or_len p xs) (length xs) (nat_lt (position_or_len p xs) (length xs)) refl (up_to_length p xs) e

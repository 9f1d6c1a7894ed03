-- Of the prefixes inside P, all but P itself lie in one half of P or the other. Over bits below P, the
-- highest first, and over any payload: a list of rows without one at P falls into one list a half.
use Rattle.std.proofs.Common.{◌≡◌, ◌∷◌, ℕ, List, [], ◌+◌, ◌≤◌, Bool, true, false, refl, ap, arith}
use Rattle.std.specs.Prelude.{cond, find, Option, Some, option_map, sum_by}
use Rattle.std.proofs.lemmas.List.Sums.{sum_by-cons}
use Rattle.std.proofs.lemmas.Bool.{true≢false}
use Rattle.field_boxes.specs.Bits.{begins}

-- the bits of a prefix below P, and what it carries
pub record Row (A : Type 0) : Type 0 where
  pub bits : List Bool
  pub payload : A

-- what the first row that holds the value carries
abbrev pub front : {A : Type 0} → List (Row A) → List Bool → Option A
front rows v = option_map (λ r. r.payload) (find (λ r. begins r.bits v) rows)

-- what a row leaves below a half, in front of the rest
abbrev pub kept_below : {A : Type 0} → Bool → List Bool → A → List (Row A) → List (Row A)
kept_below b [] payload rest = rest
kept_below true (true ∷ bits) payload rest = record { bits = bits; payload = payload } ∷ rest
kept_below false (false ∷ bits) payload rest = record { bits = bits; payload = payload } ∷ rest
kept_below true (false ∷ bits) payload rest = rest
kept_below false (true ∷ bits) payload rest = rest

-- the rows below a half, with the half's bit dropped
abbrev pub half : {A : Type 0} → Bool → List (Row A) → List (Row A)
half b [] = []
half b (r ∷ rows) = kept_below b r.bits r.payload (half b rows)

abbrev pub is_root : List Bool → Bool
is_root [] = true
is_root (b ∷ bits) = false

-- no row stands at P itself
abbrev pub IsRootless : {A : Type 0} → List (Row A) → Type 0
IsRootless [] = Unit {0}
IsRootless (r ∷ rows) = (is_root r.bits ≡ false) × IsRootless rows

-- what a found row shows of two rows with one payload, in front of what shows the same
shown : {A : Type 0} (t : Bool) (x y : Row A) (rest other : Option (Row A)) → x.payload ≡ y.payload → option_map (λ r. r.payload) rest ≡ option_map (λ r. r.payload) other →
    option_map (λ r. r.payload) (cond t (Some x) rest) ≡ option_map (λ r. r.payload) (cond t (Some y) other)
shown true x y rest other e h = ap Some e
shown false x y rest other e h = h

front_row : {A : Type 0} (b : Bool) (v bits : List Bool) (payload : A) (rest : Option (Row A)) (kept : List (Row A)) →
    is_root bits ≡ false → option_map (λ r. r.payload) rest ≡ front kept v →
    option_map (λ r. r.payload) (cond (begins bits (b ∷ v)) (Some (record { bits = bits; payload = payload })) rest) ≡ front (kept_below b bits payload kept) v
front_row b v [] payload rest kept e h = absurd (true≢false e)
front_row true v (true ∷ bits) payload rest kept e h = shown (begins bits v) (record { bits = true ∷ bits; payload = payload }) (record { bits = bits; payload = payload }) rest (find (λ r. begins r.bits v) kept) refl h
front_row false v (false ∷ bits) payload rest kept e h = shown (begins bits v) (record { bits = false ∷ bits; payload = payload }) (record { bits = bits; payload = payload }) rest (find (λ r. begins r.bits v) kept) refl h
front_row true v (false ∷ bits) payload rest kept e h = h
front_row false v (true ∷ bits) payload rest kept e h = h

-- the first row for a value is the first row of its half
pub front-half : {A : Type 0} (b : Bool) (v : List Bool) (rows : List (Row A)) → IsRootless rows → front rows (b ∷ v) ≡ front (half b rows) v
front-half b v [] rootless = refl
front-half b v (r ∷ rows) rootless = front_row b v r.bits r.payload (find (λ x. begins x.bits (b ∷ v)) rows) (half b rows) rootless.0 (front-half b v rows rootless.1)

weigh : {A : Type 0} (w : A → ℕ) (bits : List Bool) (payload : A) (n : ℕ) (zeros ones : List (Row A)) → sum_by (λ r. w r.payload) zeros + sum_by (λ r. w r.payload) ones ≤ n →
    sum_by (λ r. w r.payload) (kept_below false bits payload zeros) + sum_by (λ r. w r.payload) (kept_below true bits payload ones) ≤ w payload + n
weigh w [] payload n zeros ones h = omega (arith, h)
weigh w (true ∷ bits) payload n zeros ones h =
    let e = sum_by-cons (λ r. w r.payload) (record { bits = bits; payload = payload }) ones in rw e (omega (arith, h))
weigh w (false ∷ bits) payload n zeros ones h =
    let e = sum_by-cons (λ r. w r.payload) (record { bits = bits; payload = payload }) zeros in rw e (omega (arith, h))

-- the halves weigh no more than the whole, whatever a row weighs
pub weight-halves : {A : Type 0} (w : A → ℕ) (rows : List (Row A)) → sum_by (λ r. w r.payload) (half false rows) + sum_by (λ r. w r.payload) (half true rows) ≤ sum_by (λ r. w r.payload) rows
weight-halves w [] = omega arith
weight-halves w (r ∷ rows) =
    let e = sum_by-cons (λ x. w x.payload) r rows in
    rw e (weigh w r.bits r.payload (sum_by (λ x. w x.payload) rows) (half false rows) (half true rows) (weight-halves w rows))

-- Columns that are read and written at one place.
use Rattle.std.proofs.Common.{◌≡◌, ◌≢◌, ℕ, ◌+◌, ◌*◌, ◌/◌, ◌%◌, ◌^◌, ◌<◌, List, map, get_or, set, replicate, sym, ◌∙◌, ap, arith, inl, inr, None}
use Rattle.std.specs.List.{range_with_len}
use Rattle.std.proofs.lemmas.Nat.{shr_split}
use Rattle.std.proofs.lemmas.List.{same_lists, get_or-set_same, get_or-set_other, length-set, get_or-replicate, length-replicate}
use Rattle.std.proofs.lemmas.List.FromFn.{length-map-range_with_len, get_or-map-range_with_len}
use Rattle.std.proofs.lemmas.Bool.{cases_eq}
use Rattle.tcam_sim.specs.Bank.{number_at, slot_with}
use Rattle.tcam_sim.specs.Columns.{HasLength}
use Rattle.tcam_sim.specs.declared.halves.Halves.{Halves}

-- what a list made of a function has at a place
pub made_at : {X : Type 0} (f : ℕ → X) (n k : ℕ) (d : X) → k < n → get_or (map f (range_with_len 0 n)) k d ≡ f k
made_at f n k d h = get_or-map-range_with_len f 0 n k k d h (omega arith)

-- a list that is made of a function that differs from another at one place alone
pub made-set : {X : Type 0} (f g : ℕ → X) (m n k : ℕ) (x : X) → m ≡ n → k < n → f k ≡ x → ((j : ℕ) → j ≢ k → f j ≡ g j)
    → map f (range_with_len 0 m) ≡ set (map g (range_with_len 0 n)) k x
made-set f g m n k x e within at others =
    let long = length-map-range_with_len f 0 m in
    let made = length-map-range_with_len g 0 n in
    let kept = length-set (map g (range_with_len 0 n)) k x in
    same_lists (map f (range_with_len 0 m)) (set (map g (range_with_len 0 n)) k x) (omega (arith, long, made, kept, e))
    (λ j d h. made_at f m j d (omega (arith, h, long)) ∙ (elim (cases_eq j k) [
      | inl same ↦ ap f same ∙ at ∙ sym (ap (λ i. get_or (set (map g (range_with_len 0 n)) k x) i d) same ∙ get_or-set_same (map g (range_with_len 0 n)) k x d (omega (arith, made, within)))
      | inr apart ↦ others j apart ∙ sym (get_or-set_other (map g (range_with_len 0 n)) k j x d apart ∙ made_at g n j d (omega (arith, h, long, e)))
    ]))

-- a list that is made of one value
pub made-replicate : {X : Type 0} (f : ℕ → X) (m n : ℕ) (x : X) → m ≡ n → ((j : ℕ) → j < n → f j ≡ x) → map f (range_with_len 0 m) ≡ replicate n x
made-replicate f m n x e same =
    let long = length-map-range_with_len f 0 m in
    let copies = length-replicate n x in
    same_lists (map f (range_with_len 0 m)) (replicate n x) (omega (arith, long, copies, e))
    (λ j d h. made_at f m j d (omega (arith, h, long)) ∙ same j (omega (arith, h, long, e)) ∙ sym (get_or-replicate n j x d (omega (arith, h, long, e))))

-- a number that was written at its place
pub number_at_written : (new old : Halves) (count k number : ℕ) → HasLength old count → k < count → new.high.items ≡ set old.high.items k (number / 2 ^ 64) → new.low.items ≡ set old.low.items k (number % 2 ^ 64) → number_at new k ≡ number
number_at_written new old count k number long within high low =
    rw (high, low, get_or-set_same old.high.items k (number / 2 ^ 64) 0 (omega (arith, within, long.high)), get_or-set_same old.low.items k (number % 2 ^ 64) 0 (omega (arith, within, long.low)))
    (shr_split number 64)

-- a number at another place
pub number_at_kept : (new old : Halves) (k number j : ℕ) → j ≢ k → new.high.items ≡ set old.high.items k (number / 2 ^ 64) → new.low.items ≡ set old.low.items k (number % 2 ^ 64) → number_at new j ≡ number_at old j
number_at_kept new old k number j apart high low =
    ap (λ xs. get_or xs j 0 * 2 ^ 64 + get_or new.low.items j 0) high ∙ ap (λ xs. get_or (set old.high.items k (number / 2 ^ 64)) j 0 * 2 ^ 64 + get_or xs j 0) low
    ∙ ap (λ x. x * 2 ^ 64 + get_or (set old.low.items k (number % 2 ^ 64)) j 0) (get_or-set_other old.high.items k j (number / 2 ^ 64) 0 apart)
    ∙ ap (λ x. get_or old.high.items j 0 * 2 ^ 64 + x) (get_or-set_other old.low.items k j (number % 2 ^ 64) 0 apart)

-- slots with the same parts
pub slot_with-same : (a b m n v w d e : ℕ) → a ≡ b → m ≡ n → v ≡ w → d ≡ e → slot_with a m v d ≡ slot_with b n w e
slot_with-same a b m n v w d e ab mn vw de = ap (λ x. slot_with x m v d) ab ∙ ap (λ x. slot_with b x v d) mn ∙ ap (λ x. slot_with b n x d) vw ∙ ap (slot_with b n w) de

-- an empty slot
pub slot_with_vacant : (xs : List ℕ) (n k m v d : ℕ) → xs ≡ replicate n 1 → k < n → slot_with (get_or xs k 0) m v d ≡ None
slot_with_vacant xs n k m v d ones within = ap (λ a. slot_with a m v d) (ap (λ ys. get_or ys k 0) ones ∙ get_or-replicate n k 1 0 within)

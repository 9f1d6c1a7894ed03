-- The first of eight slots that agrees, by a bit for each of them.
use Rattle.std.proofs.Common.{◌≡◌, ℕ, suc, ◌+◌, ◌*◌, ◌-◌, ◌<◌, ◌≤◌, Bool, true, false, not, List, [], ◌∷◌, None, length, get_or, map, eqb, cond, refl, ap, sym, ◌∙◌, arith, inl, inr, nat_eq}
use Rattle.std.specs.Simd.Lanes.{chunk, mask_l}
use Rattle.std.specs.List.{prefix_len}
use Rattle.std.proofs.lemmas.Bool.{cases_eq}
use Rattle.std.proofs.lemmas.List.{take_all}
use Rattle.std.proofs.lemmas.Simd.{none_from_empty_mask, run_in_chunk_le, run_in_chunk_fails, run_in_chunk_stops}
use Rattle.tcam_sim.specs.Bank.{slot_at, slots_of}
use Rattle.tcam_sim.specs.Search.{IsFirst, NoneAgree}
use Rattle.tcam_sim.specs.Slots.{slot_agrees}
use Rattle.tcam_sim.specs.declared.bank.Bank.{Bank}
use Rattle.tcam_sim.proofs.BankSlots.{slots_of_at}

-- which lanes are 0
abbrev pub is_none : ℕ → Bool
is_none x = eqb x 0

-- eight lanes say which of the slots agree
pub record TellEight (bank : Bank) (key : List Bool) (start : ℕ) (lanes : List ℕ) : Type 0 where
  pub room : start + 8 ≤ length bank.decisions.items
  pub eight : length lanes ≡ 8
  pub each : (i : ℕ) → i < 8 → nat_eq (get_or lanes i 0) 0 ≡ slot_agrees key (slot_at bank (start + i))

-- a vector is its own first eight lanes
whole : (lanes : List ℕ) → length lanes ≡ 8 → chunk 0 8 lanes ≡ lanes
whole lanes long = take_all 8 lanes (omega (arith, long))

-- one lane more that doesn't pass
none_step : (b : Bool) (front rest count : ℕ) → cond (not b) (1 + front) 0 ≡ suc count → (front ≡ count → rest ≡ 0) → cond b 1 0 + 2 * rest ≡ 0
none_step true front rest count e none = absurd (omega (arith, e))
none_step false front rest count e none = let z = none (omega (arith, e)) in omega (arith, z)

-- no bit is set where no lane passes
none_set : (p : ℕ → Bool) (xs : List ℕ) → prefix_len (λ x. not (p x)) xs ≡ length xs → mask_l (map p xs) ≡ 0
none_set p [] e = refl
none_set p (x ∷ xs) e = none_step (p x) (prefix_len (λ y. not (p y)) xs) (mask_l (map p xs)) (length xs) e (none_set p xs)

-- a slot by its lane
by_lane : (bank : Bank) (key : List Bool) (start : ℕ) (lanes : List ℕ) (k : ℕ) (b : Bool) → TellEight bank key start lanes → start ≤ k → k < start + 8 → is_none (get_or lanes (k - start) 0) ≡ b → slot_agrees key (get_or (slots_of bank) k None) ≡ b
by_lane bank key start lanes k b tell behind below e =
    let same : start + (k - start) ≡ k = omega (arith, behind) in
    ap (slot_agrees key) (slots_of_at bank k (omega (arith, below, tell.room)) ∙ ap (slot_at bank) (sym same))
    ∙ sym (tell.each (k - start) (omega (arith, behind, below))) ∙ e

pub eight_none : (bank : Bank) (key : List Bool) (start : ℕ) (lanes : List ℕ) → TellEight bank key start lanes → mask_l (map is_none lanes) ≡ 0 → NoneAgree (slots_of bank) key start (start + 8)
eight_none bank key start lanes tell empty k behind below =
    by_lane bank key start lanes k false tell behind below
    (none_from_empty_mask is_none lanes 0 8 0 (omega (arith, tell.eight)) (ap (λ xs. mask_l (map is_none xs)) (whole lanes tell.eight) ∙ empty) (k - start) (omega arith) (omega (arith, behind, below)))

pub eight_found : (bank : Bank) (key : List Bool) (start : ℕ) (lanes : List ℕ) (r : ℕ) → TellEight bank key start lanes → 0 < mask_l (map is_none lanes) → r ≡ prefix_len (λ x. not (is_none x)) lanes → IsFirst (slots_of bank) key start (start + 8) (start + r)
eight_found bank key start lanes r tell some first =
    let room : 0 + 8 ≤ length lanes = omega (arith, tell.eight) in
    let counted : r ≡ prefix_len (λ x. not (is_none x)) (chunk 0 8 lanes) = first ∙ ap (prefix_len (λ x. not (is_none x))) (sym (whole lanes tell.eight)) in
    let most : r ≤ 8 = run_in_chunk_le is_none lanes 0 8 r 0 room counted in
    let less : r < 8 = elim (cases_eq r 8) [
      | inl all ↦ absurd (let none = none_set is_none lanes (sym first ∙ all ∙ sym tell.eight) in omega (arith, none, some))
      | inr apart ↦ omega (arith, most, apart)
    ] in
    let there : (start + r) - start ≡ 0 + r = omega arith in
    record {
      behind = omega arith;
      below = omega (arith, less);
      agrees = by_lane bank key start lanes (start + r) true tell (omega arith) (omega (arith, less)) (ap (λ i. is_none (get_or lanes i 0)) there ∙ run_in_chunk_stops is_none lanes 0 8 r 0 room counted less);
      before = λ k behind below. by_lane bank key start lanes k false tell behind (omega (arith, below, less)) (run_in_chunk_fails is_none lanes 0 8 r 0 room counted (k - start) (omega arith) (omega (arith, behind, below)));
    }

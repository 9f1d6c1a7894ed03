-- What a memory looks up, as the least match, and that its decision is the number of a name.
use Rattle.std.proofs.Common.{◌≡◌, ◌∷◌, ℕ, zero, suc, ◌+◌, Bool, true, false, cond, List, [], Option, Some, None, option_map, slice_get, refl, ap, sym, ◌∙◌, add-one}
use Rattle.std.specs.Prelude.{position, option_and_then, slice_index_or}
use Rattle.std.specs.List.{position_from}
use Rattle.std.proofs.lemmas.Iterator.Adapters.{position_from-zero}
use Rattle.field_boxes.specs.Names.{name_at}
use Rattle.tcam_sim.specs.Slots.{Stored, decision_in, look_up, slot_matches}
use Rattle.bank_update.specs.Banks.{least_match, matches}
use Rattle.bank_update.proofs.Found.{look-stands, slot_step}

place_from : (values : List ℕ) (bank : List (Option Stored)) (from : ℕ) → option_map (λ r. r.0) (least_match (matches values) bank from) ≡ position_from (slot_matches values) from bank
place_from values [] from = refl
place_from values (None ∷ bank) from = place_from values bank (suc from) ∙ ap (λ n. position_from (slot_matches values) n bank) (sym (add-one from))
place_from values (Some e ∷ bank) from =
    slot_step (λ (r : ℕ × Stored). r.0) (matches values e) (from, e) (least_match (matches values) bank (suc from)) (position_from (slot_matches values) (from + 1) bank)
    (place_from values bank (suc from) ∙ ap (λ n. position_from (slot_matches values) n bank) (sym (add-one from)))

least_place : (values : List ℕ) (bank : List (Option Stored)) → option_map (λ r. r.0) (least_match (matches values) bank 0) ≡ position (slot_matches values) bank
least_place values bank = place_from values bank 0 ∙ sym (position_from-zero (slot_matches values) bank)

pub index-got : {A : Type 0} (xs : List A) (k : ℕ) (x d : A) → slice_get xs k ≡ Some x → slice_index_or xs k d ≡ x
index-got [] k x d h = absurd (cc)
index-got (y ∷ xs) zero x d h = cc
index-got (y ∷ xs) (suc k) x d h = index-got xs k x d h

-- a match with its decision alone
abbrev pub decided : ℕ × Stored → ℕ × ℕ
decided r = (r.0, r.1.decision)

looked_case : (bank : List (Option Stored)) (values : List ℕ) (o : Option (ℕ × Stored)) → least_match (matches values) bank 0 ≡ o → look_up bank values ≡ option_map decided o
looked_case bank values None h =
    ap (option_map (λ k. (k, decision_in (slice_index_or bank k None)))) (sym (least_place values bank) ∙ ap (option_map (λ (r : ℕ × Stored). r.0)) h)
looked_case bank values (Some r) h =
    ap (option_map (λ k. (k, decision_in (slice_index_or bank k None)))) (sym (least_place values bank) ∙ ap (option_map (λ (r : ℕ × Stored). r.0)) h)
    ∙ ap (λ (slot : Option Stored). Some (r.0, decision_in slot)) (index-got bank r.0 (Some r.1) None (look-stands (matches values) bank r.0 r.1 h))

pub looked-up : (bank : List (Option Stored)) (values : List ℕ) → look_up bank values ≡ option_map decided (least_match (matches values) bank 0)
looked-up bank values = looked_case bank values (least_match (matches values) bank 0) refl

-- the name of an entry as a slot holds it
abbrev pub name_of : List (List ℕ) → Stored → Option (List ℕ)
name_of names e = name_at names e.decision

pub answer_step : {X Y N : Type 0} (p : X → Option N) (q : Y → Option N) (t : Bool) (x : X) (y : Y) (o : Option X) (r : Option Y) → p x ≡ q y →
    option_and_then p o ≡ option_and_then q r → option_and_then p (cond t (Some x) o) ≡ option_and_then q (cond t (Some y) r)
answer_step p q true x y o r here there = here
answer_step p q false x y o r here there = there

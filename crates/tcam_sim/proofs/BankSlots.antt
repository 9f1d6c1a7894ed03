-- The slots of a bank by their numbers.
use Rattle.std.proofs.Common.{◌≡◌, ℕ, ◌<◌, Bool, List, Option, length, get_or, Some, None, option_map, position, ap, sym, ◌∙◌, inl, inr, slice_index, if◌then◌else◌}
use Rattle.std.proofs.lemmas.Bool.Decides.{eqb_tells}
use Rattle.std.proofs.lemmas.List.FromFn.{length-map-range_with_len}
use Rattle.field_boxes.specs.Headline.Bits.{bits}
use Rattle.ternary_words.specs.Headline.Word.{header_bits}
use Rattle.ternary_words.specs.Word.{trits}
use Rattle.tcam_sim.specs.Slots.{Stored, decision_in, look_up, slot_agrees}
use Rattle.tcam_sim.specs.Bank.{number_at, slot_at, slots_of}
use Rattle.tcam_sim.specs.declared.bank.Bank.{Bank}
use Rattle.tcam_sim.proofs.Columns.{made_at}

pub length-slots_of : (bank : Bank) → length (slots_of bank) ≡ length bank.decisions.items
length-slots_of bank = length-map-range_with_len (slot_at bank) 0 (length bank.decisions.items)

pub slots_of_at : (bank : Bank) (k : ℕ) → k < length bank.decisions.items → get_or (slots_of bank) k None ≡ slot_at bank k
slots_of_at bank k h = made_at (slot_at bank) (length bank.decisions.items) k None h

-- the decision in a slot stands in its column
pub decision_in_slot : (bank : Bank) (k : ℕ) → k < length bank.decisions.items → decision_in (get_or (slots_of bank) k None) ≡ slice_index bank.decisions.items k
decision_in_slot bank k within =
    let held : Stored = record { word = trits (bits 104 (number_at bank.masks k)) (bits 104 (number_at bank.values k)); decision = slice_index bank.decisions.items k } in
    ap decision_in (slots_of_at bank k within) ∙ (elim (eqb_tells (slice_index bank.vacant.items k) 0) [
      | inl t ↦ ap (λ b. decision_in (if b then Some held else None)) t.0
      | inr t ↦ ap (λ b. decision_in (if b then Some held else None)) t.0 ∙ sym (bank.cleared k within t.1)
    ])

-- what a search by the key of a header comes to
pub looked_up : (bank : Bank) (values : List ℕ) (key : List Bool) (found : Option ℕ) → key ≡ header_bits values → found ≡ position (slot_agrees key) (slots_of bank)
    → option_map (λ k. (k, decision_in (get_or (slots_of bank) k None))) found ≡ look_up (slots_of bank) values
looked_up bank values key found same first =
    let with_decision : ℕ → ℕ × ℕ = λ k. (k, decision_in (get_or (slots_of bank) k None)) in
    ap (option_map with_decision) (first ∙ ap (λ bits. position (slot_agrees bits) (slots_of bank)) same)

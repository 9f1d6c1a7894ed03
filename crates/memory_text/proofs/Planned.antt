-- A plan over slots of the code leads from memory to table, by name.
use Rattle.std.proofs.Common.{◌≡◌, ◌⊎◌, ◌∷◌, ◌≤◌, ℕ, zero, suc, List, [], Option, Some, None, option_map, length, map, set, take, slice_get, inl, inr, refl, ap, sym, ◌∙◌, arith}
use Rattle.std.proofs.lemmas.List.{length-map, map-set, take_all}
use Rattle.field_boxes.specs.Names.{name_at}
use Rattle.ternary_words.specs.Headline.Table as words
use Rattle.ternary_words.specs.Views.{entry_of}
use Rattle.ternary_words.specs.declared.entry.Entry.{Entry}
use Rattle.tcam_sim.specs.Slots.{Stored, stored}
use Rattle.bank_update.specs.Standing.{Bank, bank_of, table_in}
use Rattle.slot_patch.specs.Banks.{decided}
use Rattle.bank_update.specs.Plans as banks
use Rattle.slot_patch.specs.Plans.{IsPatch}
use Rattle.bank_update.specs.declared.write.Write as code_write
use Rattle.slot_patch.proofs.Joints.{after-first}
use Rattle.slot_patch.proofs.Naming.{named}
use Rattle.slot_patch.proofs.Patches.{turns}
use Rattle.memory_text.specs.Memory.{Write, after, entries_in}
use Rattle.memory_text.specs.Patching.{IsGood, answer_in}
use Rattle.memory_text.specs.Views.{slots_of}

abbrev Names : Type 0
Names = List (List ℕ)

abbrev Held : Type 0
Held = List (Option Entry)

-- a write by name
abbrev pub seen : Names → code_write.Write → Write
seen names w = record { slot = w.slot; entry = option_map (entry_of names) w.entry }

-- the slots of the code after the first writes
abbrev done : Held → List code_write.Write → ℕ → Held
done held [] d = held
done held (w ∷ writes) zero = held
done held (w ∷ writes) (suc d) = done (set held w.slot w.entry) writes d

-- they are those after the writes by name
named_done : (names : Names) (held : Held) (writes : List code_write.Write) (d : ℕ) → after (slots_of names held) (take d (map (seen names) writes)) ≡ slots_of names (done held writes d)
named_done names held [] zero = refl
named_done names held [] (suc d) = refl
named_done names held (w ∷ writes) zero = refl
named_done names held (w ∷ writes) (suc d) =
    ap (λ xs. after xs (take d (map (seen names) writes))) (sym (map-set (option_map (entry_of names)) held w.slot w.entry))
    ∙ named_done names (set held w.slot w.entry) writes d

-- and those of the bank after the writes
none_after : (bank : Bank) (d : ℕ) → banks.after bank [] d ≡ bank
none_after bank zero = refl
none_after bank (suc d) = none_after bank d

bank_done : (held : Held) (writes : List code_write.Write) (d : ℕ) → bank_of (done held writes d) ≡ banks.after (bank_of held) writes d
bank_done held [] d = sym (none_after (bank_of held) d)
bank_done held (w ∷ writes) zero = refl
bank_done held (w ∷ writes) (suc d) =
    bank_done (set held w.slot w.entry) writes d
    ∙ ap (λ (b : Bank). banks.after b writes d) (map-set (option_map stored) held w.slot w.entry)
    ∙ sym (after-first (bank_of held) w writes d)

-- the entries by name, however they are found
pub entries_named : (names : Names) (held : Held) → entries_in (slots_of names held) ≡ table_in names held
entries_named names [] = refl
entries_named names (None ∷ held) = entries_named names held
entries_named names (Some e ∷ held) = ap (λ (es : List words.Entry). entry_of names e ∷ es) (entries_named names held)

-- what slots answer by name
answers : (names : Names) (held : Held) (values : List ℕ) → answer_in (slots_of names held) values ≡ name_at names (decided (bank_of held) values)
answers names held values = ap (λ (es : List words.Entry). words.answer es values) (entries_named names held) ∙ sym (named names held values)

-- entries of a bank by name
abbrev stored_named : Names → Stored → words.Entry
stored_named names s = record { word = s.word; decision = name_at names s.decision }

abbrev bank_entries : Names → Bank → List words.Entry
bank_entries names [] = []
bank_entries names (None ∷ bank) = bank_entries names bank
bank_entries names (Some s ∷ bank) = stored_named names s ∷ bank_entries names bank

by_bank : (names : Names) (held : Held) → entries_in (slots_of names held) ≡ bank_entries names (bank_of held)
by_bank names [] = refl
by_bank names (None ∷ held) = by_bank names held
by_bank names (Some e ∷ held) = ap (λ (es : List words.Entry). entry_of names e ∷ es) (by_bank names held)

module _ (names : Names) (held table : Held) (writes : List code_write.Write) (p : IsPatch (bank_of held) (bank_of table) writes) where
  abbrev plan : List Write
  plan = map (seen names) writes

  -- what is answered behind some writes
  at_stage : (d : ℕ) (values : List ℕ) → answer_in (after (slots_of names held) (take d plan)) values ≡ name_at names (decided (banks.after (bank_of held) writes d) values)
  at_stage d values =
      ap (λ xs. answer_in xs values) (named_done names held writes d) ∙ answers names (done held writes d) values
      ∙ ap (λ (b : Bank). name_at names (decided b values)) (bank_done held writes d)

  abbrev old_answer : List ℕ → Option (List ℕ)
  old_answer values = answer_in (slots_of names held) values

  abbrev new_answer : List ℕ → Option (List ℕ)
  new_answer values = words.answer (table_in names table) values

  either : (d e : ℕ) (values : List ℕ) → d ≤ e → e ≤ length writes →
      (answer_in (after (slots_of names held) (take d plan)) values ≡ old_answer values) ⊎ (answer_in (after (slots_of names held) (take e plan)) values ≡ new_answer values)
  either d e values le all = elim (turns (bank_of held) (bank_of table) writes d e values p le all) [
    | inl same ↦ inl (at_stage d values ∙ ap (name_at names) same ∙ sym (answers names held values))
    | inr same ↦ inr (at_stage e values ∙ ap (name_at names) same ∙ named names table values)
  ]

  size : length plan ≡ length writes
  size = length-map writes (seen names)

  -- behind all writes the table stands
  ends_at : entries_in (after (slots_of names held) plan) ≡ table_in names table
  ends_at =
      ap (λ (ws : List Write). entries_in (after (slots_of names held) ws)) (sym (take_all (length writes) plan (omega (arith, size))))
      ∙ ap entries_in (named_done names held writes (length writes)) ∙ by_bank names (done held writes (length writes))
      ∙ ap (bank_entries names) (bank_done held writes (length writes) ∙ p.leads.ends) ∙ sym (by_bank names table) ∙ entries_named names table

  pub is_good : IsGood (slots_of names held) (table_in names table) plan
  is_good = record {
    old_or_new = λ d le values. either d d values (omega arith) (omega (arith, le, size));
    stays = λ d e le all values other. elim (either d e values le (omega (arith, all, size))) [ inl old ↦ absurd (other old) | inr new ↦ new ];
    ends = ends_at;
  }

-- A plan of the code leads from a memory to a table, and its writes can be kept.
use Rattle.std.proofs.Common.{◌≡◌, ◌∷◌, ◌∙◌, ℕ, suc, ◌≤◌, ◌<◌, List, [], Option, Some, None, ap, refl, sym, subst, arith, length, map, slice_get, option_map}
use Rattle.std.proofs.lemmas.List.{length-map}
use Rattle.std.proofs.lemmas.List.Elements.{All-cons, All-nil, All-same}
use Rattle.std.proofs.lemmas.Option.{slice_get_within}
use Rattle.ternary_words.specs.Headline.Table as words
use Rattle.ternary_words.specs.Views.{entry_of}
use Rattle.ternary_words.specs.declared.entry.Entry.{Entry}
use Rattle.tcam_sim.specs.Slots.{stored}
use Rattle.bank_update.specs.Standing.{bank_of, table_in}
use Rattle.slot_patch.specs.Least.{least_slots, same_word}
use Rattle.bank_update.specs.Standing as code
use Rattle.slot_patch.specs.Planning.{IsPlanned}
use Rattle.bank_update.specs.Plans.{after}
use Rattle.slot_patch.specs.declared.plan.Plan as code_plan
use Rattle.slot_patch.specs.declared.plan.Planned.TheVariants as planning
use Rattle.bank_update.specs.declared.write.Put.{Put}
use Rattle.bank_update.specs.declared.write.Write as code_write
use Rattle.bank_update.proofs.Afterwards.{length-after}
use Rattle.memory_text.specs.Kept.{AreNumbered, AreWithin, Extends}
use Rattle.memory_text.specs.Memory.{Write, entries_in}
use Rattle.memory_text.specs.Patched.{AreCopies, put_of}
use Rattle.memory_text.specs.Patching.{IsGood, LeadsTo, slots_for}
use Rattle.memory_text.specs.Views.{slots_of, writes_of}
use Rattle.memory_text.proofs.Holding.{slots_kept}
use Rattle.memory_text.proofs.Leasts.{least_named}
use Rattle.memory_text.proofs.Planned.{entries_named, is_good, seen}

-- what the writes put down is what they do
puts_seen : (names : List (List ℕ)) (ws : List code_write.Write) → map (seen names) ws ≡ writes_of names (map put_of ws)
puts_seen names [] = refl
puts_seen names (w ∷ ws) = ap (λ (xs : List Write). seen names w ∷ xs) (puts_seen names ws)

puts_within : (n : ℕ) (ws : List code_write.Write) → ((d : ℕ) (w : code_write.Write) → slice_get ws d ≡ Some w → w.slot < n) → AreWithin n (map put_of ws)
puts_within n [] h = All-nil (λ (p : Put). p.slot < n)
puts_within n (w ∷ ws) h = All-cons (λ (p : Put). p.slot < n) (put_of w) (map put_of ws) (h 0 w refl) (puts_within n ws (λ d x at. h (suc d) x at))

count_held : (slots : List (Option Entry)) → length (code.entries_in slots) ≤ length slots
count_held [] = omega arith
count_held (None ∷ slots) = let rest = count_held slots in omega (arith, rest)
count_held (Some e ∷ slots) = let rest = count_held slots in omega (arith, rest)

module _ (old names : List (List ℕ)) (slots : List (Option Entry)) (entries : List Entry) (table : words.Table) (grown : Extends old names) (numbered : AreNumbered (length old) slots) (named : map (entry_of names) entries ≡ table.entries) where
  -- the memory's entries by name
  held_named : entries_in (slots_of old slots) ≡ map (entry_of names) (code.entries_in slots)
  held_named = ap entries_in (sym (slots_kept old names slots grown numbered)) ∙ entries_named names slots

  many_held : length (entries_in (slots_of old slots)) ≡ length (code.entries_in slots)
  many_held = ap length held_named ∙ length-map (code.entries_in slots) (entry_of names)

  many_slots : length (slots_of old slots) ≡ length slots
  many_slots = length-map slots (option_map (entry_of old))

  many_new : length table.entries ≡ length entries
  many_new = ap length (sym named) ∙ length-map entries (entry_of names)

  -- by name as many slots are needed
  pub least_seen : least_slots same_word (code.entries_in slots) entries ≡ slots_for (entries_in (slots_of old slots)) table.entries
  least_seen =
      sym (least_named names (code.entries_in slots) entries)
      ∙ ap (λ (es : List words.Entry). slots_for es (map (entry_of names) entries)) (sym held_named)
      ∙ ap (λ (es : List words.Entry). slots_for (entries_in (slots_of old slots)) es) named

  module _ (plan : code_plan.Plan) (puts : List Put) (planned : IsPlanned slots entries (planning.Ready plan)) (copies : AreCopies plan.writes.items puts) where
    many_puts : length puts ≡ length plan.writes.items
    many_puts = ap length copies ∙ length-map plan.writes.items put_of

    good : IsGood (slots_of old slots) table.entries (writes_of names puts)
    good =
        let ws = plan.writes.items in
        let by_names = is_good names slots plan.table.items ws planned.0.patch in
        let reached : table_in names plan.table.items ≡ table.entries = ap (map (entry_of names)) planned.0.entries ∙ named in
        let written : map (seen names) ws ≡ writes_of names puts = puts_seen names ws ∙ ap (writes_of names) (sym copies) in
        subst (λ xs. IsGood xs table.entries (writes_of names puts)) (slots_kept old names slots grown numbered)
        (subst (λ (es : List words.Entry). IsGood (slots_of names slots) es (writes_of names puts)) reached
        (subst (λ (xs : List Write). IsGood (slots_of names slots) (table_in names plan.table.items) xs) written by_names))

    pub leads : (n width : ℕ) → n ≡ length slots → LeadsTo (record { width = width; slots = slots_of old slots }) table (record { slots = n; width = width; writes = writes_of names puts })
    leads n width all =
        let long = length-map puts (λ (p : Put). let w : Write = record { slot = p.slot; entry = option_map (entry_of names) p.entry } in w) in
        record {
          slots = all ∙ sym many_slots;
          width = refl;
          good = good;
          few = omega (arith, planned.0.few, long, many_puts, many_held, many_new);
          whole = λ room. let most = planned.1 (omega (arith, room, many_held, many_new, many_slots)) in omega (arith, most, long, many_puts, many_held, many_new);
        }

    pub enough : slots_for (entries_in (slots_of old slots)) table.entries ≤ length (slots_of old slots)
    enough = omega (arith, planned.2, least_seen, many_slots)

    pub within : (n : ℕ) → n ≡ length slots → AreWithin n puts
    within n all =
        let old_bank = bank_of slots in
        let ws = plan.writes.items in
        All-same (λ (p : Put). p.slot < n) puts (map put_of ws) copies
        (puts_within n ws (λ d w at.
        let there = slice_get_within (after old_bank ws d) w.slot (option_map stored w.before) (planned.0.patch.leads.stood d w at) in
        omega (arith, there, length-after old_bank ws d, length-map slots (option_map stored), all)))

    pub counted : length slots ≤ 262144 → length table.entries ≤ 262144 → length puts ≤ 1048576
    counted le most = omega (arith, planned.0.few, count_held slots, le, most, many_puts, many_new)

  pub lacks : (needed : ℕ) → IsPlanned slots entries (planning.NoRoom needed) → (needed ≡ slots_for (entries_in (slots_of old slots)) table.entries) × (length (slots_of old slots) < needed)
  lacks needed planned = (planned.0 ∙ least_seen, let less = planned.1 in omega (arith, less, many_slots))

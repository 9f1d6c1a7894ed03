-- The lines of slots, one after another.
use Rattle.std.proofs.Common.{◌≡◌, ◌∷◌, ◌++◌, ℕ, suc, ◌+◌, ◌<◌, ◌≤◌, cond, List, [], ap, refl, sym, ◌∙◌, arith, append_assoc, append-nil, length, take, drop, get_or, Some, None, Option, option_map, take-append-drop}
use Rattle.std.specs.Prelude.{count_by, is_some}
use Rattle.std.specs.List.{flat_map}
use Rattle.std.proofs.lemmas.List.Sums.{sum_by-cons}
use Rattle.std.proofs.lemmas.List.{length-map, length-take-le, map-append, take_all, take_more}
use Rattle.ternary_words.specs.declared.entry.Entry as code_entry
use Rattle.ternary_words.specs.Headline.Table.{Entry}
use Rattle.ternary_words.specs.Views.{entry_of}
use Rattle.bank_update.specs.declared.write.Put.{Put}
use Rattle.memory_text.specs.Memory.{entries_in}
use Rattle.memory_text.specs.declared.memory.SlotMemory.{SlotMemory}
use Rattle.memory_text.specs.declared.plan.SlotPlan.{SlotPlan}
use Rattle.memory_text.specs.declared.kind.TextKind.TheVariants as kinds
use Rattle.memory_text.specs.MemoryText.{first_line, memory_text, plan_text, slot_line, slot_lines, write_line}
use Rattle.memory_text.specs.Views.{memory_of, plan_of, slots_of, write_of, writes_of}

lines-append : (slot : ℕ) (xs ys : List (Option Entry)) → slot_lines slot (xs ++ ys) ≡ slot_lines slot xs ++ slot_lines (slot + length xs) ys
lines-append slot [] ys = ap (λ n. slot_lines n ys) (let e : slot ≡ slot + 0 = omega arith in e)
lines-append slot (x ∷ xs) ys =
    ap (λ t. slot_line slot x ++ t) (lines-append (suc slot) xs ys)
    ∙ ap (λ n. slot_line slot x ++ (slot_lines (suc slot) xs ++ slot_lines n ys)) (let e : suc slot + length xs ≡ slot + suc (length xs) = omega arith in e)
    ∙ sym (append_assoc (slot_line slot x) (slot_lines (suc slot) xs) (slot_lines (slot + suc (length xs)) ys))

front_size : (names : List (List ℕ)) (slots : List (Option code_entry.Entry)) (k : ℕ) → k ≤ length slots → 0 + length (slots_of names (take k slots)) ≡ k
front_size names slots k le = omega (arith, length-map (take k slots) (option_map (entry_of names)), length-take-le k slots le)

-- the line of one slot more
pub lines_more : (names : List (List ℕ)) (slots : List (Option code_entry.Entry)) (k : ℕ) (d : Option code_entry.Entry) → k < length slots →
    slot_lines 0 (slots_of names (take k slots)) ++ slot_line k (option_map (entry_of names) (get_or slots k d)) ≡ slot_lines 0 (slots_of names (take (k + 1) slots))
lines_more names slots k d lt =
    let view = option_map (entry_of names) in
    let front = slots_of names (take k slots) in
    let one = view (get_or slots k d) in
    ap (λ t. slot_lines 0 front ++ t) (sym (append-nil (slot_line k one)))
    ∙ ap (λ n. slot_lines 0 front ++ slot_lines n (one ∷ [])) (sym (front_size names slots k (omega (arith, lt))))
    ∙ sym (lines-append 0 front (one ∷ []))
    ∙ ap (slot_lines 0) (sym (map-append view (take k slots) (get_or slots k d ∷ [])))
    ∙ ap (λ xs. slot_lines 0 (slots_of names xs)) (sym (take_more slots k d lt))

pub lines_held : (names : List (List ℕ)) (slots : List (Option code_entry.Entry)) (k : ℕ) (held : Option code_entry.Entry) → held ≡ get_or slots k held → k < length slots →
    slot_lines 0 (slots_of names (take k slots)) ++ slot_line k (option_map (entry_of names) held) ≡ slot_lines 0 (slots_of names (take (k + 1) slots))
lines_held names slots k held is lt =
    ap (λ (o : Option code_entry.Entry). slot_lines 0 (slots_of names (take k slots)) ++ slot_line k (option_map (entry_of names) o)) is ∙ lines_more names slots k held lt

-- the lines of the slots that are left
pub lines_rest : (names : List (List ℕ)) (slots : List (Option code_entry.Entry)) (k : ℕ) → slot_lines 0 (slots_of names (take k slots)) ++ slot_lines (0 + length (slots_of names (take k slots))) (slots_of names (drop k slots)) ≡ slot_lines 0 (slots_of names slots)
lines_rest names slots k =
    let view = option_map (entry_of names) in
    sym (lines-append 0 (slots_of names (take k slots)) (slots_of names (drop k slots)))
    ∙ ap (slot_lines 0) (sym (map-append view (take k slots) (drop k slots))) ∙ ap (λ xs. slot_lines 0 (slots_of names xs)) (take-append-drop k slots)

-- as many slots hold an entry
pub as_many : (names : List (List ℕ)) (slots : List (Option code_entry.Entry)) → count_by is_some slots ≡ length (entries_in (slots_of names slots))
as_many names [] = refl
as_many names (None ∷ slots) = as_many names slots
as_many names (Some e ∷ slots) =
    let h = as_many names slots in
    let more : 1 + count_by is_some slots ≡ suc (length (entries_in (slots_of names slots))) = omega (arith, h) in
    sum_by-cons (λ (o : Option code_entry.Entry). cond (is_some o) 1 0) (Some e) slots ∙ more

-- the text of a memory, whose entries were counted
pub whole_memory : (m : SlotMemory) (slots : List (Option code_entry.Entry)) (count : ℕ) → count ≡ count_by is_some slots → slots ≡ m.slots.items →
    first_line kinds.Memory (length slots) m.width.bits count ++ slot_lines 0 (slots_of m.names slots) ≡ memory_text (memory_of m)
whole_memory m slots count many is =
    let held = slots_of m.names slots in
    ap (λ n. first_line kinds.Memory n m.width.bits count ++ slot_lines 0 held) (sym (length-map slots (option_map (entry_of m.names))))
    ∙ ap (λ n. first_line kinds.Memory (length held) m.width.bits n ++ slot_lines 0 held) (many ∙ as_many m.names slots)
    ∙ ap (λ (xs : List (Option code_entry.Entry)). memory_text (record { width = m.width.bits; slots = slots_of m.names xs })) is

-- the text of a plan
pub whole_plan : (p : SlotPlan) (puts : List Put) → puts ≡ p.writes.items →
    first_line kinds.Plan p.slots p.width.bits (length puts) ++ flat_map write_line (writes_of p.names puts) ≡ plan_text (plan_of p)
whole_plan p puts is =
    ap (λ n. first_line kinds.Plan p.slots p.width.bits n ++ flat_map write_line (writes_of p.names puts)) (sym (length-map puts (write_of p.names)))
    ∙ ap (λ (xs : List Put). plan_text (record { slots = p.slots; width = p.width.bits; writes = writes_of p.names xs })) is

-- The texts of memories and plans are read as they are written.
use Rattle.std.proofs.Common.{◌≡◌, ◌∷◌, ◌++◌, ℕ, suc, ◌+◌, ◌^◌, ◌<◌, ◌≤◌, List, true, [], ap, refl, sym, ◌∙◌, arith, append_assoc, length, length-append, map, take, replicate, Some, None, Option, Ok, Result, option_map, decimal}
use Rattle.std.specs.List.{AllByRecursion, flat_map, list_all}
use Rattle.std.proofs.lemmas.List.{length-map, set_at, take_all}
use Rattle.std.proofs.lemmas.List.Elements.{recursion_from_All}
use Rattle.ternary_words.specs.declared.entry.Entry as code_entry
use Rattle.ternary_words.specs.Headline.Table.{Entry}
use Rattle.ternary_words.specs.Views.{entry_of}
use Rattle.bank_update.specs.declared.write.Put.{Put}
use Rattle.text_lines.proofs.Joins.{is_other}
use Rattle.table_text.specs.Lines.{Line, lines_of}
use Rattle.table_text.proofs.Cuts.{lines_of-line, whole_line}
use Rattle.memory_text.specs.declared.error.SlotReason.{SlotReason}
use Rattle.memory_text.specs.declared.kind.TextKind.{TextKind}
use Rattle.memory_text.specs.declared.kind.TextKind.TheVariants as kinds
use Rattle.memory_text.specs.declared.memory.SlotMemory.{SlotMemory}
use Rattle.memory_text.specs.declared.plan.SlotPlan.{SlotPlan}
use Rattle.memory_text.specs.Heading.{Heading, heading_of}
use Rattle.memory_text.specs.Kept.{AreSpelled}
use Rattle.memory_text.specs.Memory.{Memory, Write, after, entries_in}
use Rattle.memory_text.specs.MemoryText.{first_line, memory_text, plan_text, slot_lines, write_line}
use Rattle.text_lines.specs.Headline.Reading.{BadLine}
use Rattle.memory_text.specs.Reading.{after_heading, as_memory, in_front, memory_in_text, plan_in, plan_in_text, with_front, writes_in}
use Rattle.memory_text.specs.Views.{memory_of, plan_of, slots_of, write_of, writes_of}
use Rattle.memory_text.proofs.HeadingTexts.{first_text, heading-line, heading-read, heading-written}
use Rattle.memory_text.proofs.LineTexts.{put-cut, put-read, put_line_text, slot-line, slot-read, slot-written, slot_text}
use Rattle.memory_text.proofs.Resumed.{counted_same}

abbrev first_of : TextKind → ℕ → ℕ → ℕ → List ℕ
first_of kind slots width lines = first_text kind (decimal slots) (decimal width) (decimal lines)

heading-cut : (kind : TextKind) (slots width lines : ℕ) (rest : List ℕ) → list_all (is_other 10) (first_of kind slots width lines) ≡ true → lines_of (first_line kind slots width lines ++ rest) ≡ whole_line (first_of kind slots width lines) true ∷ lines_of rest
heading-cut kind slots width lines rest h = ap lines_of (heading-written kind slots width lines rest) ∙ lines_of-line (first_of kind slots width lines) rest h

-- a text is read by its first line and the lines after it
in_plan : (kind : TextKind) (heading : Heading) (text : List ℕ) (lines : List Line) (writes : List Write) → heading_of kind text ≡ Some heading → length lines ≡ heading.lines → writes_in kind heading.slots 2 0 lines ≡ Ok writes →
    plan_in kind (whole_line text true ∷ lines) ≡ Ok (record { slots = heading.slots; width = heading.width; writes = writes })
in_plan kind heading text lines writes first size read =
    ap (λ h. after_heading kind h lines) first
    ∙ counted_same kind heading (length lines) (writes_in kind heading.slots 2 0 (take heading.lines lines)) writes
    (ap (writes_in kind heading.slots 2 0) (take_all heading.lines lines (omega (arith, size))) ∙ read) size

-- plans

abbrev put_lines : List (List ℕ) → List Put → List Line
put_lines names puts = map (λ p. whole_line (put_line_text names p) true) puts

-- each slot is one of these
abbrev Below : ℕ → List Put → Type 0
Below slots puts = AllByRecursion (λ (p : Put). p.slot < slots) puts

puts_cut : (names : List (List ℕ)) (slots : ℕ) (puts : List Put) → slots ≤ 262144 → Below slots puts → AreSpelled names → lines_of (flat_map write_line (writes_of names puts)) ≡ put_lines names puts
puts_cut names slots [] few below named = refl
puts_cut names slots (p ∷ puts) few below named =
    let lt = below.0 in
    put-cut names p (flat_map write_line (writes_of names puts)) (omega (arith, lt, few)) named ∙ ap (λ ls. whole_line (put_line_text names p) true ∷ ls) (puts_cut names slots puts few below.1 named)

one_more : (w : Write) (ws : List Write) (number : ℕ) (rest : ℕ → Result (List Write) (BadLine SlotReason)) (r : Result Write SlotReason) → r ≡ Ok w → rest (suc w.slot) ≡ Ok ws → in_front number r rest ≡ Ok (w ∷ ws)
one_more w ws number rest r is more = ap (λ x. in_front number x rest) is ∙ ap (with_front (w ∷ [])) more

puts_read : (names : List (List ℕ)) (slots number from : ℕ) (puts : List Put) → slots ≤ 262144 → Below slots puts → AreSpelled names → writes_in kinds.Plan slots number from (put_lines names puts) ≡ Ok (writes_of names puts)
puts_read names slots number from [] few below named = refl
puts_read names slots number from (p ∷ puts) few below named =
    let lt = below.0 in
    one_more (write_of names p) (writes_of names puts) number (λ next. writes_in kinds.Plan slots (number + 1) next (put_lines names puts)) _
    (put-read names slots p (omega (arith, lt, few)) lt named) (puts_read names slots (number + 1) (suc p.slot) puts few below.1 named)

-- the text of a plan spells it
pub plan-read : (p : SlotPlan) → plan_in_text (plan_text (plan_of p)) ≡ Ok (plan_of p)
plan-read p =
    let puts = p.writes.items in
    let many = length (writes_of p.names puts) in
    let same : many ≡ length puts = length-map puts (write_of p.names) in
    let below : Below p.slots puts = recursion_from_All (λ (q : Put). q.slot < p.slots) puts p.within in
    let lines = put_lines p.names puts in
    let small : many < 2 ^ 64 = omega (arith, same, p.counted) in
    ap (plan_in kinds.Plan) (heading-cut kinds.Plan p.slots p.width.bits many (flat_map write_line (writes_of p.names puts)) (heading-line kinds.Plan p.slots p.width.bits many p.few p.width.known small)
    ∙ ap (λ ls. whole_line (first_of kinds.Plan p.slots p.width.bits many) true ∷ ls) (puts_cut p.names p.slots puts p.few below p.named))
    ∙ in_plan kinds.Plan (record { slots = p.slots; width = p.width.bits; lines = many }) (first_of kinds.Plan p.slots p.width.bits many) lines (writes_of p.names puts)
    (heading-read kinds.Plan p.slots p.width.bits many p.some p.few p.width.known small (omega (arith, same, p.counted)))
    (length-map puts (λ q. whole_line (put_line_text p.names q) true) ∙ sym same) (puts_read p.names p.slots 2 0 puts p.few below p.named)

-- memories

abbrev memory_lines : List (List ℕ) → ℕ → List (Option code_entry.Entry) → List Line
memory_lines names slot [] = []
memory_lines names slot (None ∷ slots) = memory_lines names (suc slot) slots
memory_lines names slot (Some e ∷ slots) = whole_line (slot_text names slot e) true ∷ memory_lines names (suc slot) slots

-- the writes that put the entries where they stand
abbrev standing : ℕ → List (Option Entry) → List Write
standing slot [] = []
standing slot (None ∷ slots) = standing (suc slot) slots
standing slot (Some e ∷ slots) = record { slot = slot; entry = Some e } ∷ standing (suc slot) slots

slots_cut : (names : List (List ℕ)) (slot : ℕ) (slots : List (Option code_entry.Entry)) → slot + length slots ≤ 262144 → AreSpelled names → lines_of (slot_lines slot (slots_of names slots)) ≡ memory_lines names slot slots
slots_cut names slot [] few named = refl
slots_cut names slot (None ∷ slots) few named = slots_cut names (suc slot) slots (omega (arith, few)) named
slots_cut names slot (Some e ∷ slots) few named =
    let rest = slot_lines (suc slot) (slots_of names slots) in
    ap lines_of (slot-written names slot e rest) ∙ lines_of-line (slot_text names slot e) rest (slot-line names slot e (omega (arith, few)) named)
    ∙ ap (λ ls. whole_line (slot_text names slot e) true ∷ ls) (slots_cut names (suc slot) slots (omega (arith, few)) named)

slots_read : (names : List (List ℕ)) (all number from slot : ℕ) (slots : List (Option code_entry.Entry)) → slot + length slots ≤ all → all ≤ 262144 → from ≤ slot → AreSpelled names →
    writes_in kinds.Memory all number from (memory_lines names slot slots) ≡ Ok (standing slot (slots_of names slots))
slots_read names all number from slot [] within few le named = refl
slots_read names all number from slot (None ∷ slots) within few le named = slots_read names all number from (suc slot) slots (omega (arith, within)) few (omega (arith, le)) named
slots_read names all number from slot (Some e ∷ slots) within few le named =
    let w : Write = record { slot = slot; entry = Some (entry_of names e) } in
    one_more w (standing (suc slot) (slots_of names slots)) number (λ next. writes_in kinds.Memory all (number + 1) next (memory_lines names (suc slot) slots)) _
    (slot-read names all from slot e (omega (arith, within, few)) (omega (arith, within)) le named)
    (slots_read names all (number + 1) (suc slot) (suc slot) slots (omega (arith, within)) few (omega arith) named)

as_many : (names : List (List ℕ)) (slot : ℕ) (slots : List (Option code_entry.Entry)) → length (memory_lines names slot slots) ≡ length (entries_in (slots_of names slots))
as_many names slot [] = refl
as_many names slot (None ∷ slots) = as_many names (suc slot) slots
as_many names slot (Some e ∷ slots) = ap suc (as_many names (suc slot) slots)

few_entries : (slots : List (Option Entry)) → length (entries_in slots) ≤ length slots
few_entries [] = omega arith
few_entries (None ∷ slots) = omega (arith, few_entries slots)
few_entries (Some e ∷ slots) = omega (arith, few_entries slots)

-- one slot more stands behind a front
next_front : (front : List (Option Entry)) (held : Option Entry) (rest : List (Option Entry)) (slots : List Write) → after ((front ++ held ∷ []) ++ rest) slots ≡ after (front ++ held ∷ rest) slots
next_front front held rest slots = ap (λ xs. after xs slots) (append_assoc front (held ∷ []) rest)

stands : (n : ℕ) (front slots : List (Option Entry)) → length front ≡ n → after (front ++ replicate (length slots) None) (standing n slots) ≡ front ++ slots
stands n front [] at = refl
stands n front (None ∷ slots) at =
    sym (next_front front None (replicate (length slots) None) (standing (suc n) slots))
    ∙ stands (suc n) (front ++ None ∷ []) slots (let e = length-append front (None ∷ []) in omega (arith, e, at)) ∙ append_assoc front (None ∷ []) slots
stands n front (Some e ∷ slots) at =
    ap (λ xs. after xs (standing (suc n) slots)) (set_at front None (replicate (length slots) None) (Some e) n at)
    ∙ sym (next_front front (Some e) (replicate (length slots) None) (standing (suc n) slots))
    ∙ stands (suc n) (front ++ Some e ∷ []) slots (let l = length-append front (Some e ∷ []) in omega (arith, l, at)) ∙ append_assoc front (Some e ∷ []) slots

abbrev spelled : ℕ → List (Option Entry) → Result Memory (BadLine SlotReason)
spelled width slots = Ok (record { width = width; slots = slots })

-- the text of a memory spells it
pub memory-read : (m : SlotMemory) → memory_in_text (memory_text (memory_of m)) ≡ Ok (memory_of m)
memory-read m =
    let slots = m.slots.items in
    let held = slots_of m.names slots in
    let all = length held in
    let same : all ≡ length slots = length-map slots (option_map (entry_of m.names)) in
    let many = length (entries_in held) in
    let less = few_entries held in
    let top : all ≤ 262144 = omega (arith, same, m.few) in
    let first = first_of kinds.Memory all m.width.bits many in
    let lines = memory_lines m.names 0 slots in
    let small : many < 2 ^ 64 = omega (arith, less, top) in
    let writes = standing 0 held in
    ap (λ ls. as_memory (plan_in kinds.Memory ls)) (heading-cut kinds.Memory all m.width.bits many (slot_lines 0 held) (heading-line kinds.Memory all m.width.bits many top m.width.known small)
    ∙ ap (λ ls. whole_line first true ∷ ls) (slots_cut m.names 0 slots (omega (arith, m.few)) m.named))
    ∙ ap as_memory (in_plan kinds.Memory (record { slots = all; width = m.width.bits; lines = many }) first lines writes
    (heading-read kinds.Memory all m.width.bits many (omega (arith, same, m.some)) top m.width.known small less)
    (as_many m.names 0 slots) (slots_read m.names all 2 0 0 slots (omega (arith, same)) top (omega arith) m.named))
    ∙ ap (λ xs. spelled m.width.bits xs) (stands 0 [] held refl)

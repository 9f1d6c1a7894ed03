use Rattle.std.specs.Global.{Vec}
use Rattle.std.proofs.Common.{◌≡◌, ◌+◌, List, Option, length, ap, sym, ◌∙◌, subst, arith}
use Rattle.ternary_words.specs.declared.entry.Entry.{Entry}
use Rattle.slot_patch.specs.Banks.{ShareWords}
use Rattle.bank_update.specs.Standing.{bank_of, entries_in}
use Rattle.slot_patch.specs.Layouts.{free_slots}
use Rattle.slot_patch.specs.InPlace.{differing, in_place}
use Rattle.slot_patch.specs.Plans.{IsPatch}
use Rattle.bank_update.specs.declared.write.Write.{Write}
use Rattle.slot_patch.proofs.Places.{count-writes, in-place-patch}
use Rattle.slot_patch.proofs.Fewest.{count-apart}
use Rattle.slot_patch.proofs.Whole.{apart-words, free-apart, free-entries, free-long}
use Rattle.slot_patch.proofs.beside.plan_beside.Goals as goal
use Rattle.slot_patch.proofs.beside.plan_beside.Goals.{In_ok-plan}

abbrev Slots : Type 0
Slots = List (Option Entry)

long : (held : Slots) (table : List Entry) (next : Slots) → next ≡ free_slots held table → length held ≡ length next
long held table next is = sym (ap length is ∙ free-long held table)

writes : (c : In_ok-plan) → c.in_ok-plan.plan.writes.items ≡ in_place c.args.held.now c.in_ok-next.next.items
writes c =
    let stand = c.requires.standing in
    c.in_ok-plan.ensures.writes c.args.held.now (stand.0 ∙ sym c.deref.ensures.value, stand.1 ∙ sym c.deref-2.ensures.value)
    (long c.args.held.now c.args.table.now c.in_ok-next.next.items c.in_ok-next.ensures)

pub in_place-requires : goal.in_place-requires
in_place-requires c = let same = long c.args.held.now c.args.table.now c.in_ok-next.next.items c.in_ok-next.ensures in omega (arith, same, c.requires.few)

pub returns-clause-patch : goal.returns-clause-patch
returns-clause-patch c =
    let held = c.args.held.now in
    let next = c.in_ok-next.next.items in
    let made = c.in_ok-plan.plan.writes.items in
    let words = subst (λ (s : Slots). ShareWords (bank_of held) (bank_of s)) (sym c.in_ok-next.ensures) (apart-words held (free_slots held c.args.table.now) (free-apart held c.args.table.now)) in
    subst (λ (t : Vec (Option Entry)). IsPatch (bank_of held) (bank_of t.items) made) (sym c.in_ok-plan.ensures.table)
    (in-place-patch held next made words (long held c.args.table.now next c.in_ok-next.ensures) (writes (goal.at.returns-clause-patch c).In_ok-plan))

pub returns-clause-entries : goal.returns-clause-entries
returns-clause-entries c =
    ap (λ (t : Vec (Option Entry)). entries_in t.items) c.in_ok-plan.ensures.table ∙ ap entries_in c.in_ok-next.ensures ∙ free-entries c.args.held.now c.args.table.now c.requires.room

pub returns-clause-slots : goal.returns-clause-slots
returns-clause-slots c =
    ap (λ (t : Vec (Option Entry)). length t.items) c.in_ok-plan.ensures.table ∙ ap length c.in_ok-next.ensures ∙ free-long c.args.held.now c.args.table.now

pub returns-clause-count : goal.returns-clause-count
returns-clause-count c =
    let held = c.args.held.now in
    let table = c.args.table.now in
    ap (λ (ws : List Write). length ws) (writes (goal.at.returns-clause-count c).In_ok-plan) ∙ count-writes held c.in_ok-next.next.items
    ∙ ap (λ (s : Slots). differing held s (length held)) c.in_ok-next.ensures
    ∙ count-apart held (free_slots held table) (free-apart held table) ∙ ap (λ (es : List Entry). length (entries_in held) + length es) (free-entries held table c.requires.room)

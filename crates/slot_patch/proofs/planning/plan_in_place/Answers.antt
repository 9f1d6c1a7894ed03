use Rattle.std.proofs.Common.{◌≡◌, ◌∙◌, ℕ, List, Option, length, ap, sym, subst, arith}
use Rattle.std.specs.Global.{Vec}
use Rattle.ternary_words.specs.declared.entry.Entry.{Entry}
use Rattle.slot_patch.specs.Layouts.{IsLayout}
use Rattle.bank_update.specs.Standing.{entries_in}
use Rattle.slot_patch.specs.Ordered.{places}
use Rattle.slot_patch.proofs.Outlines.{length-places, plan-of}
use Rattle.slot_patch.proofs.planning.plan_in_place.Goals as goal
use Rattle.slot_patch.proofs.planning.plan_in_place.Goals.{In_ok-next}

abbrev Slots : Type 0
Slots = List (Option Entry)

abbrev pub AreLaid : List Entry → List Entry → ℕ → List ℕ → Slots → Type 0
AreLaid old new count slots next = (start : Slots) × IsLayout count old new start next × (places 0 start ≡ slots)

laid : (c : In_ok-next) → AreLaid (entries_in c.args.held.now) c.args.table.now (length c.args.held.now) c.in_ok-next.field-0.slots.items c.in_ok-next.field-0.next.items
laid c =
    subst (λ (es : List Entry). AreLaid es c.args.table.now (length c.args.held.now) c.in_ok-next.field-0.slots.items c.in_ok-next.field-0.next.items)
    (c.deref-2.ensures.value ∙ c.requires.entries) c.in_ok-next.ensures

pub in_layout-requires : goal.in_layout-requires
in_layout-requires c =
    let held = c.args.held.now in
    let l = laid (goal.at.in_layout-requires c).In_ok-next in
    let from = ap length c.deref-4.ensures.value ∙ ap length c.requires.slots ∙ length-places 0 held in
    let to = ap length c.deref-5.ensures.value ∙ ap length (sym l.2) ∙ length-places 0 l.0 ∙ ap (λ (es : List Entry). length es) l.1.old_entries in
    let entries = ap (λ (es : List Entry). length es) c.deref-6.ensures.value ∙ ap (λ (es : List Entry). length es) c.requires.entries in
    let next = l.1.next_slots in
    record {
      from = omega (arith, from, entries);
      to = omega (arith, to, entries);
      few = omega (arith, next, c.requires.few);
    }

pub returns : goal.returns
returns c =
    let held = c.args.held.now in
    let table = c.args.table.now in
    let next = c.in_ok-next.field-0.next.items in
    let l = laid (goal.at.returns c).In_ok-next in
    let to = c.deref-5.ensures.value ∙ sym l.2 in
    let entries = c.deref-6.ensures.value ∙ c.requires.entries in
    let plan = c.in_ok-plan.plan in
    c.in_ok-plan-2.ensures held table
    (plan-of held l.0 next table c.deref-4.result.now c.deref-5.result.now c.deref-6.result.now plan l.1 (c.deref-4.ensures.value ∙ c.requires.slots) to entries
    (c.in_ok-plan.ensures.writes l.0 (sym to, l.1.old_entries ∙ sym entries) (l.1.start_slots ∙ sym l.1.next_slots))
    (ap (λ (t : Vec (Option Entry)). t.items) c.in_ok-plan.ensures.table))

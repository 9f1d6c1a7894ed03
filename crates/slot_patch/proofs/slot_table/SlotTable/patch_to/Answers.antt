use Rattle.std.proofs.Common.{◌≡◌, ◌∙◌, ap, length, arith}
use Rattle.bank_update.specs.Standing.{Standing}
use Rattle.slot_patch.proofs.Begins.{is-patch-to, lacks-room}
use Rattle.slot_patch.proofs.slot_table.SlotTable.patch_to.Goals as goal

pub returns-in-Ready-clause-patch : goal.returns-in-Ready-clause-patch
returns-in-Ready-clause-patch c =
    let found = c.in_ok-entries.ensures in
    is-patch-to c.renumber.new.self c.args.self.now c.args.table.now c.in-Ready.is c.in_ok-planned.ensures (c.deref.ensures.value ∙ ap (λ (s : Standing). s.slots) c.self.view_is) c.deref-2.ensures.value
    c.renumber.ensures.grow (c.in_ok-names.ensures ∙ ap (λ (s : Standing). s.names) c.self.view_is) found.names found.words found.within c.requires

pub returns-in-NoRoom-clause-refused : goal.returns-in-NoRoom-clause-refused
returns-in-NoRoom-clause-refused c =
    let slots = ap (λ (s : Standing). s.slots) c.self.view_is in
    let long = ap length slots in
    let all : c.len.result ≡ length c.args.self.now.slots = omega (arith, c.len.ensures, c.self.inside.slots.ok, long) in
    lacks-room c.args.self.now c.args.table.now c.len.result c.in-NoRoom.is c.in_ok-planned.ensures (c.deref.ensures.value ∙ slots) c.deref-2.ensures.value c.in_ok-entries.ensures.words all

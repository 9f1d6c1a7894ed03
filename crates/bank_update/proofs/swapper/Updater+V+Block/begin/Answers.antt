use Rattle.std.proofs.Common.{◌≡◌, ◌∙◌, false, length, rules, ap, subst, sym, Ok, arith}
use Rattle.std.specs.Prelude.{is_some}
use Rattle.bank_update.specs.Machine.{stage}
use Rattle.bank_update.specs.Standing.{Standing}
use Rattle.bank_update.specs.Whole.{IsTogether, place_with, room_for, total_at}
use Rattle.bank_update.proofs.NextWrites.{no-stage}
use Rattle.bank_update.proofs.Together.{Inside, room-at}
use Rattle.bank_update.proofs.WholeSwaps.{count-writes, may-begin}
use Rattle.bank_update.proofs.swapper.Updater+V+Block.begin.Goals as goal

pub begin_by-requires-clause-plan : goal.begin_by-requires-clause-plan
begin_by-requires-clause-plan g c =
    let settled = c.args.self.now.state.settled in
    let entries = c.args.table.entries.items in
    let long : length entries ≡ c.len.result = omega (arith, c.len.ensures, c.args.table.entries.ok) in
    let room = ap (λ (s : Standing). room_for s (length entries)) (sym c.settled-block.ensures) ∙ ap (room_for c.settled-block.result.now) long ∙ sym c.in-Ok.ensures in
    may-begin settled c.in-Ok.start entries c.args.table.names
    (subst (λ (s : Standing). IsTogether s.slots) c.settled-block.ensures c.stands_together.ensures.together)
    (room-at settled c.in-Ok.start entries (subst (λ (s : Standing). Inside s) c.settled-block.ensures c.stands_together.ensures.inside) room)
    c.stage.ensures.sound.numbered c.args.table.numbered

pub returns-in-Ok-clause-ok : goal.returns-in-Ok-clause-ok
returns-in-Ok-clause-ok g c =
    let s = c.args.self.now.state in
    let entries = c.args.table.entries.items in
    let long : length entries ≡ c.len.result = omega (arith, c.len.ensures, c.args.table.entries.ok) in
    let none : is_some (stage s) ≡ false = search rules in
    let room = ap (λ (x : Standing). room_for x (length entries)) (sym c.settled-block.ensures) ∙ ap (room_for c.settled-block.result.now) long ∙ sym c.in-Ok.ensures in
    ap (λ p. total_at s (length entries) (place_with p (room_for s.settled (length entries)))) (no-stage s none)
    ∙ ap (total_at s (length entries)) room
    ∙ ap (λ n. Ok n) (sym (c.begin_by.ensures.total ∙ count-writes s.settled c.in-Ok.start entries))

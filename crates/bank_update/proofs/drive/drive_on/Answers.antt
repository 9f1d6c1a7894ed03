use Rattle.std.proofs.Common.{length, ap, refl, ◌∙◌, arith}
use Rattle.razor_base.proofs.Writing.{made-none}
use Rattle.bank_update.specs.Swapping.{Swapping}
use Rattle.bank_update.proofs.Driving.{calm-out-of-memory, calm-turn, calm-write-failed, event-within, goes-on, has-run-none, is-cut-off, next-event, out-of-memory, refused-turn, stopped-before, write-failed, writes-out-of-memory, written-turn}
use Rattle.bank_update.proofs.drive.drive_on.Goals as goal

pub loop-command-init : goal.loop-command-init
loop-command-init g c = record {
  ran = has-run-none g.K.Sink.written c.args.out.now;
  nothing = c.new-pending.ensures;
  counts = omega arith;
  calm = refl;
  writes = made-none (g.K.Sink.written c.args.out.now);
}

pub take_turn-requires-clause-within : goal.take_turn-requires-clause-within
take_turn-requires-clause-within g c =
    event-within (length c.args.tables.now) c.args.script.now c.script.inside.commands.items c.deref-command-items.result.now c.loop-command.command-index c.command-item.result c.script.view_is c.deref-command-items.ensures.value
    c.loop-command-test.true c.command-item.is c.requires

pub returns-in_err-take_turn-clause-outcome : goal.returns-in_err-take_turn-clause-outcome
returns-in_err-take_turn-clause-outcome g c =
    let same = c.in_err-take_turn.ensures.refused in
    out-of-memory c.from_residual.result c.from_residual.ensures.1
    (stopped-before g.K.Sink.written (g.K.Sink.written c.args.out.now) c.loop-command.out c.take_turn.new.out c.take_turn.new.swapper.state (g.V.Device.faults c.take_turn.new.swapper.device) (g.V.Device.tries c.take_turn.new.swapper.device) c.args.script.now c.loop-command.command-index
    (ap (λ (v : Swapping g.row.V.Denot). v.state) same.0) (ap (λ (v : Swapping g.row.V.Denot). g.V.Device.faults v.device) same.0)
    (ap (λ (v : Swapping g.row.V.Denot). g.V.Device.tries v.device) same.0) same.1 c.loop-command.invariant.ran)

pub returns-in_err-branch-clause-outcome : goal.returns-in_err-branch-clause-outcome
returns-in_err-branch-clause-outcome g c =
    let next = next-event c.args.script.now c.script.inside.commands.items c.deref-command-items.result.now c.loop-command.command-index c.command-item.result c.script.view_is c.deref-command-items.ensures.value
    c.loop-command-test.true c.command-item.is in
    write-failed c.from_residual-in_err-branch.result c.from_residual-in_err-branch.ensures.1
    (is-cut-off g.K.Sink.written (g.K.Sink.written c.args.out.now) c.loop-command.out c.take_turn.new.out c.args.script.now c.loop-command.command-index c.in_ok-take_turn.field-0 c.in_err-branch.was c.loop-command.invariant.ran c.in_ok-take_turn.ensures.turn next)

pub returns-in_err-take_turn-clause-calm : goal.returns-in_err-take_turn-clause-calm
returns-in_err-take_turn-clause-calm g c =
    calm-out-of-memory c.from_residual.result c.from_residual.ensures.1 (ap g.K.Sink.faults c.in_err-take_turn.ensures.refused.1 ∙ c.loop-command.invariant.calm)

pub returns-in_err-branch-clause-calm : goal.returns-in_err-branch-clause-calm
returns-in_err-branch-clause-calm g c = calm-write-failed _ c.from_residual-in_err-branch.result c.from_residual-in_err-branch.ensures.1

pub loop-command-preserved : goal.loop-command-preserved
loop-command-preserved g c =
    let next = next-event c.args.script.now c.script.inside.commands.items c.deref-command-items.result.now c.loop-command.command-index c.command-item.result c.script.view_is c.deref-command-items.ensures.value
    c.loop-command-test.true c.command-item.is in
    let turn = c.in_ok-take_turn.ensures.turn in
    record {
      ran = goes-on g.K.Sink.written (g.K.Sink.written c.args.out.now) c.loop-command.out c.take_turn.new.out _ _ c.in_ok-take_turn.field-0 c.in_ok-branch.was c.loop-command.invariant.ran turn next;
      nothing = c.in_ok-take_turn.ensures.none;
      counts = omega (arith, c.loop-command.invariant.counts, turn.counts);
      calm = calm-turn c.in_ok-take_turn.field-0 c.in_ok-branch.was turn ∙ c.loop-command.invariant.calm;
      writes = written-turn g.K.Sink.written (g.K.Sink.written c.args.out.now) c.loop-command.out c.take_turn.new.out c.in_ok-take_turn.field-0 c.in_ok-branch.was c.loop-command.invariant.writes turn;
    }

pub returns-in_err-take_turn-clause-writes : goal.returns-in_err-take_turn-clause-writes
returns-in_err-take_turn-clause-writes g c =
    writes-out-of-memory g.K.Sink.written (g.K.Sink.written c.args.out.now) c.loop-command.out c.take_turn.new.out c.from_residual.result c.from_residual.ensures.1 c.in_err-take_turn.ensures.refused.1 c.loop-command.invariant.writes

pub returns-in_err-branch-clause-writes : goal.returns-in_err-branch-clause-writes
returns-in_err-branch-clause-writes g c =
    refused-turn g.K.Sink.written (g.K.Sink.written c.args.out.now) c.loop-command.out c.take_turn.new.out c.in_ok-take_turn.field-0 c.in_err-branch.was c.loop-command.invariant.writes c.in_ok-take_turn.ensures.turn c.from_residual-in_err-branch.result c.from_residual-in_err-branch.ensures.1

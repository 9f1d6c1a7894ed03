use Rattle.std.proofs.Common.{◌∙◌, ap, arith, refl}
use Rattle.razor_base.proofs.Writing.{made-none}
use Rattle.bank_update.proofs.Driving.{calm-out-of-memory, calm-write-failed, writes-out-of-memory}
use Rattle.edit_session.specs.SessionViews.{event_of}
use Rattle.edit_session.proofs.SessionDriving.{calm-turn, goes-on, good-command, has-run-none, is-cut-off, next-event, out-of-memory, refused-turn, stopped-before, write-failed, written-turn}
use Rattle.edit_session.proofs.SessionNames.{adds-next, turn-names, wants-room}
use Rattle.edit_session.proofs.running.session_on.Goals as goal

pub loop-command-init : goal.loop-command-init
loop-command-init g c = record {
  ran = has-run-none g.K.Sink.written c.args.out.now;
  names = omega arith;
  nothing = c.new-pending.ensures;
  counts = omega arith;
  calm = refl;
  writes = made-none (g.K.Sink.written c.args.out.now);
}

pub take_turn-requires-clause-good : goal.take_turn-requires-clause-good
take_turn-requires-clause-good g c =
    good-command c.commands-commands.result.now c.loop-command.command-index c.command-item.result c.loop-command-test.true c.command-item.is c.commands-commands.ensures.good

pub take_turn-requires-clause-room : goal.take_turn-requires-clause-room
take_turn-requires-clause-room g c =
    let next = next-event c.args.session.now c.commands-commands.result.now c.loop-command.command-index c.command-item.result c.commands-commands.ensures.commands c.loop-command-test.true c.command-item.is in
    wants-room c.args.editor.now.session c.loop-command.editor.session c.args.session.now c.loop-command.command-index (event_of c.command-item.result) next c.loop-command.invariant.names c.requires

pub returns-in_err-take_turn-clause-outcome : goal.returns-in_err-take_turn-clause-outcome
returns-in_err-take_turn-clause-outcome g c =
    let next = next-event c.args.session.now c.commands-commands.result.now c.loop-command.command-index c.command-item.result c.commands-commands.ensures.commands c.loop-command-test.true c.command-item.is in
    let left = c.in_err-take_turn.ensures.refused in
    out-of-memory c.from_residual.result c.from_residual.ensures.1
    (stopped-before g.K.Sink.written (g.K.Sink.written c.args.out.now) c.loop-command.out c.take_turn.new.out c.take_turn.new.editor.session (g.V.Device.faults c.take_turn.new.editor.device) (g.V.Device.tries c.take_turn.new.editor.device)
    (event_of c.command-item.result) c.args.session.now c.loop-command.command-index left.0.0 (ap g.V.Device.faults left.0.1) (ap g.V.Device.tries left.0.1) left.1 next c.loop-command.invariant.ran)

pub returns-in_err-branch-clause-outcome : goal.returns-in_err-branch-clause-outcome
returns-in_err-branch-clause-outcome g c =
    let next = next-event c.args.session.now c.commands-commands.result.now c.loop-command.command-index c.command-item.result c.commands-commands.ensures.commands c.loop-command-test.true c.command-item.is in
    write-failed c.from_residual-in_err-branch.result c.from_residual-in_err-branch.ensures.1
    (is-cut-off g.K.Sink.written (g.K.Sink.written c.args.out.now) c.loop-command.out c.take_turn.new.out c.args.session.now c.loop-command.command-index c.in_ok-take_turn.field-0 c.in_err-branch.was
    c.loop-command.invariant.ran c.in_ok-take_turn.ensures.turn next)

pub returns-in_err-take_turn-clause-counts : goal.returns-in_err-take_turn-clause-counts
returns-in_err-take_turn-clause-counts g c = omega (arith, c.loop-command.invariant.counts, ap g.V.Device.faults c.in_err-take_turn.ensures.refused.0.1)

pub returns-in_err-take_turn-clause-calm : goal.returns-in_err-take_turn-clause-calm
returns-in_err-take_turn-clause-calm g c =
    calm-out-of-memory c.from_residual.result c.from_residual.ensures.1 (ap g.K.Sink.faults c.in_err-take_turn.ensures.refused.1 ∙ c.loop-command.invariant.calm)

pub returns-in_err-branch-clause-calm : goal.returns-in_err-branch-clause-calm
returns-in_err-branch-clause-calm g c = calm-write-failed _ c.from_residual-in_err-branch.result c.from_residual-in_err-branch.ensures.1

pub loop-command-preserved : goal.loop-command-preserved
loop-command-preserved g c =
    let next = next-event c.args.session.now c.commands-commands.result.now c.loop-command.command-index c.command-item.result c.commands-commands.ensures.commands c.loop-command-test.true c.command-item.is in
    let turn = c.in_ok-take_turn.ensures.turn in
    let names = turn-names c.loop-command.editor.session c.take_turn.new.editor.session (event_of c.command-item.result) turn.breaks turn.printed turn.turn in
    let adds = adds-next c.args.session.now c.loop-command.command-index (event_of c.command-item.result) next in
    record {
      ran = goes-on g.K.Sink.written (g.K.Sink.written c.args.out.now) c.loop-command.out c.take_turn.new.out _ _ c.in_ok-take_turn.field-0 c.in_ok-branch.was c.loop-command.invariant.ran turn next;
      names = omega (arith, c.loop-command.invariant.names, names, adds.0);
      nothing = c.in_ok-take_turn.ensures.none;
      counts = omega (arith, c.loop-command.invariant.counts, turn.counts);
      calm = calm-turn c.in_ok-take_turn.field-0 c.in_ok-branch.was turn ∙ c.loop-command.invariant.calm;
      writes = written-turn g.K.Sink.written (g.K.Sink.written c.args.out.now) c.loop-command.out c.take_turn.new.out c.in_ok-take_turn.field-0 c.in_ok-branch.was c.loop-command.invariant.writes turn;
    }

pub returns-in_err-take_turn-clause-writes : goal.returns-in_err-take_turn-clause-writes
returns-in_err-take_turn-clause-writes g c =
    writes-out-of-memory g.K.Sink.written (g.K.Sink.written c.args.out.now) c.loop-command.out c.take_turn.new.out c.from_residual.result c.from_residual.ensures.1 c.in_err-take_turn.ensures.refused.1 c.loop-command.invariant.writes

pub returns-in_err-branch-clause-writes : goal.returns-in_err-branch-clause-writes
returns-in_err-branch-clause-writes g c =
    refused-turn g.K.Sink.written (g.K.Sink.written c.args.out.now) c.loop-command.out c.take_turn.new.out c.in_ok-take_turn.field-0 c.in_err-branch.was c.loop-command.invariant.writes c.in_ok-take_turn.ensures.turn c.from_residual-in_err-branch.result c.from_residual-in_err-branch.ensures.1

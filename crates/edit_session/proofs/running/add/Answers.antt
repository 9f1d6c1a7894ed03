use Rattle.std.proofs.Common.{ap, sym}
use Rattle.edit_session.specs.Lists.{rule_named}
use Rattle.edit_session.proofs.SessionTurns.{leaves-add, takes-add}
use Rattle.edit_session.proofs.running.add.Goals as goal

pub add-requires-clause-rule : goal.add-requires-clause-rule
add-requires-clause-rule g c = record { source = c.requires.rule.source; destination = c.requires.rule.destination; protocol = c.requires.rule.protocol }

pub returns-clause-turn : goal.returns-clause-turn
returns-clause-turn g c =
    takes-add g.K.Sink.written g.K.Sink.faults c.args.out.now c.write_added.new.out c.args.editor.now.session c.add.new.self.session _ _ _ _ c.args.place (rule_named c.args.name.now c.args.rule.now) c.add.result c.write_added.result
    c.add.ensures.ok c.add.ensures.added c.add.ensures.refused c.add.ensures.session (ap g.V.Device.faults (sym c.add.ensures.device)) (ap g.V.Device.tries (sym c.add.ensures.device)) c.write_added.ensures.known c.write_added.ensures.whole

pub returns-clause-refused : goal.returns-clause-refused
returns-clause-refused g c =
    leaves-add c.args.out.now c.write_added.new.out c.args.editor.now c.add.new.self c.args.place (rule_named c.args.name.now c.args.rule.now) c.add.result c.write_added.result
    c.add.ensures.refused c.add.ensures.session c.add.ensures.device c.write_added.ensures.memory

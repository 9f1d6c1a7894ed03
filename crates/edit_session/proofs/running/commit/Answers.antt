use Rattle.std.proofs.Common.{ap, sym}
use Rattle.edit_session.proofs.SessionTurns.{leaves-commit, takes-commit}
use Rattle.edit_session.proofs.running.commit.Goals as goal

pub returns-clause-turn : goal.returns-clause-turn
returns-clause-turn g c =
    takes-commit g.K.Sink.written g.K.Sink.faults c.args.out.now c.write_committed.new.out c.args.editor.now.session c.commit.new.self.session _ _ _ _ c.commit.result c.write_committed.result
    c.commit.ensures.commit (ap g.V.Device.faults (sym c.commit.ensures.device)) (ap g.V.Device.tries (sym c.commit.ensures.device)) c.write_committed.ensures.known c.write_committed.ensures.whole

pub returns-clause-refused : goal.returns-clause-refused
returns-clause-refused g c =
    leaves-commit c.args.out.now c.write_committed.new.out c.args.editor.now c.commit.new.self c.commit.result c.write_committed.result
    c.commit.ensures.commit c.commit.ensures.device c.write_committed.ensures.memory

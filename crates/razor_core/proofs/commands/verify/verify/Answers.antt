use Rattle.razor_core.specs.Commands.Verify.{verifying}
use Rattle.razor_core.specs.Taking.{table_value_of, value_of}
use Rattle.std.proofs.Common.{[], ◌∷◌, refl}
use Rattle.razor_base.proofs.Writing.{made-none}
use Rattle.razor_core.specs.Commands.Check.{is_equal}
use Rattle.razor_core.proofs.AnswerEnding.{answered_over, answered_writes}
use Rattle.razor_core.proofs.VerifyEnding.{verifies}
use Rattle.razor_core.proofs.commands.verify.verify.Goals as goal

pub returns-clause-ends : goal.returns-clause-ends
returns-clause-ends g c = λ one two.
    answered_over (verifying one two) (value_of c.args.list.now ∷ table_value_of c.args.table.now ∷ []) (λ stop later. later) refl tt c.write_answer.result (is_equal c.in-Ok.shown) c.answered.result c.write_answer.ensures
    (verifies one two c.args.list.now c.args.table.now c.in-Ok.shown c.in-Ok.ensures) (rw c.is_equal.ensures at c.answered.ensures)

-- the reads and the writes
pub returns-in-Err-clause-writes : goal.returns-in-Err-clause-writes
returns-in-Err-clause-writes g c = made-none (g.K.Sink.written c.args.out.now)

pub returns-clause-writes : goal.returns-clause-writes
returns-clause-writes g c = answered_writes c.is_equal.result c.write_answer.result c.answered.result (g.K.Sink.written c.args.out.now) (g.K.Sink.written c.write_answer.new.out) c.answered.ensures c.write_answer.ensures.tries

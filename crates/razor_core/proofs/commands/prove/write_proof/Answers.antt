use Rattle.razor_core.specs.Commands.Prove.{proving}
use Rattle.razor_core.specs.Taking.{table_value_of, value_of}
use Rattle.std.proofs.Common.{[], ◌∷◌, refl}
use Rattle.razor_base.proofs.Writing.{made-none}
use Rattle.razor_core.specs.Commands.Check.{is_equal}
use Rattle.razor_core.proofs.AnswerEnding.{answered_over, answered_writes}
use Rattle.razor_core.proofs.VerifyEnding.{proof_of, proves}
use Rattle.razor_core.proofs.commands.prove.write_proof.Goals as goal

pub returns-clause-ends : goal.returns-clause-ends
returns-clause-ends g c = λ one two.
    let proof = proof_of c.args.list.now c.args.table.now c.in-Ok.proof.text.items c.in-Ok.proof.valid c.valid_proofs_are_true.ensures c.valid_proofs_begin_so.ensures c.in-Ok.ensures in
    answered_over (proving one two) (value_of c.args.list.now ∷ table_value_of c.args.table.now ∷ []) (λ stop later. later) refl tt c.write_all.result (is_equal c.in-Ok.proof.valid.shown) c.answered.result (rw c.deref.ensures.value at c.write_all.ensures)
    (proves one two c.args.list.now c.args.table.now c.in-Ok.proof.text.items c.in-Ok.proof.valid.shown proof) (rw c.is_equal.ensures at c.answered.ensures)

-- the reads and the writes
pub returns-in-Err-clause-writes : goal.returns-in-Err-clause-writes
returns-in-Err-clause-writes g c = made-none (g.K.Sink.written c.args.out.now)

pub returns-clause-writes : goal.returns-clause-writes
returns-clause-writes g c = answered_writes c.is_equal.result c.write_all.result c.answered.result (g.K.Sink.written c.args.out.now) (g.K.Sink.written c.write_all.new.sink) c.answered.ensures c.write_all.ensures.tries

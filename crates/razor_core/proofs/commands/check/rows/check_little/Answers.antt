use Rattle.std.proofs.Common.{arith, refl}
use Rattle.std.specs.Prelude.{false, true}
use Rattle.razor_core.proofs.AnswerEnding.{answered_writes}
use Rattle.razor_core.proofs.SaidSo.{said_ends, wrong_within}
use Rattle.razor_core.proofs.commands.check.rows.check_little.Goals as goal

pub returns-in-Ok-clause-ends : goal.returns-in-Ok-clause-ends
returns-in-Ok-clause-ends g c = λ name remaining faults none.
    let valid = rw c.requires.checker at c.in-Ok.ensures.valid in
    let agree = rw c.requires.checker at c.in-Ok.ensures.agree in
    said_ends false c.args.list.now c.args.table.now name c.args.text.now remaining remaining faults faults c.write_valid.result true c.answered.result c.write_valid.ensures
    (agree, c.in-Ok.rows, record { valid = valid; within = omega (arith, c.requires.little); whole = none }, refl) c.answered.ensures

pub returns-in-Err-clause-ends : goal.returns-in-Err-clause-ends
returns-in-Err-clause-ends g c = λ name remaining faults none.
    let wrong = rw c.requires.checker at c.in-Err.ensures.wrong in
    said_ends false c.args.list.now c.args.table.now name c.args.text.now remaining remaining faults faults c.write_wrong.result false c.answered-in-Err.result c.write_wrong.ensures
    (c.in-Err.wrong, wrong_within c.args.list.now c.args.table.now c.args.text.now c.in-Err.wrong (omega (arith, c.requires.little)) wrong, refl) c.answered-in-Err.ensures

-- the writes
pub returns-in-Ok-clause-writes : goal.returns-in-Ok-clause-writes
returns-in-Ok-clause-writes g c = answered_writes true c.write_valid.result c.answered.result (g.K.Sink.written c.args.out.now) (g.K.Sink.written c.write_valid.new.out) c.answered.ensures c.write_valid.ensures.tries

pub returns-in-Err-clause-writes : goal.returns-in-Err-clause-writes
returns-in-Err-clause-writes g c = answered_writes false c.write_wrong.result c.answered-in-Err.result (g.K.Sink.written c.args.out.now) (g.K.Sink.written c.write_wrong.new.out) c.answered-in-Err.ensures c.write_wrong.ensures.tries

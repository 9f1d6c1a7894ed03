use Rattle.std.proofs.Common.{ℕ, [], ◌++◌, ap, arith, length-take, length, take, ◌≤◌, ◌+◌, refl}
use Rattle.std.specs.Prelude.{Err, Result, false, true}
use Rattle.razor_base.specs.Texts.{left_of}
use Rattle.partition_check.specs.declared.stream.Stop.{Stop}
use Rattle.razor_core.specs.Meaning.{at_the_end}
use Rattle.razor_core.specs.declared.ending.Ending.TheVariants.{ReadFault, TooLong}
use Rattle.razor_core.proofs.Turns.{none_made}
use Rattle.razor_core.proofs.Calls.{first_ends}
use Rattle.razor_core.proofs.SaidSo.{near_behind, said_calls, said_ends, unfailed_whole}
use Rattle.razor_core.proofs.commands.check.rows.check_by.Goals as goal

abbrev stopped : Stop → Result ℕ Stop
stopped stop = Err stop

pub returns-in-Ok-clause-ends : goal.returns-in-Ok-clause-ends
returns-in-Ok-clause-ends g c = λ texts is.
    let name = c.args.file.now in
    let start = left_of g.D.Desk.reads texts c.args.desk.now in
    let left = left_of g.D.Desk.reads texts c.check_stream.new.desk in
    let valid = rw c.requires.checker at (c.in-Ok.ensures.valid (texts name) (is name)) in
    let agree = rw c.requires.checker at c.in-Ok.ensures.agree in
    said_ends false c.args.list.now c.args.table.now name (take c.args.read c.args.buffer.now ++ start name) start left (g.D.Desk.faults c.args.desk.now) (g.D.Desk.faults c.check_stream.new.desk) c.write_valid.result true c.answered.result c.write_valid.ensures
    (agree, c.in-Ok.rows, valid, refl) c.answered.ensures

pub returns-in-Err-Wrong-clause-ends : goal.returns-in-Err-Wrong-clause-ends
returns-in-Err-Wrong-clause-ends g c = λ texts is.
    let name = c.args.file.now in
    let start = left_of g.D.Desk.reads texts c.args.desk.now in
    let left = left_of g.D.Desk.reads texts c.check_stream.new.desk in
    let wrong = c.in-Err-Wrong.wrong in
    let reads = rw c.requires.checker at (c.in-Err-Wrong.ensures.wrong (texts name) (is name) wrong (ap stopped c.in-Err-Wrong.field-0-is)) in
    said_ends false c.args.list.now c.args.table.now name (take c.args.read c.args.buffer.now ++ start name) start left (g.D.Desk.faults c.args.desk.now) (g.D.Desk.faults c.check_stream.new.desk) c.write_wrong.result false c.answered-in-Err-Wrong.result c.write_wrong.ensures
    (wrong, reads, refl) c.answered-in-Err-Wrong.ensures

pub returns-in-Err-TooLong-clause-ends : goal.returns-in-Err-TooLong-clause-ends
returns-in-Err-TooLong-clause-ends g c = λ texts is.
    let name = c.args.file.now in
    let front = take c.args.read c.args.buffer.now in
    let start = left_of g.D.Desk.reads texts c.args.desk.now in
    let left = left_of g.D.Desk.reads texts c.check_stream.new.desk in
    let near = c.in-Err-TooLong.ensures.near (texts name) (is name) in
    let few : length front + (268435456 + length c.args.buffer.now) ≤ 268435456 + 65536 = omega (arith, c.requires.buffer, length-take c.args.read c.args.buffer.now) in
    let long = rw c.requires.checker at (c.in-Err-TooLong.ensures.too_long (texts name) (is name) (ap stopped c.in-Err-TooLong.field-0-is)) in
    (refl, refl, none_made (g.K.Sink.written c.args.out.now), near_behind front (start name) (left name) (268435456 + length c.args.buffer.now) (268435456 + 65536) near few, long)

-- the reads and the writes
pub returns-in-Ok-clause-calls : goal.returns-in-Ok-clause-calls
returns-in-Ok-clause-calls g c =
    said_calls c.args.file.now c.write_valid.result true c.answered.result (g.D.Desk.reads c.args.desk.now) (g.D.Desk.reads c.check_stream.new.desk) (g.K.Sink.written c.args.out.now) (g.K.Sink.written c.write_valid.new.out) c.answered.ensures
    (λ e. c.in-Ok.ensures.turn) (unfailed_whole c.args.file.now (g.D.Desk.reads c.args.desk.now) (g.D.Desk.reads c.check_stream.new.desk) c.in-Ok.ensures.turn) c.write_valid.ensures.tries

pub returns-in-Err-Wrong-clause-calls : goal.returns-in-Err-Wrong-clause-calls
returns-in-Err-Wrong-clause-calls g c =
    said_calls c.args.file.now c.write_wrong.result false c.answered-in-Err-Wrong.result (g.D.Desk.reads c.args.desk.now) (g.D.Desk.reads c.check_stream.new.desk) (g.K.Sink.written c.args.out.now) (g.K.Sink.written c.write_wrong.new.out) c.answered-in-Err-Wrong.ensures
    (λ e. absurd cc) (rw c.in-Err-Wrong.field-0-is at c.in-Err-Wrong.ensures.turn) c.write_wrong.ensures.tries

pub returns-in-Err-ReadFault-clause-calls : goal.returns-in-Err-ReadFault-clause-calls
returns-in-Err-ReadFault-clause-calls g c = first_ends at_the_end c.args.file.now [] (ReadFault c.args.file) (g.D.Desk.reads c.args.desk.now) (g.D.Desk.reads c.check_stream.new.desk) (g.K.Sink.written c.args.out.now) (rw c.in-Err-ReadFault.field-0-is at c.in-Err-ReadFault.ensures.turn)

pub returns-in-Err-TooLong-clause-calls : goal.returns-in-Err-TooLong-clause-calls
returns-in-Err-TooLong-clause-calls g c = first_ends at_the_end c.args.file.now [] (TooLong c.args.file _) (g.D.Desk.reads c.args.desk.now) (g.D.Desk.reads c.check_stream.new.desk) (g.K.Sink.written c.args.out.now) (rw c.in-Err-TooLong.field-0-is at c.in-Err-TooLong.ensures.turn)

use Rattle.std.proofs.Common.{ℕ, sym}
use Rattle.razor_base.specs.Headline.Readings.{given}
use Rattle.razor_base.specs.Texts.{left_in}
use Rattle.trace_run.specs.Answers.{answers_text}
use Rattle.trace_run.specs.declared.error.TraceError.TheVariants as errors
use Rattle.trace_run.proofs.PutLines.{handed_on}
use Rattle.trace_run.proofs.Flushing.{flushed, lost, unflushed}
use Rattle.trace_run.proofs.Pacing.{paced-more}
use Rattle.trace_run.proofs.TraceTurn.{unwritten}
use Rattle.trace_run.proofs.Tries.{flushed-tries, unflushed-tries}
use Rattle.trace_run.proofs.running.run.Goals as goal

pub returns-in_err-flush-clause-outcome : goal.returns-in_err-flush-clause-outcome
returns-in_err-flush-clause-outcome g c = λ text is.
    let names = c.args.names.now in
    let slots = g.V.Device.held c.args.device.now in
    let before = left_in text (given (g.D.Desk.reads c.args.desk.now) c.args.name.now) in
    let left = left_in text (given (g.D.Desk.reads c.put_answers-ended.new.desk) c.args.name.now) in
    rw (handed_on errors.WriteFault c.from_residual.result c.from_residual.ensures.1)
    (unflushed g.K.Sink.written c.args.out.now c.put_answers-ended.new.out c.flush.new.sink c.new-pending.result c.put_answers-ended.new.pending names slots 67108864 before left c.put_answers-ended.result
    c.new-pending.ensures (sym c.if-is_lost.ensures) c.in_err-flush.ensures.whole.err (c.put_answers-ended.ensures.outcome text is))

pub returns-clause-outcome : goal.returns-clause-outcome
returns-clause-outcome g c = λ text is.
    let names = c.args.names.now in
    let slots = g.V.Device.held c.args.device.now in
    let before = left_in text (given (g.D.Desk.reads c.args.desk.now) c.args.name.now) in
    let left = left_in text (given (g.D.Desk.reads c.put_answers-ended.new.desk) c.args.name.now) in
    flushed g.K.Sink.written c.args.out.now c.put_answers-ended.new.out c.flush.new.sink c.new-pending.result c.put_answers-ended.new.pending (answers_text names slots) 67108864 before left c.put_answers-ended.result
    c.new-pending.ensures (sym c.if-is_lost.ensures) c.in_ok-flush.ensures.whole.ok (c.put_answers-ended.ensures.outcome text is)

pub returns-then-is_lost-clause-outcome : goal.returns-then-is_lost-clause-outcome
returns-then-is_lost-clause-outcome g c = λ text is.
    lost g.K.Sink.written c.args.out.now c.put_answers-ended.new.out c.new-pending.result c.put_answers-ended.new.pending (answers_text c.args.names.now (g.V.Device.held c.args.device.now)) 67108864
    (left_in text (given (g.D.Desk.reads c.args.desk.now) c.args.name.now)) (left_in text (given (g.D.Desk.reads c.put_answers-ended.new.desk) c.args.name.now)) c.put_answers-ended.result c.new-pending.ensures (sym c.if-is_lost.ensures) (c.put_answers-ended.ensures.outcome text is)

pub returns-in_err-flush-clause-paced : goal.returns-in_err-flush-clause-paced
returns-in_err-flush-clause-paced g c = λ text is.
    let front = c.in_err-flush.ensures.whole.err in
    paced-more g.K.Sink.written c.args.out.now c.put_answers-ended.new.out c.flush.new.sink front.1.0 (c.put_answers-ended.ensures.paced text is) front.1.1

pub returns-clause-paced : goal.returns-clause-paced
returns-clause-paced g c = λ text is.
    paced-more g.K.Sink.written c.args.out.now c.put_answers-ended.new.out c.flush.new.sink c.put_answers-ended.new.pending (c.put_answers-ended.ensures.paced text is) c.in_ok-flush.ensures.whole.ok

pub returns-in_err-flush-clause-turn : goal.returns-in_err-flush-clause-turn
returns-in_err-flush-clause-turn g c =
    rw (handed_on errors.WriteFault c.from_residual.result c.from_residual.ensures.1)
    (unwritten ℕ ℕ c.args.name.now (g.D.Desk.reads c.args.desk.now) (g.D.Desk.reads c.put_answers-ended.new.desk) c.put_answers-ended.result c.put_answers-ended.ensures.turn)

pub returns-in_err-flush-clause-tries : goal.returns-in_err-flush-clause-tries
returns-in_err-flush-clause-tries g c =
    rw (handed_on errors.WriteFault c.from_residual.result c.from_residual.ensures.1)
    (unflushed-tries (g.K.Sink.written c.args.out.now) (g.K.Sink.written c.put_answers-ended.new.out) (g.K.Sink.written c.flush.new.sink) c.put_answers-ended.result (sym c.if-is_lost.ensures) c.put_answers-ended.ensures.tries c.in_err-flush.ensures.whole.tries)

pub returns-clause-tries : goal.returns-clause-tries
returns-clause-tries g c = flushed-tries (g.K.Sink.written c.args.out.now) (g.K.Sink.written c.put_answers-ended.new.out) (g.K.Sink.written c.flush.new.sink) c.put_answers-ended.result (sym c.if-is_lost.ensures) c.put_answers-ended.ensures.tries c.in_ok-flush.ensures.whole.tries

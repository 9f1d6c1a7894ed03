use Rattle.std.proofs.Common.{◌≡◌, ◌==◌, [], false, append-nil, ℕ, ◌-◌, ◌<◌, ◌≤◌, List, ◌++◌, Err, length, take, drop, take-append-drop, length-drop, ap, refl, sym, subst, ◌∙◌, arith, rules, length-take-le, take-take}
use Rattle.razor_base.specs.Output.{AppendsFront}
use Rattle.razor_base.specs.Headline.Readings.{given}
use Rattle.razor_base.specs.Texts.{left_in}
use Rattle.razor_base.proofs.Coming.{at_end, before, consumes, itself}
use Rattle.trace_run.specs.Answers.{answers_text}
use Rattle.trace_run.specs.Trace.{trace_within}
use Rattle.trace_run.specs.declared.error.TraceError.TheVariants as errors
use Rattle.razor_base.specs.Input.{TakesFront}
use Rattle.trace_run.proofs.PutLines.{handed_on}
use Rattle.trace_run.proofs.Standing.{near-kept, near-piece, so_far-next}
use Rattle.trace_run.proofs.Flushing.{unflushed}
use Rattle.trace_run.proofs.Pacing.{grown, paced, paced-kept, paced-more, so_far-flushed}
use Rattle.trace_run.proofs.Ending.{so_far-few, ends_fault, ends_whole, ends_at_last, ends_in_piece, ends_long, consumes-first}
use Rattle.std.specs.Prelude.{None}
use Rattle.razor_base.specs.Headline.Outcomes.{outcome_of}
use Rattle.razor_base.proofs.Turns.{ends, gives_piece}
use Rattle.trace_run.specs.Progress.{last_trace, next_trace}
use Rattle.trace_run.proofs.TraceTurn.{ends_before, ends_behind}
use Rattle.razor_base.proofs.Writing.{refused-then, taken-then}
use Rattle.trace_run.proofs.Tries.{tried-then}
use Rattle.trace_run.proofs.running.put_answers.Goals as goal

pub returns-in_default-clause-outcome : goal.returns-in_default-clause-outcome
returns-in_default-clause-outcome g c = λ text is.
    let mid = given (g.D.Desk.reads c.pieces.desk) c.args.name.now in
    let stands = c.pieces.invariant.stands text (before is mid [] (c.in_default.ensures.gives.0 ∙ sym (append-nil mid))) in
    let kept = ap (λ bytes. drop (length bytes) text) c.in_default.ensures.gives.0 in
    ends_fault (left_in text (given (g.D.Desk.reads c.read_piece.new.desk) c.args.name.now)) stands kept

pub take_kept-requires-clause-lines : goal.take_kept-requires-clause-lines
take_kept-requires-clause-lines g c = let few = so_far-few (c.pieces.invariant.stands (given (g.D.Desk.reads c.pieces.desk) c.args.name.now) (itself (given (g.D.Desk.reads c.pieces.desk) c.args.name.now) false)) in omega (arith, few.0)

pub take_kept-requires-clause-headers : goal.take_kept-requires-clause-headers
take_kept-requires-clause-headers g c = let few = so_far-few (c.pieces.invariant.stands (given (g.D.Desk.reads c.pieces.desk) c.args.name.now) (itself (given (g.D.Desk.reads c.pieces.desk) c.args.name.now) false)) in omega (arith, few.1)

pub returns-in_err-take_kept-clause-outcome : goal.returns-in_err-take_kept-clause-outcome
returns-in_err-take_kept-clause-outcome g c = λ text is.
    let mid = given (g.D.Desk.reads c.pieces.desk) c.args.name.now in
    let piece = take c.in-Ok.count c.read_piece.new.piece in
    let read = consumes is mid piece c.in-Ok.ensures.gives.0 in
    let stands = c.pieces.invariant.stands text (before is mid piece c.in-Ok.ensures.gives.0) in
    let left = left_in text (given (g.D.Desk.reads c.read_piece.new.desk) c.args.name.now) in
    let buffer = c.read_piece.new.piece in
    let long : 0 < length c.pieces.piece = search rules in
    let none = subst (λ n. TakesFront (left_in text (given (g.D.Desk.reads c.pieces.desk) c.args.name.now)) left (take n buffer)) c.if-count-eq0.true read in
    let error = c.in_err-take_kept.field-0.0 in
    rw (handed_on error c.from_residual.result c.from_residual.ensures.1)
    (ends_at_last left error stands none (at_end is (c.in-Ok.ensures.gives.1 ∙ ap (λ n. n == 0) c.if-count-eq0.true)) c.in_err-take_kept.ensures.puts c.in_err-take_kept.ensures.stops)

pub returns-then-count-eq0-clause-outcome : goal.returns-then-count-eq0-clause-outcome
returns-then-count-eq0-clause-outcome g c = λ text is.
    let mid = given (g.D.Desk.reads c.pieces.desk) c.args.name.now in
    let piece = take c.in-Ok.count c.read_piece.new.piece in
    let read = consumes is mid piece c.in-Ok.ensures.gives.0 in
    let stands = c.pieces.invariant.stands text (before is mid piece c.in-Ok.ensures.gives.0) in
    let left = left_in text (given (g.D.Desk.reads c.read_piece.new.desk) c.args.name.now) in
    let buffer = c.read_piece.new.piece in
    let long : 0 < length c.pieces.piece = search rules in
    let none = subst (λ n. TakesFront (left_in text (given (g.D.Desk.reads c.pieces.desk) c.args.name.now)) left (take n buffer)) c.if-count-eq0.true read in
    ends_whole (left_in text (given (g.D.Desk.reads c.args.desk.now) c.args.name.now)) left c.take_kept.new.self stands none (at_end is (c.in-Ok.ensures.gives.1 ∙ ap (λ n. n == 0) c.if-count-eq0.true))
    c.in_ok-take_kept.ensures.puts c.in_ok-take_kept.ensures.moved

pub take_piece-requires-clause-lines : goal.take_piece-requires-clause-lines
take_piece-requires-clause-lines g c =
    let taken = length-take-le c.min-taken.result c.read_piece.new.piece (omega (arith, c.min-taken.ensures, c.in-Ok.ensures.within)) in
    omega (arith, (so_far-few (c.pieces.invariant.stands (given (g.D.Desk.reads c.pieces.desk) c.args.name.now) (itself (given (g.D.Desk.reads c.pieces.desk) c.args.name.now) false))).0, taken, c.min-taken.ensures)

pub take_piece-requires-clause-headers : goal.take_piece-requires-clause-headers
take_piece-requires-clause-headers g c = let few = so_far-few (c.pieces.invariant.stands (given (g.D.Desk.reads c.pieces.desk) c.args.name.now) (itself (given (g.D.Desk.reads c.pieces.desk) c.args.name.now) false)) in omega (arith, few.1)

-- what is taken of the bytes that were read, and what isn't
parted : (buffer : List ℕ) (count taken : ℕ) → taken ≤ count → take count buffer ≡ take taken buffer ++ drop taken (take count buffer)
parted buffer count taken le = sym (take-append-drop taken (take count buffer)) ∙ ap (λ bs. bs ++ drop taken (take count buffer)) (take-take taken count buffer le)

pub returns-in_err-take_piece-clause-outcome : goal.returns-in_err-take_piece-clause-outcome
returns-in_err-take_piece-clause-outcome g c = λ text is.
    let mid = given (g.D.Desk.reads c.pieces.desk) c.args.name.now in
    let piece = take c.in-Ok.count c.read_piece.new.piece in
    let read = consumes is mid piece c.in-Ok.ensures.gives.0 in
    let stands = c.pieces.invariant.stands text (before is mid piece c.in-Ok.ensures.gives.0) in
    let middle = left_in text mid in
    let left = left_in text (given (g.D.Desk.reads c.read_piece.new.desk) c.args.name.now) in
    let buffer = c.read_piece.new.piece in
    let count = c.in-Ok.count in
    let taken = c.min-taken.result in
    let parts = parted buffer count taken (omega (arith, c.min-taken.ensures)) in
    let long = length-take-le taken buffer (omega (arith, c.min-taken.ensures, c.in-Ok.ensures.within)) in
    let error = c.in_err-take_piece.field-0.0 in
    let residual = c.from_residual-in_err-take_piece in
    rw (handed_on error residual.result residual.ensures.1)
    (ends_in_piece (take taken buffer) (drop taken (take count buffer)) left error stands (subst (TakesFront middle left) parts read) (omega (arith, long, c.min-taken.ensures))
    c.in_err-take_piece.ensures.puts c.in_err-take_piece.ensures.stops)

pub returns-then-count-taken-clause-outcome : goal.returns-then-count-taken-clause-outcome
returns-then-count-taken-clause-outcome g c = λ text is.
    let mid = given (g.D.Desk.reads c.pieces.desk) c.args.name.now in
    let piece = take c.in-Ok.count c.read_piece.new.piece in
    let read = consumes is mid piece c.in-Ok.ensures.gives.0 in
    let stands = c.pieces.invariant.stands text (before is mid piece c.in-Ok.ensures.gives.0) in
    let middle = left_in text mid in
    let left = left_in text (given (g.D.Desk.reads c.read_piece.new.desk) c.args.name.now) in
    let buffer = c.read_piece.new.piece in
    let count = c.in-Ok.count in
    let taken = c.min-taken.result in
    let extra = drop taken (take count buffer) in
    let parts = parted buffer count taken (omega (arith, c.min-taken.ensures)) in
    let long = length-take-le taken buffer (omega (arith, c.min-taken.ensures, c.in-Ok.ensures.within)) in
    let consumed = consumes-first middle left (take taken buffer) extra (subst (TakesFront middle left) parts read) in
    let ensured = c.in_ok-take_piece.ensures in
    ends_long (left_in text (given (g.D.Desk.reads c.args.desk.now) c.args.name.now)) left extra
    (so_far-next c.take_piece.new.self (extra ++ left) (take taken buffer) 0 stands consumed (omega (arith, long, c.min-taken.ensures, c.if-count-taken.true))
    ensured.puts ensured.moved ensured.rest ensured.unfinished)
    (omega (arith, length-drop taken (take count buffer), length-take-le count buffer c.in-Ok.ensures.within, c.if-count-taken.true))

pub pieces-preserved : goal.pieces-preserved
pieces-preserved g c = record {
  tries = let w = g.K.Sink.written in taken-then (w c.args.out.now) (w c.take_piece.new.out) (w c.flush.new.sink) (taken-then (w c.args.out.now) (w c.pieces.out) (w c.take_piece.new.out) c.pieces.invariant.tries c.in_ok-take_piece.ensures.puts.tries) c.in_ok-flush.ensures.whole.tries;
  turn = gives_piece c.args.name.now (g.D.Desk.reads c.args.desk.now) (g.D.Desk.reads c.pieces.desk) (g.D.Desk.reads c.read_piece.new.desk) c.in-Ok.count c.read_piece.new.piece c.pieces.invariant.turn c.in-Ok.ensures.added (grind (arith, c.if-count-eq0.false)) c.in-Ok.ensures.within;
  stands = λ text is.
      let mid = given (g.D.Desk.reads c.pieces.desk) c.args.name.now in
      let piece = take c.in-Ok.count c.read_piece.new.piece in
      let left = left_in text (given (g.D.Desk.reads c.read_piece.new.desk) c.args.name.now) in
      let buffer = c.read_piece.new.piece in
      let taken = c.min-taken.result in
      let same : c.in-Ok.count ≡ taken = omega (arith, c.min-taken.ensures, c.if-count-taken.false) in
      let long = length-take-le taken buffer (omega (arith, c.min-taken.ensures, c.in-Ok.ensures.within)) in
      let consumed = subst (λ n. TakesFront (left_in text mid) left (take n buffer)) same (consumes is mid piece c.in-Ok.ensures.gives.0) in
      let ensured = c.in_ok-take_piece.ensures in
      let taken_so = so_far-next c.take_piece.new.self left (take taken buffer) (c.pieces.room - taken) (c.pieces.invariant.stands text (before is mid piece c.in-Ok.ensures.gives.0)) consumed (omega (arith, long, c.min-taken.ensures))
      ensured.puts ensured.moved ensured.rest ensured.unfinished in
      so_far-flushed c.flush.new.sink c.flush.new.self c.in_ok-flush.ensures.none taken_so c.in_ok-flush.ensures.whole.ok c.in_ok-flush.ensures.whole.calm;
  calm = c.in_ok-flush.ensures.whole.calm ∙ c.in_ok-take_piece.ensures.puts.calm ∙ c.pieces.invariant.calm;
  unfinished = c.in_ok-take_piece.ensures.unfinished;
  none = c.in_ok-flush.ensures.none;
  others = search rules;
  counts = search rules;
  none_failed = search rules;
}

pub returns-in_default-clause-near : goal.returns-in_default-clause-near
returns-in_default-clause-near g c = λ text is.
    let mid = given (g.D.Desk.reads c.pieces.desk) c.args.name.now in
    let stands = c.pieces.invariant.stands text (before is mid [] (c.in_default.ensures.gives.0 ∙ sym (append-nil mid))) in
    let kept = ap (λ bytes. drop (length bytes) text) c.in_default.ensures.gives.0 in
    near-kept (left_in text (given (g.D.Desk.reads c.read_piece.new.desk) c.args.name.now)) 65536 stands kept

pub returns-in_err-take_kept-clause-near : goal.returns-in_err-take_kept-clause-near
returns-in_err-take_kept-clause-near g c = λ text is.
    let mid = given (g.D.Desk.reads c.pieces.desk) c.args.name.now in
    let piece = take c.in-Ok.count c.read_piece.new.piece in
    let read = consumes is mid piece c.in-Ok.ensures.gives.0 in
    let stands = c.pieces.invariant.stands text (before is mid piece c.in-Ok.ensures.gives.0) in
    near-piece (left_in text (given (g.D.Desk.reads c.read_piece.new.desk) c.args.name.now)) piece 65536 stands read
    (search rules)

pub returns-then-count-eq0-clause-near : goal.returns-then-count-eq0-clause-near
returns-then-count-eq0-clause-near g c = λ text is.
    let mid = given (g.D.Desk.reads c.pieces.desk) c.args.name.now in
    let piece = take c.in-Ok.count c.read_piece.new.piece in
    let read = consumes is mid piece c.in-Ok.ensures.gives.0 in
    let stands = c.pieces.invariant.stands text (before is mid piece c.in-Ok.ensures.gives.0) in
    near-piece (left_in text (given (g.D.Desk.reads c.read_piece.new.desk) c.args.name.now)) piece 65536 stands read
    (search rules)

pub returns-in_err-take_piece-clause-near : goal.returns-in_err-take_piece-clause-near
returns-in_err-take_piece-clause-near g c = λ text is.
    let mid = given (g.D.Desk.reads c.pieces.desk) c.args.name.now in
    let piece = take c.in-Ok.count c.read_piece.new.piece in
    let read = consumes is mid piece c.in-Ok.ensures.gives.0 in
    let stands = c.pieces.invariant.stands text (before is mid piece c.in-Ok.ensures.gives.0) in
    near-piece (left_in text (given (g.D.Desk.reads c.read_piece.new.desk) c.args.name.now)) piece 65536 stands read
    (search rules)

pub returns-then-count-taken-clause-near : goal.returns-then-count-taken-clause-near
returns-then-count-taken-clause-near g c = λ text is.
    let mid = given (g.D.Desk.reads c.pieces.desk) c.args.name.now in
    let piece = take c.in-Ok.count c.read_piece.new.piece in
    let read = consumes is mid piece c.in-Ok.ensures.gives.0 in
    let stands = c.pieces.invariant.stands text (before is mid piece c.in-Ok.ensures.gives.0) in
    near-piece (left_in text (given (g.D.Desk.reads c.read_piece.new.desk) c.args.name.now)) piece 65536 stands read
    (search rules)

pub returns-in_default-clause-paced : goal.returns-in_default-clause-paced
returns-in_default-clause-paced g c = λ text is.
    let mid = given (g.D.Desk.reads c.pieces.desk) c.args.name.now in
    let stands = c.pieces.invariant.stands text (before is mid [] (c.in_default.ensures.gives.0 ∙ sym (append-nil mid))) in
    let kept = ap (λ bytes. drop (length bytes) text) c.in_default.ensures.gives.0 in
    paced-kept (left_in text (given (g.D.Desk.reads c.read_piece.new.desk) c.args.name.now)) c.requires.none c.pieces.invariant.none stands kept

pub returns-in_err-take_kept-clause-paced : goal.returns-in_err-take_kept-clause-paced
returns-in_err-take_kept-clause-paced g c = λ text is.
    let mid = given (g.D.Desk.reads c.pieces.desk) c.args.name.now in
    let piece = take c.in-Ok.count c.read_piece.new.piece in
    let read = consumes is mid piece c.in-Ok.ensures.gives.0 in
    let stands = c.pieces.invariant.stands text (before is mid piece c.in-Ok.ensures.gives.0) in
    let more = grown _ c.in_err-take_kept.ensures.puts in
    paced c.take_kept.new.out (left_in text (given (g.D.Desk.reads c.read_piece.new.desk) c.args.name.now)) piece more.0 c.requires.none c.pieces.invariant.none stands read (search rules) more.1

pub returns-then-count-eq0-clause-paced : goal.returns-then-count-eq0-clause-paced
returns-then-count-eq0-clause-paced g c = λ text is.
    let mid = given (g.D.Desk.reads c.pieces.desk) c.args.name.now in
    let piece = take c.in-Ok.count c.read_piece.new.piece in
    let read = consumes is mid piece c.in-Ok.ensures.gives.0 in
    let stands = c.pieces.invariant.stands text (before is mid piece c.in-Ok.ensures.gives.0) in
    let more = grown _ c.in_ok-take_kept.ensures.puts in
    paced c.take_kept.new.out (left_in text (given (g.D.Desk.reads c.read_piece.new.desk) c.args.name.now)) piece more.0 c.requires.none c.pieces.invariant.none stands read (search rules) more.1

pub returns-in_err-take_piece-clause-paced : goal.returns-in_err-take_piece-clause-paced
returns-in_err-take_piece-clause-paced g c = λ text is.
    let mid = given (g.D.Desk.reads c.pieces.desk) c.args.name.now in
    let piece = take c.in-Ok.count c.read_piece.new.piece in
    let read = consumes is mid piece c.in-Ok.ensures.gives.0 in
    let stands = c.pieces.invariant.stands text (before is mid piece c.in-Ok.ensures.gives.0) in
    let more = grown _ c.in_err-take_piece.ensures.puts in
    paced c.take_piece.new.out (left_in text (given (g.D.Desk.reads c.read_piece.new.desk) c.args.name.now)) piece more.0 c.requires.none c.pieces.invariant.none stands read (search rules) more.1

pub returns-then-count-taken-clause-paced : goal.returns-then-count-taken-clause-paced
returns-then-count-taken-clause-paced g c = λ text is.
    let mid = given (g.D.Desk.reads c.pieces.desk) c.args.name.now in
    let piece = take c.in-Ok.count c.read_piece.new.piece in
    let read = consumes is mid piece c.in-Ok.ensures.gives.0 in
    let stands = c.pieces.invariant.stands text (before is mid piece c.in-Ok.ensures.gives.0) in
    let more = grown _ c.in_ok-take_piece.ensures.puts in
    paced c.take_piece.new.out (left_in text (given (g.D.Desk.reads c.read_piece.new.desk) c.args.name.now)) piece more.0 c.requires.none c.pieces.invariant.none stands read (search rules) more.1

pub returns-in_err-flush-clause-near : goal.returns-in_err-flush-clause-near
returns-in_err-flush-clause-near g c = λ text is.
    let mid = given (g.D.Desk.reads c.pieces.desk) c.args.name.now in
    let piece = take c.in-Ok.count c.read_piece.new.piece in
    let read = consumes is mid piece c.in-Ok.ensures.gives.0 in
    let stands = c.pieces.invariant.stands text (before is mid piece c.in-Ok.ensures.gives.0) in
    near-piece (left_in text (given (g.D.Desk.reads c.read_piece.new.desk) c.args.name.now)) piece 65536 stands read
    (search rules)

pub returns-in_err-flush-clause-paced : goal.returns-in_err-flush-clause-paced
returns-in_err-flush-clause-paced g c = λ text is.
    let mid = given (g.D.Desk.reads c.pieces.desk) c.args.name.now in
    let piece = take c.in-Ok.count c.read_piece.new.piece in
    let read = consumes is mid piece c.in-Ok.ensures.gives.0 in
    let stands = c.pieces.invariant.stands text (before is mid piece c.in-Ok.ensures.gives.0) in
    let more = grown _ c.in_ok-take_piece.ensures.puts in
    let before_it = paced c.take_piece.new.out (left_in text (given (g.D.Desk.reads c.read_piece.new.desk) c.args.name.now)) piece more.0 c.requires.none c.pieces.invariant.none stands read (search rules) more.1 in
    let front = c.in_err-flush.ensures.whole.err in
    paced-more g.K.Sink.written c.args.out.now c.take_piece.new.out c.flush.new.sink front.1.0 before_it front.1.1

pub returns-in_err-flush-clause-outcome : goal.returns-in_err-flush-clause-outcome
returns-in_err-flush-clause-outcome g c = λ text is.
    let mid = given (g.D.Desk.reads c.pieces.desk) c.args.name.now in
    let piece = take c.in-Ok.count c.read_piece.new.piece in
    let read = consumes is mid piece c.in-Ok.ensures.gives.0 in
    let stands = c.pieces.invariant.stands text (before is mid piece c.in-Ok.ensures.gives.0) in
    let start = left_in text (given (g.D.Desk.reads c.args.desk.now) c.args.name.now) in
    let middle = left_in text mid in
    let left = left_in text (given (g.D.Desk.reads c.read_piece.new.desk) c.args.name.now) in
    let buffer = c.read_piece.new.piece in
    let names = c.args.names.now in
    let slots = g.V.Device.held c.args.device.now in
    let taken = c.min-taken.result in
    let same : c.in-Ok.count ≡ taken = omega (arith, c.min-taken.ensures, c.if-count-taken.false) in
    let long = length-take-le taken buffer (omega (arith, c.min-taken.ensures, c.in-Ok.ensures.within)) in
    let consumed = subst (λ n. TakesFront middle left (take n buffer)) same read in
    let ensured = c.in_ok-take_piece.ensures in
    let taken_so = so_far-next c.take_piece.new.self left (take taken buffer) (c.pieces.room - taken) stands consumed (omega (arith, long, c.min-taken.ensures))
    ensured.puts ensured.moved ensured.rest ensured.unfinished in
    rw (handed_on errors.WriteFault c.from_residual-in_err-flush.result c.from_residual-in_err-flush.ensures.1)
    (subst (λ t. AppendsFront (g.K.Sink.written c.args.out.now) (g.K.Sink.written c.flush.new.sink) (t ++ answers_text names slots (trace_within 67108864 start).headers)) (sym c.requires.none)
    (unflushed g.K.Sink.written c.args.out.now c.take_piece.new.out c.flush.new.sink c.args.pending.now c.take_piece.new.pending names slots 67108864 start left (Err errors.ReadFault) c.requires.none refl
    c.in_err-flush.ensures.whole.err (ends_fault left taken_so refl)))

pub returns-in_err-take_kept-clause-turn : goal.returns-in_err-take_kept-clause-turn
returns-in_err-take_kept-clause-turn g c =
    let reads = g.D.Desk.reads in let name = c.args.name.now in
    let error = c.in_err-take_kept.field-0.0 in
    rw (handed_on error c.from_residual.result c.from_residual.ensures.1)
    (ends_behind ℕ name (reads c.args.desk.now) (reads c.read_piece.new.desk) error (last_trace c.pieces.progress).bad c.in_err-take_kept.ensures.stops (ends name (reads c.args.desk.now) (reads c.pieces.desk) (reads c.read_piece.new.desk) (outcome_of (take c.in-Ok.count c.read_piece.new.piece)) c.pieces.invariant.turn c.in-Ok.ensures.added (ap (λ (n : ℕ). outcome_of (take n c.read_piece.new.piece)) c.if-count-eq0.true)))

pub returns-in_err-take_piece-clause-turn : goal.returns-in_err-take_piece-clause-turn
returns-in_err-take_piece-clause-turn g c =
    let reads = g.D.Desk.reads in let name = c.args.name.now in
    let error = c.in_err-take_piece.field-0.0 in
    let residual = c.from_residual-in_err-take_piece in
    rw (handed_on error residual.result residual.ensures.1)
    (ends_before ℕ name (reads c.args.desk.now) (reads c.read_piece.new.desk) error (next_trace c.pieces.progress (take c.min-taken.result c.read_piece.new.piece)).bad c.in_err-take_piece.ensures.stops (gives_piece name (reads c.args.desk.now) (reads c.pieces.desk) (reads c.read_piece.new.desk) c.in-Ok.count c.read_piece.new.piece c.pieces.invariant.turn c.in-Ok.ensures.added (grind (arith, c.if-count-eq0.false)) c.in-Ok.ensures.within))

pub returns-then-count-taken-clause-turn : goal.returns-then-count-taken-clause-turn
returns-then-count-taken-clause-turn g c =
    let reads = g.D.Desk.reads in let name = c.args.name.now in
    gives_piece name (reads c.args.desk.now) (reads c.pieces.desk) (reads c.read_piece.new.desk) c.in-Ok.count c.read_piece.new.piece c.pieces.invariant.turn c.in-Ok.ensures.added (grind (arith, c.if-count-eq0.false)) c.in-Ok.ensures.within

pub returns-in_err-flush-clause-turn : goal.returns-in_err-flush-clause-turn
returns-in_err-flush-clause-turn g c =
    let reads = g.D.Desk.reads in let name = c.args.name.now in
    let residual = c.from_residual-in_err-flush in
    rw (handed_on errors.WriteFault residual.result residual.ensures.1)
    (ends_before ℕ name (reads c.args.desk.now) (reads c.read_piece.new.desk) errors.WriteFault None tt (gives_piece name (reads c.args.desk.now) (reads c.pieces.desk) (reads c.read_piece.new.desk) c.in-Ok.count c.read_piece.new.piece c.pieces.invariant.turn c.in-Ok.ensures.added (grind (arith, c.if-count-eq0.false)) c.in-Ok.ensures.within))

pub returns-in_err-take_kept-clause-tries : goal.returns-in_err-take_kept-clause-tries
returns-in_err-take_kept-clause-tries g c =
    let w = g.K.Sink.written in
    let error = c.in_err-take_kept.field-0.0 in
    rw (handed_on error c.from_residual.result c.from_residual.ensures.1)
    (tried-then (Unit {0}) ℕ (w c.args.out.now) (w c.pieces.out) (w c.take_kept.new.out) error c.pieces.invariant.tries c.in_err-take_kept.ensures.puts.tries)

pub returns-then-count-eq0-clause-tries : goal.returns-then-count-eq0-clause-tries
returns-then-count-eq0-clause-tries g c =
    let w = g.K.Sink.written in
    taken-then (w c.args.out.now) (w c.pieces.out) (w c.take_kept.new.out) c.pieces.invariant.tries c.in_ok-take_kept.ensures.puts.tries

pub returns-in_err-take_piece-clause-tries : goal.returns-in_err-take_piece-clause-tries
returns-in_err-take_piece-clause-tries g c =
    let w = g.K.Sink.written in
    let error = c.in_err-take_piece.field-0.0 in
    let residual = c.from_residual-in_err-take_piece in
    rw (handed_on error residual.result residual.ensures.1)
    (tried-then (Unit {0}) ℕ (w c.args.out.now) (w c.pieces.out) (w c.take_piece.new.out) error c.pieces.invariant.tries c.in_err-take_piece.ensures.puts.tries)

pub returns-then-count-taken-clause-tries : goal.returns-then-count-taken-clause-tries
returns-then-count-taken-clause-tries g c =
    let w = g.K.Sink.written in
    taken-then (w c.args.out.now) (w c.pieces.out) (w c.take_piece.new.out) c.pieces.invariant.tries c.in_ok-take_piece.ensures.puts.tries

pub returns-in_err-flush-clause-tries : goal.returns-in_err-flush-clause-tries
returns-in_err-flush-clause-tries g c =
    let w = g.K.Sink.written in
    let residual = c.from_residual-in_err-flush in
    rw (handed_on errors.WriteFault residual.result residual.ensures.1)
    (refused-then (w c.args.out.now) (w c.take_piece.new.out) (w c.flush.new.sink) (taken-then (w c.args.out.now) (w c.pieces.out) (w c.take_piece.new.out) c.pieces.invariant.tries c.in_ok-take_piece.ensures.puts.tries) c.in_err-flush.ensures.whole.tries)

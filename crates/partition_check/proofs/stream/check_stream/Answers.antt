use Rattle.razor_base.specs.Headline.Outcomes.{outcome_of}
use Rattle.razor_base.proofs.Turns.{begun, ends, gives_piece}
use Rattle.partition_check.proofs.StreamTurns.{at_its_end, before_its_end, decided}
use Rattle.razor_base.specs.Headline.Readings.{given}
use Rattle.std.proofs.Common.{◌≡◌, ◌++◌, [], false, append-nil, ◌∙◌, ◌+◌, ℕ, drop, take, ap, sym, arith, rules, length, length-take, length-drop}
use Rattle.razor_base.specs.Texts.{left_in}
use Rattle.razor_base.proofs.Coming.{at_end, before, consumes, itself}
use Rattle.partition_check.specs.declared.row.Wrong.{Wrong}
use Rattle.partition_check.specs.Agreement.{Agree, HaveNames}
use Rattle.partition_check.specs.Streams.{ReadsWrong}
use Rattle.partition_check.proofs.NamedReasons.{end-named, wrong-named}
use Rattle.partition_check.proofs.Streaming.{none-read, rows-read, end-well, as-given, faulted, goes-on, end-valid, end-wrong, piece-wrong, piece-past, piece-taken, told}
use Rattle.partition_check.proofs.NearLimit.{near-start, near-limit, near-kept, near-piece}
use Rattle.razor_base.proofs.Writing.{rose-later}
use Rattle.partition_check.proofs.stream.check_stream.Goals as goal

pub pieces-init : goal.pieces-init
pieces-init g c = record {
  turn = begun c.args.name.now (g.D.Desk.reads c.args.desk.now);
  read = λ text is. none-read c.args.checker 268435456 (take c.args.read c.args.buffer.now ++ left_in text (given (g.D.Desk.reads c.args.desk.now) c.args.name.now));
  near = near-start 268435456 c.args.read (given (g.D.Desk.reads c.args.desk.now) c.args.name.now);
  few = omega arith;
  fits = omega (arith, c.requires.read);
  others = search rules;
  counts = search rules;
  calm = search rules;
}

pub take_lines-requires : goal.take_lines-requires
take_lines-requires g c =
    let mid = given (g.D.Desk.reads c.pieces.desk) c.args.name.now in
    let read = c.pieces.invariant.read mid (itself mid false) in
    omega (arith, rows-read read c.requires.rows, length-take (c.pieces.kept + c.pieces.room) c.pieces.buffer, c.pieces.invariant.few)

pub take_lines-requires-in-pieces : goal.take_lines-requires-in-pieces
take_lines-requires-in-pieces g c =
    let mid = given (g.D.Desk.reads c.pieces.desk) c.args.name.now in
    let read = c.pieces.invariant.read mid (itself mid false) in
    omega (arith, rows-read read c.requires.rows, length-take (c.pieces.kept + c.pieces.count) c.pieces.buffer, c.pieces.invariant.few, c.if-count-room.false)

pub returns-in_err-_rest-clause-wrong : goal.returns-in_err-_rest-clause-wrong
returns-in_err-_rest-clause-wrong g c = λ text is.
    let mid = given (g.D.Desk.reads c.pieces.desk) c.args.name.now in
    let read = c.pieces.invariant.read text (before is mid [] (sym (append-nil mid))) in
    told c.from_residual.result _ (λ (x : Wrong). ReadsWrong c.args.checker 268435456 (take c.args.read c.args.buffer.now ++ left_in text (given (g.D.Desk.reads c.args.desk.now) c.args.name.now)) x) c.from_residual.ensures.1
    (piece-wrong (left_in text mid) c.pieces.kept c.pieces.count c.pieces.buffer read c.pieces.room _ (omega (arith, c.if-count-room.true)) (omega arith) c.in_err-_rest.ensures.err)

pub returns-in_err-_rest-clause-named : goal.returns-in_err-_rest-clause-named
returns-in_err-_rest-clause-named g c =
    let mid = given (g.D.Desk.reads c.pieces.desk) c.args.name.now in
    let read = c.pieces.invariant.read mid (itself mid false) in
    told c.from_residual.result _ (λ (x : Wrong). HaveNames c.args.checker.list c.args.checker.table x.why) c.from_residual.ensures.1
    (wrong-named read _ _ c.in_err-_rest.ensures.err)

pub returns-in_err-_rest-clause-near : goal.returns-in_err-_rest-clause-near
returns-in_err-_rest-clause-near g c = λ text is. near-limit c.pieces.invariant.near (length c.args.buffer.now) (omega (arith, c.pieces.invariant.fits)) is

pub returns-in_err-_rest-clause-turn : goal.returns-in_err-_rest-clause-turn
returns-in_err-_rest-clause-turn g c =
    let reads = g.D.Desk.reads in let name = c.args.name.now in
    let r = c.from_residual in
    decided ℕ name (reads c.args.desk.now) (reads c.pieces.desk) c.in_err-_rest.field-0.0 r.result r.ensures.1 (before_its_end name (reads c.args.desk.now) (reads c.pieces.desk) c.pieces.invariant.turn)

pub returns-then-count-room-clause-too_long : goal.returns-then-count-room-clause-too_long
returns-then-count-room-clause-too_long g c = λ text is long.
    let mid = given (g.D.Desk.reads c.pieces.desk) c.args.name.now in
    let read = c.pieces.invariant.read text (before is mid [] (sym (append-nil mid))) in
    piece-past (left_in text mid) c.pieces.kept c.pieces.count c.pieces.buffer read _ c.pieces.invariant.fits c.if-count-room.true c.in_ok-_rest.ensures.takes

pub returns-then-count-room-clause-near : goal.returns-then-count-room-clause-near
returns-then-count-room-clause-near g c = λ text is. near-limit c.pieces.invariant.near (length c.args.buffer.now) (omega (arith, c.pieces.invariant.fits)) is

pub returns-in_err-start-clause-wrong : goal.returns-in_err-start-clause-wrong
returns-in_err-start-clause-wrong g c = λ text is.
    let mid = given (g.D.Desk.reads c.pieces.desk) c.args.name.now in
    let read = c.pieces.invariant.read text (before is mid [] (sym (append-nil mid))) in
    told c.from_residual-in_err-start.result _ (λ (x : Wrong). ReadsWrong c.args.checker 268435456 (take c.args.read c.args.buffer.now ++ left_in text (given (g.D.Desk.reads c.args.desk.now) c.args.name.now)) x) c.from_residual-in_err-start.ensures.1
    (piece-wrong (left_in text mid) c.pieces.kept c.pieces.count c.pieces.buffer read c.pieces.count _ (omega arith) c.if-count-room.false c.in_err-start.ensures.err)

pub returns-in_err-start-clause-named : goal.returns-in_err-start-clause-named
returns-in_err-start-clause-named g c =
    let mid = given (g.D.Desk.reads c.pieces.desk) c.args.name.now in
    let read = c.pieces.invariant.read mid (itself mid false) in
    told c.from_residual-in_err-start.result _ (λ (x : Wrong). HaveNames c.args.checker.list c.args.checker.table x.why) c.from_residual-in_err-start.ensures.1
    (wrong-named read _ _ c.in_err-start.ensures.err)

pub returns-in_err-start-clause-near : goal.returns-in_err-start-clause-near
returns-in_err-start-clause-near g c = λ text is. near-limit c.pieces.invariant.near (length c.args.buffer.now) (omega (arith, c.pieces.invariant.fits)) is

pub returns-in_err-start-clause-turn : goal.returns-in_err-start-clause-turn
returns-in_err-start-clause-turn g c =
    let reads = g.D.Desk.reads in let name = c.args.name.now in
    let r = c.from_residual-in_err-start in
    decided ℕ name (reads c.args.desk.now) (reads c.pieces.desk) c.in_err-start.field-0.0 r.result r.ensures.1 (before_its_end name (reads c.args.desk.now) (reads c.pieces.desk) c.pieces.invariant.turn)

pub returns-in_err-count-clause-fault : goal.returns-in_err-count-clause-fault
returns-in_err-count-clause-fault g c = λ text is failed.
    let mid = given (g.D.Desk.reads c.pieces.desk) c.args.name.now in
    let read = piece-taken (left_in text mid) c.pieces.kept c.pieces.count c.pieces.buffer (c.pieces.invariant.read text (before is mid [] (c.in_err-count.ensures.failed.1 ∙ sym (append-nil mid)))) _ _ c.pieces.invariant.fits c.if-count-room.false c.in_ok-start.ensures.takes (c.keep-kept.ensures.kept ∙ ap (take 129) c.in_ok-start.ensures.start.1) in (
      rose-later _ _ _ (c.pieces.invariant.counts c.args.name.now) c.in_err-count.ensures.failed.0,
      faulted read (left_in text (given (g.D.Desk.reads c.read_behind.new.desk) c.args.name.now)) (ap (λ bytes. drop (length bytes) text) c.in_err-count.ensures.failed.1),
    )

pub returns-in_err-count-clause-near : goal.returns-in_err-count-clause-near
returns-in_err-count-clause-near g c = λ text is. near-limit (near-kept c.pieces.invariant.near _ c.if-count-room.false c.in_err-count.ensures.failed.1) (length c.args.buffer.now) (omega arith) is

pub end-requires-clause-rows : goal.end-requires-clause-rows
end-requires-clause-rows g c =
    let mid = given (g.D.Desk.reads c.pieces.desk) c.args.name.now in
    let read = piece-taken (left_in mid mid) c.pieces.kept c.pieces.count c.pieces.buffer (c.pieces.invariant.read mid (itself mid false)) _ _ c.pieces.invariant.fits c.if-count-room.false c.in_ok-start.ensures.takes (c.keep-kept.ensures.kept ∙ ap (take 129) c.in_ok-start.ensures.start.1) in
    omega (arith, rows-read read c.requires.rows)

pub end-requires-clause-well : goal.end-requires-clause-well
end-requires-clause-well g c =
    let mid = given (g.D.Desk.reads c.pieces.desk) c.args.name.now in
    let read = piece-taken (left_in mid mid) c.pieces.kept c.pieces.count c.pieces.buffer (c.pieces.invariant.read mid (itself mid false)) _ _ c.pieces.invariant.fits c.if-count-room.false c.in_ok-start.ensures.takes (c.keep-kept.ensures.kept ∙ ap (take 129) c.in_ok-start.ensures.start.1) in
    end-well read

pub returns-in_err-rows-clause-wrong : goal.returns-in_err-rows-clause-wrong
returns-in_err-rows-clause-wrong g c = λ text is.
    let mid = given (g.D.Desk.reads c.pieces.desk) c.args.name.now in
    let after = left_in text (given (g.D.Desk.reads c.read_behind.new.desk) c.args.name.now) in
    let piece = take c.in_ok-count.count (drop c.keep-kept.result c.read_behind.new.buffer) in
    let read = piece-taken (left_in text mid) c.pieces.kept c.pieces.count c.pieces.buffer (c.pieces.invariant.read text (before is mid piece c.in_ok-count.ensures.bytes.0)) _ _ c.pieces.invariant.fits c.if-count-room.false c.in_ok-start.ensures.takes (c.keep-kept.ensures.kept ∙ ap (take 129) c.in_ok-start.ensures.start.1) in
    let moved = consumes is mid piece c.in_ok-count.ensures.bytes.0 in
    told c.from_residual-in_err-rows.result _ (λ (x : Wrong). ReadsWrong c.args.checker 268435456 (take c.args.read c.args.buffer.now ++ left_in text (given (g.D.Desk.reads c.args.desk.now) c.args.name.now)) x) c.from_residual-in_err-rows.ensures.1
    (end-wrong read after piece moved (ap (λ n. take n (drop c.keep-kept.result c.read_behind.new.buffer)) c.if-count-eq0.true) (at_end is (c.in_ok-count.ensures.bytes.1 c.if-count-eq0.true)) _ _ c.in_ok-count.ensures.kept c.in_err-rows.ensures.err)

pub returns-in_err-rows-clause-named : goal.returns-in_err-rows-clause-named
returns-in_err-rows-clause-named g c =
    let mid = given (g.D.Desk.reads c.pieces.desk) c.args.name.now in
    let read = piece-taken (left_in mid mid) c.pieces.kept c.pieces.count c.pieces.buffer (c.pieces.invariant.read mid (itself mid false)) _ _ c.pieces.invariant.fits c.if-count-room.false c.in_ok-start.ensures.takes (c.keep-kept.ensures.kept ∙ ap (take 129) c.in_ok-start.ensures.start.1) in
    told c.from_residual-in_err-rows.result _ (λ (x : Wrong). HaveNames c.args.checker.list c.args.checker.table x.why) c.from_residual-in_err-rows.ensures.1
    (end-named read _ _ c.in_err-rows.ensures.err)

pub returns-in_err-rows-clause-near : goal.returns-in_err-rows-clause-near
returns-in_err-rows-clause-near g c = λ text is.
    near-limit (near-piece c.pieces.invariant.near _ _ c.in_ok-count.count c.if-count-room.false c.in_ok-count.ensures.bytes.0 (omega (arith, length-take c.in_ok-count.count (drop c.keep-kept.result c.read_behind.new.buffer)))) (length c.args.buffer.now)
    (let long : length c.read_behind.new.buffer ≡ length c.args.buffer.now = search rules in omega (arith, long, c.in_ok-count.ensures.bytes.2)) is

pub returns-in_err-rows-clause-turn : goal.returns-in_err-rows-clause-turn
returns-in_err-rows-clause-turn g c =
    let reads = g.D.Desk.reads in let name = c.args.name.now in
    let r = c.from_residual-in_err-rows in
    decided ℕ name (reads c.args.desk.now) (reads c.read_behind.new.desk) c.in_err-rows.field-0.0 r.result r.ensures.1 (at_its_end name (reads c.args.desk.now) (reads c.read_behind.new.desk) (ends name (reads c.args.desk.now) (reads c.pieces.desk) (reads c.read_behind.new.desk) (outcome_of (take c.in_ok-count.count (drop c.keep-kept.result c.read_behind.new.buffer))) c.pieces.invariant.turn c.in_ok-count.ensures.added (ap (λ (n : ℕ). outcome_of (take n (drop c.keep-kept.result c.read_behind.new.buffer))) c.if-count-eq0.true)))

pub returns-then-count-eq0-clause-valid : goal.returns-then-count-eq0-clause-valid
returns-then-count-eq0-clause-valid g c = λ text is.
    let mid = given (g.D.Desk.reads c.pieces.desk) c.args.name.now in
    let after = left_in text (given (g.D.Desk.reads c.read_behind.new.desk) c.args.name.now) in
    let piece = take c.in_ok-count.count (drop c.keep-kept.result c.read_behind.new.buffer) in
    let read = piece-taken (left_in text mid) c.pieces.kept c.pieces.count c.pieces.buffer (c.pieces.invariant.read text (before is mid piece c.in_ok-count.ensures.bytes.0)) _ _ c.pieces.invariant.fits c.if-count-room.false c.in_ok-start.ensures.takes (c.keep-kept.ensures.kept ∙ ap (take 129) c.in_ok-start.ensures.start.1) in
    let moved = consumes is mid piece c.in_ok-count.ensures.bytes.0 in
    end-valid read after piece moved (ap (λ n. take n (drop c.keep-kept.result c.read_behind.new.buffer)) c.if-count-eq0.true) (at_end is (c.in_ok-count.ensures.bytes.1 c.if-count-eq0.true)) _ c.in_ok-rows.ensures.ok.0 (sym c.in_ok-count.ensures.kept ∙ c.in_ok-rows.ensures.ok.1)

pub returns-then-count-eq0-clause-agree : goal.returns-then-count-eq0-clause-agree
returns-then-count-eq0-clause-agree g c =
    let mid = given (g.D.Desk.reads c.pieces.desk) c.args.name.now in
    let read = piece-taken (left_in mid mid) c.pieces.kept c.pieces.count c.pieces.buffer (c.pieces.invariant.read mid (itself mid false)) _ _ c.pieces.invariant.fits c.if-count-room.false c.in_ok-start.ensures.takes (c.keep-kept.ensures.kept ∙ ap (take 129) c.in_ok-start.ensures.start.1) in
    as-given read Agree c.in_ok-rows.ensures.agree

pub returns-then-count-eq0-clause-near : goal.returns-then-count-eq0-clause-near
returns-then-count-eq0-clause-near g c = λ text is.
    near-limit (near-piece c.pieces.invariant.near _ _ c.in_ok-count.count c.if-count-room.false c.in_ok-count.ensures.bytes.0 (omega (arith, length-take c.in_ok-count.count (drop c.keep-kept.result c.read_behind.new.buffer)))) (length c.args.buffer.now)
    (let long : length c.read_behind.new.buffer ≡ length c.args.buffer.now = search rules in omega (arith, long, c.in_ok-count.ensures.bytes.2)) is

pub returns-then-count-eq0-clause-turn : goal.returns-then-count-eq0-clause-turn
returns-then-count-eq0-clause-turn g c =
    let reads = g.D.Desk.reads in let name = c.args.name.now in
    ends name (reads c.args.desk.now) (reads c.pieces.desk) (reads c.read_behind.new.desk) (outcome_of (take c.in_ok-count.count (drop c.keep-kept.result c.read_behind.new.buffer))) c.pieces.invariant.turn c.in_ok-count.ensures.added (ap (λ (n : ℕ). outcome_of (take n (drop c.keep-kept.result c.read_behind.new.buffer))) c.if-count-eq0.true)

pub pieces-preserved : goal.pieces-preserved
pieces-preserved g c = record {
  turn = let reads = g.D.Desk.reads in let name = c.args.name.now in gives_piece name (reads c.args.desk.now) (reads c.pieces.desk) (reads c.read_behind.new.desk) c.in_ok-count.count (drop c.keep-kept.result c.read_behind.new.buffer) c.pieces.invariant.turn c.in_ok-count.ensures.added (grind (arith, c.if-count-eq0.false)) (omega (arith, length-drop c.keep-kept.result c.read_behind.new.buffer, c.in_ok-count.ensures.bytes.2));
  read = λ text is.
      let mid = given (g.D.Desk.reads c.pieces.desk) c.args.name.now in
      let after = left_in text (given (g.D.Desk.reads c.read_behind.new.desk) c.args.name.now) in
      let piece = take c.in_ok-count.count (drop c.keep-kept.result c.read_behind.new.buffer) in
      let read = piece-taken (left_in text mid) c.pieces.kept c.pieces.count c.pieces.buffer (c.pieces.invariant.read text (before is mid piece c.in_ok-count.ensures.bytes.0)) _ _ c.pieces.invariant.fits c.if-count-room.false c.in_ok-start.ensures.takes (c.keep-kept.ensures.kept ∙ ap (take 129) c.in_ok-start.ensures.start.1) in
      let moved = consumes is mid piece c.in_ok-count.ensures.bytes.0 in
      goes-on read after piece (take c.keep-kept.result c.read_behind.new.buffer) moved c.in_ok-count.ensures.kept;
  few = c.keep-kept.ensures.few;
  fits = c.in_ok-count.ensures.bytes.2;
  near = near-piece c.pieces.invariant.near _ _ c.in_ok-count.count c.if-count-room.false c.in_ok-count.ensures.bytes.0 (omega (arith, length-take c.in_ok-count.count (drop c.keep-kept.result c.read_behind.new.buffer)));
  others = search rules;
  counts = search rules;
  calm = search rules;
}

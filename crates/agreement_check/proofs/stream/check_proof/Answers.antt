use Rattle.std.proofs.Common.{◌≡◌, ◌∷◌, ◌++◌, ◌∙◌, ◌+◌, ◌<◌, ◌≤◌, ℕ, List, [], false, true, length, take, drop, nat_eq, ap, refl, sym, arith, rules, append-nil}
use Rattle.razor_base.specs.Headline.Outcomes.{Failure, outcome_of}
use Rattle.razor_base.specs.Headline.Readings.{given}
use Rattle.razor_base.specs.Texts.{left_in}
use Rattle.razor_base.proofs.Coming.{at_end, before, consumes, itself}
use Rattle.razor_base.proofs.Turns.{begun, ends, fails, gives_piece}
use Rattle.razor_base.proofs.Writing.{rose-later}
use Rattle.partition_check.specs.CertificateText.{lines_of}
use Rattle.agreement_check.specs.declared.reader.Refusal.{Refusal}
use Rattle.agreement_check.specs.declared.stream.Stop.TheVariants as stops
use Rattle.agreement_check.specs.declared.valid.Valid.{Valid}
use Rattle.agreement_check.specs.declared.wrong.Wrong.{Wrong}
use Rattle.agreement_check.specs.Streams.{ReadsWrong}
use Rattle.agreement_check.specs.Verdict.{FindsWrong, IsUnended, started}
use Rattle.agreement_check.proofs.Pieces.{broke-off, buffer-cut, buffer-long, cut-past, cut-wrong, end-valid, end-wrong, ended-wrong, faulted, goes-on, near, no-fault, no-limit, not-other, piece-wrong, read-none, told, unless-fault}
use Rattle.agreement_check.proofs.Reading.{wrong-map}
use Rattle.agreement_check.proofs.stream.check_proof.Goals as goal

pub returns-in_err-take-clause-wrong : goal.returns-in_err-take-clause-wrong
returns-in_err-take-clause-wrong g c =
    λ text is.
    let reads = g.D.Desk.reads in
    let name = c.args.name.now in
    let list = c.args.list.now in
    let table = c.args.table.now in
    let mid = given (reads c.pieces.desk) name in
    let fits = c.pieces.invariant.fits in
    let all = take c.args.read c.args.buffer.now ++ left_in text (given (reads c.args.desk.now) name) in
    let read = c.pieces.invariant.read text (before is mid [] (sym (append-nil mid))) in
    let bytes = take c.pieces.room c.pieces.buffer in
    let cut = buffer-cut c.pieces.room c.pieces.count c.pieces.buffer (omega (arith, c.if-count-room.true)) in
    let full = buffer-long c.pieces.count c.pieces.buffer fits in
    let longer : c.pieces.room < length (take c.pieces.count c.pieces.buffer) = omega (arith, full, c.if-count-room.true) in
    let e = c.in_err-take.field-0.0 in
    told c.from_residual.result e (λ (w : Wrong). ReadsWrong list table 268435456 all w) c.from_residual.ensures.1
    (wrong-map e (λ (w : Wrong). FindsWrong list table started (lines_of (read.seen ++ bytes)).whole w) (λ (w : Wrong). ReadsWrong list table 268435456 all w) (λ w f. cut-wrong read bytes cut longer w f) (c.in_err-take.ensures.after list table read.seen read.after))

pub returns-in_err-take-clause-too_long : goal.returns-in_err-take-clause-too_long
returns-in_err-take-clause-too_long g c =
    λ text is of. absurd (no-limit c.in_err-take.field-0.0 (not-other c.from_residual.result c.in_err-take.field-0.0 stops.TooLong c.from_residual.ensures.1 of))

pub returns-in_err-take-clause-fault : goal.returns-in_err-take-clause-fault
returns-in_err-take-clause-fault g c =
    λ text is of. absurd (no-fault c.in_err-take.field-0.0 (not-other c.from_residual.result c.in_err-take.field-0.0 stops.ReadFault c.from_residual.ensures.1 of))

pub returns-in_err-take-clause-turn : goal.returns-in_err-take-clause-turn
returns-in_err-take-clause-turn g c =
    let reads = g.D.Desk.reads in
    let name = c.args.name.now in
    broke-off Valid name (reads c.args.desk.now) (reads c.pieces.desk) c.in_err-take.field-0.0 c.from_residual.result c.from_residual.ensures.1 c.pieces.invariant.turn

pub returns-in_err-take-clause-calm : goal.returns-in_err-take-clause-calm
returns-in_err-take-clause-calm g c =
    unless-fault c.from_residual.result _ c.pieces.invariant.calm

pub returns-in_err-take-clause-near : goal.returns-in_err-take-clause-near
returns-in_err-take-clause-near g c =
    λ text is.
    let reads = g.D.Desk.reads in
    let name = c.args.name.now in
    let list = c.args.list.now in
    let table = c.args.table.now in
    let mid = given (reads c.pieces.desk) name in
    let fits = c.pieces.invariant.fits in
    let all = take c.args.read c.args.buffer.now ++ left_in text (given (reads c.args.desk.now) name) in
    let read = c.pieces.invariant.read text (before is mid [] (sym (append-nil mid))) in
    let size : length c.pieces.buffer ≡ length c.args.buffer.now = search rules in
    near read (left_in text mid) (length c.args.buffer.now) refl (omega (arith, buffer-long c.pieces.count c.pieces.buffer fits, fits, size))

pub returns-in_err-take-2-clause-wrong : goal.returns-in_err-take-2-clause-wrong
returns-in_err-take-2-clause-wrong g c =
    λ text is.
    let reads = g.D.Desk.reads in
    let name = c.args.name.now in
    let list = c.args.list.now in
    let table = c.args.table.now in
    let mid = given (reads c.pieces.desk) name in
    let fits = c.pieces.invariant.fits in
    let all = take c.args.read c.args.buffer.now ++ left_in text (given (reads c.args.desk.now) name) in
    let read = c.pieces.invariant.read text (before is mid [] (sym (append-nil mid))) in
    let bytes = take c.pieces.count c.pieces.buffer in
    let full = buffer-long c.pieces.count c.pieces.buffer fits in
    let short : length bytes ≤ c.pieces.room = omega (arith, full, c.if-count-room.false) in
    let e = c.in_err-take-2.field-0.0 in
    told c.from_residual-in_err-take-2.result e (λ (w : Wrong). ReadsWrong list table 268435456 all w) c.from_residual-in_err-take-2.ensures.1
    (wrong-map e (λ (w : Wrong). FindsWrong list table started (lines_of (read.seen ++ bytes)).whole w) (λ (w : Wrong). ReadsWrong list table 268435456 all w) (λ w f. piece-wrong read bytes refl short w f) (c.in_err-take-2.ensures.after list table read.seen read.after))

pub returns-in_err-take-2-clause-too_long : goal.returns-in_err-take-2-clause-too_long
returns-in_err-take-2-clause-too_long g c =
    λ text is of. absurd (no-limit c.in_err-take-2.field-0.0 (not-other c.from_residual-in_err-take-2.result c.in_err-take-2.field-0.0 stops.TooLong c.from_residual-in_err-take-2.ensures.1 of))

pub returns-in_err-take-2-clause-fault : goal.returns-in_err-take-2-clause-fault
returns-in_err-take-2-clause-fault g c =
    λ text is of. absurd (no-fault c.in_err-take-2.field-0.0 (not-other c.from_residual-in_err-take-2.result c.in_err-take-2.field-0.0 stops.ReadFault c.from_residual-in_err-take-2.ensures.1 of))

pub returns-in_err-take-2-clause-turn : goal.returns-in_err-take-2-clause-turn
returns-in_err-take-2-clause-turn g c =
    let reads = g.D.Desk.reads in
    let name = c.args.name.now in
    broke-off Valid name (reads c.args.desk.now) (reads c.pieces.desk) c.in_err-take-2.field-0.0 c.from_residual-in_err-take-2.result c.from_residual-in_err-take-2.ensures.1 c.pieces.invariant.turn

pub returns-in_err-take-2-clause-calm : goal.returns-in_err-take-2-clause-calm
returns-in_err-take-2-clause-calm g c =
    unless-fault c.from_residual-in_err-take-2.result _ c.pieces.invariant.calm

pub returns-in_err-take-2-clause-near : goal.returns-in_err-take-2-clause-near
returns-in_err-take-2-clause-near g c =
    λ text is.
    let reads = g.D.Desk.reads in
    let name = c.args.name.now in
    let list = c.args.list.now in
    let table = c.args.table.now in
    let mid = given (reads c.pieces.desk) name in
    let fits = c.pieces.invariant.fits in
    let all = take c.args.read c.args.buffer.now ++ left_in text (given (reads c.args.desk.now) name) in
    let read = c.pieces.invariant.read text (before is mid [] (sym (append-nil mid))) in
    let size : length c.pieces.buffer ≡ length c.args.buffer.now = search rules in
    near read (left_in text mid) (length c.args.buffer.now) refl (omega (arith, buffer-long c.pieces.count c.pieces.buffer fits, fits, size))

pub returns-then-count-room-clause-too_long : goal.returns-then-count-room-clause-too_long
returns-then-count-room-clause-too_long g c =
    λ text is of.
    let reads = g.D.Desk.reads in
    let name = c.args.name.now in
    let list = c.args.list.now in
    let table = c.args.table.now in
    let mid = given (reads c.pieces.desk) name in
    let fits = c.pieces.invariant.fits in
    let all = take c.args.read c.args.buffer.now ++ left_in text (given (reads c.args.desk.now) name) in
    let read = c.pieces.invariant.read text (before is mid [] (sym (append-nil mid))) in
    let bytes = take c.pieces.room c.pieces.buffer in
    let cut = buffer-cut c.pieces.room c.pieces.count c.pieces.buffer (omega (arith, c.if-count-room.true)) in
    let full = buffer-long c.pieces.count c.pieces.buffer fits in
    let longer : c.pieces.room < length (take c.pieces.count c.pieces.buffer) = omega (arith, full, c.if-count-room.true) in
    cut-past read bytes cut longer c.take.new.self (c.in_ok-take.ensures.after list table read.seen read.after)

pub returns-then-count-room-clause-turn : goal.returns-then-count-room-clause-turn
returns-then-count-room-clause-turn g c =
    c.pieces.invariant.turn

pub returns-then-count-room-clause-near : goal.returns-then-count-room-clause-near
returns-then-count-room-clause-near g c =
    λ text is.
    let reads = g.D.Desk.reads in
    let name = c.args.name.now in
    let list = c.args.list.now in
    let table = c.args.table.now in
    let mid = given (reads c.pieces.desk) name in
    let fits = c.pieces.invariant.fits in
    let all = take c.args.read c.args.buffer.now ++ left_in text (given (reads c.args.desk.now) name) in
    let read = c.pieces.invariant.read text (before is mid [] (sym (append-nil mid))) in
    let size : length c.pieces.buffer ≡ length c.args.buffer.now = search rules in
    near read (left_in text mid) (length c.args.buffer.now) refl (omega (arith, buffer-long c.pieces.count c.pieces.buffer fits, fits, size))

pub returns-in_err-count-clause-fault : goal.returns-in_err-count-clause-fault
returns-in_err-count-clause-fault g c =
    λ text is of.
    let reads = g.D.Desk.reads in
    let name = c.args.name.now in
    let list = c.args.list.now in
    let table = c.args.table.now in
    let mid = given (reads c.pieces.desk) name in
    let fits = c.pieces.invariant.fits in
    let all = take c.args.read c.args.buffer.now ++ left_in text (given (reads c.args.desk.now) name) in
    let gives = c.in_err-count.ensures.gives in
    let read = c.pieces.invariant.read text (before is mid [] (gives.0 ∙ sym (append-nil mid))) in
    let after = left_in text (given (reads c.read_piece.new.desk) name) in
    let same = ap (λ (bytes : List ℕ). drop (length bytes) text) gives.0 in
    let bytes = take c.pieces.count c.pieces.buffer in
    let full = buffer-long c.pieces.count c.pieces.buffer fits in
    let short : length bytes ≤ c.pieces.room = omega (arith, full, c.if-count-room.false) in
    (rose-later _ _ _ (c.pieces.invariant.counts name) c.in_err-count.ensures.failed, faulted read bytes refl short c.take-in-pieces.new.self (c.in_ok-take-2.ensures.after list table read.seen read.after) after same)

pub returns-in_err-count-clause-near : goal.returns-in_err-count-clause-near
returns-in_err-count-clause-near g c =
    λ text is.
    let reads = g.D.Desk.reads in
    let name = c.args.name.now in
    let list = c.args.list.now in
    let table = c.args.table.now in
    let mid = given (reads c.pieces.desk) name in
    let fits = c.pieces.invariant.fits in
    let all = take c.args.read c.args.buffer.now ++ left_in text (given (reads c.args.desk.now) name) in
    let gives = c.in_err-count.ensures.gives in
    let read = c.pieces.invariant.read text (before is mid [] (gives.0 ∙ sym (append-nil mid))) in
    let after = left_in text (given (reads c.read_piece.new.desk) name) in
    let same = ap (λ (bytes : List ℕ). drop (length bytes) text) gives.0 in
    let size : length c.pieces.buffer ≡ length c.args.buffer.now = search rules in
    near read after (length c.args.buffer.now) same (omega (arith, buffer-long c.pieces.count c.pieces.buffer fits, fits, size))

pub returns-in_err-valid-clause-wrong : goal.returns-in_err-valid-clause-wrong
returns-in_err-valid-clause-wrong g c =
    λ text is.
    let reads = g.D.Desk.reads in
    let name = c.args.name.now in
    let list = c.args.list.now in
    let table = c.args.table.now in
    let mid = given (reads c.pieces.desk) name in
    let fits = c.pieces.invariant.fits in
    let all = take c.args.read c.args.buffer.now ++ left_in text (given (reads c.args.desk.now) name) in
    let gives = c.in_ok-count.ensures.gives in
    let piece = take c.in_ok-count.count c.read_piece.new.piece in
    let read = c.pieces.invariant.read text (before is mid piece gives.0) in
    let after = left_in text (given (reads c.read_piece.new.desk) name) in
    let next = c.take-in-pieces.new.self in
    let taken = c.in_ok-take-2.ensures.after list table read.seen read.after in
    let bytes = take c.pieces.count c.pieces.buffer in
    let full = buffer-long c.pieces.count c.pieces.buffer fits in
    let short : length bytes ≤ c.pieces.room = omega (arith, full, c.if-count-room.false) in
    let nothing : given (reads c.read_piece.new.desk) name ≡ mid = gives.0 ∙ ap (λ n. mid ++ take n c.read_piece.new.piece) c.if-count-eq0.true ∙ append-nil mid in
    let same = ap (λ (b : List ℕ). drop (length b) text) nothing in
    let none = at_end is (gives.1 ∙ ap (λ n. nat_eq n 0) c.if-count-eq0.true) in
    let e = c.in_err-valid.field-0.0 in
    told c.from_residual-in_err-valid.result e (λ (w : Wrong). ReadsWrong list table 268435456 all w) c.from_residual-in_err-valid.ensures.1
    (wrong-map e (IsUnended list table (read.seen ++ bytes)) (λ (w : Wrong). ReadsWrong list table 268435456 all w) (λ w u. end-wrong read bytes refl short next taken after same none w u) (c.in_err-valid.ensures.verdict list table (read.seen ++ bytes) taken))

pub returns-in_err-valid-clause-too_long : goal.returns-in_err-valid-clause-too_long
returns-in_err-valid-clause-too_long g c =
    λ text is of. absurd (no-limit c.in_err-valid.field-0.0 (not-other c.from_residual-in_err-valid.result c.in_err-valid.field-0.0 stops.TooLong c.from_residual-in_err-valid.ensures.1 of))

pub returns-in_err-valid-clause-fault : goal.returns-in_err-valid-clause-fault
returns-in_err-valid-clause-fault g c =
    λ text is of. absurd (no-fault c.in_err-valid.field-0.0 (not-other c.from_residual-in_err-valid.result c.in_err-valid.field-0.0 stops.ReadFault c.from_residual-in_err-valid.ensures.1 of))

pub returns-in_err-valid-clause-turn : goal.returns-in_err-valid-clause-turn
returns-in_err-valid-clause-turn g c =
    let reads = g.D.Desk.reads in
    let name = c.args.name.now in
    ended-wrong Valid name (reads c.args.desk.now) (reads c.read_piece.new.desk) c.in_err-valid.field-0.0 c.from_residual-in_err-valid.result c.in_err-valid.ensures.wrong c.from_residual-in_err-valid.ensures.1
    (ends name (reads c.args.desk.now) (reads c.pieces.desk) (reads c.read_piece.new.desk) (outcome_of (take c.in_ok-count.count c.read_piece.new.piece)) c.pieces.invariant.turn c.in_ok-count.ensures.added
    (ap (λ (n : ℕ). outcome_of (take n c.read_piece.new.piece)) c.if-count-eq0.true))

pub returns-in_err-valid-clause-calm : goal.returns-in_err-valid-clause-calm
returns-in_err-valid-clause-calm g c =
    unless-fault c.from_residual-in_err-valid.result _ (λ other. c.in_ok-count.ensures.calm other ∙ c.pieces.invariant.calm other)

pub returns-in_err-valid-clause-near : goal.returns-in_err-valid-clause-near
returns-in_err-valid-clause-near g c =
    λ text is.
    let reads = g.D.Desk.reads in
    let name = c.args.name.now in
    let list = c.args.list.now in
    let table = c.args.table.now in
    let mid = given (reads c.pieces.desk) name in
    let fits = c.pieces.invariant.fits in
    let all = take c.args.read c.args.buffer.now ++ left_in text (given (reads c.args.desk.now) name) in
    let gives = c.in_ok-count.ensures.gives in
    let piece = take c.in_ok-count.count c.read_piece.new.piece in
    let read = c.pieces.invariant.read text (before is mid piece gives.0) in
    let after = left_in text (given (reads c.read_piece.new.desk) name) in
    let next = c.take-in-pieces.new.self in
    let taken = c.in_ok-take-2.ensures.after list table read.seen read.after in
    let bytes = take c.pieces.count c.pieces.buffer in
    let full = buffer-long c.pieces.count c.pieces.buffer fits in
    let short : length bytes ≤ c.pieces.room = omega (arith, full, c.if-count-room.false) in
    let nothing : given (reads c.read_piece.new.desk) name ≡ mid = gives.0 ∙ ap (λ n. mid ++ take n c.read_piece.new.piece) c.if-count-eq0.true ∙ append-nil mid in
    let same = ap (λ (b : List ℕ). drop (length b) text) nothing in
    let none = at_end is (gives.1 ∙ ap (λ n. nat_eq n 0) c.if-count-eq0.true) in
    let size : length c.pieces.buffer ≡ length c.args.buffer.now = search rules in
    near read after (length c.args.buffer.now) same (omega (arith, full, fits, size))

pub returns-then-count-eq0-clause-valid : goal.returns-then-count-eq0-clause-valid
returns-then-count-eq0-clause-valid g c =
    λ text is.
    let reads = g.D.Desk.reads in
    let name = c.args.name.now in
    let list = c.args.list.now in
    let table = c.args.table.now in
    let mid = given (reads c.pieces.desk) name in
    let fits = c.pieces.invariant.fits in
    let all = take c.args.read c.args.buffer.now ++ left_in text (given (reads c.args.desk.now) name) in
    let gives = c.in_ok-count.ensures.gives in
    let piece = take c.in_ok-count.count c.read_piece.new.piece in
    let read = c.pieces.invariant.read text (before is mid piece gives.0) in
    let after = left_in text (given (reads c.read_piece.new.desk) name) in
    let next = c.take-in-pieces.new.self in
    let taken = c.in_ok-take-2.ensures.after list table read.seen read.after in
    let bytes = take c.pieces.count c.pieces.buffer in
    let full = buffer-long c.pieces.count c.pieces.buffer fits in
    let short : length bytes ≤ c.pieces.room = omega (arith, full, c.if-count-room.false) in
    let nothing : given (reads c.read_piece.new.desk) name ≡ mid = gives.0 ∙ ap (λ n. mid ++ take n c.read_piece.new.piece) c.if-count-eq0.true ∙ append-nil mid in
    let same = ap (λ (b : List ℕ). drop (length b) text) nothing in
    let none = at_end is (gives.1 ∙ ap (λ n. nat_eq n 0) c.if-count-eq0.true) in
    end-valid read bytes refl short next taken after same none c.in_ok-valid.valid (c.in_ok-valid.ensures.verdict list table (read.seen ++ bytes) taken)

pub returns-then-count-eq0-clause-is_true : goal.returns-then-count-eq0-clause-is_true
returns-then-count-eq0-clause-is_true g c =
    let reads = g.D.Desk.reads in
    let name = c.args.name.now in
    let list = c.args.list.now in
    let table = c.args.table.now in
    let mid = given (reads c.pieces.desk) name in
    let read = c.pieces.invariant.read mid (itself mid false) in
    let text = read.seen ++ take c.pieces.count c.pieces.buffer in
    c.valid_proofs_are_true.ensures list table text c.in_ok-valid.valid (c.in_ok-valid.ensures.verdict list table text (c.in_ok-take-2.ensures.after list table read.seen read.after))

pub returns-then-count-eq0-clause-turn : goal.returns-then-count-eq0-clause-turn
returns-then-count-eq0-clause-turn g c =
    let reads = g.D.Desk.reads in
    let name = c.args.name.now in
    ends name (reads c.args.desk.now) (reads c.pieces.desk) (reads c.read_piece.new.desk) (outcome_of (take c.in_ok-count.count c.read_piece.new.piece)) c.pieces.invariant.turn c.in_ok-count.ensures.added
    (ap (λ (n : ℕ). outcome_of (take n c.read_piece.new.piece)) c.if-count-eq0.true)

pub returns-then-count-eq0-clause-near : goal.returns-then-count-eq0-clause-near
returns-then-count-eq0-clause-near g c =
    λ text is.
    let reads = g.D.Desk.reads in
    let name = c.args.name.now in
    let list = c.args.list.now in
    let table = c.args.table.now in
    let mid = given (reads c.pieces.desk) name in
    let fits = c.pieces.invariant.fits in
    let all = take c.args.read c.args.buffer.now ++ left_in text (given (reads c.args.desk.now) name) in
    let gives = c.in_ok-count.ensures.gives in
    let piece = take c.in_ok-count.count c.read_piece.new.piece in
    let read = c.pieces.invariant.read text (before is mid piece gives.0) in
    let after = left_in text (given (reads c.read_piece.new.desk) name) in
    let next = c.take-in-pieces.new.self in
    let taken = c.in_ok-take-2.ensures.after list table read.seen read.after in
    let bytes = take c.pieces.count c.pieces.buffer in
    let full = buffer-long c.pieces.count c.pieces.buffer fits in
    let short : length bytes ≤ c.pieces.room = omega (arith, full, c.if-count-room.false) in
    let nothing : given (reads c.read_piece.new.desk) name ≡ mid = gives.0 ∙ ap (λ n. mid ++ take n c.read_piece.new.piece) c.if-count-eq0.true ∙ append-nil mid in
    let same = ap (λ (b : List ℕ). drop (length b) text) nothing in
    let none = at_end is (gives.1 ∙ ap (λ n. nat_eq n 0) c.if-count-eq0.true) in
    let size : length c.pieces.buffer ≡ length c.args.buffer.now = search rules in
    near read after (length c.args.buffer.now) same (omega (arith, full, fits, size))

pub pieces-init : goal.pieces-init
pieces-init g c =
    let reads = g.D.Desk.reads in
    let name = c.args.name.now in
    let reader = c.new-reader in
    record {
      turn = begun name (reads c.args.desk.now);
      read = λ text is. read-none c.args.list.now c.args.table.now 268435456 (take c.args.read c.args.buffer.now) (left_in text (given (reads c.args.desk.now) name)) reader.result reader.ensures.after;
      fits = c.requires.read;
      sound = reader.ensures.sound;
      due = omega (arith, reader.ensures.due);
      others = search rules;
      counts = search rules;
      calm = λ other. refl;
    }

pub pieces-preserved : goal.pieces-preserved
pieces-preserved g c =
    let reads = g.D.Desk.reads in
    let name = c.args.name.now in
    record {
      turn = gives_piece name (reads c.args.desk.now) (reads c.pieces.desk) (reads c.read_piece.new.desk) c.in_ok-count.count c.read_piece.new.piece c.pieces.invariant.turn c.in_ok-count.ensures.added (grind (arith, c.if-count-eq0.false)) c.in_ok-count.ensures.within;
      read = λ text is.
          let list = c.args.list.now in
          let table = c.args.table.now in
          let mid = given (reads c.pieces.desk) name in
          let fits = c.pieces.invariant.fits in
          let all = take c.args.read c.args.buffer.now ++ left_in text (given (reads c.args.desk.now) name) in
          let gives = c.in_ok-count.ensures.gives in
          let piece = take c.in_ok-count.count c.read_piece.new.piece in
          let read = c.pieces.invariant.read text (before is mid piece gives.0) in
          let after = left_in text (given (reads c.read_piece.new.desk) name) in
          let next = c.take-in-pieces.new.self in
          let taken = c.in_ok-take-2.ensures.after list table read.seen read.after in
          let bytes = take c.pieces.count c.pieces.buffer in
          let full = buffer-long c.pieces.count c.pieces.buffer fits in
          let short : length bytes ≤ c.pieces.room = omega (arith, full, c.if-count-room.false) in
          goes-on read bytes refl short next taken after piece c.pieces.count full (consumes is mid piece gives.0);
      fits = c.in_ok-count.ensures.within;
      sound = search rules;
      due = omega (arith, c.in_ok-take-2.ensures.due, c.pieces.invariant.due, buffer-long c.pieces.count c.pieces.buffer c.pieces.invariant.fits, c.if-count-room.false);
      others = search rules;
      counts = search rules;
      calm = search rules;
    }

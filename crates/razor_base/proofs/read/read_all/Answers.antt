use Rattle.std.proofs.Common.{◌≡◌, ◌<◌, ◌++◌, sym, ◌+◌, ◌∙◌, List, ℕ, ap, take, append_assoc, arith, length-append, length-take-le}
use Rattle.std.proofs.lemmas.Grind.{common_steps}
use Rattle.razor_base.specs.Headline.Readings.{given}
use Rattle.razor_base.proofs.Coming.{takes}
use Rattle.razor_base.proofs.Turns.{breaks_off, gives_piece}
use Rattle.razor_base.proofs.read.read_all.Goals as goal

-- what was given before a read and in it
grown : (first now more given piece : List ℕ) → given ≡ first ++ more → now ≡ given ++ piece → now ≡ first ++ (more ++ piece)
grown first now more given piece before read = read ∙ ap (λ bytes. bytes ++ piece) before ∙ append_assoc first more piece

pub returns-in_err-append-clause-near : goal.returns-in_err-append-clause-near
returns-in_err-append-clause-near g c = λ text is.
    let name = c.args.name.now in
    let piece = take c.in_ok-count.count c.read_piece.new.piece in
    let first = given (g.D.Desk.reads c.args.desk.now) name in
    let more = grown first (given (g.D.Desk.reads c.read_piece.new.desk) name) c.pieces.into.items (given (g.D.Desk.reads c.pieces.desk) name) piece c.pieces.invariant.moved c.in_ok-count.ensures.gives.0 in
    takes is first (c.pieces.into.items ++ piece) more (c.args.limit + 65536)
    (grind (arith, common_steps, length-append c.pieces.into.items piece, length-take-le c.in_ok-count.count c.read_piece.new.piece c.in_ok-count.ensures.within, c.in_ok-count.ensures.within, c.pieces.invariant.within))

pub pieces-preserved : goal.pieces-preserved
pieces-preserved g c =
    let reads = g.D.Desk.reads in
    let name = c.args.name.now in
    let some : 0 < c.in_ok-count.count = grind (arith, c.if-count-eq0.false) in
    let first = given (reads c.args.desk.now) name in
    record {
      turn = gives_piece name (reads c.args.desk.now) (reads c.pieces.desk) (reads c.read_piece.new.desk) c.in_ok-count.count c.read_piece.new.piece c.pieces.invariant.turn c.in_ok-count.ensures.added some c.in_ok-count.ensures.within;
      moved = grown first (given (reads c.read_piece.new.desk) name) c.pieces.into.items (given (reads c.pieces.desk) name) (take c.in_ok-count.count c.read_piece.new.piece) c.pieces.invariant.moved c.in_ok-count.ensures.gives.0 ∙ sym (ap (λ (bytes : List ℕ). first ++ bytes) c.in_ok-append.ensures.ok);
      within = c.in_ok-append.ensures.within;
      others = λ other apart. ((c.in_ok-count.ensures.others other apart).0 ∙ (c.pieces.invariant.others other apart).0, (c.in_ok-count.ensures.others other apart).1 ∙ (c.pieces.invariant.others other apart).1);
      counts = λ other. omega (arith, c.in_ok-count.ensures.counts other, c.pieces.invariant.counts other);
      calm = λ other. c.in_ok-count.ensures.calm other ∙ c.pieces.invariant.calm other;
    }

pub returns-in_err-append-clause-turn : goal.returns-in_err-append-clause-turn
returns-in_err-append-clause-turn g c =
    let reads = g.D.Desk.reads in
    let some : 0 < c.in_ok-count.count = grind (arith, c.if-count-eq0.false) in
    breaks_off (Unit {0}) c.args.name.now (reads c.args.desk.now) (reads c.read_piece.new.desk) c.in_err-append.field-0.0 c.from_residual-in_err-append.result c.from_residual-in_err-append.ensures.1 c.in_err-append.ensures.no_fault
    (gives_piece c.args.name.now (reads c.args.desk.now) (reads c.pieces.desk) (reads c.read_piece.new.desk) c.in_ok-count.count c.read_piece.new.piece c.pieces.invariant.turn c.in_ok-count.ensures.added some c.in_ok-count.ensures.within)

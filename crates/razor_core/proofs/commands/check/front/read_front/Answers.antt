use Rattle.std.proofs.Common.{◌++◌, ◌∙◌, ◌+◌, ℕ, ap, append-nil, arith, drop, length, length-drop, length-take, rules, sym, take}
use Rattle.razor_base.specs.Headline.Outcomes.{outcome_of}
use Rattle.razor_base.specs.Headline.Readings.{given}
use Rattle.razor_base.proofs.Turns.{begun, ends, gives_piece}
use Rattle.razor_base.proofs.Writing.{rose-later}
use Rattle.razor_core.proofs.Fronts.{begun_short, failed_so, front_kept, front_longer}
use Rattle.razor_core.proofs.commands.check.front.read_front.Goals as goal

pub pieces-init : goal.pieces-init
pieces-init g c = record {
  turn = begun c.args.name.now (g.D.Desk.reads c.args.desk.now);
  front = sym (append-nil (given (g.D.Desk.reads c.args.desk.now) c.args.name.now));
  fits = omega arith;
  same = search rules;
  others = search rules;
  counts = search rules;
  calm = search rules;
}

pub read_more-requires : goal.read_more-requires
read_more-requires g c =
    let few = (begun_short (take c.pieces.read c.pieces.buffer) (sym c.is_begun.ensures ∙ c.pieces-test.true)).few in
    omega (arith, few, c.requires, c.pieces.invariant.same, c.pieces.invariant.fits, length-take c.pieces.read c.pieces.buffer)

pub returns-in_err-count-clause-failed : goal.returns-in_err-count-clause-failed
returns-in_err-count-clause-failed g c = failed_so c.from_residual.result c.from_residual.ensures.0 (
  rose-later _ _ _ (c.pieces.invariant.counts c.args.name.now) c.in_err-count.ensures.failed.0,
  record {
    front = take c.pieces.read c.pieces.buffer;
    given = c.in_err-count.ensures.failed.1 ∙ c.pieces.invariant.front;
    begun = sym c.is_begun.ensures ∙ c.pieces-test.true;
  },
)

pub returns-then-count-eq0-clause-front : goal.returns-then-count-eq0-clause-front
returns-then-count-eq0-clause-front g c =
    let reads = g.D.Desk.reads in let name = c.args.name.now in
    front_kept (given (reads c.args.desk.now) name) (given (reads c.pieces.desk) name) (given (reads c.read_more.new.desk) name) c.pieces.read c.pieces.buffer c.read_more.new.buffer c.pieces.invariant.front
    (c.in_ok-count.ensures.bytes.0 ∙ ap (λ (n : ℕ). given (reads c.pieces.desk) name ++ take n (drop c.pieces.read c.read_more.new.buffer)) c.if-count-eq0.true ∙ append-nil (given (reads c.pieces.desk) name)) c.in_ok-count.ensures.kept

pub returns-then-count-eq0-clause-kind : goal.returns-then-count-eq0-clause-kind
returns-then-count-eq0-clause-kind g c = rw (sym c.in_ok-count.ensures.kept) at (sym c.is_begun.ensures ∙ c.pieces-test.true)

pub returns-then-count-eq0-clause-turn : goal.returns-then-count-eq0-clause-turn
returns-then-count-eq0-clause-turn g c =
    let reads = g.D.Desk.reads in let name = c.args.name.now in
    ends name (reads c.args.desk.now) (reads c.pieces.desk) (reads c.read_more.new.desk) (outcome_of (take c.in_ok-count.count (drop c.pieces.read c.read_more.new.buffer))) c.pieces.invariant.turn c.in_ok-count.ensures.added (ap (λ (n : ℕ). outcome_of (take n (drop c.pieces.read c.read_more.new.buffer))) c.if-count-eq0.true)

pub pieces-preserved : goal.pieces-preserved
pieces-preserved g c =
    let reads = g.D.Desk.reads in let name = c.args.name.now in
    record {
      turn = gives_piece name (reads c.args.desk.now) (reads c.pieces.desk) (reads c.read_more.new.desk) c.in_ok-count.count (drop c.pieces.read c.read_more.new.buffer) c.pieces.invariant.turn c.in_ok-count.ensures.added (grind (arith, c.if-count-eq0.false)) (omega (arith, length-drop c.pieces.read c.read_more.new.buffer, c.in_ok-count.ensures.bytes.2));
      front = front_longer (given (reads c.args.desk.now) name) (given (reads c.pieces.desk) name) (given (reads c.read_more.new.desk) name) c.pieces.read c.in_ok-count.count c.pieces.buffer c.read_more.new.buffer c.pieces.invariant.front c.in_ok-count.ensures.bytes.0 c.in_ok-count.ensures.kept;
      fits = c.in_ok-count.ensures.bytes.2;
      same = search rules;
      others = search rules;
      counts = search rules;
      calm = search rules;
    }

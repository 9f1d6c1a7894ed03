use Rattle.std.proofs.Common.{arith, get_or}
use Rattle.prefix_min.specs.declared.savings.LabelCost.{LabelCost}
use Rattle.prefix_min.proofs.FullLabel.{first-found, none-found}
use Rattle.prefix_min.proofs.Listed.{listed-at}
use Rattle.prefix_min.proofs.field.whole_field.first_full.Goals as goal

pub bounds-weights-entry : goal.bounds-weights-entry
bounds-weights-entry c =
    let none : LabelCost = record { label = 0; cost = 0 } in
    c.requires.places (get_or c.args.savings.now c.loop-entry.entry-index none).label (listed-at c.loop-entry.entry-index none c.args.savings.now c.loop-entry-test.true)

pub returns-then-entry-weights : goal.returns-then-entry-weights
returns-then-entry-weights c =
    first-found c.args.weights.now c.args.savings.now c.loop-entry.entry-index (record { label = 0; cost = 0 }) c.requires.rise c.loop-entry-test.true c.loop-entry.invariant c.if-entry-weights.true

pub returns : goal.returns
returns c =
    none-found c.args.weights.now c.args.savings.now (record { label = 0; cost = 0 }) c.requires.rise (λ k lt. c.loop-entry.invariant k (omega (arith, lt, c.loop-entry-test.false)))

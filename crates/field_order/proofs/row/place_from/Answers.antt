use Rattle.std.proofs.Common.{rules}
use Rattle.field_order.proofs.Passed.{edge_at, ends_above, ends_below, inside, one_more}
use Rattle.field_order.proofs.row.place_from.Goals as goal

pub bounds-edges-place : goal.bounds-edges-place
bounds-edges-place c = inside c.requires.full.0 c.args.edges.now c.args.value c.loop-place.place c.requires.full.1 c.requires.full.2 c.loop-place.invariant.passed

pub loop-place-preserved : goal.loop-place-preserved
loop-place-preserved c =
    let es = c.args.edges.now in
    let l = c.loop-place in
    let less = inside c.requires.full.0 es c.args.value l.place c.requires.full.1 c.requires.full.2 l.invariant.passed in record {
      passed = one_more es c.args.value l.place l.invariant.passed (ends_below es l.place c.args.value _ less c.loop-place-test.true);
    }

pub returns-clause-edge : goal.returns-clause-edge
returns-clause-edge c = λ greatest full high.
    let es = c.args.edges.now in
    let l = c.loop-place in
    let less = inside greatest es c.args.value l.place full high l.invariant.passed in
    edge_at greatest es c.args.value l.place full less l.invariant.passed (ends_above es l.place c.args.value _ less c.loop-place-test.false)

pub offset_bounds-edges-place : goal.offset_bounds-edges-place
offset_bounds-edges-place c =
    let less = inside c.requires.full.0 c.args.edges.now c.args.value c.loop-place.place c.requires.full.1 c.requires.full.2 c.loop-place.invariant.passed in
    search rules

pub overflow_add-place : goal.overflow_add-place
overflow_add-place c =
    let less = inside c.requires.full.0 c.args.edges.now c.args.value c.loop-place.place c.requires.full.1 c.requires.full.2 c.loop-place.invariant.passed in
    search rules

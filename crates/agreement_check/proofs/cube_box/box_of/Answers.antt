use Rattle.std.proofs.Common.{arith}
use Rattle.partition_check.proofs.WordParts.{field-masked}
use Rattle.agreement_check.proofs.cube_box.box_of.Goals as goal

pub values_in-requires-clause-masked : goal.values_in-requires-clause-masked
values_in-requires-clause-masked c = rw (c.values_of-values.ensures.parts 0 (omega arith), c.values_of-masks.ensures.parts 0 (omega arith)) (field-masked 0 c.args.word.now.value c.args.word.now.mask c.args.word.now.masked)

pub values_in-requires-2-clause-masked : goal.values_in-requires-2-clause-masked
values_in-requires-2-clause-masked c = rw (c.values_of-values.ensures.parts 1 (omega arith), c.values_of-masks.ensures.parts 1 (omega arith)) (field-masked 1 c.args.word.now.value c.args.word.now.mask c.args.word.now.masked)

pub values_in-requires-3-clause-masked : goal.values_in-requires-3-clause-masked
values_in-requires-3-clause-masked c = rw (c.values_of-values.ensures.parts 2 (omega arith), c.values_of-masks.ensures.parts 2 (omega arith)) (field-masked 2 c.args.word.now.value c.args.word.now.mask c.args.word.now.masked)

pub values_in-requires-4-clause-masked : goal.values_in-requires-4-clause-masked
values_in-requires-4-clause-masked c = rw (c.values_of-values.ensures.parts 3 (omega arith), c.values_of-masks.ensures.parts 3 (omega arith)) (field-masked 3 c.args.word.now.value c.args.word.now.mask c.args.word.now.masked)

pub values_in-requires-5-clause-masked : goal.values_in-requires-5-clause-masked
values_in-requires-5-clause-masked c = rw (c.values_of-values.ensures.parts 4 (omega arith), c.values_of-masks.ensures.parts 4 (omega arith)) (field-masked 4 c.args.word.now.value c.args.word.now.mask c.args.word.now.masked)

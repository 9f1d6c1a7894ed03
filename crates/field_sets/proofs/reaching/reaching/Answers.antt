use Rattle.std.proofs.Common.{rules}
use Rattle.field_sets.proofs.Onward.{searched}
use Rattle.field_sets.proofs.reaching.reaching.Goals as goal

pub returns : goal.returns
returns c = λ greatest full.
    searched greatest c.args.edges.now c.args.value c.partition_point.result full c.partition_point.ensures.bound c.partition_point.ensures.partitioned (λ a r q k. search rules)

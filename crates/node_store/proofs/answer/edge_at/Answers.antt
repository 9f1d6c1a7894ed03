use Rattle.std.proofs.Common.{rules}
use Rattle.node_store.proofs.Search.{searched, ends}
use Rattle.node_store.proofs.answer.edge_at.Goals as goal

pub bounds-edges-partition_point : goal.bounds-edges-partition_point
bounds-edges-partition_point c =
    (searched c.requires.0 c.args.edges.now c.args.value c.partition_point.result c.requires.1 c.requires.2 c.partition_point.ensures.bound c.partition_point.ensures.partitioned (λ a r q k. search rules)).inside

pub returns-clause-low : goal.returns-clause-low
returns-clause-low c =
    (searched c.requires.0 c.args.edges.now c.args.value c.partition_point.result c.requires.1 c.requires.2 c.partition_point.ensures.bound c.partition_point.ensures.partitioned (λ a r q k. search rules)).low _

pub returns-clause-leads : goal.returns-clause-leads
returns-clause-leads c =
    (searched c.requires.0 c.args.edges.now c.args.value c.partition_point.result c.requires.1 c.requires.2 c.partition_point.ensures.bound c.partition_point.ensures.partitioned (λ a r q k. search rules)).leads _

pub returns-clause-high : goal.returns-clause-high
returns-clause-high c = λ greatest full.
    ends greatest c.args.edges.now c.partition_point.result _ full
    (searched c.requires.0 c.args.edges.now c.args.value c.partition_point.result c.requires.1 c.requires.2 c.partition_point.ensures.bound c.partition_point.ensures.partitioned (λ a r q k. search rules)).inside

use Rattle.std.proofs.Common.{rules}
use Rattle.node_store.specs.Levels.{top_of}
use Rattle.node_store.specs.Diagram.{level_of, edges_of}
use Rattle.node_store.specs.Split.{IsSplit}
use Rattle.fdd_ops.proofs.Coarsest.{coarsest}
use Rattle.fdd_ops.proofs.joining.joint.Goals as goal

pub returns-clause-coarsest : goal.returns-clause-coarsest
returns-clause-coarsest c =
    let nodes = c.args.store.now in
    let split : IsSplit (top_of (level_of nodes c.args.a.0)) (edges_of nodes c.args.a.0) (edges_of nodes c.args.b.0) c.in_ok-edges.edges.items = search rules in
    coarsest (top_of (level_of nodes c.args.a.0)) (edges_of nodes c.args.a.0) (edges_of nodes c.args.b.0) c.in_ok-edges.edges.items split

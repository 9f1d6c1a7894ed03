use Rattle.std.proofs.Common.{sym, subst}
use Rattle.node_store.specs.Levels.{HasField}
use Rattle.node_store.proofs.Canonical.{in_use, not_empty}
use Rattle.box_query.proofs.Walking.{empty-level, leaf-empty, no_edge, single-empty}
use Rattle.box_query.proofs.walk.Walk.+is_empty.Goals as goal

pub returns-then-is_empty : goal.returns-then-is_empty
returns-then-is_empty t c =
    leaf-empty c.args.self.now.store.now c.args.level.now c.args.id.0 c.is_wanted.result (empty-level c.args.level.now (sym c.if-is_empty.ensures)) c.is_wanted.ensures

pub edges-edges-requires : goal.edges-edges-requires
edges-edges-requires t c = in_use c.args.self.now.store.now c.args.id.0 c.args.level.now c.requires.level c.requires.id

pub returns : goal.returns
returns t c =
    let has = not_empty c.args.level.now c.requires.level (sym c.if-is_empty.ensures) in
    single-empty c.args.self.now.store.now c.args.level.now c.rest_of.result.now c.args.id.0 c.edges-edges.result.now no_edge c.is_empty-2.result has c.rest_of.ensures c.edges-edges.ensures.edges
    (c.edges-edges.ensures.inner (subst HasField (sym c.requires.id) has)).full.some c.if-edges-gt1.false c.is_empty-2.ensures

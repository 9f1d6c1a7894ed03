use Rattle.std.proofs.Common.{subst, sym}
use Rattle.node_store.specs.Levels.{HasField, next}
use Rattle.node_store.specs.Diagram.{level_of}
use Rattle.node_store.specs.Store.{LeadTo}
use Rattle.field_sets.proofs.Inside.{lead}
use Rattle.field_sets.proofs.laying.laid.Goals as goal

pub make-requires-clause-children : goal.make-requires-clause-children
make-requires-clause-children c =
    let field = level_of c.args.store.now c.args.node.0 in
    let five = subst HasField (sym c.requires.node) c.requires.level in
    subst (λ es. LeadTo c.args.store.now (next c.args.level.now) es) (sym c.as_slice.ensures)
    (c.in_ok-edges.ensures.children c.args.store.now (next c.args.level.now)
    (lead c.args.store.now c.args.node.0 c.args.level.now field c.edges.result.now (c.edges.ensures.inner five) c.requires.node) c.requires.children)

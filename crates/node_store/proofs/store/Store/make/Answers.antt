use Rattle.std.proofs.Common.{length, sym, subst}
use Rattle.node_store.specs.Store.{IsInner}
use Rattle.node_store.proofs.Canonical.{few}
use Rattle.node_store.proofs.Made.{inner_merged, answers_ok}
use Rattle.node_store.proofs.store.Store.make.Goals as goal

pub of-level-requires : goal.of-level-requires
of-level-requires c = few c.args.level.now c.requires.field

pub add-requires : goal.add-requires
add-requires c =
    subst (λ fields. IsInner c.args.self.now (length c.args.self.now) fields c.in_ok-edges.edges.items) (sym c.of-level.ensures)
    (subst (λ es. IsInner c.args.self.now (length c.args.self.now) c.args.level.now es) (sym c.in_ok-edges.ensures)
    (inner_merged c.args.self.now c.args.level.now c.args.edges.now c.requires.field c.requires.full c.requires.children))

pub returns-clause-answers : goal.returns-clause-answers
returns-clause-answers c =
    answers_ok c.add.result c.args.self.now c.add.new.self c.args.level.now c.of-level.result c.args.edges.now c.in_ok-edges.edges.items
    c.requires.field c.requires.full c.requires.children c.in_ok-edges.ensures c.add.ensures.numbered c.add.ensures.grows

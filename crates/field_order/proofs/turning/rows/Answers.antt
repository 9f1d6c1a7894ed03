use Rattle.std.proofs.Common.{◌∷◌, ◌∙◌, ap, sym, subst}
use Rattle.node_store.specs.Edges.{AreFull, child_of}
use Rattle.node_store.specs.Diagram.{answer}
use Rattle.node_store.specs.Levels.{top_of}
use Rattle.node_store.specs.Store.{LeadTo}
use Rattle.field_order.proofs.turning.rows.Goals as goal

pub joined-requires-clause-full : goal.joined-requires-clause-full
joined-requires-clause-full c = subst (AreFull (top_of c.args.level.now)) (sym c.as_slice.ensures) c.in_ok-whole.ensures.full

pub joined-requires-clause-nodes : goal.joined-requires-clause-nodes
joined-requires-clause-nodes c = subst (LeadTo c.blocks-2.new.store (c.args.field ∷ c.args.level.now)) (sym c.as_slice.ensures) c.in_ok-whole.ensures.nodes

pub returns-clause-answers : goal.returns-clause-answers
returns-clause-answers c = λ v u values low inside.
    c.in_ok-rows-2.ensures.answers v u values low inside
    ∙ ap (λ ds. answer c.blocks-2.new.store (child_of ds u) (v ∷ u ∷ values)) c.as_slice.ensures
    ∙ c.in_ok-whole.ensures.answers v u values low inside

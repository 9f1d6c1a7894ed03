use Rattle.std.proofs.Common.{◌≡◌, ℕ, List, ◌∷◌, ◌≤◌, ◌∙◌, ap, sym, subst, arith}
use Rattle.field_boxes.specs.Fields.{greatest_of}
use Rattle.node_store.specs.Edges.{AreFull, child_of}
use Rattle.node_store.specs.Diagram.{edges_of, answer}
use Rattle.node_store.specs.Levels.{next as next_level, top_of}
use Rattle.node_store.specs.Store.{LeadTo}
use Rattle.field_order.proofs.turning.edge_of_block.Goals as goal

pub next_block-requires-clause-full : goal.next_block-requires-clause-full
next_block-requires-clause-full c = subst (λ n. AreFull n c.args.edges.now) (sym c.greatest_in.ensures) c.requires.full

pub turned-requires-clause-full : goal.turned-requires-clause-full
turned-requires-clause-full c = subst (AreFull (top_of c.args.level.now)) (sym c.as_slice.ensures) (subst (λ n. AreFull n c.in_ok-block.block.edges.items) c.greatest_in.ensures c.in_ok-block.ensures.full)

pub turned-requires-clause-nodes : goal.turned-requires-clause-nodes
turned-requires-clause-nodes c =
    let side = c.args.field ∷ next_level c.args.level.now in
    subst (LeadTo c.args.store.now side) (sym c.as_slice.ensures) (c.in_ok-block.ensures.nodes c.args.store.now side c.requires.nodes)

pub returns-clause-answers : goal.returns-clause-answers
returns-clause-answers c = λ v u values inside low high.
    let old = c.args.store.now in
    let new = c.turned.new.store in
    let top = c.in_ok-block.ensures.high in
    let made = subst (λ ds. (v u : ℕ) (values : List ℕ) → v ≤ greatest_of c.args.field → u ≤ top_of c.args.level.now → answer new c.in_ok-to.to.0 (v ∷ u ∷ values) ≡ answer old (child_of (edges_of old (child_of ds u)) v) values) c.as_slice.ensures c.in_ok-to.ensures.answers in
    made v u values inside (omega (arith, high, top, c.greatest_in.ensures)) ∙ ap (λ k. answer old (child_of (edges_of old k) v) values) (c.in_ok-block.ensures.leads u low high)

use Rattle.std.proofs.Common.{◌≡◌, ℕ, List, ◌∷◌, ◌≤◌, ◌∙◌, ap, sym, subst}
use Rattle.field_boxes.specs.Fields.{greatest_of}
use Rattle.node_store.specs.Edges.{AreFull, child_of}
use Rattle.node_store.specs.Diagram.{answer}
use Rattle.node_store.specs.Levels.{HasField, next as next_level, top_of}
use Rattle.node_store.specs.Store.{LeadTo}
use Rattle.field_order.proofs.turning.turned.Goals as goal

pub make-requires-clause-field : goal.make-requires-clause-field
make-requires-clause-field c = subst HasField (sym (c.as_slice.ensures ∙ c.in_ok-upper.ensures)) c.requires.upper

pub make-requires-clause-full : goal.make-requires-clause-full
make-requires-clause-full c =
    subst (λ l. AreFull (top_of l) c.as_slice-2.result.now) (sym (c.as_slice.ensures ∙ c.in_ok-upper.ensures))
    (subst (AreFull (greatest_of c.args.field)) (sym c.as_slice-2.ensures) c.in_ok-rows.ensures.full)

pub make-requires-clause-children : goal.make-requires-clause-children
make-requires-clause-children c =
    subst (λ l. LeadTo c.few_rows.new.store (next_level l) c.as_slice-2.result.now) (sym (c.as_slice.ensures ∙ c.in_ok-upper.ensures))
    (subst (LeadTo c.few_rows.new.store c.args.level.now) (sym c.as_slice-2.ensures) c.in_ok-rows.ensures.nodes)

pub returns-clause-answers : goal.returns-clause-answers
returns-clause-answers c = λ v u values low inside.
    let n1 = c.few_rows.new.store in
    let n2 = c.make.new.self in
    let made = subst (λ l. (v : ℕ) (values : List ℕ) → v ≤ top_of l → answer n2 c.in_ok-id.id.0 (v ∷ values) ≡ answer n1 (child_of c.as_slice-2.result.now v) values) (c.as_slice.ensures ∙ c.in_ok-upper.ensures) c.in_ok-id.ensures.answers in
    made v (u ∷ values) low ∙ ap (λ ds. answer n1 (child_of ds v) (u ∷ values)) c.as_slice-2.ensures ∙ c.in_ok-rows.ensures.answers v u values low inside

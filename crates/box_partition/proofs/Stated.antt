-- What a node answers in an order which is the stated one.
use Rattle.std.proofs.Common.{◌≡◌, ℕ, List, ap, sym, subst, ◌∙◌}
use Rattle.field_boxes.specs.declared.rule.Rule.{Rule}
use Rattle.field_boxes.specs.Headline.Fields.{stated, AreValues, IsHeader}
use Rattle.node_store.specs.Diagram.{Node, answer}
use Rattle.fdd_build.specs.Rules.{decided}

-- a node that answers what rules decide in an order which is the stated one
pub in_order : (order : List ℕ) (nodes : List Node) (id : ℕ) (rules : List Rule) → order ≡ stated →
    ((values : List ℕ) → AreValues order values → answer nodes id values ≡ decided order rules values) →
    (header : List ℕ) → IsHeader header → answer nodes id header ≡ decided stated rules header
in_order order nodes id rules is h = λ header ok. h header (subst (λ o. AreValues o header) (sym is) ok) ∙ ap (λ o. decided o rules header) is

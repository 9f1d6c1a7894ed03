-- The least cost of a diagram is that of the rules that it was made of.
use Rattle.std.proofs.Common.{◌≡◌, ℕ, ◌≤◌, List, length, ap, sym, subst, ◌∙◌}
use Rattle.std.proofs.lemmas.List.Elements.{recursion_from_All}
use Rattle.field_boxes.specs.declared.rule.Rule as code
use Rattle.field_boxes.specs.Headline.Fields.{AreValues}
use Rattle.field_boxes.specs.NamedRules.{IsNumberedBy, named_rules}
use Rattle.field_boxes.specs.Names.{name_at}
use Rattle.node_store.specs.Diagram.{Node, answer}
use Rattle.fdd_build.specs.Rules.{decided}
use Rattle.fdd_build.proofs.Decided.{named, within}
use Rattle.table_compose.specs.Headline.LeastCost.{IsLeastCost}
use Rattle.table_compose.specs.Diagrams.{IsCostOf}
use Rattle.field_order.specs.Best.{AreNamesOf}

-- the node answers what the rules decide over these fields
abbrev pub AnswersRules : List Node → List ℕ → ℕ → List code.Rule → Type 0
AnswersRules nodes fields root rules = (values : List ℕ) → AreValues fields values → answer nodes root values ≡ decided fields rules values

bounded : (nodes : List Node) (fields : List ℕ) (root : ℕ) (rules : List code.Rule) (names : List (List ℕ)) → AreNamesOf rules names → AnswersRules nodes fields root rules →
    (values : List ℕ) → AreValues fields values → answer nodes root values ≤ length names
bounded nodes fields root rules names are answers values ok =
    subst (λ n. n ≤ length names) (sym (answers values ok)) (within fields names rules values (recursion_from_All (IsNumberedBy names) rules are.numbered))

pub cost_of_rules : (nodes : List Node) (fields : List ℕ) (root n : ℕ) (rules : List code.Rule) (names : List (List ℕ)) → AreNamesOf rules names → AnswersRules nodes fields root rules →
    IsCostOf nodes fields root n → IsLeastCost fields (named_rules names rules) n
cost_of_rules nodes fields root n rules names are answers cost =
    let low = bounded nodes fields root rules names are answers in
    cost (name_at names) (named_rules names rules)
    (λ a b ok okay e. are.distinct (answer nodes root a) (answer nodes root b) (low a ok) (low b okay) e)
    (λ values ok. named fields names rules values (recursion_from_All (IsNumberedBy names) rules are.numbered) ∙ ap (name_at names) (sym (answers values ok)))

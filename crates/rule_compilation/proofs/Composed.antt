-- What the composed entries of a diagram are to the rules that it was made of.
use Rattle.std.proofs.Common.{◌≡◌, ℕ, ◌≤◌, List, length, ap, sym, subst, ◌∙◌}
use Rattle.std.specs.List.{All, AllByRecursion}
use Rattle.field_boxes.specs.Alike.{IsTight}
use Rattle.field_boxes.specs.declared.rule.Rule as code
use Rattle.field_boxes.specs.Headline.Fields.{AreValues, IsHeader, stated}
use Rattle.field_boxes.specs.Headline.Classifier.{source}
use Rattle.field_boxes.specs.NamedRules.{IsNumberedBy, named_rules}
use Rattle.field_boxes.specs.Names.{AreDistinct, name_at}
use Rattle.ternary_words.specs.declared.entry.Entry.{Entry}
use Rattle.ternary_words.specs.Limits.{AreNumbered}
use Rattle.node_store.specs.Diagram.{Node, answer, level_of}
use Rattle.node_store.specs.Store.{IsStore}
use Rattle.fdd_build.specs.Rules.{decided}
use Rattle.fdd_build.proofs.Decided.{named, within}
use Rattle.table_compose.specs.Headline.LeastCost.{IsLeastCost}
use Rattle.table_compose.specs.Diagrams.{DecideAs, IsCostOf, NamesApart}
use Rattle.table_compose.specs.Composed.{IsAnswer, IsRefusal}
use Rattle.table_compose.specs.declared.composition.ComposeError.{ComposeError}
use Rattle.table_compose.specs.declared.composition.ComposeError.TheVariants.{TooMany, Memory}
use Rattle.ternary_words.specs.Entries.{ArePrefixes, answer as number_answer}
use Rattle.field_boxes.specs.Orders.{IsOrder, picked}
use Rattle.node_store.proofs.Orders.{order_level, picked_values}
use Rattle.rule_compilation.specs.Compiled.{IsRefusedIn}
use Rattle.redundancy.specs.Kept.{AreKeptOf}
use Rattle.rule_compilation.specs.Entries.{AreTightOf}
use Rattle.rule_compilation.specs.Pass.{IsDiagramOf}
use Rattle.rule_compilation.proofs.Ordered.{source_in}
use Rattle.rule_compilation.proofs.Removed.{answer_named}

-- the node of a store answers every header what the rules decide, and the rules decide numbers of these names
pub record IsBuiltOf (order : List ℕ) (names : List (List ℕ)) (rules : List code.Rule) (nodes : List Node) (root : ℕ) : Type 0 where
  pub numbered : AllByRecursion (IsNumberedBy names) rules
  pub ordered : IsOrder order
  pub answers : (values : List ℕ) → AreValues order values → answer nodes root values ≡ decided order rules values
  pub store : IsStore nodes
  pub level : level_of nodes root ≡ order
  pub distinct : AreDistinct names
  pub apart : ((values : List ℕ) → AreValues order values → answer nodes root values ≤ length names) → NamesApart nodes order root (name_at names)

bounded : (order : List ℕ) (names : List (List ℕ)) (rules : List code.Rule) (nodes : List Node) (root : ℕ) → IsBuiltOf order names rules nodes root → (values : List ℕ) → AreValues order values → answer nodes root values ≤ length names
bounded order names rules nodes root d values ok = subst (λ n. n ≤ length names) (sym (d.answers values ok)) (within order names rules values d.numbered)

by_name : (order : List ℕ) (names : List (List ℕ)) (rules : List code.Rule) (nodes : List Node) (root : ℕ) → IsBuiltOf order names rules nodes root → DecideAs nodes order root (name_at names) (named_rules names rules)
by_name order names rules nodes root d values ok = named order names rules values d.numbered ∙ ap (name_at names) (sym (d.answers values ok))

pub by_header : (order : List ℕ) (names : List (List ℕ)) (rules : List code.Rule) (nodes : List Node) (root : ℕ) → IsBuiltOf order names rules nodes root → (header : List ℕ) → IsHeader header →
    name_at names (answer nodes root (picked order header)) ≡ source stated header (named_rules names rules)
by_header order names rules nodes root d header is =
    sym (by_name order names rules nodes root d (picked order header) (picked_values order header (order_level order d.ordered) is)) ∙ source_in order header (named_rules names rules) d.ordered is

pub diagram_of : (order : List ℕ) (names : List (List ℕ)) (rules : List code.Rule) (nodes : List Node) (root : ℕ) → IsBuiltOf order names rules nodes root → IsDiagramOf order names (named_rules names rules) nodes root
diagram_of order names rules nodes root d = record { store = d.store; level = d.level; distinct = d.distinct; answers = by_header order names rules nodes root d }

-- the least cost of the diagram is that of the rules
pub cost_of_rules : (order : List ℕ) (names : List (List ℕ)) (rules : List code.Rule) (nodes : List Node) (root n : ℕ) → IsBuiltOf order names rules nodes root → IsCostOf nodes order root n → IsLeastCost order (named_rules names rules) n
cost_of_rules order names rules nodes root n d cost =
    cost (name_at names) (named_rules names rules) (d.apart (bounded order names rules nodes root d)) (by_name order names rules nodes root d)

-- each entry decides a number of the names, or 0
pub are_numbered : (order : List ℕ) (names : List (List ℕ)) (rules : List code.Rule) (nodes : List Node) (root : ℕ) (entries : List Entry) → IsBuiltOf order names rules nodes root →
    All (λ e. IsAnswer nodes order root e.decision) entries → AreNumbered (length names) entries
are_numbered order names rules nodes root entries d all k e less =
    let met = all k e less in
    subst (λ n. n ≤ length names) met.2 (bounded order names rules nodes root d met.0 met.1)

-- what refuses the diagram refuses the rules
pub refused : (order : List ℕ) (names : List (List ℕ)) (rules : List code.Rule) (nodes : List Node) (root limit : ℕ) (error : ComposeError) → IsBuiltOf order names rules nodes root → IsRefusal nodes order root limit error →
    IsRefusedIn order (named_rules names rules) limit error
refused order names rules nodes root limit Memory d h = tt
refused order names rules nodes root limit (TooMany needed most) d h = (cost_of_rules order names rules nodes root needed d h.0, h.1, h.2)

-- what is needed of the diagram's composed table, said of the rules
pub compiled : (order : List ℕ) (names : List (List ℕ)) (rules : List code.Rule) (nodes : List Node) (root composed : ℕ) (kept : List Entry) → IsBuiltOf order names rules nodes root →
    IsCostOf nodes order root composed → AreKeptOf nodes order root composed kept → length kept ≤ composed → IsTight number_answer kept →
    ((header : List ℕ) → IsHeader header → number_answer kept header ≡ answer nodes root (picked order header)) →
    All (λ e. IsAnswer nodes order root e.decision) kept → ArePrefixes kept → AreTightOf order names (named_rules names rules) composed kept
compiled order names rules nodes root composed kept d cost are few tight answers decisions prefixes = record {
  least = cost_of_rules order names rules nodes root composed d cost;
  few = few;
  numbered = are_numbered order names rules nodes root kept d decisions;
  answers = λ header is. answer_named names kept header ∙ ap (name_at names) (answers header is) ∙ by_header order names rules nodes root d header is;
  prefixes = prefixes;
  all = are.all;
  made = (nodes, root, diagram_of order names rules nodes root d, are.composed);
  many = are.many;
  pass = are.pass;
  tight = tight;
}

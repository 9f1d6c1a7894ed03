-- What the composed entries of a diagram are to the rules that it was made of.
use Rattle.std.proofs.Common.{◌≡◌, ◌≤◌, ℕ, List, length, arith, subst}
use Rattle.std.specs.Prelude.{IfErr, IfOk, MatchResult, Result, Ok, Err, Some, vec_len}
use Rattle.std.specs.Global.{Vec}
use Rattle.std.specs.List.{All}
use Rattle.std.proofs.lemmas.List.Elements.{All-weaker}
use Rattle.field_boxes.specs.declared.rule.Rule as code
use Rattle.field_boxes.specs.Headline.Fields.{IsHeader}
use Rattle.field_boxes.specs.NamedRules.{named_rules}
use Rattle.ternary_words.specs.declared.entry.Entry.{Entry}
use Rattle.ternary_words.specs.Prefixes.{IsPrefixInEach}
use Rattle.ternary_words.specs.Views.{word_of}
use Rattle.node_store.specs.Diagram.{Node, answer}
use Rattle.table_compose.specs.Diagrams.{IsCostOf}
use Rattle.table_compose.specs.Headline.LeastCost.{IsLeastCost}
use Rattle.table_compose.specs.Composed.{AreComposed, IsAnswer, IsPrefixWord, IsRefusal, decided}
use Rattle.table_compose.specs.declared.composition.ComposeError.{ComposeError}
use Rattle.ternary_words.specs.Entries.{ArePrefixes}
use Rattle.field_boxes.specs.Orders.{picked}
use Rattle.rule_compilation.specs.Compiled.{IsRefusedIn}
use Rattle.rule_compilation.specs.Entries.{AreEntriesOf}
use Rattle.rule_compilation.proofs.Composed.{IsBuiltOf, are_numbered, by_header, cost_of_rules, diagram_of, refused}

are_prefixes : (entries : List Entry) → All (λ (e : Entry). IsPrefixWord e.word) entries → ArePrefixes entries
are_prefixes entries all =
    All-weaker (λ (e : Entry). IsPrefixWord e.word) (λ (e : Entry). IsPrefixInEach (word_of e.word)) (λ e h. (h.0, record { five = h.1.five; fit = h.1.fit; same = h.1.trits })) entries all

-- what composing the diagram comes to, said of the rules
pub whole : (order : List ℕ) (names : List (List ℕ)) (rules : List code.Rule) (nodes : List Node) (root limit : ℕ) (result : Result (Vec Entry) ComposeError) → IsBuiltOf order names rules nodes root →
    IfOk result (λ es. AreComposed nodes order root es.items) → IfOk result (λ es. IsCostOf nodes order root (vec_len es)) →
    IfOk result (λ es. (header : List ℕ) → IsHeader header → decided es.items header ≡ Some (answer nodes root (picked order header))) →
    IfOk result (λ es. All (λ (e : Entry). IsPrefixWord e.word) es.items) → IfOk result (λ es. All (λ (e : Entry). IsAnswer nodes order root e.decision) es.items) → IfErr result (λ e. IsRefusal nodes order root limit e) →
    MatchResult result (λ es. AreEntriesOf order names (named_rules names rules) es.items) (λ e. IsRefusedIn order (named_rules names rules) limit e)
whole order names rules nodes root limit (Ok es) d composed cost answers prefixes decisions refusal = record {
  composed = (nodes, root, diagram_of order names rules nodes root d, composed);
  least = cost_of_rules order names rules nodes root (length es.items) d (subst (λ n. IsCostOf nodes order root n) (omega (arith, es.ok.0)) cost);
  prefixes = are_prefixes es.items prefixes;
  numbered = are_numbered order names rules nodes root es.items d decisions;
  decides = λ header is. (answer nodes root (picked order header), answers header is, by_header order names rules nodes root d header is);
}
whole order names rules nodes root limit (Err e) d composed cost answers prefixes decisions refusal = refused order names rules nodes root limit e d refusal

-- entries within a limit, as many as the least cost, say that it is within the limit
pub within : (order : List ℕ) (names : List (List ℕ)) (rules : List code.Rule) (limit : ℕ) (result : Result (Vec Entry) ComposeError) →
    ((m n : ℕ) → IsLeastCost order (named_rules names rules) m → IsLeastCost order (named_rules names rules) n → m ≡ n) →
    MatchResult result (λ es. AreEntriesOf order names (named_rules names rules) es.items) (λ e. IsRefusedIn order (named_rules names rules) limit e) → IfOk result (λ es. vec_len es ≤ limit) →
    IfOk result (λ es. (needed : ℕ) → IsLeastCost order (named_rules names rules) needed → needed ≤ limit)
within order names rules limit (Ok es) one are few = λ needed least. omega (arith, one needed (length es.items) least are.least, es.ok.0, few)
within order names rules limit (Err e) one are few = tt

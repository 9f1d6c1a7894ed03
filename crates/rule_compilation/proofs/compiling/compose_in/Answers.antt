use Rattle.std.proofs.Common.{List, ℕ, subst}
use Rattle.std.specs.Prelude.{MatchResult}
use Rattle.std.proofs.lemmas.List.Elements.{recursion_from_All}
use Rattle.field_boxes.specs.NamedRules.{IsNumberedBy, named_rules}
use Rattle.node_store.proofs.Orders.{order_level}
use Rattle.rule_compilation.specs.Compiled.{IsRefusedIn}
use Rattle.rule_compilation.specs.Entries.{AreEntriesOf}
use Rattle.rule_compilation.proofs.Composed.{IsBuiltOf}
use Rattle.rule_compilation.proofs.Whole.{whole, within}
use Rattle.rule_compilation.proofs.compiling.compose_in.Goals as goal

pub build-requires : goal.build-requires
build-requires c = order_level c.fields-level.result.now c.fields-level.ensures.order

pub compose-requires-clause-order : goal.compose-requires-clause-order
compose-requires-clause-order c = order_level c.fields-level.result.now c.fields-level.ensures.order

pub returns-clause-entries : goal.returns-clause-entries
returns-clause-entries c =
    let level = c.fields-level.result.now in
    let names = c.args.names.now in
    let rules = c.args.rules.now in
    let nodes = c.build.new.store in
    let root = c.in_ok-root.root.0 in
    let built : IsBuiltOf level names rules nodes root = record {
      numbered = recursion_from_All (IsNumberedBy names) rules c.requires.numbered;
      ordered = c.fields-level.ensures.order;
      answers = c.in_ok-root.ensures.answers;
      store = c.same_answers.ensures.store;
      level = c.in_ok-root.ensures.level;
      distinct = c.are_names.ensures.distinct;
      apart = c.distinct_names_tell_apart.ensures nodes level root names c.are_names.ensures.distinct;
    } in
    subst
    (λ (order : List ℕ). MatchResult c.compose.result (λ entries. AreEntriesOf order names (named_rules names rules) entries.items) (λ e. IsRefusedIn order (named_rules names rules) c.args.limit e))
    c.fields-level.ensures.fields
    (whole level names rules nodes root c.args.limit c.compose.result built c.compose.ensures.composed c.compose.ensures.count c.compose.ensures.answers c.compose.ensures.prefixes c.compose.ensures.decisions c.compose.ensures.refusal)

pub returns-clause-room : goal.returns-clause-room
returns-clause-room c =
    let order = c.args.order.now in
    let names = c.args.names.now in
    let rules = c.args.rules.now in
    within order names rules c.args.limit c.compose.result (c.one_least_cost.ensures order (named_rules names rules)) (returns-clause-entries c) c.compose.ensures.within

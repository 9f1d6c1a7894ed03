use Rattle.std.proofs.Common.{arith, subst, sym}
use Rattle.std.proofs.lemmas.List.Elements.{recursion_from_All}
use Rattle.std.proofs.lemmas.Result.{err_from_is_err_and}
use Rattle.field_boxes.specs.NamedRules.{IsNumberedBy}
use Rattle.node_store.proofs.Orders.{order_level}
use Rattle.table_compose.specs.Diagrams.{IsCostOf}
use Rattle.redundancy.specs.Kept.{AreKeptOf}
use Rattle.redundancy.proofs.Removals.{memory_refused, unless_memory}
use Rattle.rule_compilation.specs.Kept.{IsTrue}
use Rattle.rule_compilation.proofs.Composed.{IsBuiltOf, compiled, refused}
use Rattle.rule_compilation.proofs.kept.Kept.tight_table.Goals as goal

pub build-requires-clause-order : goal.build-requires-clause-order
build-requires-clause-order c = order_level c.args.order.now c.requires.order

pub learn-requires-clause-order : goal.learn-requires-clause-order
learn-requires-clause-order c = order_level c.args.order.now c.requires.order

pub learn-requires-clause-plans : goal.learn-requires-clause-plans
learn-requires-clause-plans c =
    c.plans_last.ensures c.args.self.now.store c.build.new.store c.args.self.now.plans c.in_ok-root.ensures.grows c.requires.kept.plans

pub needed-requires-clause-removal : goal.needed-requires-clause-removal
needed-requires-clause-removal c =
    let k = c.args.self.now in
    c.removal_lasts.ensures.learnt c.build.new.store k.plans c.learn.new.self k.removal c.in_ok-learn.ensures.earlier
    (c.removal_lasts.ensures.grown k.store c.build.new.store k.plans k.removal c.in_ok-root.ensures.grows c.requires.kept.plans c.requires.kept.removal)

pub returns-in_err-learn-clause-table : goal.returns-in_err-learn-clause-table
returns-in_err-learn-clause-table c =
    let order = c.args.order.now in
    let names = c.args.names.now in
    let rules = c.args.rules.now in
    let nodes = c.build.new.store in
    let root = c.in_ok-root.root.0 in
    let built : IsBuiltOf order names rules nodes root = record {
      numbered = recursion_from_All (IsNumberedBy names) rules c.requires.numbered;
      ordered = c.requires.order;
      answers = c.in_ok-root.ensures.answers;
      store = c.same_answers.ensures.store;
      level = c.in_ok-root.ensures.level;
      distinct = c.are_names.ensures.distinct;
      apart = c.distinct_names_tell_apart.ensures nodes order root names c.are_names.ensures.distinct;
    } in
    let stop = err_from_is_err_and c.from_residual-in_err-learn.result c.from_residual-in_err-learn.ensures.1 in
    rw (stop.1, stop.2) (refused order names rules nodes root c.args.limit _ built c.in_err-learn.ensures.refusal)

pub returns-in_err-learn-clause-kept : goal.returns-in_err-learn-clause-kept
returns-in_err-learn-clause-kept c =
    let k = c.args.self.now in
    let kept : IsTrue c.args.order.now (record { store = c.build.new.store; builder = c.build.new.self; plans = c.learn.new.self; removal = k.removal; first_count = k.first_count }) = record {
      builder = c.in_ok-root.ensures.builder;
      plans = c.in_err-learn.ensures.plans;
      removal = c.removal_lasts.ensures.learnt c.build.new.store k.plans c.learn.new.self k.removal c.in_err-learn.ensures.earlier
          (c.removal_lasts.ensures.grown k.store c.build.new.store k.plans k.removal c.in_ok-root.ensures.grows c.requires.kept.plans c.requires.kept.removal);
    } in
    unless_memory c.from_residual-in_err-learn.result kept

pub returns-in_err-entries-clause-kept : goal.returns-in_err-entries-clause-kept
returns-in_err-entries-clause-kept c = memory_refused _ c.from_residual-in_err-entries.result c.from_residual-in_err-entries.ensures.1

pub returns-clause-table : goal.returns-clause-table
returns-clause-table c =
    let order = c.args.order.now in
    let names = c.args.names.now in
    let rules = c.args.rules.now in
    let nodes = c.build.new.store in
    let root = c.in_ok-root.root.0 in
    let built : IsBuiltOf order names rules nodes root = record {
      numbered = recursion_from_All (IsNumberedBy names) rules c.requires.numbered;
      ordered = c.requires.order;
      answers = c.in_ok-root.ensures.answers;
      store = c.same_answers.ensures.store;
      level = c.in_ok-root.ensures.level;
      distinct = c.are_names.ensures.distinct;
      apart = c.distinct_names_tell_apart.ensures nodes order root names c.are_names.ensures.distinct;
    } in
    let kept = c.in_ok-entries.entries.items in
    let needed = c.in_ok-entries.ensures in
    let cost = sym c.cost-composed.ensures in
    compiled order names rules nodes root c.cost-composed.result kept built (subst (λ n. IsCostOf nodes order root n) cost c.in_ok-learn.ensures.least)
    (subst (λ n. AreKeptOf nodes order root n kept) cost needed.pass) (omega (arith, cost, needed.few)) needed.tight needed.answers needed.decisions needed.prefixes

pub returns-clause-within : goal.returns-clause-within
returns-clause-within c = omega (arith, c.cost-composed.ensures, c.in_ok-learn.ensures.within)

pub returns-clause-kept : goal.returns-clause-kept
returns-clause-kept c = record { builder = c.in_ok-root.ensures.builder; plans = c.in_ok-learn.ensures.plans; removal = c.in_ok-entries.ensures.removal }

use Rattle.std.proofs.Common.{◌∙◌, arith}
use Rattle.node_store.proofs.Orders.{order_level}
use Rattle.table_compose.specs.Composed.{IsAnswer}
use Rattle.table_compose.specs.Rows.{rows_at}
use Rattle.table_compose.proofs.Boxes.{have_by}
use Rattle.ternary_words.specs.Prefixes.{IsPrefixInEach}
use Rattle.ternary_words.specs.Views.{word_of}
use Rattle.redundancy.proofs.NodeBlocks.{has_plans}
use Rattle.redundancy.proofs.NodeRows.{all_of_part, kept_of, part_few, table_answers, table_decides, table_prefixes}
use Rattle.redundancy.proofs.removal.Removal.needed.Goals as goal

pub flags-requires-clause-lists : goal.flags-requires-clause-lists
flags-requires-clause-lists c =
    (have_by c.args.store.now c.args.plans.now c.same_answers.ensures.store c.requires.plans c.args.order.now c.args.root.0 (order_level c.args.order.now c.requires.order) c.requires.root c.requires.known).0

pub flags-requires-clause-planned : goal.flags-requires-clause-planned
flags-requires-clause-planned c =
    has_plans c.args.store.now c.args.plans.now c.args.order.now c.args.root.0 c.same_answers.ensures.store c.requires.plans (order_level c.args.order.now c.requires.order) c.requires.root c.requires.known

pub add_kept-requires-clause-level : goal.add_kept-requires-clause-level
add_kept-requires-clause-level c = order_level c.args.order.now c.requires.order

pub add_kept-requires-clause-lists : goal.add_kept-requires-clause-lists
add_kept-requires-clause-lists c =
    (have_by c.args.store.now c.args.plans.now c.same_answers.ensures.store c.requires.plans c.args.order.now c.args.root.0 (order_level c.args.order.now c.requires.order) c.requires.root c.requires.known).0

pub add_kept-requires-clause-costs : goal.add_kept-requires-clause-costs
add_kept-requires-clause-costs c =
    (have_by c.args.store.now c.args.plans.now c.same_answers.ensures.store c.requires.plans c.args.order.now c.args.root.0 (order_level c.args.order.now c.requires.order) c.requires.root c.requires.known).1

pub returns-clause-pass : goal.returns-clause-pass
returns-clause-pass c =
    let have = have_by c.args.store.now c.args.plans.now c.same_answers.ensures.store c.requires.plans c.args.order.now c.args.root.0 (order_level c.args.order.now c.requires.order) c.requires.root c.requires.known in
    kept_of c.args.store.now (rows_at c.args.plans.now.lists.items) c.args.plans.now.costs.items c.args.order.now c.args.root.0 c.new-kept.result.items c.add_kept.new.entries.items c.in_ok-flags.flags.items c.as_slice.result.now
    c.new-kept.ensures.items c.as_slice.ensures.value c.in_ok-flags.ensures.kept have.0 have.1 c.in_ok-add_kept.ensures

pub returns-clause-few : goal.returns-clause-few
returns-clause-few c =
    let k = returns-clause-pass c in
    let kept = c.add_kept.new.entries.items in
    omega (arith, part_few kept k.all (c.one_pass.ensures.part k.all kept k.pass), k.many)

pub returns-clause-tight : goal.returns-clause-tight
returns-clause-tight c = let k = returns-clause-pass c in c.one_pass.ensures.tight k.all c.add_kept.new.entries.items k.pass

pub returns-clause-answers : goal.returns-clause-answers
returns-clause-answers c =
    let k = returns-clause-pass c in
    λ header is. c.one_pass.ensures.alike k.all c.add_kept.new.entries.items k.pass header is ∙ table_answers c.args.store.now c.args.order.now c.args.root.0 k.all c.same_answers.ensures.store c.requires.order c.requires.root k.composed header is

pub returns-clause-decisions : goal.returns-clause-decisions
returns-clause-decisions c =
    let k = returns-clause-pass c in
    let kept = c.add_kept.new.entries.items in
    all_of_part (λ e. IsAnswer c.args.store.now c.args.order.now c.args.root.0 e.decision) kept k.all (c.one_pass.ensures.part k.all kept k.pass)
    (table_decides c.args.store.now c.args.order.now c.args.root.0 k.all c.same_answers.ensures.store c.requires.order c.requires.root k.composed)

pub returns-clause-prefixes : goal.returns-clause-prefixes
returns-clause-prefixes c =
    let k = returns-clause-pass c in
    let kept = c.add_kept.new.entries.items in
    all_of_part (λ e. IsPrefixInEach (word_of e.word)) kept k.all (c.one_pass.ensures.part k.all kept k.pass) (table_prefixes c.args.store.now c.args.order.now c.args.root.0 k.all k.composed)

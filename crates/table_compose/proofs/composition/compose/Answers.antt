use Rattle.std.proofs.Common.{◌≡◌, arith, subst}
use Rattle.std.specs.Prelude.{slice_index, vec_len}
use Rattle.table_compose.specs.Rows.{rows_at}
use Rattle.table_compose.specs.Diagrams.{IsCostOf}
use Rattle.table_compose.specs.Composed.{IsAnswer, boxes}
use Rattle.table_compose.proofs.Tables.{counted, answers, prefix_words}
use Rattle.table_compose.proofs.Occurring.{entries_occur, occur_by}
use Rattle.table_compose.proofs.composition.compose.Goals as goal

pub returns-clause-count : goal.returns-clause-count
returns-clause-count c =
    let root = c.args.root.0 in
    let plans = c.in_ok-plans.plans in
    let entries = c.in_ok-entries.entries in
    let many = counted c.args.store.now c.args.order.now root plans.costs.items (rows_at plans.lists.items) entries.items c.in_ok-plans.ensures.costs c.in_ok-entries.ensures in
    let same : slice_index plans.costs.items root ≡ vec_len entries = omega (arith, many, entries.ok) in
    subst (λ n. IsCostOf c.args.store.now c.args.order.now root n) same c.in_ok-plans.ensures.least

pub returns-clause-within : goal.returns-clause-within
returns-clause-within c =
    let plans = c.in_ok-plans.plans in
    let entries = c.in_ok-entries.entries in
    let many = counted c.args.store.now c.args.order.now c.args.root.0 plans.costs.items (rows_at plans.lists.items) entries.items c.in_ok-plans.ensures.costs c.in_ok-entries.ensures in
    omega (arith, many, entries.ok, c.in_ok-plans.ensures.within)

pub returns-clause-answers : goal.returns-clause-answers
returns-clause-answers c =
    answers c.args.store.now c.args.order.now c.args.root.0 (rows_at c.in_ok-plans.plans.lists.items) c.in_ok-entries.entries.items c.same_answers.ensures.store c.requires.order c.requires.apart c.requires.root
    c.in_ok-plans.ensures.lists c.in_ok-entries.ensures

pub returns-clause-decisions : goal.returns-clause-decisions
returns-clause-decisions c =
    let nodes = c.args.store.now in
    let root = c.args.root.0 in
    let lists = rows_at c.in_ok-plans.plans.lists.items in
    entries_occur c.args.order.now (IsAnswer nodes c.args.order.now root) (boxes nodes lists c.args.order.now root) c.in_ok-entries.entries.items c.in_ok-entries.ensures
    (occur_by nodes lists c.same_answers.ensures.store c.args.order.now root c.requires.order c.requires.root c.in_ok-plans.ensures.lists)

pub returns-clause-prefixes : goal.returns-clause-prefixes
returns-clause-prefixes c =
    prefix_words c.args.order.now (boxes c.args.store.now (rows_at c.in_ok-plans.plans.lists.items) c.args.order.now c.args.root.0) c.in_ok-entries.entries.items c.in_ok-entries.ensures

pub returns-clause-composed : goal.returns-clause-composed
returns-clause-composed c = record { lists = rows_at c.in_ok-plans.plans.lists.items; have = c.in_ok-plans.ensures.lists; entries_are = c.in_ok-entries.ensures }

use Rattle.std.proofs.Common.{◌≡◌, ◌∙◌, arith, ap, length, rules, set, subst, sym}
use Rattle.std.specs.Prelude.{slice_index_or}
use Rattle.field_boxes.specs.Headline.Fields.{stated}
use Rattle.node_store.specs.Levels.{IsLevel, next as next_level}
use Rattle.node_store.specs.Diagram.{level_of}
use Rattle.node_store.proofs.Canonical.{is_next, not_empty}
use Rattle.ternary_words.specs.Prefixes.{FitFields}
use Rattle.table_compose.specs.declared.row.Row.{Row}
use Rattle.table_compose.specs.Rows.{rows_at}
use Rattle.table_compose.specs.Composed.{HaveCosts, HaveLists, boxes}
use Rattle.table_compose.proofs.Boxes.{count}
use Rattle.table_compose.proofs.Planned.{no_fields}
use Rattle.table_compose.proofs.Gaining.{list_there, lists_at, next_of}
use Rattle.redundancy.specs.Kept.{GainsFlagged}
use Rattle.redundancy.proofs.Flagged.{costs_at, costs_room, one_less, flagged_all, flagged_leaf, flagged_more, flagged_none, passed_over}
use Rattle.redundancy.proofs.diagrams.+add_kept.Goals as goal

pub returns-then-not-is_some_kept : goal.returns-then-not-is_some_kept
returns-then-not-is_some_kept t c =
    let five : length c.args.prefixes ≡ 5 = search rules in
    passed_over c.args.store.now (rows_at c.args.plans.now.lists.items) c.args.level.now c.args.id.0 c.args.prefixes c.args.entries.now.items c.args.flags.now c.same_answers.ensures.store c.requires.level c.requires.at c.requires.lists
    five c.requires.fit (sym c.is_some_kept.ensures ∙ c.if-not-is_some_kept.true)

pub returns-then-is_empty : goal.returns-then-is_empty
returns-then-is_empty t c =
    flagged_leaf c.args.store.now (rows_at c.args.plans.now.lists.items) c.args.level.now c.args.id.0 c.args.prefixes c.args.entries.now.items c.add_leaf.new.entries.items c.args.flags.now c.add_leaf.result
    (no_fields c.args.level.now (sym c.if-is_empty.ensures)) c.add_leaf.ensures

pub rows-rows-requires : goal.rows-rows-requires
rows-rows-requires t c =
    let lists = c.args.plans.now.lists.items in
    list_there lists c.args.id.0 ((lists_at c.args.store.now (rows_at lists) c.args.level.now c.args.id.0 (not_empty c.args.level.now c.requires.level (sym c.if-is_empty.ensures)) c.requires.lists).0.order.some)

pub loop-row-init : goal.loop-row-init
loop-row-init t c = flagged_none c.args.level.now c.args.prefixes c.args.entries.now.items (boxes c.args.store.now (rows_at c.args.plans.now.lists.items) (next_level c.args.level.now)) c.args.flags.now

pub cost-requires : goal.cost-requires
cost-requires t c =
    let nodes = c.args.store.now in
    let lists = rows_at c.args.plans.now.lists.items in
    let costs = c.args.plans.now.costs.items in
    let level = c.args.level.now in
    let items = c.rows-rows.result.now in
    let i = c.loop-row.row-index in
    let d : Row = record { prefix = record { value = 0; len = 0 }; to = record { 0 = 0 } } in
    costs_room nodes lists costs (next_level level) (slice_index_or items i d).to.0
    (costs_at nodes lists costs level c.args.id.0 items i d (not_empty level c.requires.level (sym c.if-is_empty.ensures)) c.requires.costs c.rows-rows.ensures c.loop-row-test.true)

pub add_kept-requires : goal.add_kept-requires
add_kept-requires t c =
    let nodes = c.args.store.now in
    let plans = c.args.plans.now in
    let lists = rows_at plans.lists.items in
    let level = c.args.level.now in
    let id = c.args.id.0 in
    let items = c.rows-rows.result.now in
    let i = c.loop-row.row-index in
    let d : Row = record { prefix = record { value = 0; len = 0 }; to = record { 0 = 0 } } in
    let r = slice_index_or items i d in
    let has = not_empty level c.requires.level (sym c.if-is_empty.ensures) in
    let next = next_of nodes lists level id c.args.prefixes items i d c.same_answers.ensures.store has c.requires.at c.requires.lists c.rows-rows.ensures c.loop-row-test.true c.requires.fit in
    let tail = sym c.after-below.ensures in
    let at = subst (λ k. level_of nodes r.to.0 ≡ k) tail next.at in
    let have = subst (λ k. HaveLists nodes lists k r.to.0) tail next.have in
    let cost = subst (λ k. HaveCosts nodes lists plans.costs.items k r.to.0) tail (costs_at nodes lists plans.costs.items level id items i d has c.requires.costs c.rows-rows.ensures c.loop-row-test.true) in
    let fit = subst (λ k. FitFields stated (set c.args.prefixes k r.prefix)) (sym c.from.ensures) next.fit in
    (omega (arith, c.decreases, one_less level has, ap length c.after-below.ensures), (subst IsLevel tail (is_next level has), (at, (have, (cost, fit)))))

pub loop-row-preserved : goal.loop-row-preserved
loop-row-preserved t c =
    let nodes = c.args.store.now in
    let lists = rows_at c.args.plans.now.lists.items in
    let costs = c.args.plans.now.costs.items in
    let level = c.args.level.now in
    let id = c.args.id.0 in
    let items = c.rows-rows.result.now in
    let has = not_empty level c.requires.level (sym c.if-is_empty.ensures) in
    let l = c.loop-row in
    let d : Row = record { prefix = record { value = 0; len = 0 }; to = record { 0 = 0 } } in
    let r = slice_index_or items l.row-index d in
    let many = count nodes lists costs (next_level level) r.to.0 (costs_at nodes lists costs level id items l.row-index d has c.requires.costs c.rows-rows.ensures c.loop-row-test.true) ∙ sym c.cost.ensures in
    let added = subst (λ k. GainsFlagged k (set c.args.prefixes c.from.result r.prefix) l.entries.items c.add_kept.new.entries.items (boxes nodes lists k r.to.0) c.parted.result.0.now) c.after-below.ensures c.in_ok-add_kept.ensures in
    flagged_more level c.args.prefixes c.args.entries.now.items l.entries.items c.add_kept.new.entries.items (boxes nodes lists (next_level level)) items l.row-index d c.args.flags.now l.rest.now c.parted.result.0.now c.parted.result.1.now c.cost.result
    has c.loop-row-test.true l.invariant many c.parted.ensures.front c.parted.ensures.others
    (subst (λ k. GainsFlagged (next_level level) (set c.args.prefixes k r.prefix) l.entries.items c.add_kept.new.entries.items (boxes nodes lists (next_level level) r.to.0) c.parted.result.0.now) c.from.ensures added)

pub returns : goal.returns
returns t c =
    let l = c.loop-row in
    flagged_all c.args.store.now (rows_at c.args.plans.now.lists.items) c.args.level.now c.args.id.0 c.args.prefixes c.rows-rows.result.now l.row-index c.args.entries.now.items l.entries.items c.args.flags.now l.rest.now
    (not_empty c.args.level.now c.requires.level (sym c.if-is_empty.ensures)) c.rows-rows.ensures c.loop-row-test.false l.invariant

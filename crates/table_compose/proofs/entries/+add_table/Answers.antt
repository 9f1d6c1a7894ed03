use Rattle.std.proofs.Common.{◌≡◌, arith, sym, subst, set}
use Rattle.std.specs.Prelude.{slice_index_or}
use Rattle.field_boxes.specs.Headline.Fields.{stated}
use Rattle.node_store.specs.Levels.{IsLevel, next as after}
use Rattle.node_store.specs.Diagram.{level_of}
use Rattle.node_store.proofs.Canonical.{not_empty, is_next}
use Rattle.node_store.proofs.Values.{rest_is}
use Rattle.ternary_words.specs.Prefixes.{FitFields}
use Rattle.table_compose.specs.declared.row.Row.{Row}
use Rattle.table_compose.specs.Rows.{rows_at}
use Rattle.table_compose.specs.Composed.{HaveLists, Gains, boxes}
use Rattle.table_compose.proofs.Planned.{no_fields}
use Rattle.table_compose.proofs.Gaining.{some_field, lists_at, list_there, rows_read, next_of, gains_leaf, gains_more, gains_all}
use Rattle.table_compose.proofs.entries.+add_table.Goals as goal

pub returns-then-is_empty : goal.returns-then-is_empty
returns-then-is_empty t c =
    gains_leaf c.args.store.now (rows_at c.args.plans.now.lists.items) c.args.level.now c.args.id.0 c.args.prefixes c.args.entries.now.items c.add_leaf.new.entries.items
    (no_fields c.args.level.now (sym c.if-is_empty.ensures)) c.in_ok-add_leaf.ensures

pub index-requires : goal.index-requires
index-requires t c =
    let lists = c.args.plans.now.lists in
    let there = list_there lists.items c.args.id.0 ((lists_at c.args.store.now (rows_at lists.items) c.args.level.now c.args.id.0 (not_empty c.args.level.now c.requires.level (sym c.if-is_empty.ensures)) c.requires.lists).0.order.some) in
    omega (arith, there, lists.ok)

pub add_table-requires : goal.add_table-requires
add_table-requires t c =
    let nodes = c.args.store.now in
    let lists = c.args.plans.now.lists.items in
    let level = c.args.level.now in
    let id = c.args.id.0 in
    let items = c.as_slice-row-items.result.now in
    let has = not_empty level c.requires.level (sym c.if-is_empty.ensures) in
    let is = rows_read nodes lists level id c.index.result.now items has c.requires.lists c.index.ensures c.as_slice-row-items.ensures.value in
    let i = c.loop-row.row-index in
    let d : Row = record { prefix = record { value = 0; len = 0 }; to = record { 0 = 0 } } in
    let r = slice_index_or items i d in
    let next = next_of nodes (rows_at lists) level id c.args.prefixes items i d c.same_answers.ensures.store has c.requires.at c.requires.lists is c.loop-row-test.true c.requires.fit in
    let tail = sym (rest_is level) in
    let at = subst (λ k. level_of nodes r.to.0 ≡ k) tail next.at in
    let have = subst (λ k. HaveLists nodes (rows_at lists) k r.to.0) tail next.have in
    let fit = subst (λ k. FitFields stated (set c.args.prefixes k r.prefix)) (sym c.from.ensures) next.fit in
    (omega (arith, c.decreases, some_field level has), (subst IsLevel tail (is_next level has), (at, (have, fit))))

pub loop-row-preserved : goal.loop-row-preserved
loop-row-preserved t c =
    let nodes = c.args.store.now in
    let lists = c.args.plans.now.lists.items in
    let level = c.args.level.now in
    let id = c.args.id.0 in
    let items = c.as_slice-row-items.result.now in
    let has = not_empty level c.requires.level (sym c.if-is_empty.ensures) in
    let l = c.loop-row in
    let d : Row = record { prefix = record { value = 0; len = 0 }; to = record { 0 = 0 } } in
    let r = slice_index_or items l.row-index d in
    let added = subst (λ k. Gains k (set c.args.prefixes c.from.result r.prefix) l.entries.items c.add_table.new.entries.items (boxes nodes (rows_at lists) k r.to.0)) (rest_is level) c.in_ok-add_table.ensures in
    gains_more level c.args.prefixes c.args.entries.now.items l.entries.items c.add_table.new.entries.items (boxes nodes (rows_at lists) (after level))
    items l.row-index d has c.loop-row-test.true l.invariant
    (subst (λ k. Gains (after level) (set c.args.prefixes k r.prefix) l.entries.items c.add_table.new.entries.items (boxes nodes (rows_at lists) (after level) r.to.0)) c.from.ensures added)

pub returns : goal.returns
returns t c =
    let nodes = c.args.store.now in
    let lists = c.args.plans.now.lists.items in
    let level = c.args.level.now in
    let id = c.args.id.0 in
    let items = c.as_slice-row-items.result.now in
    let has = not_empty level c.requires.level (sym c.if-is_empty.ensures) in
    let is = rows_read nodes lists level id c.index.result.now items has c.requires.lists c.index.ensures c.as_slice-row-items.ensures.value in
    gains_all nodes (rows_at lists) level id c.args.prefixes items c.loop-row.row-index c.args.entries.now.items c.loop-row.entries.items has is c.loop-row-test.false c.loop-row.invariant

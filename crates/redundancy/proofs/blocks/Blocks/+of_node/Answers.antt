use Rattle.std.proofs.Common.{◌≡◌, [], ap, arith, sym, subst, ◌∙◌, length}
use Rattle.std.specs.Prelude.{slice_index_or}
use Rattle.std.proofs.lemmas.List.{get_or_default}
use Rattle.std.proofs.lemmas.Result.{IfOk-weaker}
use Rattle.field_boxes.specs.Headline.Prefix.{FitsWidth}
use Rattle.field_boxes.specs.Prefix.{prefix_interval}
use Rattle.node_store.specs.Diagram.{level_of}
use Rattle.node_store.specs.Levels.{IsLevel, next as next_level}
use Rattle.node_store.proofs.Canonical.{is_next}
use Rattle.table_compose.specs.declared.row.Row.{Row}
use Rattle.table_compose.specs.Composed.{HaveLists}
use Rattle.table_compose.specs.Rows.{rows_at}
use Rattle.table_compose.proofs.Gaining.{list_there, lists_at}
use Rattle.redundancy.specs.Blocks.{IsBuilt}
use Rattle.redundancy.specs.NodeBlocks.{node_rows, HasPlans}
use Rattle.redundancy.proofs.Flagged.{one_less}
use Rattle.redundancy.proofs.NodeBlocks.{block_of, known_built, still_known, below_of, first_below, first_width, node_made, some_turned, turned_more, turned_none}
use Rattle.redundancy.proofs.blocks.Blocks.+of_node.Goals as goal

pub of_node-returns-in-Some-clause-built : goal.of_node-returns-in-Some-clause-built
of_node-returns-in-Some-clause-built t c =
    let plans = c.args.plans.now in
    known_built c.args.store.now plans c.args.sets.now c.args.self.now c.args.id.0 c.args.level.now c.in-Some.number c.requires.blocks c.requires.at
    (c.in-Some.ensures c.args.store.now plans c.args.self.now c.requires.known)

pub of_node-returns-clause-known : goal.of_node-returns-clause-known
of_node-returns-clause-known t c =
    let plans = c.args.plans.now in
    c.keep.ensures c.args.store.now plans c.made.new.self c.in_ok-number.ensures.known
    (block_of c.args.store.now plans c.args.sets.now c.made.new.sets c.args.self.now c.made.new.self c.args.id.0 c.args.level.now c.in_ok-number.number c.requires.at c.requires.planned c.in_ok-number.ensures.built)

pub made-returns-then-is_empty-clause-known : goal.made-returns-then-is_empty-clause-known
made-returns-then-is_empty-clause-known t c =
    still_known c.args.store.now c.args.plans.now c.args.sets.now c.of_leaf.new.sets c.args.self.now c.of_leaf.new.self c.args.known.now [] _ c.of_leaf.result c.requires.known c.of_leaf.ensures

pub of_rows-width-bits-requires : goal.of_rows-width-bits-requires
of_rows-width-bits-requires t c = first_below c.args.level.now c.from.result 0 c.requires.within c.from.ensures

pub of_rows-rows-rows-requires : goal.of_rows-rows-rows-requires
of_rows-rows-rows-requires t c =
    let lists = c.args.plans.now.lists.items in
    list_there lists c.args.id.0 ((lists_at c.args.store.now (rows_at lists) c.args.level.now c.args.id.0 c.requires.within c.requires.lists).0.order.some)

pub of_rows-loop-row-init : goal.of_rows-loop-row-init
of_rows-loop-row-init t c =
    turned_none c.args.store.now c.args.plans.now c.args.sets.now c.args.self.now c.args.known.now c.args.level.now c.in_ok-runs.runs.items c.requires.blocks c.requires.known c.in_ok-runs.ensures.items

pub of_rows-of_node-requires : goal.of_rows-of_node-requires
of_rows-of_node-requires t c =
    let l = c.loop-row in
    let plans = c.args.plans.now in
    let level = c.args.level.now in
    let d : Row = record { prefix = record { value = 0; len = 0 }; to = record { 0 = 0 } } in
    let node = (slice_index_or c.rows-rows.result.now l.row-index d).to.0 in
    let below = below_of c.args.store.now plans level c.args.id.0 c.rows-rows.result.now l.row-index d c.same_answers.ensures.store c.requires.within c.requires.at c.requires.lists c.requires.planned c.rows-rows.ensures c.loop-row-test.true in
    let tail = sym c.after-below.ensures in
    let at = subst (λ k. level_of c.args.store.now node ≡ k) tail below.at in
    let have = subst (λ k. HaveLists c.args.store.now (rows_at plans.lists.items) k node) tail below.have in
    let planned = subst (λ k. HasPlans plans k node) tail below.planned in
    let falls = one_less level c.requires.within in
    (omega (arith, c.decreases, falls, ap length c.after-below.ensures), (l.invariant.blocks.blocks, (l.invariant.known, (subst IsLevel tail (is_next level c.requires.within), (at, (have, planned))))))

pub of_rows-span-span-requires : goal.of_rows-span-span-requires
of_rows-span-span-requires t c =
    let d : Row = record { prefix = record { value = 0; len = 0 }; to = record { 0 = 0 } } in
    let l = c.loop-row in
    let below = below_of c.args.store.now c.args.plans.now c.args.level.now c.args.id.0 c.rows-rows.result.now l.row-index d c.same_answers.ensures.store c.requires.within c.requires.at c.requires.lists c.requires.planned c.rows-rows.ensures c.loop-row-test.true in
    subst (λ w. FitsWidth w (slice_index_or c.rows-rows.result.now l.row-index d).prefix) (sym (first_width c.args.level.now c.from.result c.width-bits.result 0 c.requires.within c.from.ensures c.width-bits.ensures)) below.fit

pub of_rows-loop-row-preserved : goal.of_rows-loop-row-preserved
of_rows-loop-row-preserved t c =
    let nodes = c.args.store.now in
    let lists = rows_at c.args.plans.now.lists.items in
    let l = c.loop-row in
    let level = c.args.level.now in
    let d : Row = record { prefix = record { value = 0; len = 0 }; to = record { 0 = 0 } } in
    let items = c.rows-rows.result.now in
    let r = slice_index_or items l.row-index d in
    let below = below_of nodes c.args.plans.now level c.args.id.0 items l.row-index d c.same_answers.ensures.store c.requires.within c.requires.at c.requires.lists c.requires.planned c.rows-rows.ensures c.loop-row-test.true in
    let wide = first_width level c.from.result c.width-bits.result 0 c.requires.within c.from.ensures c.width-bits.ensures in
    let built = subst (λ k. IsBuilt l.sets c.of_node.new.sets l.self c.of_node.new.self c.after-below.result.now (node_rows nodes lists k r.to.0) c.in_ok-block.block) c.after-below.ensures c.in_ok-block.ensures.built in
    turned_more nodes c.args.plans.now c.args.sets.now l.sets c.of_node.new.sets c.args.self.now l.self c.of_node.new.self l.known c.of_node.new.known level c.after-below.result.now l.row-index
    (node_rows nodes lists (next_level level)) items r l.runs.items c.push.new.self.items (record { span = c.span-span.result; block = c.in_ok-block.block }) c.requires.within c.after-below.ensures
    c.loop-row-test.true (get_or_default items l.row-index d r c.loop-row-test.true) below.fit l.invariant built c.in_ok-block.ensures.known
    (c.span-span.ensures ∙ ap (λ w. prefix_interval w r.prefix) wide) c.in_ok-push.ensures.items

pub of_rows-of_runs-requires-clause-some : goal.of_rows-of_runs-requires-clause-some
of_rows-of_runs-requires-clause-some t c =
    let lists = rows_at c.args.plans.now.lists.items in
    let list = (lists_at c.args.store.now lists c.args.level.now c.args.id.0 c.requires.within c.requires.lists).0 in
    let some = some_turned (lists c.args.id.0) c.rows-rows.result.now c.loop-row.runs.items c.loop-row.row-index c.rows-rows.ensures list.order.some c.loop-row-test.false c.loop-row.invariant.count in
    rw c.as_slice.ensures.value some

pub of_rows-returns-clause-built : goal.of_rows-returns-clause-built
of_rows-returns-clause-built t c =
    IfOk-weaker c.of_runs.result _ _
    (λ number k. node_made c.args.store.now c.args.plans.now c.args.sets.now c.loop-row.sets c.of_runs.new.sets c.args.self.now c.loop-row.self c.of_runs.new.self c.loop-row.known c.args.level.now c.args.id.0 c.loop-row.row-index number
    c.rows-rows.result.now c.loop-row.runs.items c.as_slice.result.now c.requires.within c.rows-rows.ensures c.loop-row-test.false c.loop-row.invariant c.as_slice.ensures.value k)
    c.of_runs.ensures

pub of_rows-returns-clause-known : goal.of_rows-returns-clause-known
of_rows-returns-clause-known t c =
    still_known c.args.store.now c.args.plans.now c.loop-row.sets c.of_runs.new.sets c.loop-row.self c.of_runs.new.self c.loop-row.known c.args.level.now _ c.of_runs.result c.loop-row.invariant.known c.of_runs.ensures

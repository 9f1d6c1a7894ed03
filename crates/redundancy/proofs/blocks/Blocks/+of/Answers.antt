use Rattle.std.proofs.Common.{[], ◌++◌, List, ap, refl, sym, ◌∙◌, subst, append_assoc, length, map}
use Rattle.field_boxes.specs.Spans.{interval_of}
use Rattle.redundancy_laws.specs.Built.{row_at}
use Rattle.redundancy_laws.specs.Rows.{Row, in_front}
use Rattle.redundancy_laws.specs.Layers.{rows_of_runs}
use Rattle.redundancy.specs.declared.blocks.Run.{Run}
use Rattle.redundancy.specs.Blocks.{rows_of, run_by, IsBuilt}
use Rattle.node_store.specs.Levels.{next}
use Rattle.redundancy.specs.Lists.{AreGathered}
use Rattle.redundancy.proofs.Gathering.{gathered_more, gathered_none, list_kept}
use Rattle.redundancy.proofs.ListRows.{before_more}
use Rattle.redundancy.proofs.blocks.Blocks.+of.Goals as goal

pub gather-runs-init : goal.gather-runs-init
gather-runs-init t c = (
  [],
  refl,
  subst (λ (runs : List Run). AreGathered c.args.sets.now c.args.sets.now c.args.self.now c.args.self.now c.args.lists.now c.args.lists.now c.args.level.now [] _ runs) (sym c.new-runs.ensures.items)
      (gathered_none c.args.sets.now c.args.self.now c.args.lists.now c.args.level.now c.requires.blocks c.requires.lists),
)

pub gather-runs-preserved : goal.gather-runs-preserved
gather-runs-preserved t c =
    let l = c.runs in
    let done = l.invariant.0 in
    let first = c.in-Some.first in
    let rows = map (row_at (next c.args.level.now)) first.run.now in
    let more = map (in_front (interval_of first.span)) rows in
    let g = l.invariant.2 in (
      done ++ more,
      l.invariant.1 ∙ ap (λ (rs : List Row). done ++ rs) c.in-Some.ensures.rows ∙ sym (append_assoc done more (map (row_at c.args.level.now) first.rest.now)),
      gathered_more c.args.sets.now l.sets c.of.new.sets c.args.self.now l.self c.of.new.self c.args.lists.now l.lists c.of.new.lists c.with.new.self c.args.level.now c.after.result.now done rows l.list c.in_ok-place.place
          l.runs.items c.push.new.self.items (record { span = first.span; block = c.in_ok-block.block }) _ c.after.ensures g (subst (λ level. IsBuilt l.sets c.of.new.sets l.self c.of.new.self c.after.result.now (map (row_at level) first.run.now) c.in_ok-block.block) c.after.ensures c.in_ok-block.ensures.built) c.in_ok-block.ensures.lists
          (c.in_ok-place.ensures c.of.new.self c.in_ok-block.ensures.lists.lists
          (before_more (length l.lists.links.keys) (length c.of.new.lists.links.keys) l.list c.in_ok-block.ensures.lists.count g.within) c.in_ok-block.ensures.built.number_in) refl refl c.in-Some.ensures.inside c.in_ok-push.ensures.ok,
    )

pub of_fields-returns-clause-lists : goal.of_fields-returns-clause-lists
of_fields-returns-clause-lists t c =
    let rows = map (row_at c.args.level.now) c.args.entries.now in
    let g = c.in_ok-gathered.ensures in
    let slice = c.as_slice.result.now in
    let of = rows_of c.gather.new.self.blocks.items in
    list_kept c.args.sets.now c.gather.new.sets c.of_runs.new.sets c.args.self.now c.gather.new.self c.of_runs.new.self c.args.lists.now c.gather.new.lists c.keep_list.new.self c.args.level.now rows (rows_of_runs (map (run_by of) slice))
    c.in_ok-gathered.gathered.list c.in_ok-number.number g.lists_grow g.within g.list_is c.in_ok-number.ensures (ap (λ (rs : List Run). rows_of_runs (map (run_by of) rs)) c.as_slice.ensures ∙ g.runs_are) c.keep_list.ensures

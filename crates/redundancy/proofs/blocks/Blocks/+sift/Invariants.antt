use Rattle.std.proofs.Common.{◌+◌, ◌*◌, max, take}
use Rattle.std.specs.Prelude.{map}
use Rattle.node_store.specs.Store.{Grows}
use Rattle.redundancy_laws.specs.Layers.{rows_of_runs, end_of}
use Rattle.redundancy.specs.Blocks.{run_by, rows_of}
use Rattle.redundancy.specs.Drafts.{IsDraft}
use Rattle.redundancy.specs.Remembered.{IsMemo}
use Rattle.redundancy.proofs.blocks.Blocks.+sift.Given as goal

abbrev pub decreases-sift : goal.decreases-sift
decreases-sift l = 4 * l.number + 2

abbrev pub decreases-sift_two : goal.decreases-sift_two
decreases-sift_two l = 4 * max l.first l.second + 3

abbrev pub decreases-sift_layer : goal.decreases-sift_layer
decreases-sift_layer l = 4 * l.number + 1

abbrev pub decreases-sift_run : goal.decreases-sift_run
decreases-sift_run l = 4 * l.run.block + 3

abbrev pub invariant-sift_layer-loop-run : goal.invariant-sift_layer-loop-run
invariant-sift_layer-loop-run l = record {
  grows : Grows l.fn.sets l.sets;
  memo : IsMemo l.sets l.self l.memo;
  draft : IsDraft l.fn.sets l.sets l.level (rows_of_runs (take l.run-index (map (run_by (rows_of l.self.blocks.items)) l.runs))) l.contexts
      (end_of 0 (take l.run-index (map (run_by (rows_of l.self.blocks.items)) l.runs))) l.draft;
}

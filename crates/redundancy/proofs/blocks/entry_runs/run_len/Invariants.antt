use Rattle.std.proofs.Common.{◌≡◌, map, take}
use Rattle.field_boxes.specs.Spans.{interval_of}
use Rattle.node_store.specs.Levels.{next}
use Rattle.redundancy_laws.specs.Built.{row_at}
use Rattle.redundancy_laws.specs.Rows.{in_front}
use Rattle.redundancy.proofs.blocks.entry_runs.run_len.Given as goal

abbrev pub invariant-loop-place : goal.invariant-loop-place
invariant-loop-place l = map (row_at l.level) (take l.place l.entries) ≡ map (in_front (interval_of l.span)) (map (row_at (next l.level)) (take l.place l.entries))

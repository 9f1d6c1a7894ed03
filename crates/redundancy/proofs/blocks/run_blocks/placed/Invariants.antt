use Rattle.std.proofs.Common.{◌≡◌, map, take}
use Rattle.redundancy.specs.Blocks.{run_placed}
use Rattle.redundancy.proofs.blocks.run_blocks.placed.Given as goal

abbrev pub invariant-loop-run : goal.invariant-loop-run
invariant-loop-run l = l.placed.items ≡ map (run_placed l.covers) (take l.run-index l.runs)

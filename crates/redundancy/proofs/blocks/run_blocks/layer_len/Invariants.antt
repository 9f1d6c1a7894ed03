use Rattle.std.proofs.Common.{◌<◌, ◌≤◌, length, take}
use Rattle.redundancy.specs.Blocks.{RiseApart}
use Rattle.redundancy.proofs.blocks.run_blocks.layer_len.Given as goal

abbrev pub invariant-loop-k : goal.invariant-loop-k
invariant-loop-k l = record {
  some : 0 < l.k;
  within : l.k ≤ length l.runs;
  apart : RiseApart (take l.k l.runs);
}

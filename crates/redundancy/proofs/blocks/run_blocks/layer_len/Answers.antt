use Rattle.std.proofs.Common.{arith}
use Rattle.redundancy.proofs.Builds.{rise_more}
use Rattle.redundancy.proofs.blocks.run_blocks.layer_len.Goals as goal

pub loop-k-preserved : goal.loop-k-preserved
loop-k-preserved c = record {
  some = omega arith;
  within = omega arith;
  apart = rise_more c.args.runs.now c.loop-k.k c.index-runs-k.result c.index-runs-k-in-loop-k.result c.loop-k.invariant.some (omega arith) c.loop-k.invariant.apart c.if-runs-k.false;
}

use Rattle.tcam_sim.proofs.LaneByLane.{lanes_of_chunk}
use Rattle.tcam_sim.proofs.lanes.eight.Goals as goal

pub returns-clause-lanes : goal.returns-clause-lanes
returns-clause-lanes c = lanes_of_chunk c.args.start c.args.column.now c.requires

use Rattle.prefix_min.proofs.PieceWeights.{follow_push, reach_push, weight_push}
use Rattle.prefix_min.proofs.laws.pieces_grow.Goals as goal

pub returns : goal.returns
returns c = record { follow = follow_push; reach = reach_push; weight = weight_push }

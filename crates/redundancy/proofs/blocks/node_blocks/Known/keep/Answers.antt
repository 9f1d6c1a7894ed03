use Rattle.redundancy.proofs.NodeBlocks.{known_more}
use Rattle.redundancy.proofs.blocks.node_blocks.Known.keep.Goals as goal

pub returns-then-id-len : goal.returns-then-id-len
returns-then-id-len c = λ nodes plans blocks known here. known_more nodes plans blocks c.args.self.now c.args.id.0 c.args.number known here

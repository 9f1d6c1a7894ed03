use Rattle.redundancy.specs.declared.blocks.node_blocks.Known.{Known}
use Rattle.redundancy.proofs.NodeBlocks.{known_room}
use Rattle.redundancy.proofs.blocks.node_blocks.Known.make_room.Goals as goal

pub returns : goal.returns
returns c = λ nodes plans blocks known.
    let new : Known = record { numbers = c.resize.new.self } in
    known_room nodes plans blocks c.args.self.now new _ _ c.in_ok-resize.ensures.items known

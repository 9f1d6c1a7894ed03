use Rattle.std.proofs.lemmas.Result.{IfOk-weaker}
use Rattle.redundancy.specs.Blocks.{rows_of}
use Rattle.redundancy.proofs.WholeFlags.{flags_are}
use Rattle.node_store.proofs.Orders.{order_level}
use Rattle.redundancy.proofs.entry_table.flags.Goals as goal

pub of-requires-clause-level : goal.of-requires-clause-level
of-requires-clause-level c = order_level c.args.order.now c.requires.order

pub of-requires-clause-blocks : goal.of-requires-clause-blocks
of-requires-clause-blocks c = c.new-blocks.ensures c.new-sets.result

pub of-requires-clause-lists : goal.of-requires-clause-lists
of-requires-clause-lists c = c.new-lists.ensures c.new-blocks.result

pub flags_by-requires-clause-memo : goal.flags_by-requires-clause-memo
flags_by-requires-clause-memo c = c.new-memo.ensures c.of.new.sets c.of.new.self

pub returns : goal.returns
returns c =
    IfOk-weaker c.flags_by.result _ _
    (λ flags h. flags_are c.args.order.now (rows_of c.of.new.self.blocks.items c.in_ok-block.block) c.args.entries.now flags.items c.in_ok-block.ensures.built.rows_are h) c.flags_by.ensures.flags

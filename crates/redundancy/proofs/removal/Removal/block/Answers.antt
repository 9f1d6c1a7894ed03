use Rattle.std.proofs.lemmas.Result.{IfOk-weaker}
use Rattle.table_compose.specs.Rows.{rows_at}
use Rattle.redundancy.specs.NodeBlocks.{node_rows}
use Rattle.redundancy.proofs.Removals.{removal_built}
use Rattle.node_store.proofs.Orders.{order_level}
use Rattle.redundancy.proofs.removal.Removal.block.Goals as goal

pub of_node-requires-clause-within : goal.of_node-requires-clause-within
of_node-requires-clause-within c = order_level c.args.order.now c.requires.order

pub of_node-requires-clause-known : goal.of_node-requires-clause-known
of_node-requires-clause-known c = c.in_ok-make_room.ensures c.args.store.now c.args.plans.now c.args.self.now.blocks c.requires.removal.known

pub returns-clause-stands : goal.returns-clause-stands
returns-clause-stands c = IfOk-weaker c.of_node.result _ _ (λ number h. (h.number_in, h.level_is)) c.of_node.ensures.built

pub returns-clause-rows : goal.returns-clause-rows
returns-clause-rows c = IfOk-weaker c.of_node.result _ _ (λ number h. h.rows_are) c.of_node.ensures.built

pub returns-clause-removal : goal.returns-clause-removal
returns-clause-removal c =
    removal_built c.args.store.now c.args.plans.now c.args.self.now.sets c.args.self.now.blocks _ c.args.order.now (node_rows c.args.store.now (rows_at c.args.plans.now.lists.items) c.args.order.now c.args.root.0) c.of_node.result
    c.requires.removal.memo c.of_node.ensures.built c.of_node.ensures.known

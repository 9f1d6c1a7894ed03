use Rattle.node_store.proofs.Orders.{order_level}
use Rattle.field_order.proofs.order.as_level.Goals as goal

pub returns-clause-level : goal.returns-clause-level
returns-clause-level c = order_level _ c.fields.ensures.order

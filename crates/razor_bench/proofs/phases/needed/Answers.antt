use Rattle.std.proofs.Common.{subst, sym}
use Rattle.field_boxes.specs.Orders.{IsOrder}
use Rattle.razor_bench.proofs.phases.needed.Goals as goal

pub needed-requires-clause-order : goal.needed-requires-clause-order
needed-requires-clause-order c = subst IsOrder (sym c.stated_order-order.ensures.stated) c.orders.ensures.stated

pub needed-requires-clause-removal : goal.needed-requires-clause-removal
needed-requires-clause-removal c = c.new-removal.ensures c.args.store.now c.args.plans.now

use Rattle.field_order.proofs.order.+order_without.Given as goal

abbrev pub decreases-order_without : goal.decreases-order_without
decreases-order_without l = l.count

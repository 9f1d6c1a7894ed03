use Rattle.node_store.proofs.Orders.{order_level}
use Rattle.rule_compilation.proofs.compiler.Compiler.taken.Goals as goal

pub new-requires : goal.new-requires
new-requires c = order_level c.self.inside.order.now c.self.invariant.0

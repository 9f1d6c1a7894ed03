use Rattle.node_store.proofs.Orders.{order_level, order_has_field, picked_values, some_header}
use Rattle.field_boxes.proofs.Orders.{picked_stated, stated_is_order}
use Rattle.redundancy_laws.proofs.Prefixed.{row-matches}
use Rattle.redundancy_laws.proofs.laws.orders.Goals as goal

pub returns : goal.returns
returns c = record {
  stated = stated_is_order;
  first = order_has_field;
  within = λ order header o is. picked_values order header (order_level order o) is;
  some = some_header;
  same = picked_stated;
  row = row-matches;
}

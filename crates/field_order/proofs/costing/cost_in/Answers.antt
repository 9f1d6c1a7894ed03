use Rattle.field_order.proofs.costing.cost_in.Goals as goal

pub cost_among-requires : goal.cost_among-requires
cost_among-requires c = c.new-costs.ensures c.new-store.result

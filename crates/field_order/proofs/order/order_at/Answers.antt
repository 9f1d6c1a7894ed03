use Rattle.field_order.proofs.Places.{placed}
use Rattle.field_order.proofs.Rearranged.{stands}
use Rattle.field_order.proofs.order.order_at.Goals as goal

pub returns-clause-place : goal.returns-clause-place
returns-clause-place c = placed c.args.place c.new.result c.requires c.new.ensures.some c.new.ensures.fields

pub returns-clause-found : goal.returns-clause-found
returns-clause-found c = stands c.args.place c.new.result c.new.ensures.some c.new.ensures.fields

use Rattle.memory_text.proofs.Evenly.{spread_stands}
use Rattle.memory_text.proofs.laws.spread_tables_stand_in_order.Goals as goal

pub returns : goal.returns
returns c = λ slots table few. spread_stands slots table few

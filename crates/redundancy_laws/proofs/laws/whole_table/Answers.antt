use Rattle.std.proofs.Common.{refl}
use Rattle.redundancy_laws.proofs.Chosen.{chosen, flags-of-pair, rows-behind}
use Rattle.redundancy_laws.proofs.laws.whole_table.Goals as goal

pub returns : goal.returns
returns c = record { pass = chosen; flags = flags-of-pair; rows = rows-behind; last = λ e. refl }

use Rattle.std.proofs.Common.{refl}
use Rattle.list_generator.specs.Draws.{next_state}
use Rattle.list_generator.specs.DrawnSets.{decision, destination_ports, drawn_prefix, protocols, source_ports}
use Rattle.list_generator.proofs.laws.worked_rule.Goals as goal

pub returns : goal.returns
unfolding next_state decision destination_ports drawn_prefix protocols source_ports
returns c = refl

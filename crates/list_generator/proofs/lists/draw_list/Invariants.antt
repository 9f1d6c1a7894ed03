use Rattle.std.proofs.Common.{◌-◌}
use Rattle.list_generator.proofs.SoFar.{IsSoFar}
use Rattle.list_generator.proofs.lists.draw_list.Given as goal

abbrev pub invariant-loop-place : goal.invariant-loop-place
invariant-loop-place l = IsSoFar l.initial.draws.state l.fn.rules (l.fn.rules - l._place) l.draws.state l.names l.list.items

use Rattle.std.proofs.Common.{◌≡◌, take}
use Rattle.field_order.specs.Fronts.{without}
use Rattle.field_order.proofs.front.without.Given as goal

abbrev pub invariant-loop-other : goal.invariant-loop-other
invariant-loop-other l = l.fields.items ≡ without l.field (take l.other-index l.level)

use Rattle.std.proofs.Common.{◌≡◌, take}
use Rattle.std.specs.Prelude.{filter}
use Rattle.bank_index.specs.Bits.{may_hit}
use Rattle.bank_index.proofs.sides.side.Given as goal

abbrev pub invariant-loop-slot : goal.invariant-loop-slot
invariant-loop-slot l = l.kept.items ≡ filter (may_hit l.entries l.bit l.one) (take l.slot-index l.slots)

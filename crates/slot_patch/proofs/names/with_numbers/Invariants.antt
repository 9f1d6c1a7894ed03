use Rattle.std.proofs.Common.{◌≡◌, map, take}
use Rattle.slot_patch.specs.Naming.{renumbered}
use Rattle.slot_patch.proofs.names.with_numbers.Given as goal

abbrev pub invariant-loop-entry : goal.invariant-loop-entry
invariant-loop-entry l = l.made.items ≡ map (renumbered l.numbers) (take l.entry-index l.entries)

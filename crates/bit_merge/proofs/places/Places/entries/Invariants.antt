use Rattle.std.proofs.Common.{◌≡◌, take}
use Rattle.bit_merge.specs.Slots.{numbered_entries}
use Rattle.bit_merge.proofs.places.Places.entries.Given as goal

abbrev pub invariant-loop-word : goal.invariant-loop-word
invariant-loop-word l = l.entries.items ≡ numbered_entries l.decision (take l.word-index l.word-items)

use Rattle.std.proofs.Common.{◌-◌, length}
use Rattle.slot_patch.specs.Finding.{ArePlaces}
use Rattle.slot_patch.proofs.word_places.WordPlaces.of.Given as goal

abbrev pub invariant-loop-done : goal.invariant-loop-done
invariant-loop-done l = ArePlaces l.entries (length l.entries - l.done) l.places

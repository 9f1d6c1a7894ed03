use Rattle.std.proofs.Common.{◌≡◌, length}
use Rattle.bit_merge.specs.Slots.{AreDone, LeadTo}
use Rattle.bit_merge.proofs.merging.merge_words.Given as goal

abbrev pub invariant-loop-taken : goal.invariant-loop-taken
invariant-loop-taken l = record {
  leads : LeadTo l.initial.places l.places;
  done : AreDone l.places l.taken;
  count : length l.places ≡ length l.initial.places;
}

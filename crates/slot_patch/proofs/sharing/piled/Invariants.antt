use Rattle.std.proofs.Common.{◌-◌, length, drop}
use Rattle.slot_patch.specs.Piles.{AreBounded, AreStacked}
use Rattle.slot_patch.proofs.sharing.piled.Given as goal

abbrev pub invariant-loop-done : goal.invariant-loop-done
invariant-loop-done l = record {
  stacked : AreStacked l.old l.new (length l.old - l.done) l.piles;
  bounded : AreBounded (drop (length l.old - l.done) l.old) l.new l.piles.places.items;
}

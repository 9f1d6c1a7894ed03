use Rattle.std.proofs.Common.{◌≡◌, ◌≤◌, length, take}
use Rattle.std.specs.Prelude.{map}
use Rattle.redundancy.specs.Drafts.{placed_by}
use Rattle.redundancy.proofs.sifting.layer.placed_of.Given as goal

abbrev pub invariant-loop-stretch : goal.invariant-loop-stretch
invariant-loop-stretch l = record {
  items : l.placed.items ≡ map (placed_by l.after) (take l.stretch-index l.stretches);
  count : length l.placed.items ≡ l.stretch-index;
  room : length l.stretches ≤ l.placed.capacity;
}

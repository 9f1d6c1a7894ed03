use Rattle.std.proofs.Common.{◌-◌, ◌≡◌, ◌≤◌, ◌<◌, ℕ, suc, length, slice_index}
use Rattle.slot_patch.proofs.piles.pile_for.Given as goal

abbrev pub invariant-loop-low : goal.invariant-loop-low
invariant-loop-low l = record {
  order : l.low ≤ l.high;
  within : l.high ≤ length l.places;
  below : (k : ℕ) → suc k ≡ l.low → slice_index l.places k < l.place;
  above : l.high < length l.places → l.place ≤ slice_index l.places l.high;
}

abbrev pub decreases-loop-low : goal.decreases-loop-low
decreases-loop-low l = l.high - l.low

use Rattle.std.proofs.Common.{◌≡◌, ◌<◌, ◌≤◌, ℕ, [], length}
use Rattle.std.specs.Prelude.{map, slice_index_or}
use Rattle.smallvec.specs.SmallVec.{SmallVec}
use Rattle.field_sets.specs.declared.placed.Placed.{Placed}
use Rattle.redundancy.specs.Stretches.{stretches_at}
use Rattle.redundancy.specs.Drafts.{placed_by}
use Rattle.redundancy.proofs.sifting.layer.change_of.Given as goal

abbrev pub invariant-loop-own : goal.invariant-loop-own
invariant-loop-own l = record {
  count : length l.placed.items ≡ l.own-index;
  room : length l.stretches ≤ l.placed.capacity;
  each : (c : ℕ) → c < l.own-index → slice_index_or (map (λ (own : SmallVec Placed). own.items) l.placed.items) c [] ≡ map (placed_by l.after) (stretches_at l.stretches c);
}

use Rattle.std.proofs.Common.{◌≡◌, ◌<◌, ℕ, length, if◌then◌else◌}
use Rattle.redundancy_laws.specs.Sifted.{node_at, context_at}
use Rattle.redundancy.proofs.sifting.last_entry.answered.Given as goal

abbrev pub invariant-loop-pair : goal.invariant-loop-pair
invariant-loop-pair l = record {
  count : length l.after.items ≡ l.pair-index;
  each : (c : ℕ) → c < l.pair-index → node_at l.after.items c ≡ (if l.wanted then l.leaf else (context_at l.contexts c).after);
}

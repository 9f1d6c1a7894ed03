use Rattle.std.proofs.Common.{◌≡◌, ◌<◌, ℕ, length}
use Rattle.redundancy_laws.specs.Sifted.{node_at, context_at}
use Rattle.redundancy.proofs.contexts.before_answers.Given as goal

abbrev pub invariant-loop-place : goal.invariant-loop-place
invariant-loop-place l = record {
  count : length l.pairs.items ≡ l.place;
  each : (c : ℕ) → c < l.place → ((context_at l.pairs.items c).after ≡ node_at l.answers c) × ((context_at l.pairs.items c).met ≡ (context_at l.contexts c).met);
}

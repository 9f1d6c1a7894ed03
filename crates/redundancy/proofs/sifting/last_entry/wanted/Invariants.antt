use Rattle.std.proofs.Common.{◌≡◌, ◌<◌, ℕ, [], false}
use Rattle.node_store.specs.Diagram.{answer}
use Rattle.redundancy_laws.specs.Sifted.{is_in, context_at}
use Rattle.redundancy.proofs.sifting.last_entry.wanted.Given as goal

abbrev pub invariant-loop-pair : goal.invariant-loop-pair
invariant-loop-pair l = (c : ℕ) → c < l.pair-index → is_in l.sets (context_at l.contexts c).met.0 [] ≡ false → answer l.sets (context_at l.contexts c).after.0 [] ≡ l.decision

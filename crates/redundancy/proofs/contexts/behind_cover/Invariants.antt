use Rattle.std.proofs.Common.{◌≡◌, ◌<◌, ℕ, length}
use Rattle.node_store.specs.Store.{Grows}
use Rattle.redundancy_laws.specs.Sifted.{AreContexts, IsBehind, context_at}
use Rattle.redundancy.proofs.contexts.behind_cover.Given as goal

abbrev pub invariant-loop-pair : goal.invariant-loop-pair
invariant-loop-pair l = record {
  grows : Grows l.fn.sets l.sets;
  count : length l.pairs.items ≡ l.pair-index;
  level : AreContexts l.sets l.cover.level.now l.pairs.items;
  each : (c : ℕ) → c < l.pair-index → IsBehind l.sets l.cover.level.now l.cover.set (context_at l.contexts c) (context_at l.pairs.items c);
}

use Rattle.std.proofs.Common.{◌≡◌, ◌<◌, ℕ, length}
use Rattle.node_store.specs.Store.{Grows}
use Rattle.redundancy_laws.specs.Sifted.{LeadsAs, node_at}
use Rattle.redundancy.specs.Drafts.{leads_of}
use Rattle.redundancy.proofs.sifting.layer.finished.Given as goal

abbrev pub invariant-loop-place : goal.invariant-loop-place
invariant-loop-place l = record {
  grows : Grows l.fn.sets l.sets;
  count : length l.after.items ≡ l.place;
  each : (c : ℕ) → c < l.place → LeadsAs l.sets l.level (leads_of l.fn.sets l.contexts l.changes) c (node_at l.after.items c);
}

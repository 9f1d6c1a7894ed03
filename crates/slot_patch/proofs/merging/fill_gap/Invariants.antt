use Rattle.std.proofs.Common.{ℕ, ◌≤◌, List, length}
use Rattle.ternary_words.specs.declared.entry.Entry.{Entry}
use Rattle.slot_patch.specs.Merging.{IsMerged}
use Rattle.slot_patch.proofs.merging.fill_gap.Given as goal

abbrev pub invariant-loop-place : goal.invariant-loop-place
invariant-loop-place l = record {
  from : l.fn.start.new ≤ l.taken;
  to : l.taken ≤ l.end.new;
  merged : (old new : List Entry) (shared : ℕ) → l.end.old ≤ length old → l.end.new ≤ length new → IsMerged old new l.fn.start.old l.fn.start.new shared l.initial.layout →
      IsMerged old new l.place l.taken shared l.layout;
}

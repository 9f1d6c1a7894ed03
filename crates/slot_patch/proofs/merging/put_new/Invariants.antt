use Rattle.std.proofs.Common.{ℕ, ◌≤◌, List, length}
use Rattle.ternary_words.specs.declared.entry.Entry.{Entry}
use Rattle.slot_patch.specs.Merging.{IsMerged}
use Rattle.slot_patch.proofs.merging.put_new.Given as goal

abbrev pub invariant-loop-place : goal.invariant-loop-place
invariant-loop-place l = (old new : List Entry) (i shared : ℕ) → l.to ≤ length new → IsMerged old new i l.from shared l.initial.layout → IsMerged old new i l.place shared l.layout

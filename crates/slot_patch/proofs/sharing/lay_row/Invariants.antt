use Rattle.std.proofs.Common.{◌≡◌, Some, length, slice_get}
use Rattle.ternary_words.specs.declared.entry.Entry.{Entry}
use Rattle.slot_patch.proofs.Rows.{AreRowTaken, places_left}
use Rattle.slot_patch.proofs.sharing.lay_row.Given as goal

abbrev pub invariant-loop-at : goal.invariant-loop-at
invariant-loop-at l = (a : Entry) → slice_get l.old l.row ≡ Some a → AreRowTaken l.old l.new l.row a l.initial.piles l.piles l.at

abbrev pub decreases-loop-at : goal.decreases-loop-at
decreases-loop-at l = places_left (length l.new) l.at

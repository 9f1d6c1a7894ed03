use Rattle.std.proofs.Common.{ℕ, List}
use Rattle.table_equiv.proofs.Firsts.{AreBefore}
use Rattle.table_equiv.proofs.kept.all_places.Given as goal

abbrev pub invariant-loop-place : goal.invariant-loop-place
invariant-loop-place g l = (header : List ℕ) → AreBefore (g.T.Item.has header) l.items l.places.items l.place

use Rattle.std.proofs.Common.{◌≡◌, length}
use Rattle.std.specs.Prelude.{suc}
use Rattle.field_sets.specs.Fill.{reaching}
use Rattle.field_sets.proofs.reaching.past.Given as goal

abbrev pub invariant-loop-edges : goal.invariant-loop-edges
invariant-loop-edges l = reaching (suc l.hi) l.edges ≡ reaching (suc l.hi) l.fn.edges

abbrev pub decreases-loop-edges : goal.decreases-loop-edges
decreases-loop-edges l = length l.edges

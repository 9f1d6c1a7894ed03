use Rattle.std.proofs.Common.{◌≡◌, ℕ, List, take}
use Rattle.table_equiv.specs.Cubes.{IsIn}
use Rattle.table_equiv.specs.Firsts.{first_of}
use Rattle.table_equiv.proofs.kept.narrowed.Given as goal

abbrev pub invariant-loop-place : goal.invariant-loop-place
invariant-loop-place g l = (header : List ℕ) → IsIn l.cube.word header →
    first_of (g.T.Item.has header) l.items l.kept.items ≡ first_of (g.T.Item.has header) l.items (take l.place-index l.places)

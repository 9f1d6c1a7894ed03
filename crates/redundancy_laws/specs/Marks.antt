-- Lists of rows of which some are kept.
use Rattle.std.specs.Prelude.{Bool, cond, List, [], ◌∷◌}
use Rattle.redundancy_laws.specs.Rows.{Row}

-- a row, and whether it is kept
pub record Mark : Type 0 where
  pub row : Row
  pub kept : Bool

-- all rows
abbrev pub all_of : List Mark → List Row
all_of [] = []
all_of (m ∷ marks) = m.row ∷ all_of marks

-- the kept rows, in order
abbrev pub kept_of : List Mark → List Row
kept_of [] = []
kept_of (m ∷ marks) = cond m.kept (m.row ∷ kept_of marks) (kept_of marks)

-- rows with a flag each
abbrev pub marked : List Row → List Bool → List Mark
marked [] flags = []
marked (r ∷ rows) [] = []
marked (r ∷ rows) (b ∷ flags) = record { row = r; kept = b } ∷ marked rows flags

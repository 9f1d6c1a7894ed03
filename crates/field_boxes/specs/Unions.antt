-- Sets of values as lists of intervals.
use Rattle.std.specs.Prelude.{ℕ, ◌+◌, ◌≤◌, List, [], ◌∷◌}
use Rattle.field_boxes.specs.Headline.Classifier.{Interval}

-- the intervals rise from low on and end by top, and between two neighbours a value is missing
abbrev pub RiseApart : ℕ → ℕ → List Interval → Type 0
RiseApart low top [] = Unit {0}
RiseApart low top (i ∷ is) = (low ≤ i.lo) × (i.lo ≤ i.hi) × (i.hi ≤ top) × RiseApart (i.hi + 2) top is

-- Coarsest partitions, whose rows make claims.
use Rattle.std.specs.Prelude.{◌≡◌, ◌≢◌, ℕ, List, [], ◌∷◌, All, Option}
use Rattle.field_boxes.specs.Headline.Classifier.{Interval}
use Rattle.partition_check.specs.Boxes.{EachIn}
use Rattle.partition_check.specs.Partition.{Group, rows_of, AreGroups}
use Rattle.partition_check.specs.Checking.{Statement}

-- the row with an interval in front of its box
abbrev pub put_interval : Interval → Statement → Statement
put_interval i s = record { box = i ∷ s.box; rule = s.rule; entry = s.entry }

-- neighbouring groups differ in their rows without the interval
abbrev pub Differ : List (Group Statement) → Type 0
Differ [] = Unit {0}
Differ (x ∷ []) = Unit {0}
Differ (x ∷ y ∷ groups) = (x.rest ≢ y.rest) × Differ (y ∷ groups)

-- the rows are a partition, and neighbouring groups of one partition always differ in their rows without the interval
abbrev pub IsCoarsest : List ℕ → List Statement → Type 0
IsCoarsest [] rows = (s : Statement) × (s.box ≡ []) × (rows ≡ s ∷ [])
IsCoarsest (g ∷ gs) rows = (groups : List (Group Statement)) × (rows ≡ rows_of put_interval groups) × AreGroups (IsCoarsest gs) 0 g groups × Differ groups

-- a rule and an entry, or none
abbrev pub Claims : Type 0
Claims = Option ℕ × Option ℕ

-- what a row claims of the headers in its box
abbrev pub claims_of : Statement → Claims
claims_of s = (s.rule, s.entry)

-- each row claims this of each header in its box
abbrev pub AreClaimed : (List ℕ → Claims) → List Statement → Type 0
AreClaimed claims rows = All (λ s. EachIn s.box (λ header. claims header ≡ claims_of s)) rows

-- The rows of two nodes of one level, and their lines.
use Rattle.std.specs.Prelude.{◌≡◌, ℕ, zero, suc, ◌^◌, ◌<◌, List, [], ◌∷◌, ◌++◌, length, drop, slice_index, slice_index_or}
use Rattle.std.specs.List.{flat_map}
use Rattle.field_boxes.specs.Headline.Classifier.{Interval}
use Rattle.node_store.specs.declared.split.Part.{Part}
use Rattle.node_store.specs.Diagram.{Node}
use Rattle.partition_check.specs.Boxes.{ends}
use Rattle.partition_check.specs.Checking.{Statement}
use Rattle.partition_check.specs.Partition.{Group}
use Rattle.partition_check.specs.RowText.{row_line}
use Rattle.box_partition.specs.Coarsest.{IsCoarsest, AreClaimed}
use Rattle.box_partition.specs.Firsts.{node_claims}

-- the coarsest rows over the fields from the level on that claim what the two nodes answer
pub record AreRowsOf (nodes : List Node) (level a b : ℕ) (rows : List Statement) : Type 0 where
  pub coarsest : IsCoarsest (drop level ends) rows
  pub claimed : AreClaimed (node_claims nodes a b) rows

-- the row with the intervals of the fields before in front of its box
abbrev pub put_front : List Interval → Statement → Statement
put_front front s = record { box = front ++ s.box; rule = s.rule; entry = s.entry }

-- the lines of rows that have these intervals in front
abbrev pub rows_text : List Interval → List Statement → List ℕ
rows_text front rows = flat_map (λ s. row_line (put_front front s)) rows

-- the lines of a group: its rows have its interval behind those in front
abbrev pub group_text : List Interval → Group Statement → List ℕ
group_text front group = rows_text (front ++ group.first ∷ []) group.rest

-- where the part at a place begins: behind the one before it
abbrev pub begins_at : List Part → ℕ → ℕ
begins_at parts zero = 0
begins_at parts (suc k) = suc (slice_index_or parts k (record { hi = 0; left = record { 0 = 0 }; right = record { 0 = 0 } })).hi

-- the group has the interval of the part, and the rows of the two nodes to which that leads
pub record IsPaired (nodes : List Node) (level : ℕ) (lo : ℕ) (group : Group Statement) (part : Part) : Type 0 where
  pub low : group.first.lo ≡ lo
  pub high : group.first.hi ≡ part.hi
  pub rows : AreRowsOf nodes level part.left.0 part.right.0 group.rest

-- the groups are those of the parts, one for each
pub record ArePaired (nodes : List Node) (level : ℕ) (groups : List (Group Statement)) (parts : List Part) : Type 0 where
  pub count : length groups ≡ length parts
  pub each : (k : ℕ) (d : Group Statement) (p : Part) → k < length parts → IsPaired nodes level (begins_at parts k) (slice_index_or groups k d) (slice_index_or parts k p)

-- as many headers as there are over the fields from a level on
abbrev pub headers_from : ℕ → ℕ
headers_from level = 2 ^ slice_index (104 ∷ 72 ∷ 40 ∷ 24 ∷ 8 ∷ 0 ∷ []) level

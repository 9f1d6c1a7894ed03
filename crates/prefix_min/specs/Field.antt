-- The whole field.
use Rattle.std.specs.Prelude.{Bool, IsTrue, Option, Some, None, min, ◌⊎◌, ◌≡◌, ℕ, ◌<◌, ◌≤◌, List, [], ◌∷◌, ◌++◌, length, slice_index, slice_index_or}
use Rattle.prefix_min.specs.declared.piece.Piece.{Piece}
use Rattle.prefix_min.specs.declared.plan.Choice.{Choice}
use Rattle.prefix_min.specs.declared.savings.LabelCost.{LabelCost}
use Rattle.prefix_min.specs.Costs.{Has, Lists}
use Rattle.prefix_min.specs.Pieces.{label_at}
use Rattle.prefix_min.specs.Plan.{Forest, IsLaid, rows_of}
use Rattle.prefix_min.specs.Rows.{AreFieldRows, row_of}
use Rattle.prefix_min.specs.Savings.{saved}
use Rattle.prefix_min.specs.Trie.{Node, StandsFor, costs_of}

abbrev pub no_piece : Piece
no_piece = record { hi = 0; label = 0 }

-- the label saves all that it weighs
abbrev pub IsFull : List ℕ → List LabelCost → ℕ → Type 0
IsFull weights savings y = saved savings y ≡ slice_index weights y

-- the least listed label that saves all that it weighs
pub record IsLeastFull (weights : List ℕ) (savings : List LabelCost) (y : ℕ) : Type 0 where
  pub listed : Lists savings y
  pub full : IsFull weights savings y
  pub least : (d : ℕ) → Lists savings d → IsFull weights savings d → y ≤ d

-- the least label that saves all that it weighs, among those that are listed and those of the first pieces that weigh nothing
pub record IsFullLabel (weights : List ℕ) (savings : List LabelCost) (pieces : List Piece) (count y : ℕ) : Type 0 where
  pub full : IsFull weights savings y
  pub from : Lists savings y ⊎ ((k : ℕ) × (k < count) × ((slice_index_or pieces k no_piece).label ≡ y))
  pub least : (d : ℕ) → Lists savings d → IsFull weights savings d → y ≤ d
  pub least_piece : (k : ℕ) → k < count → slice_index weights (slice_index_or pieces k no_piece).label ≡ 0 → y ≤ (slice_index_or pieces k no_piece).label

-- the label and the choices, which were put down where choices are kept, write the field's rows
pub record IsWhole (keeps : Bool) (weights : List ℕ) (pieces : List Piece) (width label cost : ℕ) (choices : List Choice) (also : List ℕ) : Type 0 where
  pub node : Node
  pub stands : StandsFor weights (label_at pieces) width 0 node
  pub row : (costs_of node).row ≡ cost
  pub within : (d : ℕ) → Has (costs_of node).labels d → d < length weights
  pub forest : Forest
  pub laid : IsTrue keeps → IsLaid choices also 0 (length choices) forest
  pub rows : AreFieldRows weights (label_at pieces) width (costs_of node).row (rows_of width forest label ++ row_of width width 0 label ∷ [])

-- the lesser one of the label and the best so far
abbrev pub lesser : Option ℕ → ℕ → ℕ
lesser None y = y
lesser (Some b) y = min b y

-- the least label so far
abbrev pub IsLeastSoFar : List ℕ → List LabelCost → List Piece → ℕ → Option ℕ → Type 0
IsLeastSoFar weights savings pieces count None =
    ((d : ℕ) → Lists savings d → IsFull weights savings d → ⊥) × ((k : ℕ) → k < count → slice_index weights (slice_index_or pieces k no_piece).label ≡ 0 → ⊥)
IsLeastSoFar weights savings pieces count (Some b) = IsFullLabel weights savings pieces count b

-- some piece's label saves all that it weighs
abbrev pub SomeFull : List ℕ → List LabelCost → List Piece → Type 0
SomeFull weights savings pieces = (k : ℕ) × (k < length pieces) × IsFull weights savings (slice_index_or pieces k no_piece).label

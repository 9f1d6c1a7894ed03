-- The parts of the field that are done, those that lie about one another, and how a part grows.
use Rattle.std.specs.Prelude.{◌≡◌, ℕ, ◌+◌, ◌%◌, ◌^◌, ◌≤◌, Bool, ◌<◌, List, ◌++◌, length, slice_index_or, IsTrue, ◌⊎◌, [], ◌∷◌, slice_index, Option}
use Rattle.prefix_min.specs.declared.parts.FieldPart.{FieldPart}
use Rattle.prefix_min.specs.declared.piece.Piece.{Piece}
use Rattle.prefix_min.specs.declared.savings.LabelCost.{LabelCost}
use Rattle.prefix_min.specs.declared.stack.Stack.{Stack}
use Rattle.prefix_min.specs.Costs.{Has, RisesFrom}
use Rattle.prefix_min.specs.declared.plan.Choice.{Choice}
use Rattle.prefix_min.specs.Merging.{AreAbove}
use Rattle.prefix_min.specs.Plan.{AreChosen, own_choice}
use Rattle.prefix_min.specs.Pieces.{label_at, weight_below, IsNext, reach}
use Rattle.prefix_min.specs.Savings.{AreSavings, alone, lowered, with_one}
use Rattle.prefix_min.specs.Trie.{Node, StandsFor, costs_of}
use Rattle.prefix_min.specs.Field.{no_piece}

-- the wide part holds that of so many bits from low on, has no more than most bits, and ends at the limit or below
pub record IsAbout (low bits most limit : ℕ) (wide : FieldPart) : Type 0 where
  pub from : wide.low ≤ low
  pub to : low + 2 ^ bits ≤ wide.low + 2 ^ wide.bits
  pub less : bits ≤ wide.bits
  pub short : wide.bits ≤ most
  pub aligned : wide.low % 2 ^ wide.bits ≡ 0
  pub ends : wide.low + 2 ^ wide.bits ≤ limit

-- what the parts that are done save and cost, and what they choose
pub record Done : Type 0 where
  pub savings : List LabelCost
  pub cost : ℕ
  pub choices : List Choice
  pub also : List ℕ

abbrev pub done : List LabelCost → ℕ → List Choice → List ℕ → Done
done savings cost choices also = record { savings = savings; cost = cost; choices = choices; also = also }

-- the same of a call's state
abbrev pub done_of : Stack → Done
done_of stack = done stack.savings.items stack.cost stack.choices.items stack.also.items

-- with what is handed over behind what they save
abbrev pub handed : Done → Option LabelCost → Done
handed d one = done (with_one d.savings one) d.cost d.choices d.also

-- the part of so many bits from low on is done: what it saves stands behind what was there before, and
-- what it costs, at most the weights of its values, is added to the cost
pub record IsBuilt (keeps : Bool) (weights : List ℕ) (pieces : List Piece) (bits low : ℕ) (old new : Done) (following : ℕ) : Type 0 where
  pub node : Node
  pub savings : List LabelCost
  pub stands : StandsFor weights (label_at pieces) bits low node
  pub saves : AreSavings weights (costs_of node) savings
  pub rise : RisesFrom 0 savings
  pub above : AreAbove savings
  pub within : (d : ℕ) → Has (costs_of node).labels d → d < length weights
  pub from : (d : ℕ) → Has (costs_of node).labels d → (k : ℕ) × (k < length pieces) × ((slice_index_or pieces k (record { hi = 0; label = 0 })).label ≡ d)
  pub pushed : new.savings ≡ old.savings ++ savings
  pub cost : new.cost ≡ old.cost + (costs_of node).row
  pub next : IsNext pieces following (low + 2 ^ bits)
  pub light : (costs_of node).row + weight_below weights 0 pieces low ≤ weight_below weights 0 pieces (low + 2 ^ bits)
  pub chosen : AreChosen keeps weights (label_at pieces) bits low node old.choices new.choices old.also new.also

-- where the piece at the place ends
abbrev pub end_of : List Piece → ℕ → ℕ
end_of pieces k = (slice_index_or pieces k no_piece).hi

-- by this label alone the part saves anything, and all of it, and up to the end of the wide part all values have it
pub record IsStretch (weights : List ℕ) (pieces : List Piece) (savings : List LabelCost) (label : ℕ) (part : FieldPart) (most next : ℕ) (wide : FieldPart) : Type 0 where
  pub alone_is : savings ≡ alone weights label
  pub weighs : 0 < slice_index weights label
  pub inside : next < length pieces
  pub label_is : (slice_index_or pieces next no_piece).label ≡ label
  pub about : IsAbout part.low part.bits most (end_of pieces next + 1) wide

-- one half of a part is this one: the other lies above it, or below it in the first piece
abbrev pub IsHalf : List Piece → ℕ → FieldPart → FieldPart → Type 0
IsHalf pieces first part about =
    ((about.low ≡ part.low) × ((part.low + 2 ^ part.bits) % 2 ^ part.bits ≡ 0) × (part.low + 2 ^ part.bits + 2 ^ part.bits ≤ reach 0 pieces))
    ⊎ ((about.low + 2 ^ part.bits ≡ part.low) × (first < length pieces) × IsNext pieces first about.low × (part.low ≤ end_of pieces first) × (part.low ≤ reach 0 pieces))

-- the other half is done
abbrev pub IsBeside : Bool → List ℕ → List Piece → ℕ → FieldPart → FieldPart → Done → Done → ℕ → ℕ → Type 0
IsBeside keeps weights pieces first part about old new next following =
    ((about.low ≡ part.low) × IsBuilt keeps weights pieces part.bits (part.low + 2 ^ part.bits) old new following)
    ⊎ ((about.low + 2 ^ part.bits ≡ part.low) × IsBuilt keeps weights pieces part.bits about.low old new first × (following ≡ next))

-- a part of one label is done, and its choice put down where choices are kept
pub record IsPut (keeps : Bool) (weights : List ℕ) (label : ℕ) (part : FieldPart) (old new : Done) (next following : ℕ) : Type 0 where
  pub savings : new.savings ≡ old.savings ++ lowered 0 (alone weights label)
  pub cost : new.cost ≡ old.cost + slice_index weights label
  pub next_is : following ≡ next
  pub choices : IsTrue keeps → new.choices ≡ old.choices ++ own_choice part.low part.bits label (length old.choices) (length old.also) (length old.also) ∷ []
  pub also : new.also ≡ old.also

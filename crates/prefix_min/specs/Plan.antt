-- What parts choose to write.
use Rattle.std.specs.Prelude.{◌≡◌, ℕ, ◌-◌, ◌<◌, ◌≤◌, ◌⊎◌, Bool, IsTrue, true, false, List, [], ◌∷◌, ◌++◌, cond, ◌==◌, nat_lt, length, slice_index_or, take, drop}
use Rattle.prefix_min.specs.declared.row.PrefixRow.{PrefixRow}
use Rattle.prefix_min.specs.declared.savings.Gain.{Gain}
use Rattle.prefix_min.specs.declared.savings.LabelCost.{LabelCost}
use Rattle.prefix_min.specs.declared.plan.Choice.{Choice}
use Rattle.prefix_min.specs.Rows.{ArePartRows, IsPart, row_of}
use Rattle.prefix_min.specs.Costs.{least_cost}
use Rattle.prefix_min.specs.Savings.{further}
use Rattle.prefix_min.specs.Trie.{Node, costs_of}

-- the choices of a part: the last one, the further labels by which it writes nothing, those below it, and those before
pub data Forest : Type 0 where
  Bare : Forest
  Grown : Forest → Choice → List ℕ → Forest → Forest

-- the choices of two parts
abbrev pub beside : Forest → Forest → Forest
beside f Bare = f
beside f (Grown rest x labels below) = Grown (beside f rest) x labels below

-- the label is one of these
abbrev pub among : List ℕ → ℕ → Bool
among [] d = false
among (x ∷ xs) d = cond (x == d) true (among xs d)

-- a choice writes no row where it inherits this label
abbrev pub silent : Choice → List ℕ → ℕ → Bool
silent x labels d = cond (x.label == d) true (among labels d)

-- the rows that are written where d is inherited
abbrev pub rows_of : ℕ → Forest → ℕ → List PrefixRow
rows_of width Bare d = []
rows_of width (Grown rest x labels below) d =
    rows_of width rest d ++ cond (silent x labels d) (rows_of width below d) (rows_of width below x.label ++ row_of width x.bits x.value x.label ∷ [])

abbrev pub no_choice : Choice
no_choice = record { value = 0; bits = 0; label = 0; below = 0; also = 0; end = 0 }

-- the choice stands right before the place, and its further labels in its range
pub record IsPlaced (choices : List Choice) (also : List ℕ) (to : ℕ) (x : Choice) (labels : List ℕ) : Type 0 where
  pub some : 0 < to
  pub inside : to ≤ length choices
  pub is : slice_index_or choices (to - 1) no_choice ≡ x
  pub ends : x.also ≤ x.end
  pub within : x.end ≤ length also
  pub labels_are : take (x.end - x.also) (drop x.also also) ≡ labels

-- the choices from one place to another
abbrev pub IsLaid : List Choice → List ℕ → ℕ → ℕ → Forest → Type 0
IsLaid choices also from to Bare = from ≡ to
IsLaid choices also from to (Grown rest x labels below) = IsPlaced choices also to x labels × IsLaid choices also x.below (to - 1) below × IsLaid choices also from x.below rest

-- the choices were added, and their further labels
pub record AreAdded (forest : Forest) (old new : List Choice) (also_old also_new : List ℕ) : Type 0 where
  pub laid : IsLaid new also_new (length old) (length new) forest
  pub more : List Choice
  pub added : new ≡ old ++ more
  pub more_also : List ℕ
  pub added_also : also_new ≡ also_old ++ more_also

-- choices that write the cheapest rows of the part, whatever it inherits, were added where choices are kept
pub record AreChosen (keeps : Bool) (weights : List ℕ) (f : ℕ → ℕ) (bits low : ℕ) (node : Node) (old new : List Choice) (also_old also_new : List ℕ) : Type 0 where
  pub forest : Forest
  pub kept : IsTrue keeps → AreAdded forest old new also_old also_new
  pub writes : (width d : ℕ) → IsPart width bits low → ArePartRows weights f width bits low d (least_cost (costs_of node) d) (rows_of width forest d)

-- what a gain puts behind the further labels and the choices
abbrev pub more_labels : Gain → List LabelCost → List ℕ
more_labels g sums = cond (nat_lt 0 g.gain) (further g.gain g.best sums) []

abbrev pub own_choice : ℕ → ℕ → ℕ → ℕ → ℕ → ℕ → Choice
own_choice value bits label below also end = record { value = value; bits = bits; label = label; below = below; also = also; end = end }

abbrev pub more_choices : Gain → ℕ → ℕ → ℕ → ℕ → ℕ → List Choice
more_choices g value bits below also end = cond (nat_lt 0 g.gain) (own_choice value bits g.best below also end ∷ []) []

-- without further labels the choice takes the place of the last one, which is of its label and stands below its part: that one would inherit the label always
pub record IsReplaced (g : Gain) (value bits below also end : ℕ) (old new : List Choice) : Type 0 where
  pub some : 0 < g.gain
  pub above : below < length old
  pub none : also ≡ end
  pub same : (slice_index_or old (length old - 1) no_choice).label ≡ g.best
  pub new_is : new ≡ take (length old - 1) old ++ own_choice value bits g.best below also end ∷ []

-- what a gain chooses is put down
abbrev pub IsTopped : Gain → ℕ → ℕ → ℕ → ℕ → ℕ → List Choice → List Choice → Type 0
IsTopped g value bits below also end old new = (new ≡ old ++ more_choices g value bits below also end) ⊎ IsReplaced g value bits below also end old new

-- What a part saves, once the part beside it is joined with it.
use Rattle.std.specs.Prelude.{Bool, IsTrue, ◌≡◌, ◌⊎◌, ℕ, suc, ◌+◌, ◌-◌, ◌<◌, ◌≤◌, ◌==◌, List, [], ◌∷◌, ◌++◌, cond, nat_lt, length, slice_index, slice_index_or, take, drop}
use Rattle.prefix_min.specs.declared.savings.Gain.{Gain}
use Rattle.prefix_min.specs.declared.savings.LabelCost.{LabelCost}
use Rattle.prefix_min.specs.Costs.{Lists, RisesFrom}
use Rattle.prefix_min.specs.Plan.{more_labels}
use Rattle.prefix_min.specs.Savings.{AreSums, IsGain, lowered, saved}

-- how many labels at the front are less
abbrev pub count_below : ℕ → List LabelCost → ℕ
count_below label [] = 0
count_below label (e ∷ es) = cond (nat_lt e.label label) (suc (count_below label es)) 0

-- the savings with one entry more, in its place by label or added to what its label saves
abbrev pub merged : LabelCost → List LabelCost → List LabelCost
merged x [] = x ∷ []
merged x (e ∷ es) = cond (nat_lt e.label x.label) (e ∷ merged x es) (cond (e.label == x.label) (record { label = x.label; cost = e.cost + x.cost } ∷ es) (x ∷ e ∷ es))

abbrev pub no_entry : LabelCost
no_entry = record { label = 0; cost = 0 }

-- the label stands at the place
abbrev pub StandsAt : List LabelCost → ℕ → ℕ → Type 0
StandsAt savings place label = (place < length savings) × ((slice_index_or savings place no_entry).label ≡ label)

-- each entry saves something
abbrev pub AreAbove : List LabelCost → Type 0
AreAbove [] = Unit {0}
AreAbove (e ∷ es) = (0 < e.cost) × AreAbove es

-- what a part saves: by rising labels, each something, and at most its weight
pub record AreKept (weights : List ℕ) (savings : List LabelCost) : Type 0 where
  pub rise : RisesFrom 0 savings
  pub within : (d : ℕ) → Lists savings d → d < length weights
  pub most : (d : ℕ) → saved savings d ≤ slice_index weights d
  pub above : AreAbove savings

-- two parts are joined: what they save together, less the gain, stands behind what was there before, and the
-- further labels of the gain behind the others where choices are kept
pub record IsJoined (keeps : Bool) (weights : List ℕ) (low high before after : List LabelCost) (also_before also_after : List ℕ) (g : Gain) : Type 0 where
  pub sums : List LabelCost
  pub are : AreSums low high sums
  pub gain : IsGain weights low high g.gain g.best
  pub savings : after ≡ before ++ lowered g.gain sums
  pub also : IsTrue keeps → also_after ≡ also_before ++ more_labels g sums

-- what one of two parts saves was taken away, one entry alone: the upper part's, or the lower one's
pub record IsTaken (left all : List LabelCost) (start middle : ℕ) (one : LabelCost) : Type 0 where
  pub long : start ≤ length left
  pub front : take start left ≡ take start all
  pub rest : ((drop start left ≡ take (middle - start) (drop start all)) × (drop middle all ≡ one ∷ []))
      ⊎ ((take (middle - start) (drop start all) ≡ one ∷ []) × (drop start left ≡ drop middle all))

-- What a part of the field costs, by the label that it inherits.
use Rattle.std.specs.Prelude.{◌≡◌, ℕ, ◌+◌, ◌<◌, ◌≤◌, ◌⊎◌, List, [], ◌∷◌, cond, ◌==◌, min, slice_index, length}
use Rattle.prefix_min.specs.declared.savings.LabelCost.{LabelCost}

-- what a part costs: without a row of its own, by the label that it inherits; with one, and the label of that
pub record Costs : Type 0 where
  pub labels : List ℕ
  pub without : ℕ → ℕ
  pub row : ℕ
  pub label : ℕ

-- the label is one of these
abbrev pub Has : List ℕ → ℕ → Type 0
Has [] d = ⊥
Has (e ∷ es) d = (e ≡ d) ⊎ Has es d

-- the cost that is listed for the label, or else the other one
abbrev pub cost_in : List LabelCost → ℕ → ℕ → ℕ
cost_in [] other d = other
cost_in (e ∷ es) other d = cond (e.label == d) e.cost (cost_in es other d)

-- the label is listed
abbrev pub Lists : List LabelCost → ℕ → Type 0
Lists [] d = ⊥
Lists (e ∷ es) d = (e.label ≡ d) ⊎ Lists es d

-- the labels rise, from low on
abbrev pub RisesFrom : ℕ → List LabelCost → Type 0
RisesFrom low [] = Unit {0}
RisesFrom low (e ∷ es) = (low ≤ e.label) × RisesFrom (e.label + 1) es

-- the first label
abbrev pub IsHead : List LabelCost → ℕ → Type 0
IsHead [] d = ⊥
IsHead (e ∷ es) d = e.label ≡ d

-- what is left once the label is taken from the front, if it stands there
abbrev pub after : ℕ → List LabelCost → List LabelCost
after d [] = []
after d (e ∷ es) = cond (e.label == d) es (e ∷ es)

-- the least cost without a row of its own
abbrev pub without_row : Costs → ℕ → ℕ
without_row c d = c.without d

-- the least cost
abbrev pub least_cost : Costs → ℕ → ℕ
least_cost c d = min (without_row c d) c.row

-- a part where every value has the label of the row
pub record IsConstant (weights : List ℕ) (c : Costs) : Type 0 where
  pub place : c.label < length weights
  pub listed : Has c.labels c.label
  pub without : (d : ℕ) → without_row c d ≡ cond (c.label == d) 0 (slice_index weights c.label)
  pub with_row : c.row ≡ slice_index weights c.label

-- a part whose halves cost so much: without a row both halves inherit what it inherits, with the
-- cheapest row they inherit the row's label, which is the least of those that make it cheapest
pub record IsSplit (weights : List ℕ) (low high c : Costs) : Type 0 where
  pub place : c.label < length weights
  pub listed : Has c.labels c.label
  pub lists_low : (d : ℕ) → Has low.labels d → Has c.labels d
  pub lists_high : (d : ℕ) → Has high.labels d → Has c.labels d
  pub without : (d : ℕ) → without_row c d ≡ least_cost low d + least_cost high d
  pub with_row : c.row ≡ slice_index weights c.label + without_row c c.label
  pub cheapest : (d : ℕ) → Has c.labels d → c.row ≤ slice_index weights d + without_row c d
  pub first : (d : ℕ) → Has c.labels d → d < c.label → c.row < slice_index weights d + without_row c d

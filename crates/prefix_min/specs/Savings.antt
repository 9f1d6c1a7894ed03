-- What a part saves, by the label that it inherits.
use Rattle.std.specs.Prelude.{◌≡◌, ℕ, ◌+◌, ◌-◌, ◌<◌, ◌≤◌, ◌⊎◌, ◌&&◌, ◌==◌, List, [], ◌∷◌, ◌++◌, Option, Some, None, cond, nat_le, nat_lt, not, slice_index}
use Rattle.prefix_min.specs.declared.savings.LabelCost.{LabelCost}
use Rattle.prefix_min.specs.declared.savings.Gain.{Gain}
use Rattle.prefix_min.specs.Costs.{Costs, Has, Lists, RisesFrom, cost_in, least_cost}

-- what is saved where the label is inherited: nothing where it isn't listed
abbrev pub saved : List LabelCost → ℕ → ℕ
saved savings d = cost_in savings 0 d

-- the savings of a part: what it costs less than a row of its own, and some label saves all that it weighs
pub record AreSavings (weights : List ℕ) (c : Costs) (savings : List LabelCost) : Type 0 where
  pub saves : (d : ℕ) → saved savings d + least_cost c d ≡ c.row
  pub most : (d : ℕ) → saved savings d ≤ slice_index weights d
  pub full : saved savings c.label ≡ slice_index weights c.label
  pub lists : (d : ℕ) → Lists savings d → Has c.labels d
  pub own : Has c.labels c.label

-- the least label by which two halves together save this much more than it weighs, and none saves more
pub record IsGain (weights : List ℕ) (low high : List LabelCost) (gain best : ℕ) : Type 0 where
  pub most : (d : ℕ) → saved low d + saved high d ≤ slice_index weights d + gain
  pub listed : 0 < gain → Lists low best ⊎ Lists high best
  pub whole : 0 < gain → saved low best + saved high best ≡ slice_index weights best + gain
  pub first : 0 < gain → (d : ℕ) → d < best → saved low d + saved high d < slice_index weights d + gain

-- the entry saves so much less
abbrev pub less : ℕ → LabelCost → LabelCost
less gain e = record { label = e.label; cost = e.cost - gain }

-- all that is saved is so much less, and what isn't above 0 then goes
abbrev pub lowered : ℕ → List LabelCost → List LabelCost
lowered gain [] = []
lowered gain (e ∷ es) = cond (nat_lt gain e.cost) (less gain e ∷ lowered gain es) (lowered gain es)

-- the other labels that save so much
abbrev pub further : ℕ → ℕ → List LabelCost → List ℕ
further gain best [] = []
further gain best (e ∷ es) = cond (nat_le gain e.cost && not (e.label == best)) (e.label ∷ further gain best es) (further gain best es)

-- what the halves save together, label by label
pub record AreSums (low high sums : List LabelCost) : Type 0 where
  pub rise : RisesFrom 0 sums
  pub saves : (d : ℕ) → saved sums d ≡ saved low d + saved high d
  pub lists : (d : ℕ) → Lists sums d → Lists low d ⊎ Lists high d

-- the gain, once a label saves so much
abbrev pub raised : Gain → ℕ → ℕ → ℕ → Gain
raised g label saves weight = cond (nat_lt g.gain (saves - weight)) (record { gain = saves - weight; best = label }) g

-- one label that saves all that it weighs
abbrev pub alone : List ℕ → ℕ → List LabelCost
alone weights y = record { label = y; cost = slice_index weights y } ∷ []

-- the savings with what was handed over behind them
abbrev pub with_one : List LabelCost → Option LabelCost → List LabelCost
with_one savings None = savings
with_one savings (Some one) = savings ++ one ∷ []

-- The field-by-field least cost of a rule list: how many entries it takes where a prefix list of the first
-- field has, in each row, the cheapest entries for the rules that one value of the field leaves over.
-- From the multi-field composition of the Razor papers (Meiners, Liu, Torng 2007 and 2010).
use Rattle.std.specs.Prelude.{◌≡◌, ℕ, ◌<◌, ◌≤◌, ◌^◌, List, [], ◌∷◌, Some, sum_by, find}
use Rattle.std.specs.List.{All}
use Rattle.field_boxes.specs.declared.prefix.Prefix.{Prefix}
use Rattle.field_boxes.specs.Headline.Fields.{AreValues, width}
use Rattle.field_boxes.specs.Headline.Prefix.{FitsWidth, prefix_holds}
use Rattle.field_boxes.specs.Headline.Classifier.{Rule, source, residue}

-- one pair of a plan: a prefix of the field and a value of it, with the cost of the residue at the value
pub record Choice : Type 0 where
  pub prefix : Prefix
  pub value : ℕ
  pub cost : ℕ

-- the pairs are prefixes and values of the field, and the first one that holds a value of the field has a
-- value whose residue decides alike at all values of the fields that are left
pub record IsPlan {A : Type 0} (f : ℕ) (fields : List ℕ) (R : List (Rule A)) (plan : List Choice) : Type 0 where
  pub fits : All (λ c. FitsWidth (width f) c.prefix) plan
  pub in_field : All (λ c. c.value < 2 ^ width f) plan
  pub alike : (v : ℕ) → v < 2 ^ width f →
      (c : Choice) × (find (λ c. prefix_holds (width f) c.prefix v) plan ≡ Some c) × (c.value < 2 ^ width f)
      × ((values : List ℕ) → AreValues fields values → source fields values (residue f v R) ≡ source fields values (residue f c.value R))

-- some plan costs n in sum and no plan costs less, where each pair has a cost of its residue
pub record IsLeastOfPlans {A : Type 0} (f : ℕ) (fields : List ℕ) (Costs : List (Rule A) → ℕ → Type 0) (R : List (Rule A)) (n : ℕ) : Type 0 where
  pub reached : (plan : List Choice) × IsPlan f fields R plan × All (λ c. Costs (residue f c.value R) c.cost) plan × (sum_by (λ c. c.cost) plan ≡ n)
  pub least : (plan : List Choice) → IsPlan f fields R plan → All (λ c. Costs (residue f c.value R) c.cost) plan → n ≤ sum_by (λ c. c.cost) plan

-- n is the least cost of the rules over these fields: 1 where none is left, and else the least of their plans
unfoldable pub IsLeastCost : {A : Type 0} → List ℕ → List (Rule A) → ℕ → Type 0
IsLeastCost [] R n = n ≡ 1
IsLeastCost (f ∷ fields) R n = IsLeastOfPlans f fields (IsLeastCost fields) R n

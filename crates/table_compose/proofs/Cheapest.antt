-- A cheapest prefix list of one field is a cheapest plan.
use Rattle.std.proofs.Common.{◌≡◌, ◌∷◌, ℕ, List, ◌<◌, ◌≤◌, ◌^◌, ap, sym, ◌∙◌, subst}
use Rattle.std.specs.Prelude.{slice_index, slice_index_or}
use Rattle.std.specs.List.{All}
use Rattle.field_boxes.specs.Headline.Fields.{width}
use Rattle.field_boxes.specs.Headline.Classifier.{Rule, residue}
use Rattle.prefix_min.specs.declared.row.PrefixRow.{PrefixRow}
use Rattle.prefix_min.specs.PrefixList.{IsRight, weight}
use Rattle.table_compose.specs.Headline.LeastCost.{Choice, IsPlan, IsLeastCost}
use Rattle.table_compose.specs.Choices.{plan_cost}
use Rattle.table_compose.proofs.OneCost.{cost-unique}
use Rattle.table_compose.proofs.Choices.{LabelsResidues, IsTaken, rows_of, weight-rows, right-rows, plan-rows, planned}

-- a right list of labels that are taken, which weighs n, and no right list weighs less
pub record IsCheapestList (w : ℕ) (lab : ℕ → ℕ) (weights : List ℕ) (rows : List PrefixRow) (n : ℕ) : Type 0 where
  pub right : IsRight w lab rows
  pub taken : All (λ r. IsTaken w lab r.label) rows
  pub weighs : weight weights rows ≡ n
  pub least : (others : List PrefixRow) → IsRight w lab others → n ≤ weight weights others

-- each value's label weighs the least cost of the value's residue
abbrev pub WeighsResidues : {A : Type 0} → ℕ → List ℕ → List (Rule A) → (ℕ → ℕ) → List ℕ → Type 0
WeighsResidues f fields R lab weights = (v : ℕ) → v < 2 ^ width f → IsLeastCost fields (residue f v R) (slice_index weights (lab v))

-- each choice costs the least cost of its residue
abbrev pub AreCosted : {A : Type 0} → ℕ → List ℕ → List (Rule A) → List Choice → Type 0
AreCosted f fields R plan = All (λ c. IsLeastCost fields (residue f c.value R) c.cost) plan

module _ {A : Type 0} (f : ℕ) (fields : List ℕ) (R : List (Rule A)) (lab : ℕ → ℕ) (weights : List ℕ) (rows : List PrefixRow) (n : ℕ)
    (tells : LabelsResidues f fields R lab) (weighs : WeighsResidues f fields R lab weights) (h : IsCheapestList (width f) lab weights rows n) where
  reached : (plan : List Choice) × IsPlan f fields R plan × AreCosted f fields R plan × (plan_cost plan ≡ n)
  reached =
      let found = planned (width f) lab weights rows h.right.fits h.taken in
      let plan = found.0 in
      let p = found.1 in (
        plan,
        plan-rows f fields R lab plan tells p.fits p.in_field (subst (IsRight (width f) lab) (sym p.beside) h.right),
        (λ k d small. let x = slice_index_or plan k d in
            subst (IsLeastCost fields (residue f x.value R)) (sym (p.costs k d small)) (weighs x.value (p.in_field k d small))),
        sym (weight-rows lab weights plan p.costs) ∙ ap (weight weights) p.beside ∙ h.weighs,
      )

  least : (plan : List Choice) → IsPlan f fields R plan → AreCosted f fields R plan → n ≤ plan_cost plan
  least plan p costs =
      let e : All (λ c. c.cost ≡ slice_index weights (lab c.value)) plan = λ k d small. let x = slice_index_or plan k d in
      cost-unique fields (residue f x.value R) x.cost (slice_index weights (lab x.value)) (costs k d small) (weighs x.value (p.in_field k d small)) in
      subst (λ m. n ≤ m) (weight-rows lab weights plan e) (h.least (rows_of lab plan) (right-rows f fields R lab plan tells p))

  pub cheapest-list : IsLeastCost (f ∷ fields) R n
  unfolding IsLeastCost
  cheapest-list = record { reached = reached; least = least }

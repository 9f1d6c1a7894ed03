-- Each list has a least cost.
use Rattle.std.proofs.Common.{◌≡◌, ◌∷◌, ℕ, List, [], ◌<◌, ◌≤◌, ◌^◌, refl, arith, sym, subst, length, map}
use Rattle.std.specs.Prelude.{slice_index}
use Rattle.std.specs.List.{range_with_len}
use Rattle.std.proofs.lemmas.List.FromFn.{get_or-map-range_with_len, length-map-range_with_len}
use Rattle.field_boxes.specs.Headline.Fields.{width}
use Rattle.field_boxes.specs.Headline.Classifier.{Rule, residue}
use Rattle.table_compose.specs.Headline.LeastCost.{IsLeastCost}
use Rattle.table_compose.specs.Choices.{AreAlike}
use Rattle.table_compose.proofs.Cheapest.{WeighsResidues, cheapest-list}
use Rattle.table_compose.proofs.Choices.{LabelsResidues}
use Rattle.table_compose.proofs.ClassLabels.{alike_label, label, label_alike, label_low, one_label}
use Rattle.table_compose.proofs.FewHeaders.{narrow}
use Rattle.table_compose.proofs.OneCost.{alike-cost, alike-sym, alike-trans}
use Rattle.table_compose.proofs.PartLists.{cheapest_there}
use Rattle.table_compose.proofs.Told.{Told, alike_told}

-- the least cost over a field and more fields, where each residue has one over those
module _ (f : ℕ) (fields : List ℕ) (R : List (Rule (List ℕ))) (costs : (v : ℕ) → (n : ℕ) × IsLeastCost fields (residue f v R) n) where
  abbrev Alike : ℕ → ℕ → Type 0
  Alike a b = AreAlike fields (residue f a R) (residue f b R)

  told : (a b : ℕ) → Told (Alike a b)
  told a b = alike_told fields (residue f a R) (residue f b R)

  same : (a : ℕ) → Alike a a
  same a values ok = refl

  back : (a b : ℕ) → Alike a b → Alike b a
  back a b h = alike-sym fields (residue f a R) (residue f b R) h

  chain : (a b c : ℕ) → Alike a b → Alike b c → Alike a c
  chain a b c h k = alike-trans fields (residue f a R) (residue f b R) (residue f c R) h k

  abbrev class : ℕ → ℕ
  class v = label Alike told same back chain v

  class_low : (v : ℕ) → class v ≤ v
  class_low v = label_low Alike told same back chain v

  tells : LabelsResidues f fields R class
  tells = record {
    alike = λ v u small low e. one_label Alike told same back chain v u e;
    same = λ v u small low h. alike_label Alike told same back chain v u h;
  }

  abbrev weights : List ℕ
  weights = map (λ v. (costs v).0) (range_with_len 0 (2 ^ width f))

  weighs : WeighsResidues f fields R class weights
  weighs v small =
      let low = class_low v in
      let at : slice_index weights (class v) ≡ (costs (class v)).0 = get_or-map-range_with_len (λ x. (costs x).0) 0 (2 ^ width f) (class v) (class v) 0 (omega (arith, low, small)) (omega arith) in
      subst (IsLeastCost fields (residue f v R)) (sym at)
      (alike-cost fields (residue f (class v) R) (residue f v R) (costs (class v)).0 (label_alike Alike told same back chain v) (costs (class v)).1)

  places : (v : ℕ) → v < 2 ^ width f → class v < length weights
  places v small =
      let low = class_low v in
      let many : length weights ≡ 2 ^ width f = length-map-range_with_len (λ x. (costs x).0) 0 (2 ^ width f) in
      omega (arith, low, small, many)

  field_cost : (n : ℕ) × IsLeastCost (f ∷ fields) R n
  field_cost =
      let found = cheapest_there weights class (width f) (narrow f) places in
      (found.1, cheapest-list f fields R class weights found.0 found.1 tells weighs found.2)

pub some_cost : (fields : List ℕ) (R : List (Rule (List ℕ))) → (n : ℕ) × IsLeastCost fields R n
unfolding IsLeastCost
some_cost [] R = (1, refl)
some_cost (f ∷ fields) R = field_cost f fields R (λ v. some_cost fields (residue f v R))

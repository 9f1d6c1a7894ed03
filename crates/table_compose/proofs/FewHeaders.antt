-- The least cost is at most the number of headers.
use Rattle.std.proofs.Common.{◌≡◌, ◌∷◌, ℕ, zero, suc, List, [], ◌<◌, ◌≤◌, ◌^◌, arith, refl, sym, subst}
use Rattle.std.specs.List.{All}
use Rattle.std.proofs.lemmas.Nat.{pow-add}
use Rattle.field_boxes.specs.Headline.Fields.{width}
use Rattle.field_boxes.specs.Headline.Prefix.{prefix_holds}
use Rattle.field_boxes.specs.Headline.Classifier.{Rule, residue}
use Rattle.table_compose.specs.Headline.LeastCost.{Choice, IsPlan, IsLeastCost}
use Rattle.table_compose.specs.Choices.{AreAlike}
use Rattle.node_store.specs.Levels.{bits_of}
use Rattle.table_compose.proofs.OneCost.{alike-cost, alike-sym}
use Rattle.table_compose.proofs.Choices.{All-found}
use Rattle.table_compose.proofs.Singles.{AreSingles, singles}

pub narrow : (f : ℕ) → width f ≤ 32
narrow zero = omega arith
narrow (suc zero) = omega arith
narrow (suc (suc zero)) = omega arith
narrow (suc (suc (suc zero))) = omega arith
narrow (suc (suc (suc (suc zero)))) = omega arith
narrow (suc (suc (suc (suc (suc n))))) = omega arith

-- the least cost of the residue at a value, by the choice that a plan has for it
residue_cost : {A : Type 0} (f : ℕ) (fields : List ℕ) (R : List (Rule A)) (plan : List Choice) → IsPlan f fields R plan →
    All (λ c. IsLeastCost fields (residue f c.value R) c.cost) plan → (v : ℕ) → v < 2 ^ width f → (n : ℕ) × IsLeastCost fields (residue f v R) n
residue_cost f fields R plan p costs v small =
    let at = p.alike v small in
    let c = at.0 in
    let here = All-found (λ x. IsLeastCost fields (residue f x.value R) x.cost) (λ x. prefix_holds (width f) x.prefix v) plan c costs at.1 in
    (c.cost, alike-cost fields (residue f c.value R) (residue f v R) c.cost (alike-sym fields (residue f v R) (residue f c.value R) at.3) here)

singles_alike : {A : Type 0} (f : ℕ) (fields : List ℕ) (R : List (Rule A)) (v u : ℕ) → u ≡ v → AreAlike fields (residue f v R) (residue f u R)
singles_alike f fields R v u e = subst (λ x. AreAlike fields (residue f v R) (residue f x R)) (sym e) (λ values ok. refl)

singles_plan : {A : Type 0} (f : ℕ) (fields : List ℕ) (R : List (Rule A)) (Costs : ℕ → ℕ → Type 0) (most : ℕ) (plan : List Choice) →
    AreSingles (width f) Costs most (2 ^ width f) plan → IsPlan f fields R plan
singles_plan f fields R Costs most plan s = record {
  fits = s.fits;
  in_field = s.in_field;
  alike = λ v small. let c = s.first v small in (c.0, c.1, subst (λ x. x < 2 ^ width f) (sym c.2) small, singles_alike f fields R v c.0.value c.2);
}

pub few : {A : Type 0} (fields : List ℕ) (R : List (Rule A)) (n : ℕ) → IsLeastCost fields R n → n ≤ 2 ^ bits_of fields
unfolding IsLeastCost
few [] R n h = omega (arith, h)
few (f ∷ fields) R n h =
    let there = h.reached in
    let Costs : ℕ → ℕ → Type 0 = λ v c. IsLeastCost fields (residue f v R) c in
    let all = singles (width f) Costs (2 ^ bits_of fields) (narrow f)
    (λ v small. let c = residue_cost f fields R there.0 there.1 there.2 v small in (c.0, c.1, few fields (residue f v R) c.0 c.1)) (2 ^ width f) (omega arith) in
    let bound = h.least all.0 (singles_plan f fields R Costs (2 ^ bits_of fields) all.0 all.1) all.1.costs in
    rw (pow-add 2 (width f) (bits_of fields)) (omega (arith, bound, all.1.few))

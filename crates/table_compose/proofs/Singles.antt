-- A plan of one choice for each value of a field.
use Rattle.std.proofs.Common.{◌≡◌, ◌∷◌, ℕ, zero, suc, List, [], ◌+◌, ◌-◌, ◌*◌, ◌/◌, ◌%◌, ◌<◌, ◌≤◌, ◌^◌, Bool, true, false, ap, arith, refl, sym, ◌∙◌, inl, inr}
use Rattle.std.proofs.lemmas.Bool.{eqb-true}
use Rattle.std.specs.Prelude.{cond, nat_eq, Some}
use Rattle.std.specs.List.{All}
use Rattle.std.proofs.lemmas.Bool.Decides.{eqb_tells}
use Rattle.std.proofs.lemmas.List.Elements.{All-nil, All-cons}
use Rattle.std.proofs.lemmas.List.Sums.{sum_by-cons}
use Rattle.field_boxes.specs.Headline.Prefix.{FitsWidth, prefix_holds}
use Rattle.table_compose.specs.Headline.LeastCost.{Choice}
use Rattle.table_compose.specs.Choices.{first_choice, plan_cost}

div_none : (w v : ℕ) → v / 2 ^ (w - w) ≡ v
div_none w v = let none : w - w ≡ 0 = omega arith in rw none (let e : v / 1 ≡ v = omega arith in e)

rem_none : (w v : ℕ) → v % 2 ^ (w - w) ≡ 0
rem_none w v = let none : w - w ≡ 0 = omega arith in rw none (let e : v % 1 ≡ 0 = omega arith in e)

-- choices for the values below k, each with a cost of the value, which is at most so much
pub record AreSingles (w : ℕ) (Costs : ℕ → ℕ → Type 0) (most k : ℕ) (plan : List Choice) : Type 0 where
  pub first : (v : ℕ) → v < k → (c : Choice) × (first_choice w plan v ≡ Some c) × (c.value ≡ v)
  pub fits : All (λ c. FitsWidth w c.prefix) plan
  pub in_field : All (λ c. c.value < 2 ^ w) plan
  pub costs : All (λ c. Costs c.value c.cost) plan
  pub few : plan_cost plan ≤ k * most

-- the first choice, by whether the one in front holds the value
first_step : (w k v : ℕ) (c : Choice) (plan : List Choice) (t : Bool) → c.value ≡ k → t ≡ prefix_holds w c.prefix v → (t ≡ true → k ≡ v) →
    (t ≡ false → (x : Choice) × (first_choice w plan v ≡ Some x) × (x.value ≡ v)) →
    (x : Choice) × (cond t (Some c) (first_choice w plan v) ≡ Some x) × (x.value ≡ v)
first_step w k v c plan true is t here rest = (c, refl, is ∙ here refl)
first_step w k v c plan false is t here rest = rest refl

same_value : (w k v : ℕ) → nat_eq (v / 2 ^ (w - w)) (k / 2 ^ (w - w)) ≡ true → k ≡ v
same_value w k v h = sym (div_none w k) ∙ sym (eqb-true (v / 2 ^ (w - w)) (k / 2 ^ (w - w)) h) ∙ div_none w v

other_value : (w k v : ℕ) → nat_eq (v / 2 ^ (w - w)) (k / 2 ^ (w - w)) ≡ false → k ≡ v → ⊥
other_value w k v h e = elim (eqb_tells (v / 2 ^ (w - w)) (k / 2 ^ (w - w))) [
  | inl t ↦ cc
  | inr t ↦ t.1 (ap (λ x. x / 2 ^ (w - w)) (sym e))
]

below : (v k : ℕ) → v < suc k → (k ≡ v → ⊥) → v < k
below v k h other = grind (arith, other)

one_more : (k most : ℕ) → most + k * most ≡ suc k * most
one_more k most = grind arith

pub singles : (w : ℕ) (Costs : ℕ → ℕ → Type 0) (most : ℕ) → w ≤ 32 → ((v : ℕ) → v < 2 ^ w → (c : ℕ) × Costs v c × (c ≤ most)) →
    (k : ℕ) → k ≤ 2 ^ w → (plan : List Choice) × AreSingles w Costs most k plan
singles w Costs most wide cost zero h = (
  [],
  record {
    first = λ v small. absurd (omega (arith, small));
    fits = All-nil (λ c. FitsWidth w c.prefix);
    in_field = All-nil (λ c. c.value < 2 ^ w);
    costs = All-nil (λ c. Costs c.value c.cost);
    few = omega arith;
  },
)
singles w Costs most wide cost (suc k) h =
    let rest = singles w Costs most wide cost k (omega (arith, h)) in
    let at = cost k (omega (arith, h)) in
    let c : Choice = record { prefix = record { value = k; len = w }; value = k; cost = at.0 } in
    let sum = sum_by-cons (λ (x : Choice). x.cost) c rest.0 in (
      c ∷ rest.0,
      record {
        first = λ v small. first_step w k v c rest.0 (prefix_holds w c.prefix v) refl refl (same_value w k v) (λ other. rest.1.first v (below v k small (other_value w k v other)));
        fits = All-cons (λ x. FitsWidth w x.prefix) c rest.0 (record { wide = wide; len = omega arith; small = h; low = rem_none w k }) rest.1.fits;
        in_field = All-cons (λ x. x.value < 2 ^ w) c rest.0 h rest.1.in_field;
        costs = All-cons (λ x. Costs x.value x.cost) c rest.0 at.1 rest.1.costs;
        few = omega (arith, sum, at.2, rest.1.few, one_more k most);
      },
    )

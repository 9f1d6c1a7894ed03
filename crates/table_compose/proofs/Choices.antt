-- A plan beside its prefix list, where each choice's row has the label of the choice's value.
use Rattle.std.proofs.Common.{◌≡◌, ◌∷◌, ℕ, List, [], ◌<◌, ◌^◌, Bool, true, false, refl, ap, arith, sym, ◌∙◌, subst}
use Rattle.std.specs.Prelude.{cond, find, map, Option, Some, None, option_map, slice_index}
use Rattle.std.specs.List.{All}
use Rattle.std.proofs.lemmas.Option.{none-some, same_Some}
use Rattle.std.proofs.lemmas.List.Elements.{All-nil, All-cons, All-head, All-tail, All-map}
use Rattle.std.proofs.lemmas.List.Sums.{sum_by-cons}
use Rattle.field_boxes.specs.Headline.Fields.{width}
use Rattle.field_boxes.specs.Headline.Prefix.{FitsWidth, prefix_holds}
use Rattle.field_boxes.specs.Headline.Classifier.{Rule, residue}
use Rattle.prefix_min.specs.declared.row.PrefixRow.{PrefixRow}
use Rattle.prefix_min.specs.PrefixList.{front, IsRight, weight}
use Rattle.table_compose.specs.Headline.LeastCost.{Choice, IsPlan}
use Rattle.table_compose.specs.Choices.{AreAlike, first_choice, plan_cost}

found_step : {X : Type 0} (P : X → Type 0) (t : Bool) (x y : X) (rest : Option X) → P y → (rest ≡ Some x → P x) → cond t (Some y) rest ≡ Some x → P x
found_step P true x y rest p k e = subst P (same_Some y x e) p
found_step P false x y rest p k e = k e

-- what holds of each item holds of the one that is found
pub All-found : {X : Type 0} (P : X → Type 0) (test : X → Bool) (xs : List X) (x : X) → All P xs → find test xs ≡ Some x → P x
All-found P test [] x p e = absurd (none-some x e)
All-found P test (y ∷ ys) x p e =
    found_step P (test y) x y (find test ys) (All-head P y ys p) (λ k. All-found P test ys x (All-tail P y ys p) k) e

-- two values have one label exactly where their residues decide alike
pub record LabelsResidues {A : Type 0} (f : ℕ) (fields : List ℕ) (R : List (Rule A)) (lab : ℕ → ℕ) : Type 0 where
  pub alike : (v u : ℕ) → v < 2 ^ width f → u < 2 ^ width f → lab v ≡ lab u → AreAlike fields (residue f v R) (residue f u R)
  pub same : (v u : ℕ) → v < 2 ^ width f → u < 2 ^ width f → AreAlike fields (residue f v R) (residue f u R) → lab v ≡ lab u

-- some value of the field has the label
abbrev pub IsTaken : ℕ → (ℕ → ℕ) → ℕ → Type 0
IsTaken w lab label = (u : ℕ) × (u < 2 ^ w) × (lab u ≡ label)

abbrev pub row_of : (ℕ → ℕ) → Choice → PrefixRow
row_of lab c = record { prefix = c.prefix; label = lab c.value }

abbrev pub rows_of : (ℕ → ℕ) → List Choice → List PrefixRow
rows_of lab plan = map (row_of lab) plan

front_step : (lab : ℕ → ℕ) (t : Bool) (c : Choice) (o : Option PrefixRow) (p : Option Choice) →
    option_map (λ r. r.label) o ≡ option_map (λ x. lab x.value) p →
    option_map (λ r. r.label) (cond t (Some (row_of lab c)) o) ≡ option_map (λ x. lab x.value) (cond t (Some c) p)
front_step lab true c o p h = refl
front_step lab false c o p h = h

-- the first row's label is the label of the first choice's value
pub front-rows : (w : ℕ) (lab : ℕ → ℕ) (v : ℕ) (plan : List Choice) →
    front w (rows_of lab plan) v ≡ option_map (λ c. lab c.value) (first_choice w plan v)
front-rows w lab v [] = refl
front-rows w lab v (c ∷ plan) =
    front_step lab (prefix_holds w c.prefix v) c (find (λ r. prefix_holds w r.prefix v) (rows_of lab plan)) (first_choice w plan v)
    (front-rows w lab v plan)

-- the rows weigh what the plan costs
pub weight-rows : (lab : ℕ → ℕ) (weights : List ℕ) (plan : List Choice) → All (λ c. c.cost ≡ slice_index weights (lab c.value)) plan →
    weight weights (rows_of lab plan) ≡ plan_cost plan
weight-rows lab weights [] h = refl
weight-rows lab weights (c ∷ plan) h =
    let a = sum_by-cons (λ r. slice_index weights r.label) (row_of lab c) (rows_of lab plan) in
    let b = sum_by-cons (λ x. x.cost) c plan in
    let e = All-head (λ x. x.cost ≡ slice_index weights (lab x.value)) c plan h in
    let i = weight-rows lab weights plan (All-tail (λ x. x.cost ≡ slice_index weights (lab x.value)) c plan h) in
    omega (arith, a, b, e, i)

-- the rows of a plan are right
pub right-rows : {A : Type 0} (f : ℕ) (fields : List ℕ) (R : List (Rule A)) (lab : ℕ → ℕ) (plan : List Choice) →
    LabelsResidues f fields R lab → IsPlan f fields R plan → IsRight (width f) lab (rows_of lab plan)
right-rows f fields R lab plan tells p = record {
  fits = All-map (λ r. FitsWidth (width f) r.prefix) (row_of lab) plan p.fits;
  answers = λ v small. let c = p.alike v small in
      front-rows (width f) lab v plan ∙ ap (option_map (λ x. lab x.value)) c.1 ∙ ap Some (sym (tells.same v c.0.value small c.2 c.3));
}

answer_of : {A : Type 0} (f : ℕ) (fields : List ℕ) (R : List (Rule A)) (lab : ℕ → ℕ) (plan : List Choice) →
    LabelsResidues f fields R lab → All (λ c. c.value < 2 ^ width f) plan → (v : ℕ) → v < 2 ^ width f → (o : Option Choice) →
    first_choice (width f) plan v ≡ o → option_map (λ c. lab c.value) o ≡ Some (lab v) →
    (c : Choice) × (first_choice (width f) plan v ≡ Some c) × (c.value < 2 ^ width f) × AreAlike fields (residue f v R) (residue f c.value R)
answer_of f fields R lab plan tells inside v small None is h = absurd (none-some (lab v) h)
answer_of f fields R lab plan tells inside v small (Some c) is h =
    let low = All-found (λ x. x.value < 2 ^ width f) (λ x. prefix_holds (width f) x.prefix v) plan c inside is in
    (c, is, low, tells.alike v c.value small low (sym (same_Some (lab c.value) (lab v) h)))

-- choices are a plan where their rows are right
pub plan-rows : {A : Type 0} (f : ℕ) (fields : List ℕ) (R : List (Rule A)) (lab : ℕ → ℕ) (plan : List Choice) →
    LabelsResidues f fields R lab → All (λ c. FitsWidth (width f) c.prefix) plan → All (λ c. c.value < 2 ^ width f) plan →
    IsRight (width f) lab (rows_of lab plan) → IsPlan f fields R plan
plan-rows f fields R lab plan tells fits inside right = record {
  fits = fits;
  in_field = inside;
  alike = λ v small. answer_of f fields R lab plan tells inside v small (first_choice (width f) plan v) refl
      (sym (front-rows (width f) lab v plan) ∙ right.answers v small);
}

-- choices for the rows: for each a value that has the row's label, and the label's weight
pub record ArePlanned (w : ℕ) (lab : ℕ → ℕ) (weights : List ℕ) (rows : List PrefixRow) (plan : List Choice) : Type 0 where
  pub beside : rows_of lab plan ≡ rows
  pub fits : All (λ c. FitsWidth w c.prefix) plan
  pub in_field : All (λ c. c.value < 2 ^ w) plan
  pub costs : All (λ c. c.cost ≡ slice_index weights (lab c.value)) plan

pub planned : (w : ℕ) (lab : ℕ → ℕ) (weights : List ℕ) (rows : List PrefixRow) → All (λ r. FitsWidth w r.prefix) rows → All (λ r. IsTaken w lab r.label) rows →
    (plan : List Choice) × ArePlanned w lab weights rows plan
planned w lab weights [] fits taken = (
  [],
  record {
    beside = refl;
    fits = All-nil (λ c. FitsWidth w c.prefix);
    in_field = All-nil (λ c. c.value < 2 ^ w);
    costs = All-nil (λ c. c.cost ≡ slice_index weights (lab c.value));
  },
)
planned w lab weights (r ∷ rows) fits taken =
    let F : PrefixRow → Type 0 = λ x. FitsWidth w x.prefix in
    let T : PrefixRow → Type 0 = λ x. IsTaken w lab x.label in
    let u = All-head T r rows taken in
    let rest = planned w lab weights rows (All-tail F r rows fits) (All-tail T r rows taken) in
    let c : Choice = record { prefix = r.prefix; value = u.0; cost = slice_index weights (lab u.0) } in (
      c ∷ rest.0,
      record {
        beside = ap (λ l. record { prefix = r.prefix; label = l } ∷ rows_of lab rest.0) u.2 ∙ ap (λ xs. r ∷ xs) rest.1.beside;
        fits = All-cons (λ x. FitsWidth w x.prefix) c rest.0 (All-head F r rows fits) rest.1.fits;
        in_field = All-cons (λ x. x.value < 2 ^ w) c rest.0 u.1 rest.1.in_field;
        costs = All-cons (λ x. x.cost ≡ slice_index weights (lab x.value)) c rest.0 refl rest.1.costs;
      },
    )

-- Where a field has one value, rules cost no more over the other fields.
use Rattle.std.proofs.Common.{◌≡◌, ◌∷◌, ℕ, List, [], ◌<◌, ◌≤◌, ◌^◌, Bool, true, false, map, ap, arith, refl, sym, ◌∙◌, subst, inl, inr}
use Rattle.std.specs.Prelude.{cond, filter, Option, Some, option_map}
use Rattle.std.specs.List.{All}
use Rattle.std.proofs.lemmas.List.Elements.{All-head, All-map, All-tail, All-weaker}
use Rattle.std.proofs.lemmas.List.Sums.{sum_by-cons}
use Rattle.field_boxes.specs.Headline.Fields.{width, AreValues}
use Rattle.field_boxes.specs.Headline.Prefix.{FitsWidth, prefix_holds}
use Rattle.field_boxes.specs.Headline.Classifier.{Rule, source, residue, set_holds}
use Rattle.field_boxes.proofs.Residues.{source-residue}
use Rattle.field_boxes.specs.Orders.{IsMissing, AreDistinct, Has}
use Rattle.table_compose.specs.Headline.LeastCost.{Choice, IsPlan, IsLeastCost}
use Rattle.table_compose.specs.Choices.{AreAlike, first_choice, plan_cost}
use Rattle.table_compose.proofs.OneCost.{cost-unique, alike-cost, alike-sym}
use Rattle.table_compose.proofs.Choices.{All-found}
use Rattle.table_compose.proofs.Existing.{some_cost}
use Rattle.field_order.specs.Fronts.{Fits, without}
use Rattle.field_order.specs.Worth.{AreApart, DecideBy, IsAtLeast, IsRearranged}
use Rattle.field_order.proofs.Parts.{paid_found, paid_some}
use Rattle.field_order.proofs.Values.{put, put_fits, put_same, put_map, values, assigned, assigned_fits, assigned_map, rearranged_source}
use Rattle.field_order.proofs.Without as left

-- a field in front, and the others behind it
same_order : (order : List ℕ) → AreDistinct order → IsRearranged order order
same_order [] d = refl
same_order (f ∷ order) d =
    (inl refl, subst (IsRearranged order) (sym (left.behind f f order refl d.0)) (same_order order d.1))

-- where the field has the value, the rules decide as its residue over the other fields
source_at : {A : Type 0} (order : List ℕ) (g u : ℕ) (h : ℕ → ℕ) (R : List (Rule A)) → Has g order → AreDistinct order → h g ≡ u →
    source order (map h order) R ≡ source (without g order) (map h (without g order)) (residue g u R)
source_at order g u h R has d is =
    let rest = without g order in
    sym (rearranged_source (g ∷ rest) order h R (has, same_order rest (left.distinct g order d)) d)
    ∙ ap (λ v. source (g ∷ rest) (v ∷ map h rest) R) is
    ∙ source-residue g u rest (map h rest) R

swap_step : {A : Type 0} (p q : Rule A → Bool) (a b : Bool) (r : Rule A) (R : List (Rule A)) → p r ≡ a → q r ≡ b → filter p (filter q R) ≡ filter q (filter p R) →
    filter p (cond b (r ∷ filter q R) (filter q R)) ≡ filter q (cond a (r ∷ filter p R) (filter p R))
swap_step p q true true r R x y e =
    ap (λ t. cond t (r ∷ filter p (filter q R)) (filter p (filter q R))) x ∙ ap (λ l. r ∷ l) e ∙ sym (ap (λ t. cond t (r ∷ filter q (filter p R)) (filter q (filter p R))) y)
swap_step p q true false r R x y e = e ∙ sym (ap (λ t. cond t (r ∷ filter q (filter p R)) (filter q (filter p R))) y)
swap_step p q false true r R x y e = ap (λ t. cond t (r ∷ filter p (filter q R)) (filter p (filter q R))) x ∙ e
swap_step p q false false r R x y e = e

-- two residues in either order
swapped : {A : Type 0} (p q : Rule A → Bool) (R : List (Rule A)) → filter p (filter q R) ≡ filter q (filter p R)
swapped p q [] = refl
swapped p q (r ∷ R) = swap_step p q (p r) (q r) r R refl refl (swapped p q R)

-- the pairs with other costs
module _ (cost : ℕ → ℕ) where
  abbrev priced : Choice → Choice
  priced c = record { prefix = c.prefix; value = c.value; cost = cost c.value }

  found_step : (t : Bool) (x c : Choice) (rest more : Option Choice) → (rest ≡ Some c → more ≡ Some (priced c)) → cond t (Some x) rest ≡ Some c → cond t (Some (priced x)) more ≡ Some (priced c)
  found_step true x c rest more k e = ap (option_map priced) e
  found_step false x c rest more k e = k e

  found_priced : (w v : ℕ) (plan : List Choice) (c : Choice) → first_choice w plan v ≡ Some c → first_choice w (map priced plan) v ≡ Some (priced c)
  found_priced w v [] c e = cc
  found_priced w v (x ∷ plan) c e = found_step (prefix_holds w x.prefix v) x c (first_choice w plan v) (first_choice w (map priced plan) v) (λ k. found_priced w v plan c k) e

  all_priced : (P Q : Choice → Type 0) (plan : List Choice) → ((c : Choice) → P c → Q (priced c)) → All P plan → All Q (map priced plan)
  all_priced P Q plan by all = All-map Q priced plan (All-weaker P (λ c. Q (priced c)) by plan all)

  cheaper : (P : Choice → Type 0) (plan : List Choice) → ((c : Choice) → P c → cost c.value ≤ c.cost) → All P plan → plan_cost (map priced plan) ≤ plan_cost plan
  cheaper P [] by all = omega arith
  cheaper P (c ∷ plan) by all =
      let a = sum_by-cons (λ x. x.cost) (priced c) (map priced plan) in
      let b = sum_by-cons (λ x. x.cost) c plan in
      let i = cheaper P plan by (All-tail P c plan all) in
      let e = by c (All-head P c plan all) in
      omega (arith, a, b, i, e)

-- another field in front: each pair of a plan is priced anew
module _ (f : ℕ) (order : List ℕ) (g u : ℕ) (has : Has g order) (d : AreDistinct order) (small : u < 2 ^ width g) (R : List (Rule (List ℕ)))
    (less : (S : List (Rule (List ℕ))) (n m : ℕ) → IsLeastCost (without g order) (residue g u S) m → IsLeastCost order S n → m ≤ n) where
  abbrev rest : List ℕ
  rest = without g order

  price : (v : ℕ) → (n : ℕ) × IsLeastCost rest (residue f v (residue g u R)) n
  price v = some_cost rest (residue f v (residue g u R))

  abbrev cost : ℕ → ℕ
  cost v = (price v).0

  swap : (v : ℕ) → residue f v (residue g u R) ≡ residue g u (residue f v R)
  swap v = swapped (set_holds f v) (set_holds g u) R

  at_value : (v : ℕ) (vs : List ℕ) → AreValues rest vs → (h : ℕ → ℕ) → h g ≡ u → map h rest ≡ vs → source rest vs (residue f v (residue g u R)) ≡ source order (map h order) (residue f v R)
  at_value v vs ok h is at =
      ap (λ xs. source rest xs (residue f v (residue g u R))) (sym at) ∙ ap (source rest (map h rest)) (swap v) ∙ sym (source_at order g u h (residue f v R) has d is)

  alike : (v w : ℕ) → AreAlike order (residue f v R) (residue f w R) → AreAlike rest (residue f v (residue g u R)) (residue f w (residue g u R))
  alike v w a vs ok =
      let k = assigned rest vs in
      let h = put g u k in
      let fits = put_fits g u k small (assigned_fits rest vs ok) in
      let at = put_map g u k rest (left.missing g order) ∙ assigned_map rest vs (left.distinct g order d) ok in
      at_value v vs ok h (put_same g u k) at ∙ a (map h order) (values h order fits) ∙ sym (at_value w vs ok h (put_same g u k) at)

  plan_priced : (plan : List Choice) → IsPlan f order R plan → IsPlan f rest (residue g u R) (map (priced cost) plan)
  plan_priced plan is = record {
    fits = all_priced cost (λ c. FitsWidth (width f) c.prefix) (λ c. FitsWidth (width f) c.prefix) plan (λ c p. p) is.fits;
    in_field = all_priced cost (λ c. c.value < 2 ^ width f) (λ c. c.value < 2 ^ width f) plan (λ c p. p) is.in_field;
    alike = λ v low. let c = is.alike v low in (priced cost c.0, found_priced cost (width f) v plan c.0 c.1, c.2, alike v c.0.value c.3);
  }

  front_less : (n m : ℕ) → IsLeastCost (f ∷ rest) (residue g u R) m → IsLeastCost (f ∷ order) R n → m ≤ n
  unfolding IsLeastCost
  front_less n m low c =
      let there = c.reached in
      let costs = all_priced cost (λ x. IsLeastCost order (residue f x.value R) x.cost) (λ x. IsLeastCost rest (residue f x.value (residue g u R)) x.cost) there.0 (λ x p. (price x.value).1) there.2 in
      let a = low.least (map (priced cost) there.0) (plan_priced there.0 there.1) costs in
      let b = cheaper cost (λ x. IsLeastCost order (residue f x.value R) x.cost) there.0
      (λ x p. less (residue f x.value R) x.cost (cost x.value) (subst (λ S. IsLeastCost rest S (cost x.value)) (swap x.value) (price x.value).1) p) there.2 in
      omega (arith, a, b, there.3)

-- the field in front: one pair of a plan is that of the value
own_less : (f : ℕ) (order : List ℕ) (u n m : ℕ) (R : List (Rule (List ℕ))) → u < 2 ^ width f → IsLeastCost order (residue f u R) m → IsLeastCost (f ∷ order) R n → m ≤ n
unfolding IsLeastCost
own_less f order u n m R small low h =
    let there = h.reached in
    let c = there.1.alike u small in
    let cost = All-found (λ x. IsLeastCost order (residue f x.value R) x.cost) (λ x. prefix_holds (width f) x.prefix u) there.0 c.0 there.2 c.1 in
    let mine = alike-cost order (residue f c.0.value R) (residue f u R) c.0.cost (alike-sym order (residue f u R) (residue f c.0.value R) c.3) cost in
    let same = cost-unique order (residue f u R) m c.0.cost low mine in
    let paid = paid_found (λ v. true) (λ x. prefix_holds (width f) x.prefix u) there.0 c.0 c.1 refl in
    let all = paid_some (λ v. true) there.0 in
    omega (arith, same, paid, all, there.3)

first_less : (f g : ℕ) (order : List ℕ) (u n m : ℕ) (R : List (Rule (List ℕ))) → f ≡ g → IsMissing f order → u < 2 ^ width g → IsLeastCost (without g (f ∷ order)) (residue g u R) m →
    IsLeastCost (f ∷ order) R n → m ≤ n
first_less f g order u n m R e gone small low h =
    let same : without f (f ∷ order) ≡ order = left.behind f f order refl gone in
    own_less f order u n m R (subst (λ k. u < 2 ^ width k) (sym e) small) (subst (λ l. IsLeastCost l (residue f u R) m) same (subst (λ k. IsLeastCost (without k (f ∷ order)) (residue k u R) m) (sym e) low)) h

pub no_less : (order : List ℕ) (g u : ℕ) → Has g order → AreDistinct order → u < 2 ^ width g → (R : List (Rule (List ℕ))) (n m : ℕ) → IsLeastCost (without g order) (residue g u R) m → IsLeastCost order R n → m ≤ n
no_less [] g u has d small R n m low h = absurd has
no_less (f ∷ order) g u (inl e) d small R n m low h = first_less f g order u n m R e d.0 small low h
no_less (f ∷ order) g u (inr has) d small R n m low h =
    front_less f order g u has d.1 small R (λ S a b. no_less order g u has d.1 small S a b) n m (subst (λ l. IsLeastCost l (residue g u R) m) (left.there g f order (left.other g f order has d.0)) low) h

-- a function costs no less than at one value of a field
pub least_at : (order : List ℕ) (g u : ℕ) (whole at : (ℕ → ℕ) → ℕ) (n : ℕ) → Has g order → AreDistinct order → u < 2 ^ width g → ((h : ℕ → ℕ) → Fits h → whole (put g u h) ≡ at h) →
    IsAtLeast (without g order) at n → IsAtLeast order whole n
least_at order g u whole at n has d small is low name R apart decide m cost =
    let rest = without g order in
    let part = some_cost rest (residue g u R) in
    let mine : AreApart at name = λ h k fits fit e.
    sym (is h fits) ∙ apart (put g u h) (put g u k) (put_fits g u h small fits) (put_fits g u k small fit) (ap name (is h fits) ∙ e ∙ ap name (sym (is k fit))) ∙ is k fit in
    let here : DecideBy rest at name (residue g u R) = λ h fits.
    ap (λ vs. source rest vs (residue g u R)) (sym (put_map g u h rest (left.missing g order)))
    ∙ sym (source_at order g u (put g u h) R has d (put_same g u h))
    ∙ decide (put g u h) (put_fits g u h small fits)
    ∙ ap name (is h fits) in
    let bound = low name (residue g u R) mine here part.0 part.1 in
    let less = no_less order g u has d small R m part.0 part.1 cost in
    omega (arith, bound, less)

-- From what a function costs at each value of a field to what it costs.
use Rattle.std.proofs.Common.{◌≡◌, ◌∷◌, ℕ, suc, List, [], ◌+◌, ◌<◌, ◌≤◌, ◌^◌, Bool, true, false, map, ap, arith, refl, sym, ◌∙◌, subst, inl, inr}
use Rattle.std.specs.Prelude.{cond, nat_eq, ◌||◌, find, Option, Some, slice_get, slice_index, sum}
use Rattle.std.specs.List.{All, AllZip}
use Rattle.std.proofs.lemmas.Bool.{eqb-true}
use Rattle.std.proofs.lemmas.Bool.Decides.{eqb_tells}
use Rattle.std.proofs.lemmas.Nat.{pow_pos}
use Rattle.std.proofs.lemmas.Option.{none-some, same_Some}
use Rattle.std.proofs.lemmas.List.Sums.{sum_by-cons}
use Rattle.field_boxes.specs.Headline.Fields.{width}
use Rattle.field_boxes.specs.Headline.Prefix.{prefix_holds}
use Rattle.field_boxes.specs.Headline.Classifier.{Rule, source, residue}
use Rattle.field_boxes.proofs.Residues.{source-residue}
use Rattle.prefix_min.specs.declared.row.PrefixRow.{PrefixRow}
use Rattle.field_boxes.specs.Orders.{IsMissing, AreDistinct}
use Rattle.table_compose.specs.Headline.LeastCost.{Choice, IsPlan, IsLeastCost}
use Rattle.table_compose.specs.Choices.{AreAlike, plan_cost}
use Rattle.table_compose.proofs.OneCost.{cost-unique, alike-cost, alike-sym}
use Rattle.table_compose.proofs.Choices.{LabelsResidues, All-found}
use Rattle.table_compose.proofs.Cheapest.{IsCheapestList, cheapest-list}
use Rattle.field_order.specs.Fronts.{Fits}
use Rattle.field_order.specs.Worth.{AreApart, DecideBy, IsCostBy, IsAtLeast}
use Rattle.field_order.proofs.Values.{put, put_fits, put_same, put_map, values, assigned, assigned_fits, assigned_map}

-- what is known of a function is known of one with the same answers
module _ (order : List ℕ) (g k : (ℕ → ℕ) → ℕ) (same : (h : ℕ → ℕ) → Fits h → k h ≡ g h) where
  apart_back : (name : ℕ → Option (List ℕ)) → AreApart k name → AreApart g name
  apart_back name apart a b fits fit e = sym (same a fits) ∙ apart a b fits fit (ap name (same a fits) ∙ e ∙ ap name (sym (same b fit))) ∙ same b fit

  pub cost_alike : (n : ℕ) → IsCostBy order g n → IsCostBy order k n
  cost_alike n c name R apart decide = c name R (apart_back name apart) (λ h fits. decide h fits ∙ ap name (same h fits))

  pub least_alike : (n : ℕ) → IsAtLeast order g n → IsAtLeast order k n
  least_alike n c name R apart decide = c name R (apart_back name apart) (λ h fits. decide h fits ∙ ap name (same h fits))

-- a cost is a bound
pub bound_of : (order : List ℕ) (g : (ℕ → ℕ) → ℕ) (n : ℕ) → IsCostBy order g n → IsAtLeast order g n
bound_of order g n c name R apart decide m cost = let e = cost-unique order R n m (c name R apart decide) cost in omega (arith, e)

pub lower : (order : List ℕ) (g : (ℕ → ℕ) → ℕ) (n m : ℕ) → m ≤ n → IsAtLeast order g n → IsAtLeast order g m
lower order g n m less c name R apart decide k cost = let e = c name R apart decide k cost in omega (arith, e, less)

-- the costs of the choices with such values
abbrev paid : (ℕ → Bool) → List Choice → ℕ
paid t [] = 0
paid t (c ∷ plan) = cond (t c.value) c.cost 0 + paid t plan

-- whether the value is one of these
abbrev among : List ℕ → ℕ → Bool
among [] v = false
among (k ∷ ks) v = nat_eq k v || among ks v

some_step : (b : Bool) (n : ℕ) → cond b n 0 ≤ n
some_step true n = omega arith
some_step false n = omega arith

pub paid_some : (t : ℕ → Bool) (plan : List Choice) → paid t plan ≤ plan_cost plan
paid_some t [] = omega arith
paid_some t (c ∷ plan) = omega (arith, some_step (t c.value) c.cost, paid_some t plan, sum_by-cons (λ x. x.cost) c plan)

found_step : (t : ℕ → Bool) (b : Bool) (x c : Choice) (rest : Option Choice) (n : ℕ) → t c.value ≡ true → cond b (Some x) rest ≡ Some c →
    (rest ≡ Some c → c.cost ≤ n) → c.cost ≤ cond (t x.value) x.cost 0 + n
found_step t true x c rest n is e k =
    let same : x ≡ c = same_Some x c e in
    let here : cond (t x.value) x.cost 0 ≡ c.cost = ap (λ (y : Choice). cond (t y.value) y.cost 0) same ∙ ap (λ b. cond b c.cost 0) is in
    omega (arith, here)
found_step t false x c rest n is e k = let h = k e in omega (arith, h)

pub paid_found : (t : ℕ → Bool) (test : Choice → Bool) (plan : List Choice) (c : Choice) → find test plan ≡ Some c → t c.value ≡ true → c.cost ≤ paid t plan
paid_found t test [] c e is = absurd (none-some c e)
paid_found t test (x ∷ plan) c e is = found_step t (test x) x c (find test plan) (paid t plan) is e (λ k. paid_found t test plan c k is)

more_step : (a b : Bool) (n : ℕ) → (a ≡ true → b ≡ true → ⊥) → cond a n 0 + cond b n 0 ≤ cond (a || b) n 0
more_step true true n other = absurd (other refl refl)
more_step true false n other = omega arith
more_step false b n other = omega arith

-- one value more
paid_more : (k : ℕ) (ks : List ℕ) (plan : List Choice) → (among ks k ≡ true → ⊥) → paid (nat_eq k) plan + paid (among ks) plan ≤ paid (among (k ∷ ks)) plan
paid_more k ks [] fresh = omega arith
paid_more k ks (c ∷ plan) fresh =
    let i = paid_more k ks plan fresh in
    let b = more_step (nat_eq k c.value) (among ks c.value) c.cost (λ e t. fresh (ap (among ks) (eqb-true k c.value e) ∙ t)) in
    omega (arith, i, b)

-- no item stands twice
abbrev pub AreOnce : {X : Type 0} → List X → Type 0
AreOnce {X} xs = (i j : ℕ) (x : X) → slice_get xs i ≡ Some x → slice_get xs j ≡ Some x → i ≡ j

-- every list costs one entry at least
pub positive : {A : Type 0} (order : List ℕ) (R : List (Rule A)) (n : ℕ) → IsLeastCost order R n → 1 ≤ n
unfolding IsLeastCost
positive [] R n h = omega (arith, h)
positive {A} (f ∷ order) R n h =
    let there = h.reached in
    let c = there.1.alike 0 (pow_pos (width f)) in
    let one = positive order (residue f c.0.value R) c.0.cost
    (All-found (λ x. IsLeastCost order (residue f x.value R) x.cost) (λ x. prefix_holds (width f) x.prefix 0) there.0 c.0 there.2 c.1) in
    let paid_one = paid_found (λ v. true) (λ x. prefix_holds (width f) x.prefix 0) there.0 c.0 c.1 refl in
    let all = paid_some (λ v. true) there.0 in
    omega (arith, one, paid_one, all, there.3)

pub at_least_one : (order : List ℕ) (g : (ℕ → ℕ) → ℕ) → IsAtLeast order g 1
at_least_one order g name R apart decide m cost = positive order R m cost

module _ (f : ℕ) (p : List ℕ) (gone : IsMissing f p) (distinct : AreDistinct p) (g : (ℕ → ℕ) → ℕ) (gs : ℕ → (ℕ → ℕ) → ℕ)
    (at : (v : ℕ) (h : ℕ → ℕ) → v < 2 ^ width f → Fits h → g (put f v h) ≡ gs v h) where
  module _ (name : ℕ → Option (List ℕ)) (R : List (Rule (List ℕ))) (apart : AreApart g name) (decide : DecideBy (f ∷ p) g name R) where
    pub apart_at : (v : ℕ) → v < 2 ^ width f → AreApart (gs v) name
    apart_at v small h k fits fit e =
        sym (at v h small fits)
        ∙ apart (put f v h) (put f v k) (put_fits f v h small fits) (put_fits f v k small fit) (ap name (at v h small fits) ∙ e ∙ sym (ap name (at v k small fit)))
        ∙ at v k small fit

    read : (v : ℕ) (h : ℕ → ℕ) → map (put f v h) (f ∷ p) ≡ v ∷ map h p
    read v h = ap (λ x. x ∷ map (put f v h) p) (put_same f v h) ∙ ap (λ xs. v ∷ xs) (put_map f v h p gone)

    pub decide_at : (v : ℕ) → v < 2 ^ width f → DecideBy p (gs v) name (residue f v R)
    decide_at v small h fits =
        sym (source-residue f v p (map h p) R) ∙ ap (λ vs. source (f ∷ p) vs R) (sym (read v h)) ∙ decide (put f v h) (put_fits f v h small fits) ∙ ap name (at v h small fits)

    pub same_answers : (v u : ℕ) → v < 2 ^ width f → u < 2 ^ width f → AreAlike p (residue f v R) (residue f u R) → (h : ℕ → ℕ) → Fits h → gs v h ≡ gs u h
    same_answers v u small low a h fits =
        let e : name (gs v h) ≡ name (gs u h) = sym (decide_at v small h fits) ∙ a (map h p) (values h p fits) ∙ decide_at u low h fits in
        sym (at v h small fits)
        ∙ apart (put f v h) (put f u h) (put_fits f v h small fits) (put_fits f u h low fits) (ap name (at v h small fits) ∙ e ∙ sym (ap name (at u h low fits)))
        ∙ at u h low fits

  -- some parts, each that of a value: a different one is behind each of them
  module _ {X : Type 0} (Is : X → ℕ → Type 0) (small : (x : X) (v : ℕ) → Is x v → v < 2 ^ width f)
      (single : (x y : X) (v u : ℕ) → Is x v → Is y u → ((h : ℕ → ℕ) → Fits h → gs v h ≡ gs u h) → x ≡ y) where
    -- the part answers as the function does at the value
    abbrev Stands : X → ℕ → Type 0
    Stands x k = (v : ℕ) × Is x v × ((h : ℕ → ℕ) → Fits h → gs v h ≡ gs k h)

    twin : (x y : X) (k : ℕ) → Stands x k → Stands y k → x ≡ y
    twin x y k a b = single x y a.0 b.0 a.1 b.1 (λ h fits. a.2 h fits ∙ sym (b.2 h fits))

    stands_among : (xs : List X) (ks : List ℕ) (k : ℕ) → AllZip Stands xs ks → among ks k ≡ true → (i : ℕ) × (x : X) × (slice_get xs i ≡ Some x) × Stands x k
    stands_among xs [] k z h = cc
    stands_among [] (l ∷ ks) k z h = absurd z
    stands_among (x ∷ xs) (l ∷ ks) k z h = elim (eqb_tells l k) [
      | inl t ↦ (0, x, refl, subst (Stands x) t.1 z.0)
      | inr t ↦ let rest = stands_among xs ks k z.1 (sym (ap (λ b. b || among ks k) t.0) ∙ h) in (suc rest.0, rest.1, rest.2, rest.3)
    ]

    module _ (name : ℕ → Option (List ℕ)) (R : List (Rule (List ℕ))) (apart : AreApart g name) (decide : DecideBy (f ∷ p) g name R)
        (plan : List Choice) (is : IsPlan f p R plan) (costs : All (λ c. IsLeastCost p (residue f c.value R) c.cost) plan) where
      abbrev IsBounded : X → ℕ → Type 0
      IsBounded x n = (v : ℕ) × Is x v × IsAtLeast p (gs v) n

      -- the choice of a part's value
      claimed : (x : X) (n : ℕ) → IsBounded x n → (k : ℕ) × Stands x k × (n ≤ paid (nat_eq k) plan)
      claimed x n b =
          let v = b.0 in
          let low = small x v b.1 in
          let c = is.alike v low in
          let k = c.0.value in
          let cost = All-found (λ y. IsLeastCost p (residue f y.value R) y.cost) (λ y. prefix_holds (width f) y.prefix v) plan c.0 costs c.1 in
          let mine = alike-cost p (residue f k R) (residue f v R) c.0.cost (alike-sym p (residue f v R) (residue f k R) c.3) cost in
          let bound = b.2 name (residue f v R) (apart_at name R apart decide v low) (decide_at name R apart decide v low) c.0.cost mine in
          let test : nat_eq k k ≡ true = elim (eqb_tells k k) [ inl t ↦ t.0 | inr t ↦ absurd (t.1 refl) ] in
          let found = paid_found (nat_eq k) (λ y. prefix_holds (width f) y.prefix v) plan c.0 c.1 test in
          (k, (v, b.1, same_answers name R apart decide v k low c.2 c.3), omega (arith, bound, found))

      claims : (xs : List X) (lows : List ℕ) → AllZip IsBounded xs lows → AreOnce xs → (ks : List ℕ) × AllZip Stands xs ks × (sum lows ≤ paid (among ks) plan)
      claims [] [] z once = ([], tt, omega arith)
      claims (x ∷ xs) (n ∷ lows) z once =
          let first = claimed x n z.0 in
          let rest = claims xs lows z.1 (λ i j y a b. let e = once (suc i) (suc j) y a b in omega (arith, e)) in
          let fresh : among rest.0 first.0 ≡ true → ⊥ = λ t.
          let y = stands_among xs rest.0 first.0 rest.1 t in
          let e = once 0 (suc y.0) x refl (y.2 ∙ ap Some (sym (twin x y.1 first.0 first.1 y.3))) in omega (arith, e) in
          let more = paid_more first.0 rest.0 plan fresh in
          let total = sum_by-cons (λ m. m) n lows in
          (first.0 ∷ rest.0, (first.1, rest.1), omega (arith, first.2, rest.2, more, total))
      claims xs lows z once = absurd assumption

    -- the function costs no less than these parts together
    pub some_parts : (xs : List X) (lows : List ℕ) → AllZip (λ x n. (v : ℕ) × Is x v × IsAtLeast p (gs v) n) xs lows → AreOnce xs → IsAtLeast (f ∷ p) g (sum lows)
    unfolding IsLeastCost
    some_parts xs lows z once name R apart decide n h =
        let there = h.reached in
        let all = claims name R apart decide there.0 there.1 there.2 xs lows z once in
        let some = paid_some (among all.0) there.0 in
        omega (arith, all.2, some, there.3)

  module _ (lab : ℕ → ℕ) (alike : (v u : ℕ) → v < 2 ^ width f → u < 2 ^ width f → lab v ≡ lab u → (h : ℕ → ℕ) → gs v h ≡ gs u h)
      (one : (v u : ℕ) → v < 2 ^ width f → u < 2 ^ width f → ((h : ℕ → ℕ) → Fits h → gs v h ≡ gs u h) → lab v ≡ lab u) where
    module _ (name : ℕ → Option (List ℕ)) (R : List (Rule (List ℕ))) (apart : AreApart g name) (decide : DecideBy (f ∷ p) g name R) where
      residues_alike : (v u : ℕ) → v < 2 ^ width f → u < 2 ^ width f → lab v ≡ lab u → AreAlike p (residue f v R) (residue f u R)
      residues_alike v u small low e vs ok =
          let h = assigned p vs in
          let fits = assigned_fits p vs ok in
          let is = assigned_map p vs distinct ok in
          ap (λ xs. source p xs (residue f v R)) (sym is) ∙ decide_at name R apart decide v small h fits ∙ ap name (alike v u small low e h) ∙ sym (decide_at name R apart decide u low h fits) ∙ ap (λ xs. source p xs (residue f u R)) is

      tells : LabelsResidues f p R lab
      tells = record { alike = residues_alike; same = λ v u small low a. one v u small low (same_answers name R apart decide v u small low a) }

    -- the function costs what the cheapest list of its parts weighs
    pub parts_cost : (weights : List ℕ) (rows : List PrefixRow) (n : ℕ) → ((v : ℕ) → v < 2 ^ width f → IsCostBy p (gs v) (slice_index weights (lab v))) →
        IsCheapestList (width f) lab weights rows n → IsCostBy (f ∷ p) g n
    parts_cost weights rows n costs cheapest name R apart decide =
        cheapest-list f p R lab weights rows n (tells name R apart decide)
        (λ v small. costs v small name (residue f v R) (apart_at name R apart decide v small) (decide_at name R apart decide v small)) cheapest

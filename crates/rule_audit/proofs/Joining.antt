-- The labels of a list, by those of its two parts.
use Rattle.std.proofs.Common.{◌≡◌, ℕ, ◌≤◌, ◌<◌, ◌+◌, ◌-◌, ◌*◌, ◌/◌, ◌%◌, arith, refl, false, nat_lt, Some, None, le-ltb, lt-ltb, ◌∷◌, ◌++◌, suc, List, [], Bool, true, cond, ap, sym, ◌∙◌, subst, length, nat_eq, option_map, Option, unwrap_or, slice_get, ne_eqb, eqb-true, take, drop, take-append-drop}
use Rattle.rule_audit.specs.declared.label.Label.{Label}
use Rattle.rule_audit.specs.declared.label.Next.{Next}
use Rattle.rule_audit.specs.declared.label.Next.TheVariants.{Nothing, Alike, Otherwise}
use Rattle.rule_audit.specs.Labels.{label_at, next_at, number_of, is_open, labelled, next_of, own_number, AllBelow, AllDecide, StandAt, decision_of, joined, with_below, with_next}
use Rattle.std.specs.List.{AllByRecursion}
use Rattle.field_boxes.specs.declared.rule.Rule as code
use Rattle.field_boxes.specs.Headline.Fields.{stated}
use Rattle.fdd_build.specs.Rules.{decided}
use Rattle.fdd_build.proofs.Decided.{decided_head}
use Rattle.rule_audit.specs.Parts.{over}
use Rattle.rule_audit.proofs.FirstAnswers.{over_nothing, over_some}
use Rattle.rule_audit.proofs.Named.{meets}

read_back : (first place code : ℕ) (next : Next) → code ≤ 2 → next_at code ≡ next → label_at first (first + 3 * place + code) ≡ Some (record { place = place; next = next })
read_back first place code next small is =
    let past : nat_lt (first + 3 * place + code) first ≡ false = le-ltb (first + 3 * place + code) first (omega arith) in
    let place_is : (first + 3 * place + code - first) / 3 ≡ place = omega (arith, small) in
    let code_is : (first + 3 * place + code - first) % 3 ≡ code = omega (arith, small) in
    rw (past, place_is, code_is, is) refl

by_next : (first place : ℕ) (next : Next) → label_at first (number_of first (record { place = place; next = next })) ≡ Some (record { place = place; next = next })
by_next first place Nothing = read_back first place 0 Nothing (omega arith) refl
by_next first place Alike = read_back first place 1 Alike (omega arith) refl
by_next first place Otherwise = read_back first place 2 Otherwise (omega arith) refl

-- the label with a label's number
pub label_back : (first : ℕ) (label : Label) → label_at first (number_of first label) ≡ Some label
label_back first label = by_next first label.place label.next

-- below the first one no number is that of a label
pub no_label : (first n : ℕ) → n < first → label_at first n ≡ None
no_label first n h = rw (lt-ltb n first h) refl

-- over 0 or under it a number is as it was
pub none_above : (first : ℕ) (all : List code.Rule) (lower : ℕ) → joined first all 0 lower ≡ lower
unfolding joined
none_above first all lower = refl

pub none_below : (first : ℕ) (all : List code.Rule) (upper : ℕ) → joined first all upper 0 ≡ upper
unfolding joined
none_below first all upper = over_nothing upper

-- what holds of each rule holds of those of both parts
pub both_parts : (P : code.Rule → Type 0) (xs ys : List code.Rule) → AllByRecursion P (xs ++ ys) → AllByRecursion P xs × AllByRecursion P ys
both_parts P [] ys h = (tt, h)
both_parts P (rule ∷ xs) ys h = let r = both_parts P xs ys h.1 in ((h.0, r.0), r.1)

pub decide_parts : (xs ys : List code.Rule) → AllDecide (xs ++ ys) → AllDecide xs × AllDecide ys
decide_parts xs ys h = both_parts (λ (rule : code.Rule). 0 < rule.decision) xs ys h

pub stand_parts : (all : List code.Rule) (from place : ℕ) (xs ys : List code.Rule) → place ≡ from + length xs → StandAt all from (xs ++ ys) → StandAt all from xs × StandAt all place ys
stand_parts all from place [] ys is h = let same : from ≡ place = omega (arith, is) in (tt, subst (λ n. StandAt all n ys) same h)
stand_parts all from place (rule ∷ xs) ys is h = let r = stand_parts all (suc from) place xs ys (omega (arith, is)) h.1 in ((h.0, r.0), r.1)

stand_later : (rule : code.Rule) (all : List code.Rule) (from : ℕ) (rules : List code.Rule) → StandAt all from rules → StandAt (rule ∷ all) (suc from) rules
stand_later rule all from [] h = tt
stand_later rule all from (next ∷ rules) h = (h.0, stand_later rule all (suc from) rules h.1)

-- a list stands in itself
pub stand_itself : (rules : List code.Rule) → StandAt rules 0 rules
stand_itself [] = tt
stand_itself (rule ∷ rules) = (refl, stand_later rule rules 0 rules (stand_itself rules))

module _ (header : List ℕ) where
  abbrev number : List code.Rule → ℕ
  number rules = decided stated rules header

  head_over : (m : Bool) (d n a b : ℕ) → 0 < d → n ≡ over a b → cond m d n ≡ over (cond m d a) b
  head_over true d n a b some e = sym (over_some d b (λ z. omega (arith, some, z)))
  head_over false d n a b some e = e

  -- what two parts decide: as the first, and where that decides nothing, as the second
  pub number_parts : (xs ys : List code.Rule) → AllDecide xs → number (xs ++ ys) ≡ over (number xs) (number ys)
  number_parts [] ys some = refl
  number_parts (rule ∷ xs) ys some =
      let m = meets stated header rule in
      decided_head stated header rule (xs ++ ys) m refl
      ∙ head_over m rule.decision (number (xs ++ ys)) (number xs) (number ys) some.0 (number_parts xs ys some.1)
      ∙ sym (ap (λ n. over n (number ys)) (decided_head stated header rule xs m refl))

-- how a decision is beside another one, by the two tests
next_read : (d x : ℕ) (s t : Bool) → nat_eq x 0 ≡ s → nat_eq d x ≡ t → next_of d x ≡ cond s Nothing (cond t Alike Otherwise)
next_read d x s t z w = ap (λ u. cond u Nothing (cond (nat_eq d x) Alike Otherwise)) z ∙ ap (λ u. cond s Nothing (cond u Alike Otherwise)) w

module _ (first : ℕ) (all : List code.Rule) where
  abbrev open_number : ℕ → Next → ℕ
  open_number place next = number_of first (record { place = place; next = next })

  abbrev decision_at : ℕ → ℕ
  decision_at n = decision_of all n (label_at first n)

  -- x comes next in the part of the rule, f in the part behind it, and so g in both
  next_by : (place x f g own : ℕ) (rule : code.Rule) (s t : Bool) → nat_eq x 0 ≡ s → nat_eq rule.decision x ≡ t → own ≡ open_number place (cond s Nothing (cond t Alike Otherwise)) →
      g ≡ cond s f x → with_next first own place (Some rule) (cond s Nothing (cond t Alike Otherwise)) f ≡ open_number place (next_of rule.decision g)
  next_by place x f g own rule true t z w is e = ap (λ n. open_number place (next_of rule.decision n)) (sym e)
  next_by place x f g own rule false true z w is e = is ∙ ap (open_number place) (sym (ap (next_of rule.decision) e ∙ next_read rule.decision x false true z w))
  next_by place x f g own rule false false z w is e = is ∙ ap (open_number place) (sym (ap (next_of rule.decision) e ∙ next_read rule.decision x false false z w))

  open_by : (from x f g : ℕ) (rule : code.Rule) → slice_get all from ≡ Some rule → g ≡ cond (nat_eq x 0) f x →
      with_below first all (open_number from (next_of rule.decision x)) (label_at first (open_number from (next_of rule.decision x))) f ≡ open_number from (next_of rule.decision g)
  open_by from x f g rule at e =
      let own = open_number from (next_of rule.decision x) in
      ap (λ (l : Option Label). with_below first all own l f) (label_back first (record { place = from; next = next_of rule.decision x }))
      ∙ ap (λ (r : Option code.Rule). with_next first own from r (next_of rule.decision x) f) at
      ∙ next_by from x f g own rule (nat_eq x 0) (nat_eq rule.decision x) refl refl refl e

  abbrev below_own : Bool → ℕ → code.Rule → ℕ → ℕ → ℕ
  below_own o from rule x below = with_below first all (own_number first o from rule x) (label_at first (own_number first o from rule x)) below

  own_by : (o : Bool) (from x f g lower : ℕ) (rule : code.Rule) (z : Bool) → nat_eq lower 0 ≡ z → slice_get all from ≡ Some rule → rule.decision < first →
      decision_at lower ≡ f → g ≡ cond (nat_eq x 0) f x →
      own_number first o from rule g ≡ cond z (own_number first o from rule x) (below_own o from rule x (decision_at lower))
  own_by o from x f g lower rule true z at low below e =
      let none : lower ≡ 0 = eqb-true lower 0 z in
      let nothing : f ≡ 0 = sym below ∙ ap decision_at none ∙ ap (decision_of all 0) (no_label first 0 (omega (arith, low))) in
      ap (own_number first o from rule) (e ∙ ap (λ n. cond (nat_eq x 0) n x) nothing ∙ over_nothing x)
  own_by true from x f g lower rule false z at low below e =
      sym (ap (below_own true from rule x) below ∙ open_by from x f g rule at e)
  own_by false from x f g lower rule false z at low below e =
      sym (ap (λ (l : Option Label). with_below first all rule.decision l (decision_at lower)) (no_label first rule.decision low))

  -- the number of a rule isn't 0
  not_zero : (o : Bool) (from x : ℕ) (rule : code.Rule) → 0 < rule.decision → rule.decision < first → nat_eq (own_number first o from rule x) 0 ≡ false
  not_zero true from x rule some low = ne_eqb (open_number from (next_of rule.decision x)) 0 (λ e. omega (arith, low, e))
  not_zero false from x rule some low = ne_eqb rule.decision 0 (λ e. omega (arith, some, e))

  own_joined : (o : Bool) (from x f g lower : ℕ) (rule : code.Rule) → slice_get all from ≡ Some rule → 0 < rule.decision → rule.decision < first →
      decision_at lower ≡ f → g ≡ cond (nat_eq x 0) f x → own_number first o from rule g ≡ joined first all (own_number first o from rule x) lower
  unfolding joined
  own_joined o from x f g lower rule at some low below e =
      own_by o from x f g lower rule (nat_eq lower 0) refl at low below e
      ∙ sym (ap (λ t. cond t lower (cond (nat_eq lower 0) (own_number first o from rule x) (below_own o from rule x (decision_at lower)))) (not_zero o from x rule some low))

  module _ (left_open : List Bool) (header : List ℕ) where
    abbrev here : ℕ → code.Rule → List code.Rule → ℕ
    here from rule rules = own_number first (is_open left_open from) from rule (number header rules)

    abbrev label_head : Bool → ℕ → code.Rule → List code.Rule → ℕ
    label_head m from rule rules = cond m (here from rule rules) (labelled first left_open (suc from) rules header)

    own_tells : (o : Bool) (from x : ℕ) (rule : code.Rule) → slice_get all from ≡ Some rule → rule.decision < first → decision_at (own_number first o from rule x) ≡ rule.decision
    own_tells true from x rule at low =
        let own = open_number from (next_of rule.decision x) in
        ap (λ (l : Option Label). decision_of all own l) (label_back first (record { place = from; next = next_of rule.decision x }))
        ∙ ap (λ o. unwrap_or (option_map (λ (r : code.Rule). r.decision) o) 0) at
    own_tells false from x rule at low = ap (λ (l : Option Label). decision_of all rule.decision l) (no_label first rule.decision low)

    tells_by : (from : ℕ) (rule : code.Rule) (rules : List code.Rule) (m : Bool) → meets stated header rule ≡ m → slice_get all from ≡ Some rule → rule.decision < first →
        decision_at (labelled first left_open (suc from) rules header) ≡ number header rules → decision_at (label_head m from rule rules) ≡ number header (rule ∷ rules)
    tells_by from rule rules true e at low rest = own_tells (is_open left_open from) from (number header rules) rule at low ∙ sym (decided_head stated header rule rules true e)
    tells_by from rule rules false e at low rest = rest ∙ sym (decided_head stated header rule rules false e)

    -- a list's number tells what the list decides
    tells_number : (from : ℕ) (rules : List code.Rule) → 0 < first → StandAt all from rules → AllBelow first rules → decision_at (labelled first left_open from rules header) ≡ number header rules
    tells_number from [] some at low = ap (λ (l : Option Label). decision_of all 0 l) (no_label first 0 some)
    tells_number from (rule ∷ rules) some at low =
        tells_by from rule rules (meets stated header rule) refl at.0 low.0 (tells_number (suc from) rules some at.1 low.1)

    parts_by : (from : ℕ) (rule : code.Rule) (xs ys : List code.Rule) (lower : ℕ) (m : Bool) → meets stated header rule ≡ m → slice_get all from ≡ Some rule → 0 < rule.decision → rule.decision < first →
        AllDecide xs → decision_at lower ≡ number header ys →
        labelled first left_open (suc from) (xs ++ ys) header ≡ joined first all (labelled first left_open (suc from) xs header) lower →
        label_head m from rule (xs ++ ys) ≡ joined first all (label_head m from rule xs) lower
    parts_by from rule xs ys lower true e at some low decide below rest =
        own_joined (is_open left_open from) from (number header xs) (number header ys) (number header (xs ++ ys)) lower rule at some low below (number_parts header xs ys decide)
    parts_by from rule xs ys lower false e at some low decide below rest = rest

    -- the number of two parts is that of the upper one joined with that of the lower one
    pub parts : (from place : ℕ) (xs ys : List code.Rule) → place ≡ from + length xs → StandAt all from (xs ++ ys) → AllDecide (xs ++ ys) → AllBelow first (xs ++ ys) →
        labelled first left_open from (xs ++ ys) header ≡ joined first all (labelled first left_open from xs header) (labelled first left_open place ys header)
    parts from place [] ys is at some low =
        let same : from ≡ place = omega (arith, is) in
        ap (λ n. labelled first left_open n ys header) same ∙ sym (none_above first all (labelled first left_open place ys header))
    parts from place (rule ∷ xs) ys is at some low =
        parts_by from rule xs ys (labelled first left_open place ys header) (meets stated header rule) refl at.0 some.0 low.0 (decide_parts xs ys some.1).0
        (tells_number place ys (omega (arith, low.0)) (stand_parts all (suc from) place xs ys (omega (arith, is)) at.1).1 (both_parts (λ (rule : code.Rule). rule.decision < first) xs ys low.1).1)
        (parts (suc from) place xs ys (omega (arith, is)) at.1 some.1 low.1)

module _ (first : ℕ) (left_open : List Bool) (header : List ℕ) where
  -- where no rule is open, the number is what is decided
  pub closed : (from : ℕ) (rules : List code.Rule) → ((k : ℕ) → from ≤ k → k < from + length rules → is_open left_open k ≡ false) →
      labelled first left_open from rules header ≡ decided stated rules header
  closed from [] h = refl
  closed from (rule ∷ rules) h =
      let m = meets stated header rule in
      ap (λ o. cond m (own_number first o from rule (decided stated rules header)) (labelled first left_open (suc from) rules header)) (h from (omega arith) (omega arith))
      ∙ ap (λ n. cond m rule.decision n) (closed (suc from) rules (λ k low high. h k (omega (arith, low)) (omega (arith, high))))
      ∙ sym (decided_head stated header rule rules m refl)

module _ (rules front back : List code.Rule) (m : ℕ) (is_front : front ≡ take m rules) (is_back : back ≡ drop m rules) where
  pub whole : front ++ back ≡ rules
  whole = ap (λ xs. xs ++ back) is_front ∙ ap (λ ys. take m rules ++ ys) is_back ∙ take-append-drop m rules

  pub decide_halves : AllDecide rules → AllDecide front × AllDecide back
  decide_halves h = decide_parts front back (subst AllDecide (sym whole) h)

  module _ (first : ℕ) (all : List code.Rule) (from : ℕ) (stand : StandAt all from rules) (decide : AllDecide rules) (below : AllBelow first rules) where
    stand_halves : StandAt all from front × StandAt all (from + length front) back
    stand_halves = stand_parts all from (from + length front) front back refl (subst (StandAt all from) (sym whole) stand)

    below_halves : AllBelow first front × AllBelow first back
    below_halves = both_parts (λ (rule : code.Rule). rule.decision < first) front back (subst (AllBelow first) (sym whole) below)

    pub first_half : StandAt all from front × (AllDecide front × AllBelow first front)
    first_half = (stand_halves.0, ((decide_halves decide).0, below_halves.0))

    pub second_half : StandAt all (from + length front) back × (AllDecide back × AllBelow first back)
    second_half = (stand_halves.1, ((decide_halves decide).1, below_halves.1))

    pub halves_joined : (left_open : List Bool) (values : List ℕ) →
        labelled first left_open from rules values ≡ joined first all (labelled first left_open from front values) (labelled first left_open (from + length front) back values)
    halves_joined left_open values =
        ap (λ rs. labelled first left_open from rs values) (sym whole)
        ∙ parts first all left_open values from (from + length front) front back refl (subst (StandAt all from) (sym whole) stand) (subst AllDecide (sym whole) decide) (subst (AllBelow first) (sym whole) below)

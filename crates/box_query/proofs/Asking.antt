-- What the rules of a query decide, rule by rule.
use Rattle.std.proofs.Common.{◌≡◌, ◌≢◌, ◌∷◌, ◌++◌, ℕ, zero, suc, ◌+◌, ◌<◌, ◌≤◌, List, [], Bool, true, false, cond, Some, None, refl, ap, sym, ◌∙◌, arith, length, get_or, take, inl, inr, ◌⊎◌, ◌&&◌, Option, IfSome, find, map, option_map, unwrap_or, ne_eqb}
use Rattle.std.proofs.lemmas.List.{take_more, take_all}
use Rattle.std.proofs.lemmas.Option.{none-some}
use Rattle.field_boxes.specs.declared.rule.Rule as code
use Rattle.field_boxes.specs.Headline.Classifier.{Rule, matches}
use Rattle.field_boxes.specs.Headline.Fields.{stated}
use Rattle.field_boxes.specs.Rules.{rule_of}
use Rattle.fdd_build.specs.Rules.{decided}
use Rattle.box_query.specs.Asked.{label, number_decided, then_decided}
use Rattle.box_query.specs.Cut.{matches_some, with_some}

number-head : (header : List ℕ) (r : code.Rule) (rules : List code.Rule) (m : Bool) → matches stated header (rule_of r) ≡ m →
    number_decided (r ∷ rules) header ≡ cond m (Some r.decision) (number_decided rules header)
number-head header r rules true h = ap (λ b. option_map (λ (x : Rule ℕ). x.decision) (cond b (Some (rule_of r)) (find (matches stated header) (map rule_of rules)))) h
number-head header r rules false h = ap (λ b. option_map (λ (x : Rule ℕ). x.decision) (cond b (Some (rule_of r)) (find (matches stated header) (map rule_of rules)))) h

number-behind : (header : List ℕ) (x : code.Rule) (rules : List code.Rule) (r : code.Rule) (m : Bool) → matches stated header (rule_of x) ≡ m →
    number_decided (rules ++ r ∷ []) header ≡ then_decided (number_decided rules header) (matches stated header (rule_of r)) r.decision →
    number_decided (x ∷ (rules ++ r ∷ [])) header ≡ then_decided (number_decided (x ∷ rules) header) (matches stated header (rule_of r)) r.decision
number-behind header x rules r true h e =
    number-head header x (rules ++ r ∷ []) true h ∙ ap (λ o. then_decided o (matches stated header (rule_of r)) r.decision) (sym (number-head header x rules true h))
number-behind header x rules r false h e =
    number-head header x (rules ++ r ∷ []) false h ∙ e ∙ ap (λ o. then_decided o (matches stated header (rule_of r)) r.decision) (sym (number-head header x rules false h))

-- one more rule behind the others
pub number-more : (header : List ℕ) (rules : List code.Rule) (r : code.Rule) →
    number_decided (rules ++ r ∷ []) header ≡ then_decided (number_decided rules header) (matches stated header (rule_of r)) r.decision
number-more header [] r = number-head header r [] (matches stated header (rule_of r)) refl
number-more header (x ∷ rules) r = number-behind header x rules r (matches stated header (rule_of x)) refl (number-more header rules r)

none-more : (o : Option ℕ) (d : ℕ) → o ≡ then_decided o false d
none-more None d = refl
none-more (Some x) d = refl

-- no rule was put, or one
pub put-kept : (header : List ℕ) (rules more : List code.Rule) (kept : Option code.Rule) (d : ℕ) → IfSome kept (λ (r : code.Rule). r.decision ≡ d) →
    more ≡ with_some rules kept → number_decided more header ≡ then_decided (number_decided rules header) (matches_some header kept) d
put-kept header rules more None d is to = ap (λ rs. number_decided rs header) to ∙ none-more (number_decided rules header) d
put-kept header rules more (Some r) d is to =
    ap (λ rs. number_decided rs header) to ∙ number-more header rules r ∙ ap (λ n. then_decided (number_decided rules header) (matches stated header (rule_of r)) n) is

labelled : (w : ℕ) (box : Bool) (o : Option ℕ) (m : Bool) (d : ℕ) →
    then_decided (cond box (option_map (label w) o) None) (m && box) (label w d) ≡ cond box (option_map (label w) (then_decided o m d)) None
labelled w false o false d = refl
labelled w false o true d = refl
labelled w true None false d = refl
labelled w true None true d = refl
labelled w true (Some x) false d = refl
labelled w true (Some x) true d = refl

-- one more rule of the list, cut to the box and labelled
pub labelled-more : (w : ℕ) (header : List ℕ) (box : Bool) (rules : List code.Rule) (k : ℕ) (r d : code.Rule) (before after : Option ℕ) (n : ℕ) → k < length rules → r ≡ get_or rules k d →
    before ≡ cond box (option_map (label w) (number_decided (take k rules) header)) None → n ≡ label w r.decision →
    after ≡ then_decided before (matches stated header (rule_of r) && box) n → after ≡ cond box (option_map (label w) (number_decided (take (k + 1) rules) header)) None
labelled-more w header box rules k r d before after n less is e named to =
    to ∙ ap (λ x. then_decided before (matches stated header (rule_of r) && box) x) named
    ∙ ap (λ o. then_decided o (matches stated header (rule_of r) && box) (label w r.decision)) e
    ∙ labelled w box (number_decided (take k rules) header) (matches stated header (rule_of r)) r.decision
    ∙ ap (λ o. cond box (option_map (label w) o) None) (sym (number-more header (take k rules) r)
    ∙ ap (λ rs. number_decided rs header) (ap (λ (x : code.Rule). take k rules ++ x ∷ []) is ∙ sym (take_more rules k d less)))

-- Rules that aren't needed.

others-head : (w : ℕ) (header : List ℕ) (r : code.Rule) (rules : List code.Rule) (m : Bool) → matches stated header (rule_of r) ≡ m → r.decision ≢ w →
    ((x : ℕ) → number_decided rules header ≡ Some x → x ≢ w) → (x : ℕ) → number_decided (r ∷ rules) header ≡ Some x → x ≢ w
others-head w header r rules true h n rest x e same = let is : Some r.decision ≡ Some x = sym (number-head header r rules true h) ∙ e in n (let one : r.decision ≡ x = cc in one ∙ same)
others-head w header r rules false h n rest x e same = rest x (sym (number-head header r rules false h) ∙ e) same

others : (w : ℕ) (header : List ℕ) (rules : List code.Rule) → ((k : ℕ) (d : code.Rule) → k < length rules → (get_or rules k d).decision ≢ w) → (x : ℕ) → number_decided rules header ≡ Some x → x ≢ w
others w header [] each x e same = absurd (none-some x e)
others w header (r ∷ rules) each x e same =
    others-head w header r rules (matches stated header (rule_of r)) refl (each 0 r (omega arith)) (others w header rules (λ k d less. each (suc k) d (omega (arith, less)))) x e same

-- what the first rules decide is what all decide, or nothing where the others decide something that isn't wanted
abbrev IsEnough : ℕ → Option ℕ → Option ℕ → Type 0
IsEnough w o p = (o ≡ p) ⊎ ((o ≡ None) × ((x : ℕ) → p ≡ Some x → x ≢ w))

enough-head : (w : ℕ) (header : List ℕ) (r : code.Rule) (front rules : List code.Rule) (m : Bool) → matches stated header (rule_of r) ≡ m →
    IsEnough w (number_decided front header) (number_decided rules header) → IsEnough w (number_decided (r ∷ front) header) (number_decided (r ∷ rules) header)
enough-head w header r front rules true h e = inl (number-head header r front true h ∙ sym (number-head header r rules true h))
enough-head w header r front rules false h (inl e) = inl (number-head header r front false h ∙ e ∙ sym (number-head header r rules false h))
enough-head w header r front rules false h (inr e) = inr (number-head header r front false h ∙ e.0, (λ x at. e.1 x (sym (number-head header r rules false h) ∙ at)))

enough : (w : ℕ) (header : List ℕ) (rules : List code.Rule) (n : ℕ) → ((k : ℕ) (d : code.Rule) → n ≤ k → k < length rules → (get_or rules k d).decision ≢ w) →
    IsEnough w (number_decided (take n rules) header) (number_decided rules header)
enough w header rules zero each = inr (refl, others w header rules (λ k d less. each k d (omega arith) less))
enough w header [] (suc n) each = inl refl
enough w header (r ∷ rules) (suc n) each = enough-head w header r (take n rules) rules (matches stated header (rule_of r)) refl
    (enough w header rules n (λ k d low less. each (suc k) d (omega (arith, low)) (omega (arith, less))))

label-other : (w d : ℕ) → d ≢ w → label w d ≡ 2
label-other w d n = ap (λ t. let r : ℕ = cond t 1 2 in r) (ne_eqb d w n)

same-by : (w : ℕ) (o p : Option ℕ) → w ≢ 0 → IsEnough w o p → label w (unwrap_or o 0) ≡ label w (unwrap_or p 0)
same-by w o p some (inl e) = ap (λ x. label w (unwrap_or x 0)) e
same-by w o None some (inr e) = ap (λ x. label w (unwrap_or x 0)) e.0
same-by w o (Some x) some (inr e) =
    ap (λ y. label w (unwrap_or y 0)) e.0 ∙ label-other w 0 (λ z. some (sym z)) ∙ sym (label-other w x (e.1 x refl))

zero-or : (w : ℕ) → (w ≡ 0) ⊎ (w ≢ 0)
zero-or zero = inl refl
zero-or (suc w) = inr (λ e. omega (arith, e))

-- the rules that are needed give each header the label that all give it
pub needed-label : (w n : ℕ) (rules front : List code.Rule) (header : List ℕ) → front ≡ take n rules → (w ≡ 0 → n ≡ length rules) →
    ((k : ℕ) (d : code.Rule) → n ≤ k → k < length rules → (get_or rules k d).decision ≢ w) →
    label w (unwrap_or (number_decided front header) 0) ≡ label w (decided stated rules header)
needed-label w n rules front header e all each =
    ap (λ rs. label w (unwrap_or (number_decided rs header) 0)) e ∙ elim (zero-or w) [
      | inl z ↦ ap (λ rs. label w (unwrap_or (number_decided rs header) 0)) (take_all n rules (omega (arith, all z)))
      | inr some ↦ same-by w (number_decided (take n rules) header) (number_decided rules header) some (enough w header rules n each)
    ]

last-two : (w : ℕ) (box : Bool) (o : Option ℕ) →
    unwrap_or (then_decided (then_decided (cond box (option_map (label w) o) None) box (label w 0)) true 2) 0 ≡ cond box (label w (unwrap_or o 0)) 2
last-two w false o = refl
last-two w true None = refl
last-two w true (Some x) = refl

-- behind them come a rule that the box has and a rule that matches all
pub asked-all : (w : ℕ) (header : List ℕ) (box : Bool) (rules kept both last : List code.Rule) (o : Option ℕ) (n : ℕ) (whole other : code.Rule) → number_decided kept header ≡ cond box (option_map (label w) o) None →
    matches stated header (rule_of whole) ≡ true → n ≡ label w 0 → number_decided both header ≡ then_decided (number_decided kept header) (matches stated header (rule_of whole) && box) n →
    matches stated header (rule_of other) ≡ true → other.decision ≡ 2 → last ≡ both ++ other ∷ [] → label w (unwrap_or o 0) ≡ label w (decided stated rules header) →
    decided stated last header ≡ cond box (label w (decided stated rules header)) 2
asked-all w header box rules kept both last o n whole other e opens is more all two to same =
    ap (λ p. unwrap_or p 0) (ap (λ rs. number_decided rs header) to ∙ number-more header both other
    ∙ ap (λ b. then_decided (number_decided both header) b other.decision) all ∙ ap (λ d. then_decided (number_decided both header) true d) two
    ∙ ap (λ p. then_decided p true 2) (more ∙ ap (λ b. then_decided (number_decided kept header) (b && box) n) opens
    ∙ ap (λ d. then_decided (number_decided kept header) box d) is ∙ ap (λ p. then_decided p box (label w 0)) e))
    ∙ last-two w box o ∙ ap (λ d. cond box d 2) same

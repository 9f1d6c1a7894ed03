-- Rules that are pushed one by one to stand for items, and what such rules decide.
use Rattle.std.proofs.Common.{◌≡◌, ◌∷◌, ◌++◌, ℕ, zero, suc, ◌+◌, ◌<◌, List, [], Bool, true, false, cond, Some, None, length, get_or, refl, ap, sym, subst, ◌∙◌, arith, add-one, inl, inr, Option, option_map, position, slice_get, length-append}
use Rattle.std.specs.Option.{option_map_or}
use Rattle.std.proofs.lemmas.Bool.{cases_lt}
use Rattle.std.proofs.lemmas.Option.{slice_get_within, slice_get-get_or}
use Rattle.std.proofs.lemmas.List.Quantifiers.{position-Some}
use Rattle.std.proofs.Math.Seq.{get_or-append_seam}
use Rattle.field_boxes.specs.declared.rule.Rule.{Rule}
use Rattle.field_boxes.specs.Headline.Fields.{stated, IsHeader}
use Rattle.field_boxes.specs.Headline.Classifier.{matches}
use Rattle.field_boxes.specs.Rules.{rule_of}
use Rattle.fdd_build.specs.Rules.{decided}
use Rattle.fdd_build.proofs.Decided.{decided_head}
use Rattle.text_lines.proofs.Positions.{position-cons}
use Rattle.ternary_words.specs.declared.entry.Entry.{Entry}
use Rattle.ternary_words.specs.Prefixes.{IsPrefixInEach}
use Rattle.ternary_words.specs.Views.{word_of}
use Rattle.partition_check.specs.PrefixWords.{ArePrefixes}
use Rattle.partition_check.proofs.FirstPlaces.{got}
use Rattle.box_partition.specs.Standing.{Matches, StandFor, counted}
use Rattle.box_partition.specs.Firsts.{number_of_place, number_answered}

-- a rule that stands for the item at a place
abbrev Stands : {X : Type 0} → (List ℕ → X → Bool) → (ℕ → X → ℕ) → ℕ → X → Rule → Type 0
Stands test number k x r = Matches (λ header. test header x) r × (r.decision ≡ number k x)

-- the rules stand for the items before a place
pub record StandBelow {X : Type 0} (test : List ℕ → X → Bool) (number : ℕ → X → ℕ) (items : List X) (n : ℕ) (rules : List Rule) : Type 0 where
  pub count : length rules ≡ n
  pub each : (k : ℕ) (x : X) (d : Rule) → k < n → slice_get items k ≡ Some x → Stands test number k x (get_or rules k d)

old_rule : (d : Rule) (rs more : List Rule) (k : ℕ) → k < length rs → get_or (rs ++ more) k d ≡ get_or rs k d
old_rule d [] more k h = absurd (omega (arith, h))
old_rule d (r ∷ rs) more zero h = refl
old_rule d (r ∷ rs) more (suc k) h = old_rule d rs more k (omega (arith, h))

new_rule : (d : Rule) (rs : List Rule) (r : Rule) (n : ℕ) → length rs ≡ n → get_or (rs ++ r ∷ []) n d ≡ r
new_rule d rs r n e = ap (λ k. get_or (rs ++ r ∷ []) k d) (sym e) ∙ get_or-append_seam rs r [] d

-- one more rule that stands for the item at the place
pub stand-next : {X : Type 0} (test : List ℕ → X → Bool) (number : ℕ → X → ℕ) (items : List X) (n : ℕ) (rules more : List Rule) (x e : X) (r : Rule) →
    more ≡ rules ++ r ∷ [] → x ≡ get_or items n e → Matches (λ header. test header x) r → r.decision ≡ number n x →
    StandBelow test number items n rules → StandBelow test number items (n + 1) more
stand-next {X} test number items n rules more x e r to is matched decision s = record {
  count = ap length to ∙ length-append rules (r ∷ []) ∙ ap (λ k. k + 1) s.count;
  each = λ k y d less at. subst (λ rs. Stands test number k y (get_or rs k d)) (sym to) (elim (cases_lt k n) [
    | inl before ↦ subst (Stands test number k y) (sym (old_rule d rules (r ∷ []) k (omega (arith, before, s.count)))) (s.each k y d before at)
    | inr past ↦
        let same : k ≡ n = omega (arith, past, less) in
        let found : x ≡ y = is ∙ ap (λ m. get_or items m e) (sym same) ∙ got items k y e at in
        subst (λ m. Stands test number m y (get_or (rules ++ r ∷ []) m d)) (sym same)
        (subst (Stands test number n y) (sym (new_rule d rules r n s.count)) (subst (λ (z : X). Stands test number n z r) found (matched, decision)))
  ]);
}

pub stand-all : {X : Type 0} (test : List ℕ → X → Bool) (number : ℕ → X → ℕ) (items : List X) (n : ℕ) (rules : List Rule) → n ≡ length items →
    StandBelow test number items n rules → StandFor test number items rules
stand-all test number items n rules e s = record {
  count = s.count ∙ e;
  matched = λ k x d at. (s.each k x d (omega (arith, slice_get_within items k x at, e)) at).0;
  decided = λ k x d at. (s.each k x d (omega (arith, slice_get_within items k x at, e)) at).1;
}

-- What they decide.

-- by recursion on both lists, at one header
abbrev StandAt : {X : Type 0} → List ℕ → (X → Bool) → (ℕ → X → ℕ) → List X → List Rule → Type 0
StandAt header test number [] [] = Unit {0}
StandAt header test number [] (r ∷ rs) = ⊥
StandAt header test number (x ∷ xs) [] = ⊥
StandAt header test number (x ∷ xs) (r ∷ rs) = (matches stated header (rule_of r) ≡ test x) × (r.decision ≡ number 0 x) × StandAt header test (λ k. number (suc k)) xs rs

stand-at : {X : Type 0} (header : List ℕ) (test : X → Bool) (number : ℕ → X → ℕ) (xs : List X) (rs : List Rule) → length rs ≡ length xs →
    ((k : ℕ) (x : X) (d : Rule) → slice_get xs k ≡ Some x → (matches stated header (rule_of (get_or rs k d)) ≡ test x) × (((get_or rs k d).decision) ≡ number k x)) → StandAt header test number xs rs
stand-at header test number [] [] e each = tt
stand-at header test number (x ∷ xs) (r ∷ rs) e each =
    let here = each 0 x r refl in
    (here.0, here.1, stand-at header test (λ k. number (suc k)) xs rs (omega (arith, e)) (λ k y d at. each (suc k) y d at))
stand-at header test number xs rs e each = absurd (omega arith)

-- the number of what stands at a place, 0 for no place
abbrev pub number_there : {X : Type 0} → (ℕ → X → ℕ) → List X → Option ℕ → ℕ
number_there number xs None = 0
number_there number xs (Some k) = option_map_or (number k) (slice_get xs k) 0

there-later : {X : Type 0} (number : ℕ → X → ℕ) (x : X) (xs : List X) (place : Option ℕ) → number_there (λ k. number (suc k)) xs place ≡ number_there number (x ∷ xs) (option_map (λ k. k + 1) place)
there-later number x xs None = refl
there-later number x xs (Some k) = ap (λ m. number_there number (x ∷ xs) (Some m)) (sym (add-one k))

decided-step : {X : Type 0} (header : List ℕ) (number : ℕ → X → ℕ) (x : X) (xs : List X) (r : Rule) (rs : List Rule) (place : Option ℕ) (b : Bool) → matches stated header (rule_of r) ≡ b →
    r.decision ≡ number 0 x → decided stated rs header ≡ number_there (λ k. number (suc k)) xs place →
    decided stated (r ∷ rs) header ≡ number_there number (x ∷ xs) (cond b (Some 0) (option_map (λ k. k + 1) place))
decided-step header number x xs r rs place true m d rest = decided_head stated header r rs true m ∙ d
decided-step header number x xs r rs place false m d rest = decided_head stated header r rs false m ∙ rest ∙ there-later number x xs place

decided-at : {X : Type 0} (header : List ℕ) (test : X → Bool) (number : ℕ → X → ℕ) (xs : List X) (rs : List Rule) → StandAt header test number xs rs →
    decided stated rs header ≡ number_there number xs (position test xs)
decided-at header test number [] [] s = refl
decided-at header test number (x ∷ xs) (r ∷ rs) s =
    decided-step header number x xs r rs (position test xs) (test x) s.0 s.1 (decided-at header test (λ k. number (suc k)) xs rs s.2)
    ∙ ap (number_there number (x ∷ xs)) (sym (position-cons test x xs))
decided-at header test number xs rs s = absurd s

-- rules that stand for items decide the number of the first item that passes
pub decided-first : {X : Type 0} (test : List ℕ → X → Bool) (number : ℕ → X → ℕ) (items : List X) (rules : List Rule) → StandFor test number items rules →
    (header : List ℕ) → IsHeader header → decided stated rules header ≡ number_there number items (position (test header) items)
decided-first test number items rules s header is =
    decided-at header (test header) number items rules (stand-at header (test header) number items rules s.count (λ k x d at. (s.matched k x d at header is, s.decided k x d at)))

answered : (n m : ℕ) → n ≡ m + 1 → number_answered n ≡ Some n
answered zero m e = absurd (omega (arith, e))
answered (suc n) m e = refl

counted-there : {X : Type 0} (xs : List X) (p : X → Bool) (place : Option ℕ) → position p xs ≡ place → number_answered (number_there counted xs place) ≡ number_of_place place
counted-there [] p (Some k) e = absurd cc
counted-there (x ∷ xs) p (Some k) e =
    let within = position-Some p (x ∷ xs) k x e in
    ap (λ o. number_answered (option_map_or (counted k) o 0)) (slice_get-get_or (x ∷ xs) k x within.0) ∙ answered (k + 1) k refl
counted-there xs p place e = refl

-- rules that decide places answer the number of the first item that passes
pub places-answer : {X : Type 0} (test : List ℕ → X → Bool) (items : List X) (rules : List Rule) → StandFor test counted items rules →
    (header : List ℕ) → IsHeader header → number_answered (decided stated rules header) ≡ number_of_place (position (test header) items)
places-answer test items rules s header is =
    ap number_answered (decided-first test counted items rules s header is) ∙ counted-there items (test header) (position (test header) items) refl

-- where each word is a prefix in each field, so is that of the entry at a place
pub prefix-there : (entries items : List Entry) (k : ℕ) (e : Entry) → ArePrefixes entries → items ≡ entries → e ≡ get_or items k e → k < length items → IsPrefixInEach (word_of e.word)
prefix-there entries items k e all same is less =
    all k e (ap (λ (xs : List Entry). slice_get xs k) (sym same) ∙ slice_get-get_or items k e less ∙ ap (λ (x : Entry). Some x) (sym is))

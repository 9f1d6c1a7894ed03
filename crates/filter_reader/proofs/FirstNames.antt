-- Names that are seen in order are distinct, so rules with the same names have the same numbers.
use Rattle.std.proofs.Common.{◌≡◌, ◌≢◌, ◌∷◌, ◌++◌, ℕ, zero, suc, ◌+◌, ◌<◌, ◌≤◌, List, false, [], ap, refl, sym, ◌∙◌, subst, arith, length, length-append, get_or, drop, inl, inr, fold, map, All, bytes_eq}
use Rattle.std.proofs.Math.Seq.{get_or-append_seam}
use Rattle.std.proofs.lemmas.List.{get_or_append_left}
use Rattle.std.specs.List.{AllByRecursion}
use Rattle.std.proofs.lemmas.Bool.{or_parts, false≢true, cases_lt, cond_both}
use Rattle.std.proofs.lemmas.List.Elements.{recursion_from_All}
use Rattle.std.proofs.lemmas.Option.{unwrap_or-slice_get}
use Rattle.std.proofs.lemmas.Slice.Eq.{bytes_eq-Decides}
use Rattle.field_boxes.specs.declared.rule.Rule as code
use Rattle.field_boxes.specs.Headline.Classifier.{Rule}
use Rattle.field_boxes.specs.NamedRules.{IsNumberedBy, named_rule, named_rules}
use Rattle.field_boxes.specs.Headline.Names.{miss, text_of}
use Rattle.field_boxes.specs.Names.{is_known, name_at, with_name}
use Rattle.filter_reader.specs.FirstSeen.{first_seen}

-- no name stands at two places
AreDistinct : List (List ℕ) → Type 0
AreDistinct names = (i j : ℕ) → i < length names → j < length names → get_or names i miss ≡ get_or names j miss → i ≡ j

unknown : (name : List ℕ) (names : List (List ℕ)) (i : ℕ) → is_known names name ≡ false → i < length names → get_or names i miss ≢ name
unknown name [] i h lt e = omega arith
unknown name (x ∷ names) zero h lt e = false≢true (sym (or_parts (bytes_eq name x) (is_known names name) h).0 ∙ (bytes_eq-Decides name x).1 (sym e))
unknown name (x ∷ names) (suc i) h lt e = unknown name names i (or_parts (bytes_eq name x) (is_known names name) h).1 (omega arith) e

one_longer : (names : List (List ℕ)) (name : List ℕ) → length (names ++ name ∷ []) ≡ length names + 1
one_longer names name = length-append names (name ∷ [])

at_end : (names : List (List ℕ)) (name : List ℕ) (i : ℕ) → length names ≤ i → i < length (names ++ name ∷ []) → get_or (names ++ name ∷ []) i miss ≡ name
at_end names name i from to =
    let longer = one_longer names name in
    let place : length names ≡ i = omega arith in
    subst (λ k. get_or (names ++ name ∷ []) k miss ≡ name) place (get_or-append_seam names name [] miss)

added : (names : List (List ℕ)) (name : List ℕ) → is_known names name ≡ false → AreDistinct names → AreDistinct (names ++ name ∷ [])
unfolding AreDistinct
added names name new distinct i j p q e =
    let longer = one_longer names name in
    elim (cases_lt i (length names)) [
      | inl i_old ↦ elim (cases_lt j (length names)) [
        | inl j_old ↦ distinct i j i_old j_old (sym (get_or_append_left names (name ∷ []) miss i i_old) ∙ e ∙ get_or_append_left names (name ∷ []) miss j j_old)
        | inr j_new ↦ absurd (unknown name names i new i_old (sym (get_or_append_left names (name ∷ []) miss i i_old) ∙ e ∙ at_end names name j j_new q))
      ]
      | inr i_new ↦ elim (cases_lt j (length names)) [
        | inl j_old ↦ absurd (unknown name names j new j_old (sym (get_or_append_left names (name ∷ []) miss j j_old) ∙ sym e ∙ at_end names name i i_new p))
        | inr j_new ↦ omega arith
      ]
    ]

with_all : (names : List (List ℕ)) (rules : List (Rule (List ℕ))) → AreDistinct names → AreDistinct (fold (λ ns rule. with_name ns rule.decision) names rules)
with_all names [] distinct = distinct
with_all names (rule ∷ rules) distinct =
    let name = rule.decision in
    with_all (with_name names name) rules (cond_both (is_known names name) names (names ++ name ∷ []) AreDistinct (λ e. distinct) (λ e. added names name e distinct))

no_names : AreDistinct []
unfolding AreDistinct
no_names i j p q e = omega arith

-- two numbers of one name are the same
same_number : (names : List (List ℕ)) → AreDistinct names → (m n : ℕ) → (0 < m) × (m ≤ length names) → (0 < n) × (n ≤ length names) → text_of (name_at names m) ≡ text_of (name_at names n) → m ≡ n
unfolding AreDistinct
same_number names distinct zero n p q e = absurd (omega (arith, p.0))
same_number names distinct (suc m) zero p q e = absurd (omega (arith, q.0))
same_number names distinct (suc m) (suc n) p q e =
    let within = p.1 in
    let other = q.1 in
    ap suc (distinct m n (omega arith) (omega arith) (sym (unwrap_or-slice_get names m miss) ∙ e ∙ unwrap_or-slice_get names n miss))

numbers_of : List code.Rule → List ℕ
numbers_of rules = map (λ (rule : code.Rule). rule.decision) rules

same_numbers : (names : List (List ℕ)) → AreDistinct names → (xs ys : List code.Rule) → AllByRecursion (IsNumberedBy names) xs → AllByRecursion (IsNumberedBy names) ys → named_rules names xs ≡ named_rules names ys → numbers_of xs ≡ numbers_of ys
unfolding numbers_of
same_numbers names distinct [] [] p q e = refl
same_numbers names distinct (x ∷ xs) (y ∷ ys) p q e =
    let first : text_of (name_at names x.decision) ≡ text_of (name_at names y.decision) = ap (λ (rules : List (Rule (List ℕ))). (get_or rules 0 (named_rule names x)).decision) e in
    ap (λ n. n ∷ numbers_of xs) (same_number names distinct x.decision y.decision p.0 q.0 first)
    ∙ ap (λ ns. y.decision ∷ ns) (same_numbers names distinct xs ys p.1 q.1 (ap (drop 1) e))
same_numbers names distinct xs ys p q e = absurd cc

-- lists with the same rules, whose names are those of the rules in the order in which they are first seen
pub numbers_by_names : (ns ms : List (List ℕ)) (xs ys : List code.Rule) → All (IsNumberedBy ns) xs → All (IsNumberedBy ms) ys → ns ≡ first_seen (named_rules ns xs) → ms ≡ first_seen (named_rules ms ys) →
    named_rules ns xs ≡ named_rules ms ys → (ns ≡ ms) × (map (λ (rule : code.Rule). rule.decision) xs ≡ map (λ (rule : code.Rule). rule.decision) ys)
unfolding numbers_of
numbers_by_names ns ms xs ys p q e f rules =
    let same : ms ≡ ns = f ∙ ap first_seen (sym rules) ∙ sym e in
    let distinct : AreDistinct ns = subst AreDistinct (sym e) (with_all [] (named_rules ns xs) no_names) in
    let others : AllByRecursion (IsNumberedBy ns) ys = subst (λ names. AllByRecursion (IsNumberedBy names) ys) same (recursion_from_All (IsNumberedBy ms) ys q) in
    (sym same, same_numbers ns distinct xs ys (recursion_from_All (IsNumberedBy ns) xs p) others (rules ∙ ap (λ names. named_rules names ys) same))

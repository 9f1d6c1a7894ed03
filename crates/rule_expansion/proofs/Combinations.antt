-- Combinations of prefixes: how many there are, which values they hold, and that they fit.
use Rattle.std.proofs.Common.{◌≡◌, ◌∷◌, ◌++◌, ℕ, suc, ◌*◌, ◌≤◌, List, [], Bool, true, false, length, map, ap, refl, ◌∙◌, arith}
use Rattle.std.specs.Prelude.{◌&&◌, ◌||◌}
use Rattle.std.specs.List.{list_any, flat_map, AllByRecursion}
use Rattle.std.proofs.lemmas.List.{length-append, length-map}
use Rattle.std.proofs.lemmas.List.Elements.{recursion_from_All}
use Rattle.std.proofs.lemmas.List.Folds.{list_any-append}
use Rattle.field_boxes.specs.declared.prefix.Prefix.{Prefix}
use Rattle.field_boxes.specs.Headline.Fields.{width, AreValues}
use Rattle.field_boxes.specs.Headline.Classifier.{Rule, set_holds, matches}
use Rattle.field_boxes.specs.Headline.Prefix.{FitsWidth, prefix_holds}
use Rattle.range_prefix.specs.Cover.{IsShortestCover}
use Rattle.range_prefix.specs.Shortest.{shortest_cover}
use Rattle.ternary_words.specs.Prefixes.{FitFields, all_hold}
use Rattle.rule_expansion.specs.Expansion.{combinations, covers, product_of_lengths}

-- each set of values of a field of at most 32 bits has this shortest cover
abbrev pub HaveCovers : Type 0
HaveCovers = (width : ℕ) (set : ℕ → Bool) → width ≤ 32 → IsShortestCover width set (shortest_cover width set)

-- an item in front of each of these lists
abbrev pub in_front : {A : Type 0} → A → List (List A) → List (List A)
in_front item rest = map (λ chosen. item ∷ chosen) rest

length-rows : {A : Type 0} (items : List A) (rest : List (List A)) → length (flat_map (λ item. in_front item rest) items) ≡ length items * length rest
length-rows [] rest = omega arith
length-rows (item ∷ items) rest =
    let more = length-rows items rest in
    let one = length-map rest (λ chosen. item ∷ chosen) in
    let both = length-append (in_front item rest) (flat_map (λ other. in_front other rest) items) in
    grind (arith, more, one, both)

-- as many combinations as the product of the lengths
pub length-combinations : {A : Type 0} (lists : List (List A)) → length (combinations lists) ≡ product_of_lengths lists
length-combinations [] = refl
length-combinations (items ∷ others) = length-rows items (combinations others) ∙ ap (λ n. length items * n) (length-combinations others)

and_or : (a b c : Bool) → (a && b) || (a && c) ≡ a && (b || c)
and_or true b c = refl
and_or false b c = refl

or_and : (a b c : Bool) → (a && c) || (b && c) ≡ (a || b) && c
or_and true true true = refl
or_and true true false = refl
or_and true false true = refl
or_and true false false = refl
or_and false true true = refl
or_and false true false = refl
or_and false false true = refl
or_and false false false = refl

and_false : (a : Bool) → false ≡ a && false
and_false true = refl
and_false false = refl

-- a first prefix and any of these lists hold the values
any_behind : (f : ℕ) (fs : List ℕ) (v : ℕ) (vs : List ℕ) (p : Prefix) (rest : List (List Prefix)) →
    list_any (λ ps. all_hold (f ∷ fs) ps (v ∷ vs)) (in_front p rest) ≡ prefix_holds (width f) p v && list_any (λ ps. all_hold fs ps vs) rest
any_behind f fs v vs p [] = and_false (prefix_holds (width f) p v)
any_behind f fs v vs p (ps ∷ rest) =
    ap (λ t. (prefix_holds (width f) p v && all_hold fs ps vs) || t) (any_behind f fs v vs p rest)
    ∙ and_or (prefix_holds (width f) p v) (all_hold fs ps vs) (list_any (λ qs. all_hold fs qs vs) rest)

-- some first prefix and any of these lists do
any_row : (f : ℕ) (fs : List ℕ) (v : ℕ) (vs : List ℕ) (items : List Prefix) (rest : List (List Prefix)) →
    list_any (λ ps. all_hold (f ∷ fs) ps (v ∷ vs)) (flat_map (λ p. in_front p rest) items) ≡ list_any (λ p. prefix_holds (width f) p v) items && list_any (λ ps. all_hold fs ps vs) rest
any_row f fs v vs [] rest = refl
any_row f fs v vs (p ∷ items) rest =
    list_any-append (λ ps. all_hold (f ∷ fs) ps (v ∷ vs)) (in_front p rest) (flat_map (λ q. in_front q rest) items)
    ∙ ap (λ t. t || list_any (λ ps. all_hold (f ∷ fs) ps (v ∷ vs)) (flat_map (λ q. in_front q rest) items)) (any_behind f fs v vs p rest)
    ∙ ap (λ t. (prefix_holds (width f) p v && list_any (λ ps. all_hold fs ps vs) rest) || t) (any_row f fs v vs items rest)
    ∙ or_and (prefix_holds (width f) p v) (list_any (λ q. prefix_holds (width f) q v) items) (list_any (λ ps. all_hold fs ps vs) rest)

-- some combination of the covers holds the values exactly where the rule's sets do
pub any_combination : HaveCovers → {A : Type 0} (fs vs : List ℕ) (rule : Rule A) → AllByRecursion (λ f. width f ≤ 32) fs → AreValues fs vs →
    list_any (λ ps. all_hold fs ps vs) (combinations (covers fs rule)) ≡ matches fs vs rule
any_combination law [] [] rule narrow are = refl
any_combination law [] (v ∷ vs) rule narrow are = absurd are
any_combination law (f ∷ fs) [] rule narrow are = absurd are
any_combination law (f ∷ fs) (v ∷ vs) rule narrow are =
    any_row f fs v vs (shortest_cover (width f) (λ n. set_holds f n rule)) (combinations (covers fs rule))
    ∙ ap (λ t. t && list_any (λ ps. all_hold fs ps vs) (combinations (covers fs rule))) ((law (width f) (λ n. set_holds f n rule) narrow.0).cover.exact.exact v are.0)
    ∙ ap (λ t. set_holds f v rule && t) (any_combination law fs vs rule narrow.1 are.1)

pub AllByRecursion-append : {A : Type 0} (P : A → Type 0) (xs ys : List A) → AllByRecursion P xs → AllByRecursion P ys → AllByRecursion P (xs ++ ys)
AllByRecursion-append P [] ys h k = k
AllByRecursion-append P (x ∷ xs) ys h k = (h.0, AllByRecursion-append P xs ys h.1 k)

fit_behind : (f : ℕ) (fs : List ℕ) (p : Prefix) (rest : List (List Prefix)) → FitsWidth (width f) p → AllByRecursion (FitFields fs) rest → AllByRecursion (FitFields (f ∷ fs)) (in_front p rest)
fit_behind f fs p [] fits h = tt
fit_behind f fs p (ps ∷ rest) fits h = ((fits, h.0), fit_behind f fs p rest fits h.1)

fit_row : (f : ℕ) (fs : List ℕ) (items : List Prefix) (rest : List (List Prefix)) → AllByRecursion (FitsWidth (width f)) items → AllByRecursion (FitFields fs) rest → AllByRecursion (FitFields (f ∷ fs)) (flat_map (λ p. in_front p rest) items)
fit_row f fs [] rest h k = tt
fit_row f fs (p ∷ items) rest h k = AllByRecursion-append (FitFields (f ∷ fs)) (in_front p rest) (flat_map (λ q. in_front q rest) items) (fit_behind f fs p rest h.0 k) (fit_row f fs items rest h.1 k)

-- each combination fits its fields
pub fit_combinations : HaveCovers → {A : Type 0} (fs : List ℕ) (rule : Rule A) → AllByRecursion (λ f. width f ≤ 32) fs → AllByRecursion (FitFields fs) (combinations (covers fs rule))
fit_combinations law [] rule narrow = (tt, tt)
fit_combinations law (f ∷ fs) rule narrow =
    let cover = shortest_cover (width f) (λ n. set_holds f n rule) in
    fit_row f fs cover (combinations (covers fs rule)) (recursion_from_All (FitsWidth (width f)) cover (law (width f) (λ n. set_holds f n rule) narrow.0).cover.exact.fit) (fit_combinations law fs rule narrow.1)

long_behind : (n : ℕ) (p : Prefix) (rest : List (List Prefix)) → AllByRecursion (λ (ps : List Prefix). length ps ≡ n) rest → AllByRecursion (λ (ps : List Prefix). length ps ≡ suc n) (in_front p rest)
long_behind n p [] h = tt
long_behind n p (ps ∷ rest) h = (ap suc h.0, long_behind n p rest h.1)

long_row : (n : ℕ) (items : List Prefix) (rest : List (List Prefix)) → AllByRecursion (λ (ps : List Prefix). length ps ≡ n) rest →
    AllByRecursion (λ (ps : List Prefix). length ps ≡ suc n) (flat_map (λ p. in_front p rest) items)
long_row n [] rest h = tt
long_row n (p ∷ items) rest h =
    AllByRecursion-append (λ (ps : List Prefix). length ps ≡ suc n) (in_front p rest) (flat_map (λ q. in_front q rest) items) (long_behind n p rest h) (long_row n items rest h)

-- each combination has a prefix for each of its fields
pub long_combinations : {A : Type 0} (fs : List ℕ) (rule : Rule A) → AllByRecursion (λ (ps : List Prefix). length ps ≡ length fs) (combinations (covers fs rule))
long_combinations [] rule = (refl, tt)
long_combinations (f ∷ fs) rule = long_row (length fs) (shortest_cover (width f) (λ n. set_holds f n rule)) (combinations (covers fs rule)) (long_combinations fs rule)

-- Entries for the combinations of some covers behind prefixes that are chosen, one prefix of the first cover after another.
use Rattle.std.proofs.Common.{◌≡◌, ◌∷◌, ◌++◌, ◌<◌, ◌≤◌, ◌+◌, ◌-◌, ℕ, zero, suc, List, [], length, take, drop, get_or, set, ap, refl, sym, subst, arith, append_assoc, append-nil, ◌∙◌, Vec, Global}
use Rattle.std.specs.Prelude.{All}
use Rattle.std.specs.List.{flat_map}
use Rattle.std.proofs.lemmas.List.{take_all, take_more, map-append}
use Rattle.std.proofs.lemmas.Grind.{flat_map-append, take-set_at}
use Rattle.field_boxes.specs.declared.prefix.Prefix.{Prefix}
use Rattle.field_boxes.specs.Headline.Fields.{width, stated}
use Rattle.field_boxes.specs.Headline.Prefix.{FitsWidth}
use Rattle.ternary_words.specs.Prefixes.{FitFields, fields_trits}
use Rattle.ternary_words.specs.Headline.Word.{Trit}
use Rattle.rule_expansion.specs.Expansion.{combinations}
use Rattle.rule_expansion.specs.Entries.{FitCovers, prefixes_of, with_words}
use Rattle.rule_expansion.proofs.Combinations.{in_front}

-- the covers behind the first
abbrev pub others_of : List (Vec Prefix Global) → List (Vec Prefix Global)
others_of covers = take (length covers - 1) (drop 1 covers)

others : (cover : Vec Prefix Global) (covers : List (Vec Prefix Global)) → others_of (cover ∷ covers) ≡ covers
others cover covers = take_all (length (cover ∷ covers) - 1) covers (omega arith)

fit_set_from : (fs : List ℕ) (ps : List Prefix) (k : ℕ) (p : Prefix) → FitFields fs ps → FitsWidth (width (get_or fs k 0)) p → FitFields fs (set ps k p)
fit_set_from [] ps k p h fits = tt
fit_set_from (f ∷ fs) [] k p h fits = tt
fit_set_from (f ∷ fs) (q ∷ ps) zero p h fits = (fits, h.1)
fit_set_from (f ∷ fs) (q ∷ ps) (suc k) p h fits = (h.0, fit_set_from fs ps k p h.1 fits)

field_at : (k : ℕ) → k < 5 → get_or stated k 0 ≡ k
field_at zero h = refl
field_at (suc zero) h = refl
field_at (suc (suc zero)) h = refl
field_at (suc (suc (suc zero))) h = refl
field_at (suc (suc (suc (suc zero)))) h = refl
field_at (suc (suc (suc (suc (suc k))))) h = absurd (omega arith)

fit_at : (k : ℕ) (cover : List Prefix) (covers : List (List Prefix)) → k < 5 → FitCovers (drop k stated) (cover ∷ covers) → All (FitsWidth (width k)) cover × FitCovers (drop (suc k) stated) covers
fit_at zero cover covers h fit = fit
fit_at (suc zero) cover covers h fit = fit
fit_at (suc (suc zero)) cover covers h fit = fit
fit_at (suc (suc (suc zero))) cover covers h fit = fit
fit_at (suc (suc (suc (suc zero)))) cover covers h fit = fit
fit_at (suc (suc (suc (suc (suc k))))) cover covers h fit = absurd (omega arith)

-- what the call for the covers behind the first asks for
pub asks : (covers : List (Vec Prefix Global)) (cover : Vec Prefix Global) (items : List Prefix) (chosen : List Prefix) (i : ℕ) (d : Prefix) →
    1 ≤ length covers → cover ≡ get_or covers 0 cover → items ≡ cover.items → i < length items → length covers ≤ 5 → FitFields stated chosen → FitCovers (drop (5 - length covers) stated) (prefixes_of covers) →
    (length (others_of covers) < length covers) × ((length (others_of covers) ≤ 5) × (FitFields stated (set chosen (5 - length covers) (get_or items i d)) × FitCovers (drop (5 - length (others_of covers)) stated) (prefixes_of (others_of covers))))
asks [] cover items chosen i d some first same within few fits fit = absurd (omega arith)
asks (c ∷ rest) cover items chosen i d some first same within few fits fit =
    let k = 5 - length (c ∷ rest) in
    let small : k < 5 = omega arith in
    let parts = fit_at k c.items (prefixes_of rest) small fit in
    let next : suc k ≡ 5 - length rest = omega arith in
    let listed : items ≡ c.items = same ∙ ap (λ (x : Vec Prefix Global). x.items) first in
    let prefix : FitsWidth (width k) (get_or items i d) = subst (λ (xs : List Prefix). i < length xs → FitsWidth (width k) (get_or xs i d)) (sym listed) (λ lt. parts.0 i d lt) within in
    let chosen_fit = fit_set_from stated chosen k (get_or items i d) fits (subst (λ f. FitsWidth (width f) (get_or items i d)) (sym (field_at k small)) prefix) in
    let behind : FitCovers (drop (5 - length rest) stated) (prefixes_of rest) = subst (λ n. FitCovers (drop n stated) (prefixes_of rest)) next parts.1 in
    subst (λ (cs : List (Vec Prefix Global)). (length cs < length (c ∷ rest)) × ((length cs ≤ 5) × (FitFields stated (set chosen k (get_or items i d)) × FitCovers (drop (5 - length cs) stated) (prefixes_of cs))))
    (sym (others c rest)) (omega arith, (omega arith, (chosen_fit, behind)))

-- a prefix behind those that are chosen
chosen_more : (decision : ℕ) (front : List Prefix) (p : Prefix) (pss : List (List Prefix)) → with_words decision (front ++ p ∷ []) pss ≡ with_words decision front (in_front p pss)
chosen_more decision front p [] = refl
chosen_more decision front p (ps ∷ pss) =
    ap (λ qs. let pair : List Trit × ℕ = (fields_trits stated qs, decision) in pair ∷ with_words decision (front ++ p ∷ []) pss) (append_assoc front (p ∷ []) ps)
    ∙ ap (λ ws. let pair : List Trit × ℕ = (fields_trits stated (front ++ p ∷ ps), decision) in pair ∷ ws) (chosen_more decision front p pss)

-- one more prefix of the first cover
pub one_more : (covers : List (Vec Prefix Global)) (items chosen : List Prefix) (i decision : ℕ) (d : Prefix) (start so_far now : List (List Trit × ℕ)) →
    1 ≤ length covers → length covers ≤ 5 → length chosen ≡ 5 → i < length items →
    so_far ≡ start ++ with_words decision (take (5 - length covers) chosen) (flat_map (λ p. in_front p (combinations (prefixes_of (others_of covers)))) (take i items)) →
    now ≡ so_far ++ with_words decision (take (5 - length (others_of covers)) (set chosen (5 - length covers) (get_or items i d))) (combinations (prefixes_of (others_of covers))) →
    now ≡ start ++ with_words decision (take (5 - length covers) chosen) (flat_map (λ p. in_front p (combinations (prefixes_of (others_of covers)))) (take (i + 1) items))
one_more [] items chosen i decision d start so_far now some few five within h call = absurd (omega arith)
one_more (c ∷ rest) items chosen i decision d start so_far now some few five within h call =
    let k = 5 - length (c ∷ rest) in
    let p = get_or items i d in
    let front = take k chosen in
    let behind = combinations (prefixes_of (others_of (c ∷ rest))) in
    let row : Prefix → List (List Prefix) = λ q. in_front q behind in
    let many : 5 - length (others_of (c ∷ rest)) ≡ k + 1 = ap (λ (cs : List (Vec Prefix Global)). 5 - length cs) (others c rest) ∙ omega arith in
    let longer : take (5 - length (others_of (c ∷ rest))) (set chosen k p) ≡ front ++ p ∷ [] = take-set_at chosen k (5 - length (others_of (c ∷ rest))) p many (omega arith) in
    let words : with_words decision (take (5 - length (others_of (c ∷ rest))) (set chosen k p)) behind ≡ with_words decision front (row p) = ap (λ qs. with_words decision qs behind) longer ∙ chosen_more decision front p behind in
    let rows : flat_map row (take (i + 1) items) ≡ flat_map row (take i items) ++ (row p ++ []) = ap (flat_map row) (take_more items i d within) ∙ flat_map-append row (take i items) (p ∷ []) in
    let last : row p ++ [] ≡ row p = append-nil (row p) in
    let joined : with_words decision front (flat_map row (take (i + 1) items)) ≡ with_words decision front (flat_map row (take i items)) ++ with_words decision front (row p) =
    ap (with_words decision front) (rows ∙ ap (λ r. flat_map row (take i items) ++ r) last) ∙ map-append (λ prefixes. let pair : List Trit × ℕ = (fields_trits stated (front ++ prefixes), decision) in pair) (flat_map row (take i items)) (row p) in
    call
    ∙ ap (λ s. s ++ with_words decision (take (5 - length (others_of (c ∷ rest))) (set chosen k p)) behind) h
    ∙ ap (λ w. (start ++ with_words decision front (flat_map row (take i items))) ++ w) words
    ∙ append_assoc start (with_words decision front (flat_map row (take i items))) (with_words decision front (row p))
    ∙ ap (λ w. start ++ w) (sym joined)

-- no cover is left
pub no_more : (covers : List (Vec Prefix Global)) (chosen : List Prefix) (decision : ℕ) (word : List Trit) → length covers < 1 → length chosen ≡ 5 → word ≡ fields_trits stated chosen →
    (let pair : List Trit × ℕ = (word, decision) in pair ∷ []) ≡ with_words decision (take (5 - length covers) chosen) (combinations (prefixes_of covers))
no_more [] chosen decision word none five same =
    ap (λ w. let pair : List Trit × ℕ = (w, decision) in pair ∷ []) (same ∙ ap (fields_trits stated) (sym (append-nil (take 5 chosen) ∙ take_all 5 chosen (omega arith))))
no_more (c ∷ rest) chosen decision word none five same = absurd (omega (arith, none))

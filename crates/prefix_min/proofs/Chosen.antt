-- Which rows are worth their weight, from the parts of the field up.
use Rattle.std.proofs.Common.{◌≡◌, ◌≢◌, ◌∷◌, ◌++◌, ℕ, suc, List, [], ◌+◌, ◌-◌, ◌^◌, ◌<◌, ◌≤◌, Bool, true, false, refl, ap, arith, sym, ◌∙◌, inl, inr, subst}
use Rattle.std.specs.Prelude.{◌⊎◌, ◌&&◌, not, filter, nat_le, unwrap_or, slice_index, if◌then◌else◌, None}
use Rattle.std.specs.List.{AllByRecursion}
use Rattle.std.proofs.Math.Bool.{and-false}
use Rattle.std.proofs.lemmas.Bool.{le-leb, lt-leb}
use Rattle.std.proofs.lemmas.List.{append-nil}
use Rattle.std.proofs.lemmas.List.Elements.{filter-append, All-filter, All-from_recursion, recursion_from_All}
use Rattle.std.proofs.lemmas.List.Sums.{sum_by-append}
use Rattle.std.proofs.lemmas.Nat.{pow_pos}
use Rattle.field_boxes.specs.Headline.Prefix.{prefix_holds}
use Rattle.prefix_min.specs.declared.row.PrefixRow.{PrefixRow}
use Rattle.prefix_min.specs.Trie.{Node, GivesAll, StandsFor, costs_of}
use Rattle.prefix_min.specs.Choice.{AnswerIn, IsWorth, IsWorthIn, beside, lies_in, within}
use Rattle.prefix_min.specs.Costs.{Costs, IsConstant, IsSplit, without_row}
use Rattle.prefix_min.specs.PrefixList.{front, weight}
use Rattle.prefix_min.specs.Rows.{IsInside, IsPart, row_of}
use Rattle.prefix_min.proofs.Below.{below}
use Rattle.prefix_min.proofs.Lower.{decide}
use Rattle.prefix_min.proofs.Whole.{constant-bound, halves-bound, IsFresh}
use Rattle.prefix_min.proofs.Rows.{AreApart, front-append, front-outside, front_head, held_within, row-holds, not_true}

own_answers : (f : ℕ → ℕ) (width bits low label : ℕ) (inherited : ℕ → ℕ) (others : List PrefixRow) → IsPart width bits low → AnswerIn f width (row_of width bits low label) inherited others →
    (v : ℕ) → low ≤ v → v < low + 2 ^ bits → unwrap_or (front width others v) (inherited v) ≡ f v
own_answers f width bits low label inherited others p a v from to = let room = p.within in a.answers v (omega arith) (row-holds width bits low label v p from to)

-- the own row of a part with halves
pub worth-halves : (weights : List ℕ) (f : ℕ → ℕ) (width n low d cost label : ℕ) (c : Costs) (lo hi : Node) → IsPart width (suc n) low → IsSplit weights (costs_of lo) (costs_of hi) c →
    StandsFor weights f n low lo → StandsFor weights f n (low + 2 ^ n) hi → label ≡ c.label → cost ≡ c.row → (0 < width - suc n → c.row < without_row c d) →
    ((v : ℕ) → v < 2 ^ width → IsFresh c (f v) → c.row < without_row c (f v)) → IsWorth weights f width (row_of width (suc n) low label) cost (λ v. d)
worth-halves weights f width n low d cost label c lo hi p s h g l e cheaper other = record {
  saves = λ some others a.
      let b = below weights f width (suc n) low d others p a.fits a.longer (own_answers f width (suc n) low label (λ v. d) others p a) in
      omega (arith, halves-bound weights f n low c lo hi s h g d b.rows b.rootless b.right, b.light, cheaper some, e);
  least = λ v small less others a.
      let b = below weights f width (suc n) low (f v) others p a.fits a.longer (own_answers f width (suc n) low label (λ x. f v) others p a) in
      let bound = halves-bound weights f n low c lo hi s h g (f v) b.rows b.rootless b.right in
      elim (decide c.labels (f v)) [
        | inl listed ↦ omega (arith, s.first (f v) listed (omega (arith, less, l)), bound, b.light, e)
        | inr fresh ↦ omega (arith, other v small fresh, bound, b.light, e)
      ];
}

-- the row of a part of one label
pub worth-constant : (weights : List ℕ) (f : ℕ → ℕ) (width bits low d cost : ℕ) (c : Costs) → IsPart width bits low → IsConstant weights c → GivesAll f bits low c.label →
    cost ≡ slice_index weights c.label → 0 < slice_index weights c.label → (0 < width - bits → c.label ≢ d) → IsWorth weights f width (row_of width bits low c.label) cost (λ v. d)
worth-constant weights f width bits low d cost c p k all e weighs other = record {
  saves = λ some others a.
      let b = below weights f width bits low d others p a.fits a.longer (own_answers f width bits low c.label (λ v. d) others p a) in
      omega (arith, constant-bound weights f bits low c k all d (other some) b.rows b.rootless b.right, b.light, weighs, e);
  least = λ v small less others a.
      let b = below weights f width bits low (f v) others p a.fits a.longer (own_answers f width bits low c.label (λ x. f v) others p a) in
      omega (arith, constant-bound weights f bits low c k all (f v) (λ same. omega (arith, same, less)) b.rows b.rootless b.right, b.light, weighs, e);
}

worth_same : (weights : List ℕ) (f : ℕ → ℕ) (width : ℕ) (r : PrefixRow) (cost other : ℕ) (inherited given : ℕ → ℕ) → IsWorth weights f width r cost inherited → cost ≡ other →
    ((v : ℕ) → v < 2 ^ width → prefix_holds width r.prefix v ≡ true → inherited v ≡ given v) → IsWorth weights f width r other given
worth_same weights f width r cost other inherited given h e same = record {
  saves = λ some others a.
      subst (λ n. n < weight weights others) e
      (h.saves some others (record { fits = a.fits; longer = a.longer; answers = λ v small held. ap (unwrap_or (front width others v)) (same v small held) ∙ a.answers v small held }));
  least = λ v small less others a. subst (λ n. n < weight weights others + slice_index weights (f v)) e (h.least v small less others a);
}

filter_step : (t : Bool) (r : PrefixRow) (rows : List PrefixRow) → t ≡ false → (if t then r ∷ rows else rows) ≡ rows
filter_step true r rows e = cc
filter_step false r rows e = refl

none_kept : (p : PrefixRow → Bool) (Q : PrefixRow → Type 0) (rows : List PrefixRow) → AllByRecursion Q rows → ((s : PrefixRow) → Q s → p s ≡ false) → filter p rows ≡ []
none_kept p Q [] h f = refl
none_kept p Q (s ∷ rows) h f = filter_step (p s) s (filter p rows) (f s h.0) ∙ none_kept p Q rows h.1 f

kept_step : (t : Bool) (r : PrefixRow) (rows : List PrefixRow) → t ≡ true → (if t then r ∷ rows else rows) ≡ r ∷ rows
kept_step true r rows e = refl
kept_step false r rows e = cc

all_kept : (p : PrefixRow → Bool) (Q : PrefixRow → Type 0) (rows : List PrefixRow) → AllByRecursion Q rows → ((s : PrefixRow) → Q s → p s ≡ true) → filter p rows ≡ rows
all_kept p Q [] h f = refl
all_kept p Q (s ∷ rows) h f = kept_step (p s) s (filter p rows) (f s h.0) ∙ ap (λ xs. s ∷ xs) (all_kept p Q rows h.1 f)

pub all_filter : (Q : PrefixRow → Type 0) (p : PrefixRow → Bool) (rows : List PrefixRow) → AllByRecursion Q rows → AllByRecursion Q (filter p rows)
all_filter Q p rows h = recursion_from_All Q (filter p rows) (All-filter p Q rows (All-from_recursion Q rows h))

lies_apart : (width : ℕ) (r s : PrefixRow) → (prefix_holds width r.prefix s.prefix.value ≡ true → ⊥) → lies_in width r s ≡ false
lies_apart width r s h = ap (λ t. nat_le r.prefix.len s.prefix.len && t) (not_true (prefix_holds width r.prefix s.prefix.value) h) ∙ and-false (nat_le r.prefix.len s.prefix.len)

lies_over : (width : ℕ) (r s : PrefixRow) → s.prefix.len < r.prefix.len → lies_in width r s ≡ false
lies_over width r s h = ap (λ t. t && prefix_holds width r.prefix s.prefix.value) (lt-leb r.prefix.len s.prefix.len h)

-- rows of parts that are apart don't lie in each other
lies_none : (width n one two : ℕ) (r s : PrefixRow) → AreApart n one two → IsInside width n one r → IsInside width n two s → lies_in width r s ≡ false
lies_none width n one two r s away i j =
    let some = pow_pos (width - s.prefix.len) in
    lies_apart width r s (λ h.
    let w = held_within width r s.prefix.value i.fits h in
    elim away [ inl le ↦ omega (arith, w.1, i.below, j.from, le) | inr le ↦ omega (arith, w.0, i.from, j.below, le) ])

held_outside : (width n one two v : ℕ) (r : PrefixRow) → AreApart n one two → IsInside width n one r → prefix_holds width r.prefix v ≡ true →
    (v < two) ⊎ (two + 2 ^ n ≤ v)
held_outside width n one two v r away i held =
    let w = held_within width r v i.fits held in
    elim away [ inl le ↦ inl (omega (arith, w.1, i.below, le)) | inr le ↦ inr (omega (arith, w.0, i.from, le)) ]

-- a row stays worth its weight beside the rows of a part that is apart
module _ (weights : List ℕ) (f : ℕ → ℕ) (width n d one two : ℕ) (xs ys : List PrefixRow) (r : PrefixRow) where
  abbrev here : PrefixRow → Bool
  here s = lies_in width r s

  abbrev there : PrefixRow → Bool
  there s = not (lies_in width r s)

  pub first-worth : AreApart n one two → AllByRecursion (IsInside width n two) ys → IsInside width n one r → IsWorthIn weights f width d xs r →
      IsWorthIn weights f width d (xs ++ ys) r
  first-worth away other inside h = λ weighs.
      let none = none_kept here (IsInside width n two) ys other (λ s j. lies_none width n one two r s away inside j) in
      let whole : within width r xs ≡ within width r (xs ++ ys) = sym (filter-append here xs ys ∙ ap (λ zs. within width r xs ++ zs) none ∙ append-nil (within width r xs)) in
      worth_same weights f width r _ _ _ _ (h weighs) (ap (weight weights) whole) (λ v small held.
      let out = front-outside width n two v (beside width r ys) (all_filter (IsInside width n two) there ys other)
      (held_outside width n one two v r away inside held) in
      sym
      (ap (λ zs. unwrap_or (front width zs v) d) (filter-append there xs ys)
      ∙ front-append width (beside width r xs) (beside width r ys) v d
      ∙ ap (λ o. unwrap_or (front width (beside width r xs) v) (unwrap_or o d)) out))

  pub second-worth : AreApart n one two → AllByRecursion (IsInside width n one) xs → IsInside width n two r → IsWorthIn weights f width d ys r →
      IsWorthIn weights f width d (xs ++ ys) r
  second-worth away other inside h = λ weighs.
      let turned : AreApart n two one = elim away [ inl le ↦ inr le | inr le ↦ inl le ] in
      let none = none_kept here (IsInside width n one) xs other (λ s j. lies_none width n two one r s turned inside j) in
      let whole : within width r ys ≡ within width r (xs ++ ys) = sym (filter-append here xs ys ∙ ap (λ zs. zs ++ within width r ys) none) in
      worth_same weights f width r _ _ _ _ (h weighs) (ap (weight weights) whole) (λ v small held.
      let out = front-outside width n one v (beside width r xs) (all_filter (IsInside width n one) there xs other)
      (held_outside width n two one v r turned inside held) in
      sym
      (ap (λ zs. unwrap_or (front width zs v) d) (filter-append there xs ys)
      ∙ front-append width (beside width r xs) (beside width r ys) v d
      ∙ ap (λ o. unwrap_or o (unwrap_or (front width (beside width r ys) v) d)) out))

-- rows of a part, once the part has a row of its own
pub under-worth : (weights : List ℕ) (f : ℕ → ℕ) (width bits low label d : ℕ) (rows : List PrefixRow) (r : PrefixRow) → IsPart width bits low → IsInside width bits low r → width < bits + r.prefix.len →
    IsWorthIn weights f width label rows r → IsWorthIn weights f width d (rows ++ row_of width bits low label ∷ []) r
under-worth weights f width bits low label d rows r p inside longer h = λ weighs.
    let own = row_of width bits low label in
    let here : PrefixRow → Bool = λ s. lies_in width r s in
    let there : PrefixRow → Bool = λ s. not (lies_in width r s) in
    let le = p.len in
    let over : lies_in width r own ≡ false = lies_over width r own (omega arith) in
    let none = filter_step (lies_in width r own) own [] over in
    let kept = kept_step (not (lies_in width r own)) own [] (ap not over) in
    let whole : within width r rows ≡ within width r (rows ++ own ∷ []) = sym (filter-append here rows (own ∷ []) ∙ ap (λ zs. within width r rows ++ zs) none ∙ append-nil (within width r rows)) in
    worth_same weights f width r _ _ _ _ (h weighs) (ap (weight weights) whole) (λ v small held.
    let w = held_within width r v inside.fits held in
    let held_too = row-holds width bits low label v p (omega (arith, w.0, inside.from)) (omega (arith, w.1, inside.below)) in
    sym
    (ap (λ zs. unwrap_or (front width zs v) d) (filter-append there rows (own ∷ []) ∙ ap (λ zs. beside width r rows ++ zs) kept)
    ∙ front-append width (beside width r rows) (own ∷ []) v d
    ∙ ap (unwrap_or (front width (beside width r rows) v)) (front_head (prefix_holds width own.prefix v) own None d held_too)))

own_has : (width bits low label : ℕ) (s : PrefixRow) → IsPart width bits low → IsInside width bits low s → lies_in width (row_of width bits low label) s ≡ true
own_has width bits low label s p inside =
    let short = p.len in
    let long = inside.len in
    let some = pow_pos (width - s.prefix.len) in
    let least : width - bits ≤ s.prefix.len = omega arith in
    ap (λ t. t && prefix_holds width (row_of width bits low label).prefix s.prefix.value) (le-leb (width - bits) s.prefix.len least)
    ∙ row-holds width bits low label s.prefix.value p inside.from (omega (arith, inside.below, some))

-- the row of the part itself
pub own-worth : (weights : List ℕ) (f : ℕ → ℕ) (width bits low label d cost : ℕ) (rows : List PrefixRow) → IsPart width bits low → AllByRecursion (IsInside width bits low) (rows ++ row_of width bits low label ∷ []) →
    cost ≡ weight weights rows + slice_index weights label → (0 < slice_index weights label → IsWorth weights f width (row_of width bits low label) cost (λ v. d)) →
    IsWorthIn weights f width d (rows ++ row_of width bits low label ∷ []) (row_of width bits low label)
own-worth weights f width bits low label d cost rows p inside e h = λ weighs.
    let own = row_of width bits low label in
    let all = rows ++ own ∷ [] in
    let here : PrefixRow → Bool = λ s. lies_in width own s in
    let there : PrefixRow → Bool = λ s. not (lies_in width own s) in
    let whole = all_kept here (IsInside width bits low) all inside (λ s i. own_has width bits low label s p i) in
    let none = none_kept there (IsInside width bits low) all inside (λ s i. ap not (own_has width bits low label s p i)) in
    let sum = sum_by-append (λ s. slice_index weights s.label) rows (own ∷ []) in
    let total : cost ≡ weight weights all = omega (arith, e, sum) in
    worth_same weights f width own cost _ (λ v. d) _ (h weighs) (total ∙ ap (weight weights) (sym whole)) (λ v small held. ap (λ zs. unwrap_or (front width zs v) d) (sym none))

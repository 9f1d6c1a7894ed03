-- The rows of the field, put into order: no right list weighs less, and which of those that weigh as little is chosen.
use Rattle.std.proofs.Common.{◌≡◌, ◌∷◌, ℕ, List, [], ◌+◌, ◌≤◌, Bool, true, false, refl, ap, arith, sym, ◌∙◌, inl, inr, subst, ◌-◌, ◌<◌, length, get_or, ◌++◌}
use Rattle.std.specs.Prelude.{cond, filter, find, Option, Some, None, option_map, sum_by, IsPermutation, not, ◌++◌, slice_index, unwrap_or}
use Rattle.std.specs.List.{All, AllByRecursion, Contains, AllPairs, HoldsAt}
use Rattle.std.specs.List.Sorted.{IsNonDecreasingBy}
use Rattle.std.proofs.lemmas.Bool.{false≢true, cases_lt}
use Rattle.std.proofs.lemmas.Option.{none-some}
use Rattle.std.proofs.lemmas.List.Kept.{IsNonDecreasingBy-filter}
use Rattle.std.proofs.lemmas.List.Sorted.{Contains-permutation, sum_by-IsPermutation, IsPermutation-filter_both, IsPermutation-sym, All-permutation}
use Rattle.std.proofs.lemmas.List.Sums.{sum_by-cons, sum_by-append}
use Rattle.std.proofs.lemmas.List.Elements.{All-from_recursion, All-contains, All-contains_itself, All-filter, All-weaker, Contains-append_cases, filter_passes, recursion_from_All, All-cons, All-head, All-nil, All-tail}
use Rattle.prefix_min.specs.declared.row.PrefixRow.{PrefixRow}
use Rattle.prefix_min.specs.PrefixList.{front, weight, IsRight, IsLeastWeight}
use Rattle.prefix_min.specs.Rows.{AreNested, Nests, AreFieldRows, IsInside, row_of}
use Rattle.prefix_min.proofs.Chosen.{all_filter}
use Rattle.prefix_min.proofs.Rows.{front-unheld, all_weaker, front-append, front_head}
use Rattle.prefix_min.proofs.Ordered.{IsLongest, found, holds, label_of, longest_first, short, same, parts_same, always, front_kept, one_counted, two_counted, values_rise}
use Rattle.field_boxes.specs.Headline.Prefix.{FitsWidth, prefix_holds}
use Rattle.prefix_min.specs.Order.{ComesBefore, InOrder, TiesRise}
use Rattle.std.proofs.lemmas.List.{get_or_default}
use Rattle.prefix_min.specs.declared.piece.Piece.{Piece}
use Rattle.prefix_min.specs.declared.plan.Choice.{Choice}
use Rattle.prefix_min.specs.Field.{IsWhole}
use Rattle.prefix_min.specs.Pieces.{label_at}
use Rattle.prefix_min.specs.Plan.{rows_of}
use Rattle.prefix_min.specs.Trie.{costs_of}
use Rattle.prefix_min.proofs.Whole.{IsFresh, least}
use Rattle.std.proofs.lemmas.List.Filters.{sum_by-filter_both}
use Rattle.prefix_min.specs.Choice.{AnswerIn, IsChosen, IsLonger, IsWorth, IsWorthIn, beside, lies_in, relabelled, within}

nested_step : (width : ℕ) (t : Bool) (r : PrefixRow) (rows : List PrefixRow) → AllByRecursion (Nests width r) rows → AreNested width rows → AreNested width (cond t (r ∷ rows) rows)
nested_step width true r rows h g = (h, g)
nested_step width false r rows h g = g

nested_filter : (width : ℕ) (p : PrefixRow → Bool) (rows : List PrefixRow) → AreNested width rows → AreNested width (filter p rows)
nested_filter width p [] h = tt
nested_filter width p (r ∷ rows) h = nested_step width (p r) r (filter p rows) (all_filter (Nests width r) p rows h.0) (nested_filter width p rows h.1)

from_filter : (p : PrefixRow → Bool) (rows : List PrefixRow) (r : PrefixRow) → Contains (filter p rows) r → Contains rows r × (p r ≡ true)
from_filter p rows r h = (
  All-contains (Contains rows) (filter p rows) r (All-filter p (Contains rows) rows (All-contains_itself rows)) h,
  All-contains (λ x. p x ≡ true) (filter p rows) r (filter_passes p rows) h,
)

to_filter : (p : PrefixRow → Bool) (rows : List PrefixRow) (r : PrefixRow) → Contains rows r → p r ≡ true → Contains (filter p rows) r
to_filter p rows r h passes =
    let q : PrefixRow → Bool = λ x. not (p x) in
    let there = Contains-permutation rows (filter p rows ++ filter q rows) r (IsPermutation-filter_both p q (λ x. refl) rows) h in
    elim (Contains-append_cases (filter p rows) (filter q rows) r there) [
      | inl k ↦ k
      | inr k ↦ absurd (false≢true (sym (ap not passes) ∙ All-contains (λ x. q x ≡ true) (filter q rows) r (filter_passes q rows) k))
    ]

-- what holds of the rows that pass holds of them in any order
all_moved : (p : PrefixRow → Bool) (P : PrefixRow → Type 0) (rows sorted : List PrefixRow) → IsPermutation rows sorted → AllByRecursion P (filter p rows) → All P (filter p sorted)
all_moved p P rows sorted same h =
    All-weaker (Contains (filter p sorted)) P (λ r there.
    let k = from_filter p sorted r there in
    All-contains P (filter p rows) r (All-from_recursion P (filter p rows) h)
    (to_filter p rows r (Contains-permutation sorted rows r (IsPermutation-sym rows sorted same) k.0) k.1)) (filter p sorted)
    (All-contains_itself (filter p sorted))

-- no row holds the value
abbrev Unheld : ℕ → ℕ → PrefixRow → Type 0
Unheld width v r = holds width v r ≡ false

unheld_step : (width v : ℕ) (t : Bool) (x : PrefixRow) (rows : List PrefixRow) → holds width v x ≡ t → option_map (λ r. r.label) (cond t (Some x) (find (holds width v) rows)) ≡ None →
    (front width rows v ≡ None → AllByRecursion (Unheld width v) rows) → AllByRecursion (Unheld width v) (x ∷ rows)
unheld_step width v true x rows e h k = absurd (none-some x.label (sym h))
unheld_step width v false x rows e h k = (e, k h)

unheld : (width v : ℕ) (rows : List PrefixRow) → front width rows v ≡ None → AllByRecursion (Unheld width v) rows
unheld width v [] h = tt
unheld width v (x ∷ rows) h = unheld_step width v (holds width v x) x rows refl h (unheld width v rows)

module _ (width v : ℕ) (p : PrefixRow → Bool) (rows sorted : List PrefixRow) (nested : AreNested width rows) (same : IsPermutation rows sorted) (order : IsNonDecreasingBy short sorted) (small : All (λ r. r.prefix.len ≤ 32) rows) where
  some_kept : (x : ℕ) → front width (filter p rows) v ≡ Some x → front width (filter p sorted) v ≡ Some x
  some_kept x h =
      let l = label_of (find (holds width v) (filter p rows)) x h in
      let r = l.0 in
      let f = found width v r (filter p rows) (nested_filter width p rows nested) l.1 in
      let there = from_filter p rows r f.there in
      let len : r.prefix.len ≤ 32 = subst (λ y. y.prefix.len ≤ 32) there.0.2 (small there.0.0 r there.0.1) in
      let all = all_moved p (IsLongest width v r) rows sorted same f.longest in
      let moved = to_filter p sorted r (Contains-permutation rows sorted r same there.0) there.1 in
      ap (option_map (λ y. y.label)) (longest_first width v r (filter p sorted) f.held (IsNonDecreasingBy-filter short p sorted order) len all moved) ∙ ap Some l.2

  by_front : (o : Option ℕ) → front width (filter p rows) v ≡ o → front width (filter p sorted) v ≡ o
  by_front None h = front-unheld width v (filter p sorted)
      (recursion_from_All (Unheld width v) (filter p sorted) (all_moved p (Unheld width v) rows sorted same (unheld width v (filter p rows) h)))
  by_front (Some x) h = some_kept x h

  -- the order keeps what the first of the rows that pass says
  pub sifted_front : front width (filter p sorted) v ≡ front width (filter p rows) v
  sifted_front = by_front (front width (filter p rows) v) refl

count_step : (w : PrefixRow → ℕ) (t : Bool) (x : PrefixRow) (kept : List PrefixRow) (n : ℕ) → sum_by w kept ≡ n → sum_by w (cond t (x ∷ kept) kept) ≡ cond t (w x) 0 + n
count_step w true x kept n h = sum_by-cons w x kept ∙ ap (λ m. w x + m) h
count_step w false x kept n h = omega (arith, h)

sum_sifted : (w : PrefixRow → ℕ) (p : PrefixRow → Bool) (rows : List PrefixRow) → sum_by w (filter p rows) ≡ sum_by (λ r. cond (p r) (w r) 0) rows
sum_sifted w p [] = refl
sum_sifted w p (x ∷ rows) = count_step w (p x) x (filter p rows) (sum_by (λ r. cond (p r) (w r) 0) rows) (sum_sifted w p rows) ∙ sym (sum_by-cons (λ r. cond (p r) (w r) 0) x rows)

-- and what they weigh
pub sifted_weight : (w : PrefixRow → ℕ) (p : PrefixRow → Bool) (rows sorted : List PrefixRow) → IsPermutation rows sorted → sum_by w (filter p sorted) ≡ sum_by w (filter p rows)
sifted_weight w p rows sorted same = sum_sifted w p sorted ∙ sum_by-IsPermutation (λ r. cond (p r) (w r) 0) rows sorted same ∙ sym (sum_sifted w p rows)

strictly : (a b : ℕ) → a ≤ b → (a ≡ b → ⊥) → a < b
strictly a b le ne = elim (cases_lt a b) [ inl lt ↦ lt | inr ge ↦ absurd (ne (omega (arith, le, ge))) ]

none_left : (width : ℕ) → width - width ≡ 0
none_left width = omega arith

-- rows of the field fit it, and give each value its label
pub fits-rows : {weights : List ℕ} {f : ℕ → ℕ} {width cost : ℕ} {rows : List PrefixRow} → AreFieldRows weights f width cost rows →
    AllByRecursion (λ r. FitsWidth width r.prefix) rows
fits-rows {width = width} {rows = rows} are = all_weaker (IsInside width width 0) (λ r. FitsWidth width r.prefix) rows (λ r i. i.fits) (are.part 0).inside

pub field-right : {weights : List ℕ} {f : ℕ → ℕ} {width cost : ℕ} {rows : List PrefixRow} → AreFieldRows weights f width cost rows → IsRight width f rows
field-right {f = f} {width = width} {rows = rows} are = record {
  fits = All-from_recursion (λ r. FitsWidth width r.prefix) rows (fits-rows are);
  answers = λ v below. always (front width rows v) (f v) (λ d. (are.part d).answers v (omega arith) (omega (arith, below)));
}

module _ {weights : List ℕ} {f : ℕ → ℕ} {width cost : ℕ} {rows : List PrefixRow} (sorted : List PrefixRow) (are : AreFieldRows weights f width cost rows)
    (wide : width ≤ 32)
    (perm : IsPermutation rows sorted) (order : IsNonDecreasingBy short sorted) (ties : TiesRise sorted) where
  fits_sorted : All (λ r. FitsWidth width r.prefix) sorted
  fits_sorted = All-permutation (λ r. FitsWidth width r.prefix) rows sorted perm (field-right are).fits

  pub labels : All (λ r. r.label < length weights) sorted
  labels = All-permutation (λ r. r.label < length weights) rows sorted perm (All-from_recursion (λ r. r.label < length weights) rows (are.part 0).labels)

  pub right : IsRight width f sorted
  right = record {
    fits = fits_sorted;
    answers = λ v below. front_kept width v (f v) rows sorted (are.part 0).nested perm order
        (λ k d lt. let fit = (field-right are).fits k d lt in omega (arith, fit.len, wide)) ((field-right are).answers v below);
  }

  pub weighs : weight weights sorted ≡ cost
  weighs = sum_by-IsPermutation (λ r. slice_index weights r.label) rows sorted perm ∙ (are.part 0).weighs

  unlike : (j k : ℕ) (d : PrefixRow) → j < k → k < length sorted → (get_or sorted j d).prefix.value ≡ (get_or sorted k d).prefix.value → (get_or sorted j d).prefix.len ≡ (get_or sorted k d).prefix.len → ⊥
  unlike j k d less lt e g =
      let p = get_or sorted k d in
      let twice = two_counted p sorted j k d less lt (parts_same p (get_or sorted j d) (sym e) (sym g)) (parts_same p p refl refl) in
      let kept = sum_by-IsPermutation (λ x. cond (same p x) 1 0) rows sorted perm in
      omega (arith, twice, kept, one_counted width p rows (fits-rows are) (are.part 0).nested)

  rising : (j k : ℕ) (d : PrefixRow) → j < k → k < length sorted → (get_or sorted j d).prefix.len ≡ (get_or sorted k d).prefix.len → (get_or sorted j d).prefix.value < (get_or sorted k d).prefix.value
  rising j k d less lt e =
      let at : j + (k - j) ≡ k = omega (arith, less) in
      let P : ℕ → Type 0 = λ i. (get_or sorted j d).prefix.value ≤ (get_or sorted i d).prefix.value in
      let up = subst P at (values_rise sorted order ties j (k - j) d (omega (arith, at, lt)) (ap (λ n. 255 - n) e ∙ ap (λ i. short (get_or sorted i d)) (sym at))) in
      strictly (get_or sorted j d).prefix.value (get_or sorted k d).prefix.value up (λ v. unlike j k d less lt v e)

  before : AllPairs ComesBefore sorted
  before j k d less lt =
      let down = order j k d (omega (arith, less)) lt in
      let long = (fits_sorted j d (omega (arith, less, lt))).len in
      let other = (fits_sorted k d lt).len in
      elim (cases_lt (get_or sorted k d).prefix.len (get_or sorted j d).prefix.len) [
        | inl shorter ↦ inl shorter
        | inr no_shorter ↦
            let equal : (get_or sorted j d).prefix.len ≡ (get_or sorted k d).prefix.len = omega (arith, down, long, other, no_shorter, wide) in
            inr (equal, rising j k d less lt equal)
      ]

  last : HoldsAt (λ r. r.prefix.len ≡ 0) sorted (length sorted - 1)
  last d =
      let own = row_of width width 0 are.label in
      let h = Contains-permutation rows sorted own perm are.whole in
      let down = order h.0 (length sorted - 1) d (omega (arith, h.1)) (omega (arith, h.1)) in
      let whole : (get_or sorted h.0 d).prefix.len ≡ 0 = ap (λ r. r.prefix.len) (get_or_default sorted h.0 d own h.1 ∙ h.2) ∙ none_left width in
      omega (arith, down, whole, (fits_sorted (length sorted - 1) d (omega (arith, h.1))).len, wide)

  pub in-order : InOrder sorted
  in-order = record { before = before; some = let h = Contains-permutation rows sorted (row_of width width 0 are.label) perm are.whole in omega (arith, h.1); last = last }

-- what the whole field costs is the least weight, whatever label its row has
pub least-weight : {keeps : Bool} {weights : List ℕ} {pieces : List Piece} {width label cost : ℕ} {choices : List Choice} {also : List ℕ} →
    IsWhole keeps weights pieces width label cost choices also →
    IsLeastWeight weights width (label_at pieces) cost
least-weight {weights = weights} {pieces = pieces} {width = width} {label = label} whole =
    let f = label_at pieces in
    let fresh : IsFresh (costs_of whole.node) (length weights) = λ h. absurd (omega (arith, whole.within (length weights) h)) in
    let rows = rows_of width whole.forest label ++ row_of width width 0 label ∷ [] in
    record {
      rows = rows;
      right = field-right whole.rows;
      labels = All-from_recursion (λ r. r.label < length weights) rows (whole.rows.part 0).labels;
      weighs = (whole.rows.part 0).weighs ∙ whole.row;
      least = λ others is_right. subst (λ n. n ≤ weight weights others) whole.row (least weights f width whole.node (length weights) whole.stands fresh others is_right);
    }

all_left : (P : PrefixRow → Type 0) (xs ys : List PrefixRow) → All P (xs ++ ys) → All P xs
all_left P [] ys h = All-nil P
all_left P (x ∷ xs) ys h = All-cons P x xs (All-head P x (xs ++ ys) h) (all_left P xs ys (All-tail P x (xs ++ ys) h))

module _ {weights : List ℕ} {f : ℕ → ℕ} {width cost : ℕ} {rows : List PrefixRow} (sorted : List PrefixRow) (are : AreFieldRows weights f width cost rows)
    (wide : width ≤ 32)
    (perm : IsPermutation rows sorted) (order : IsNonDecreasingBy short sorted) where
  inherits : (r : PrefixRow) (v : ℕ) → front width (beside width r sorted) v ≡ front width (beside width r rows) v
  inherits r v =
      sifted_front width v (λ s. not (lies_in width r s)) rows sorted (are.part 0).nested perm order
      (λ k d lt. let fit = (field-right are).fits k d lt in omega (arith, fit.len, wide))

  weighs_apart : (r : PrefixRow) → weight weights (within width r rows) + weight weights (beside width r sorted) ≡ weight weights sorted
  weighs_apart r =
      let w : PrefixRow → ℕ = λ s. slice_index weights s.label in
      ap (λ n. n + weight weights (beside width r sorted)) (sym (sifted_weight w (λ s. lies_in width r s) rows sorted perm))
      ∙ sum_by-filter_both (λ s. lies_in width r s) (λ s. not (lies_in width r s)) (λ s. refl) w sorted

  answer_beside : (r : PrefixRow) (others : List PrefixRow) → All (IsLonger r.prefix.len) others → IsRight width f (others ++ beside width r sorted) →
      AnswerIn f width r (λ v. unwrap_or (front width (beside width r rows) v) 0) others
  answer_beside r others longer right = record {
    fits = all_left (λ s. FitsWidth width s.prefix) others (beside width r sorted) right.fits;
    longer = longer;
    answers = λ v small held.
        ap (λ o. unwrap_or (front width others v) (unwrap_or o 0)) (sym (inherits r v))
        ∙ sym (front-append width others (beside width r sorted) v 0)
        ∙ ap (λ o. unwrap_or o 0) (right.answers v small);
  }

  answer_over : (r : PrefixRow) (label : ℕ) (others : List PrefixRow) → All (IsLonger r.prefix.len) others → IsRight width f (others ++ relabelled r label ∷ beside width r sorted) →
      AnswerIn f width r (λ v. label) others
  answer_over r label others longer right =
      let own = relabelled r label in
      record {
        fits = all_left (λ s. FitsWidth width s.prefix) others (own ∷ beside width r sorted) right.fits;
        longer = longer;
        answers = λ v small held.
            ap (unwrap_or (front width others v)) (sym (front_head (prefix_holds width r.prefix v) own (find (λ x. prefix_holds width x.prefix v) (beside width r sorted)) 0 held))
            ∙ sym (front-append width others (own ∷ beside width r sorted) v 0)
            ∙ ap (λ o. unwrap_or o 0) (right.answers v small);
      }

  choose : (r : PrefixRow) → IsWorth weights f width r (weight weights (within width r rows)) (λ v. unwrap_or (front width (beside width r rows) v) 0) → IsChosen weights f width sorted r
  choose r worth =
      let w : PrefixRow → ℕ = λ s. slice_index weights s.label in
      record {
        saves = λ some others longer right.
            let more = worth.saves some others (answer_beside r others longer right) in
            let sum = sum_by-append w others (beside width r sorted) in
            omega (arith, weighs_apart r, more, sum);
        least = λ v small less others longer right.
            let more = worth.least v small less others (answer_over r (f v) others longer right) in
            let own = relabelled r (f v) in
            let sum = sum_by-append w others (own ∷ beside width r sorted) in
            let head = sum_by-cons w own (beside width r sorted) in
            omega (arith, weighs_apart r, more, sum, head);
      }

  -- each row that weighs something
  pub chosen : All (λ r. 0 < slice_index weights r.label → IsChosen weights f width sorted r) sorted
  chosen = λ k d lt weighs. choose (get_or sorted k d) (All-permutation (IsWorthIn weights f width 0 rows) rows sorted perm (All-from_recursion (IsWorthIn weights f width 0 rows) rows (are.part 0).worth) k d lt weighs)

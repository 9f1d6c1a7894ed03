-- Rows of the field that are put into order, and the number by which they stand.
use Rattle.std.proofs.Common.{◌≡◌, ◌∷◌, ℕ, zero, suc, List, [], ◌+◌, ◌-◌, ◌<◌, ◌≤◌, Bool, true, false, refl, ap, arith, sym, ◌∙◌, inl, inr, subst, eq-eqb, length, get_or, ◌*◌, min, mul-le-mul_right, suc-mul}
use Rattle.std.specs.Prelude.{◌⊎◌, ◌&&◌, cond, find, Option, Some, None, option_map, unwrap_or, ◌==◌, count_by, IsPermutation}
use Rattle.std.specs.List.{All, AllByRecursion, Contains}
use Rattle.std.specs.List.Sorted.{IsNonDecreasingBy}
use Rattle.std.proofs.lemmas.Bool.{false≢true, eqb-true, cases_lt}
use Rattle.std.proofs.lemmas.Option.{none-some}
use Rattle.std.proofs.lemmas.List.Sums.{sum_by-cons}
use Rattle.std.proofs.lemmas.List.Sorted.{All-permutation, Contains-permutation}
use Rattle.std.proofs.lemmas.List.Elements.{All-from_recursion, All-head, All-tail}
use Rattle.field_boxes.specs.Headline.Prefix.{FitsWidth, prefix_holds}
use Rattle.prefix_min.specs.declared.row.PrefixRow.{PrefixRow}
use Rattle.prefix_min.specs.PrefixList.{front}
use Rattle.prefix_min.specs.Order.{TiesRise}
use Rattle.prefix_min.specs.Rows.{AreNested, Nests}
use Rattle.prefix_min.proofs.Rows.{within-held, all_weaker, both}
use Rattle.std.proofs.lemmas.Nat.{pow_pos}

-- what is left of the greatest length
abbrev pub short : PrefixRow → ℕ
short r = 255 - r.prefix.len

abbrev pub holds : ℕ → ℕ → PrefixRow → Bool
holds width v r = prefix_holds width r.prefix v

-- an answer for every inherited label is an answer of the rows
pub always : (o : Option ℕ) (x : ℕ) → ((d : ℕ) → unwrap_or o d ≡ x) → o ≡ Some x
always None x h = absurd (omega (arith, h (x + 1)))
always (Some y) x h = ap Some (h 0)

-- no other row that holds the value is as long
abbrev pub IsLongest : ℕ → ℕ → PrefixRow → PrefixRow → Type 0
IsLongest width v r s = holds width v s ≡ true → (s ≡ r) ⊎ (s.prefix.len < r.prefix.len)

pub record IsFound (width v : ℕ) (r : PrefixRow) (rows : List PrefixRow) : Type 0 where
  pub held : holds width v r ≡ true
  pub there : Contains rows r
  pub longest : AllByRecursion (IsLongest width v r) rows

pub later_there : (x r : PrefixRow) (rows : List PrefixRow) → Contains rows r → Contains (x ∷ rows) r
later_there x r rows h = (suc h.0, omega (arith, h.1), h.2)

found_step : (width v : ℕ) (t : Bool) (x r : PrefixRow) (rows : List PrefixRow) → holds width v x ≡ t → AllByRecursion (Nests width x) rows →
    cond t (Some x) (find (holds width v) rows) ≡ Some r → (find (holds width v) rows ≡ Some r → IsFound width v r rows) → IsFound width v r (x ∷ rows)
found_step width v true x r rows e nests h k =
    let same : x ≡ r = cc in
    let all = all_weaker (Nests width x) (IsLongest width v x) rows (λ s n held. inr (n v e held)) nests in
    subst (λ y. IsFound width v y (x ∷ rows)) same (record { held = e; there = (0, omega arith, refl); longest = ((λ held. inl refl), all) })
found_step width v false x r rows e nests h k =
    let f = k h in
    record { held = f.held; there = later_there x r rows f.there; longest = ((λ held. absurd (false≢true (sym e ∙ held))), f.longest) }

-- the first row that holds a value is the longest that does
pub found : (width v : ℕ) (r : PrefixRow) (rows : List PrefixRow) → AreNested width rows → find (holds width v) rows ≡ Some r → IsFound width v r rows
found width v r [] nested h = absurd (none-some r h)
found width v r (x ∷ rows) nested h = found_step width v (holds width v x) x r rows refl nested.0 h (found width v r rows nested.1)

short_tail : (x : PrefixRow) (rows : List PrefixRow) → IsNonDecreasingBy short (x ∷ rows) → IsNonDecreasingBy short rows
short_tail x rows h i j d le lt = h (suc i) (suc j) d (omega (arith, le)) (omega (arith, lt))

short_head : (x d : PrefixRow) (k : ℕ) (rows : List PrefixRow) → IsNonDecreasingBy short (x ∷ rows) → k < length rows → short x ≤ short (get_or rows k d)
short_head x d k rows h lt = h 0 (suc k) d (omega arith) (omega (arith, lt))

there_at : (x r : PrefixRow) (rows : List PrefixRow) (k : ℕ) → k < length (x ∷ rows) → get_or (x ∷ rows) k r ≡ r → (x ≡ r) ⊎ Contains rows r
there_at x r rows zero lt e = inl e
there_at x r rows (suc k) lt e = inr (k, omega (arith, lt), e)

pub there_cases : (x r : PrefixRow) (rows : List PrefixRow) → Contains (x ∷ rows) r → (x ≡ r) ⊎ Contains rows r
there_cases x r rows h = there_at x r rows h.0 h.1 h.2

not_longer : (x r : PrefixRow) (rows : List PrefixRow) → IsNonDecreasingBy short (x ∷ rows) → r.prefix.len ≤ 32 → x.prefix.len < r.prefix.len → Contains (x ∷ rows) r → ⊥
not_longer x r rows sorted small lt h = elim (there_cases x r rows h) [
  | inl e ↦ omega (arith, ap (λ y. y.prefix.len) e, lt)
  | inr k ↦ omega (arith, short_head x r k.0 rows sorted k.1, ap (λ y. y.prefix.len) k.2, lt, small)
]

first_step : (width v : ℕ) (t : Bool) (x r : PrefixRow) (rows : List PrefixRow) → holds width v x ≡ t → holds width v r ≡ true → IsNonDecreasingBy short (x ∷ rows) → r.prefix.len ≤ 32 →
    IsLongest width v r x → Contains (x ∷ rows) r → (Contains rows r → find (holds width v) rows ≡ Some r) → cond t (Some x) (find (holds width v) rows) ≡ Some r
first_step width v true x r rows e held sorted small longest there k = elim (longest e) [
  | inl same ↦ ap Some same
  | inr lt ↦ absurd (not_longer x r rows sorted small lt there)
]
first_step width v false x r rows e held sorted small longest there k = elim (there_cases x r rows there) [
  | inl same ↦ absurd (false≢true (sym e ∙ ap (holds width v) same ∙ held))
  | inr later ↦ k later
]

-- where the longest come first, the longest that holds a value is the first that does
pub longest_first : (width v : ℕ) (r : PrefixRow) (rows : List PrefixRow) → holds width v r ≡ true → IsNonDecreasingBy short rows → r.prefix.len ≤ 32 →
    All (IsLongest width v r) rows → Contains rows r → find (holds width v) rows ≡ Some r
longest_first width v r [] held sorted small longest there = absurd (omega (arith, there.1))
longest_first width v r (x ∷ rows) held sorted small longest there =
    first_step width v (holds width v x) x r rows refl held sorted small (All-head (IsLongest width v r) x rows longest) there
    (λ later. longest_first width v r rows held (short_tail x rows sorted) small (All-tail (IsLongest width v r) x rows longest) later)

pub label_of : (o : Option PrefixRow) (x : ℕ) → option_map (λ r. r.label) o ≡ Some x → (r : PrefixRow) × (o ≡ Some r) × (r.label ≡ x)
label_of None x h = absurd (none-some x h)
label_of (Some r) x h = (r, refl, ap (λ o. unwrap_or o 0) h)

-- the order keeps what each value's first row says
pub front_kept : (width v x : ℕ) (rows sorted : List PrefixRow) → AreNested width rows → IsPermutation rows sorted → IsNonDecreasingBy short sorted →
    All (λ r. r.prefix.len ≤ 32) rows → front width rows v ≡ Some x → front width sorted v ≡ Some x
front_kept width v x rows sorted nested same order small h =
    let l = label_of (find (holds width v) rows) x h in
    let r = l.0 in
    let f = found width v r rows nested l.1 in
    let len : r.prefix.len ≤ 32 = subst (λ y. y.prefix.len ≤ 32) f.there.2 (small f.there.0 r f.there.1) in
    let all = All-permutation (IsLongest width v r) rows sorted same (All-from_recursion (IsLongest width v r) rows f.longest) in
    ap (option_map (λ y. y.label)) (longest_first width v r sorted f.held order len all (Contains-permutation rows sorted r same f.there)) ∙ ap Some l.2

-- whether two rows have one prefix
abbrev pub same : PrefixRow → PrefixRow → Bool
same r s = (r.prefix.value == s.prefix.value) && (r.prefix.len == s.prefix.len)

same_parts : (r s : PrefixRow) → same r s ≡ true → (r.prefix.value ≡ s.prefix.value) × (r.prefix.len ≡ s.prefix.len)
same_parts r s h =
    let parts = both (r.prefix.value == s.prefix.value) (r.prefix.len == s.prefix.len) h in
    (eqb-true r.prefix.value s.prefix.value parts.0, eqb-true r.prefix.len s.prefix.len parts.1)

pub parts_same : (r s : PrefixRow) → r.prefix.value ≡ s.prefix.value → r.prefix.len ≡ s.prefix.len → same r s ≡ true
parts_same r s e f = rw (eq-eqb r.prefix.value s.prefix.value e, eq-eqb r.prefix.len s.prefix.len f) refl

-- a row holds its own value, and so do all rows of its prefix
own_held : (width : ℕ) (r s : PrefixRow) → FitsWidth width s.prefix → r.prefix.value ≡ s.prefix.value → holds width r.prefix.value s ≡ true
own_held width r s fits e = within-held width s r.prefix.value fits (omega (arith, e)) (omega (arith, e, pow_pos (width - s.prefix.len)))

-- rows that nest have different prefixes
nests_apart : (width : ℕ) (p r s : PrefixRow) → FitsWidth width r.prefix → FitsWidth width s.prefix → Nests width r s → same p r ≡ true → same p s ≡ true → ⊥
nests_apart width p r s fr fs nests e f =
    let a = same_parts p r e in
    let b = same_parts p s f in
    omega (arith, nests p.prefix.value (own_held width p r fr a.0) (own_held width p s fs b.0), a.1, b.1)

none_counted_step : (t : Bool) (p r : PrefixRow) (rows : List PrefixRow) → same p r ≡ t → (same p r ≡ true → ⊥) → count_by (same p) rows ≡ 0 → count_by (same p) (r ∷ rows) ≡ 0
none_counted_step true p r rows e never h = absurd (never e)
none_counted_step false p r rows e never h = omega (arith, sum_by-cons (λ x. cond (same p x) 1 0) r rows, ap {B = ℕ} (λ t. cond t 1 0) e, h)

none_counted : (width : ℕ) (p x : PrefixRow) (rows : List PrefixRow) → FitsWidth width x.prefix → same p x ≡ true → AllByRecursion (λ r. FitsWidth width r.prefix) rows → AllByRecursion (Nests width x) rows →
    count_by (same p) rows ≡ 0
none_counted width p x [] fx e fits nests = refl
none_counted width p x (r ∷ rows) fx e fits nests =
    none_counted_step (same p r) p r rows refl (λ t. nests_apart width p x r fx fits.0 nests.0 e t) (none_counted width p x rows fx e fits.1 nests.1)

one_counted_step : (t : Bool) (p r : PrefixRow) (rows : List PrefixRow) → same p r ≡ t → (same p r ≡ true → count_by (same p) rows ≡ 0) → count_by (same p) rows ≤ 1 → count_by (same p) (r ∷ rows) ≤ 1
one_counted_step true p r rows e none h = omega (arith, sum_by-cons (λ x. cond (same p x) 1 0) r rows, ap {B = ℕ} (λ t. cond t 1 0) e, none e)
one_counted_step false p r rows e none h = omega (arith, sum_by-cons (λ x. cond (same p x) 1 0) r rows, ap {B = ℕ} (λ t. cond t 1 0) e, h)

-- no prefix has two rows
pub one_counted : (width : ℕ) (p : PrefixRow) (rows : List PrefixRow) → AllByRecursion (λ r. FitsWidth width r.prefix) rows → AreNested width rows → count_by (same p) rows ≤ 1
one_counted width p [] fits nested = omega arith
one_counted width p (r ∷ rows) fits nested =
    one_counted_step (same p r) p r rows refl (λ t. none_counted width p r rows fits.0 t fits.1 nested.0) (one_counted width p rows fits.1 nested.1)

counted_at : (p : PrefixRow) (rows : List PrefixRow) (k : ℕ) (d : PrefixRow) → k < length rows → same p (get_or rows k d) ≡ true → 1 ≤ count_by (same p) rows
counted_at p [] k d lt e = absurd (omega (arith, lt))
counted_at p (r ∷ rows) zero d lt e = omega (arith, sum_by-cons (λ x. cond (same p x) 1 0) r rows, ap {B = ℕ} (λ t. cond t 1 0) e)
counted_at p (r ∷ rows) (suc k) d lt e = omega (arith, sum_by-cons (λ x. cond (same p x) 1 0) r rows, counted_at p rows k d (omega (arith, lt)) e)

-- two rows of one prefix are counted twice
pub two_counted : (p : PrefixRow) (rows : List PrefixRow) (j k : ℕ) (d : PrefixRow) → j < k → k < length rows → same p (get_or rows j d) ≡ true → same p (get_or rows k d) ≡ true → 2 ≤ count_by (same p) rows
two_counted p [] j k d less lt e f = absurd (omega (arith, lt))
two_counted p (r ∷ rows) j zero d less lt e f = absurd (omega (arith, less))
two_counted p (r ∷ rows) zero (suc k) d less lt e f =
    omega (arith, sum_by-cons (λ x. cond (same p x) 1 0) r rows, ap {B = ℕ} (λ t. cond t 1 0) e, counted_at p rows k d (omega (arith, lt)) f)
two_counted p (r ∷ rows) (suc j) (suc k) d less lt e f =
    omega (arith, sum_by-cons (λ x. cond (same p x) 1 0) r rows, two_counted p rows j k d (omega (arith, less)) (omega (arith, lt)) e f)

next_at : (rows : List PrefixRow) (i n : ℕ) (d : PrefixRow) → get_or rows (i + suc n) d ≡ get_or rows (i + n + 1) d
next_at rows i n d = let e : i + suc n ≡ i + n + 1 = omega arith in ap (λ k. get_or rows k d) e

-- among rows of one length the values rise
pub values_rise : (rows : List PrefixRow) → IsNonDecreasingBy short rows → TiesRise rows → (i n : ℕ) (d : PrefixRow) → i + n < length rows → short (get_or rows i d) ≡ short (get_or rows (i + n) d) →
    (get_or rows i d).prefix.value ≤ (get_or rows (i + n) d).prefix.value
values_rise rows sorted ties i zero d lt e = let here : i + 0 ≡ i = omega arith in omega (arith, ap (λ k. (get_or rows k d).prefix.value) here)
values_rise rows sorted ties i (suc n) d lt e =
    let next = next_at rows i n d in
    let up = sorted i (i + n) d (omega arith) (omega (arith, lt)) in
    let more = sorted (i + n) (i + n + 1) d (omega arith) (omega (arith, lt)) in
    let last = ap short next in
    let here : short (get_or rows i d) ≡ short (get_or rows (i + n) d) = omega (arith, e, up, more, last) in
    let there : short (get_or rows (i + n) d) ≡ short (get_or rows (i + n + 1) d) = omega (arith, e, up, more, last) in
    omega (arith, values_rise rows sorted ties i n d (omega (arith, lt)) here, ties (i + n) d (omega (arith, lt)) there, ap (λ r. r.prefix.value) next)

abbrev pub ranked : ℕ → PrefixRow → ℕ
ranked step r = (255 - r.prefix.len) * step + r.prefix.value

-- the same where no value reaches a step
abbrev pub cut : ℕ → PrefixRow → ℕ
cut step r = (255 - r.prefix.len) * step + min r.prefix.value (step - 1)

pub ranked-cut : (step n : ℕ) (r : PrefixRow) → n ≡ ranked step r → r.prefix.value < step → n ≡ cut step r
ranked-cut step n r is lt = omega (arith, is, lt)

steps_le : (step s t v w : ℕ) → 0 < step → s * step + min v (step - 1) ≤ t * step + min w (step - 1) → s ≤ t
steps_le step s t v w some h = elim (cases_lt t s) [
  | inl lt ↦
      let more : suc t * step ≤ s * step = mul-le-mul_right step (omega (arith, lt)) in
      absurd (omega (arith, more, suc-mul t step, h, some))
  | inr le ↦ le
]

pub longest-first : (step : ℕ) (rows : List PrefixRow) → 0 < step → IsNonDecreasingBy (cut step) rows → IsNonDecreasingBy (λ r. 255 - r.prefix.len) rows
longest-first step rows some h i j d le lt = steps_le step _ _ _ _ some (h i j d le lt)

pub ties-rise : (step : ℕ) (rows : List PrefixRow) → IsNonDecreasingBy (ranked step) rows → TiesRise rows
ties-rise step rows h k d lt same = omega (arith, h k (k + 1) d (omega arith) lt, ap (λ s. s * step) same)

-- The rows that are written for a part, from those of its halves.
use Rattle.std.proofs.Common.{inl, inr, ◌≡◌, ◌∷◌, ◌++◌, ℕ, suc, List, [], ◌+◌, ◌^◌, ◌<◌, ◌≤◌, refl, ap, arith, sym, ◌∙◌, length, ◌≢◌, ◌-◌, subst}
use Rattle.std.specs.Prelude.{◌⊎◌, unwrap_or, slice_index, None}
use Rattle.std.specs.List.{AllByRecursion}
use Rattle.std.proofs.lemmas.Bool.{cases_lt}
use Rattle.std.proofs.lemmas.List.Sums.{sum_by-append}
use Rattle.field_boxes.specs.Headline.Prefix.{prefix_holds}
use Rattle.field_boxes.proofs.Powers.{double}
use Rattle.prefix_min.specs.declared.row.PrefixRow.{PrefixRow}
use Rattle.prefix_min.specs.Choice.{IsWorth, IsWorthIn}
use Rattle.prefix_min.specs.PrefixList.{front}
use Rattle.prefix_min.specs.Rows.{IsPart, IsInside, ArePartRows, row_of, AreFieldRows}
use Rattle.prefix_min.proofs.Chosen.{first-worth, own-worth, second-worth, under-worth, worth-constant, worth-halves}
use Rattle.prefix_min.proofs.Rows.{AreApart, all_append, all_weaker, apart, apart_answer, front-append, front_head, inside_wider, nested_append, row-holds, row-inside}
use Rattle.std.proofs.lemmas.List.Elements.{Contains-push}
use Rattle.prefix_min.specs.Trie.{Node, Halves, GivesAll, StandsFor, costs_of}
use Rattle.prefix_min.specs.Costs.{Costs, IsConstant, IsSplit, least_cost, without_row}
use Rattle.prefix_min.proofs.Whole.{fresh_without, IsFresh}
use Rattle.prefix_min.proofs.Lower.{label-listed, constant-free, constant-full}

both_hold : (P Q : PrefixRow → Type 0) (rows : List PrefixRow) → AllByRecursion P rows → AllByRecursion Q rows → AllByRecursion (λ r. P r × Q r) rows
both_hold P Q [] g h = tt
both_hold P Q (r ∷ rows) g h = ((g.0, h.0), both_hold P Q rows g.1 h.1)

-- rows of the halves of a part, none of the part itself
pub record AreHalfRows (weights : List ℕ) (f : ℕ → ℕ) (width bits low d cost : ℕ) (rows : List PrefixRow) : Type 0 where
  pub part : ArePartRows weights f width bits low d cost rows
  pub longer : AllByRecursion (λ r. width < bits + r.prefix.len) rows

-- these are the halves of a part of one bit more, in either order
abbrev pub AreHalves : ℕ → ℕ → ℕ → ℕ → Type 0
AreHalves n low one two = ((one ≡ low) × (two ≡ low + 2 ^ n)) ⊎ ((one ≡ low + 2 ^ n) × (two ≡ low))

-- the rows of two halves are rows of the part
module _ {weights : List ℕ} {f : ℕ → ℕ} {width n one two d a b : ℕ} {xs ys : List PrefixRow} (low cost : ℕ) (sum : cost ≡ a + b)
    (halves : AreHalves n low one two)
    (g : ArePartRows weights f width n one d a xs) (h : ArePartRows weights f width n two d b ys) where
  away : AreApart n one two
  away = elim halves [ inl e ↦ inl (omega (arith, e.0, e.1)) | inr e ↦ inr (omega (arith, e.0, e.1)) ]

  inner : (at : ℕ) → (at ≡ low) ⊎ (at ≡ low + 2 ^ n) → (r : PrefixRow) → IsInside width n at r → IsInside width (suc n) low r
  inner at (inl e) r i = inside_wider i (omega arith) (omega (arith, e)) (omega (arith, e, double n))
  inner at (inr e) r i = inside_wider i (omega arith) (omega (arith, e)) (omega (arith, e, double n))

  first_inner : (one ≡ low) ⊎ (one ≡ low + 2 ^ n)
  first_inner = elim halves [ inl e ↦ inl e.0 | inr e ↦ inr e.0 ]

  second_inner : (two ≡ low) ⊎ (two ≡ low + 2 ^ n)
  second_inner = elim halves [ inl e ↦ inr e.1 | inr e ↦ inl e.1 ]

  in_one : (v : ℕ) → low ≤ v → v < low + 2 ^ suc n → ((one ≤ v) × (v < one + 2 ^ n)) ⊎ ((two ≤ v) × (v < two + 2 ^ n))
  in_one v from below = elim (cases_lt v (low + 2 ^ n)) [
    | inl lt ↦ elim halves [ inl e ↦ inl (omega (arith, e.0, from), omega (arith, e.0, lt)) | inr e ↦ inr (omega (arith, e.1, from), omega (arith, e.1, lt)) ]
    | inr ge ↦ elim halves [
      | inl e ↦ inr (omega (arith, e.1, ge), omega (arith, e.1, below, double n))
      | inr e ↦ inl
          (omega (arith, e.0, ge), omega (arith, e.0, below, double n))
    ]
  ]

  answer : (v : ℕ) → low ≤ v → v < low + 2 ^ suc n → unwrap_or (front width (xs ++ ys) v) d ≡ f v
  answer v from below = apart_answer width n one two v d (f v) xs ys away g.inside h.inside (elim (in_one v from below) [
    | inl k ↦ inl (k.0, k.1, g.answers v k.0 k.1)
    | inr k ↦ inr (k.0, k.1, h.answers v k.0 k.1)
  ])

  pub half-rows : AreHalfRows weights f width (suc n) low d cost (xs ++ ys)
  half-rows = record {
    part = record {
      inside = all_append (IsInside width (suc n) low) xs ys
          (all_weaker (IsInside width n one) (IsInside width (suc n) low) xs (inner one first_inner) g.inside)
          (all_weaker (IsInside width n two) (IsInside width (suc n) low) ys (inner two second_inner) h.inside);
      nested = nested_append width (IsInside width n one) (IsInside width n two) xs ys (apart away) g.inside h.inside g.nested h.nested;
      labels = all_append (λ r. r.label < length weights) xs ys g.labels h.labels;
      weighs = sum_by-append (λ r. slice_index weights r.label) xs ys ∙ omega (arith, g.weighs, h.weighs, sum);
      worth = all_append (IsWorthIn weights f width d (xs ++ ys)) xs ys
          (all_weaker (λ r. IsInside width n one r × IsWorthIn weights f width d xs r) (IsWorthIn weights f width d (xs ++ ys)) xs
          (λ r i. first-worth weights f width n d one two xs ys r away h.inside i.0 i.1)
          (both_hold (IsInside width n one) (IsWorthIn weights f width d xs) xs g.inside g.worth))
          (all_weaker (λ r. IsInside width n two r × IsWorthIn weights f width d ys r) (IsWorthIn weights f width d (xs ++ ys)) ys
          (λ r i. second-worth weights f width n d one two xs ys r away g.inside i.0 i.1)
          (both_hold (IsInside width n two) (IsWorthIn weights f width d ys) ys h.inside h.worth));
      answers = answer;
    };
    longer = all_append (λ r. width < suc n + r.prefix.len) xs ys
        (all_weaker (IsInside width n one) (λ r. width < suc n + r.prefix.len) xs (λ r i. omega (arith, i.len)) g.inside)
        (all_weaker (IsInside width n two) (λ r. width < suc n + r.prefix.len) ys (λ r i. omega (arith, i.len)) h.inside);
  }

-- no rows at all
pub no-rows : (weights : List ℕ) (f : ℕ → ℕ) (width bits low d : ℕ) → ((v : ℕ) → low ≤ v → v < low + 2 ^ bits → f v ≡ d) → ArePartRows weights f width bits low d 0 []
no-rows weights f width bits low d h = record { inside = tt; nested = tt; labels = tt; weighs = refl; worth = tt; answers = λ v from below. sym (h v from below) }

-- the row of a part after rows that answer where its label is inherited
pub with-own-row : (weights : List ℕ) (f : ℕ → ℕ) (width bits low label d cost : ℕ) (rows : List PrefixRow) → label < length weights → IsPart width bits low →
    ArePartRows weights f width bits low label cost rows → AllByRecursion (λ r. width < bits + r.prefix.len) rows →
    (0 < slice_index weights label → IsWorth weights f width (row_of width bits low label) (cost + slice_index weights label) (λ v. d)) →
    ArePartRows weights f width bits low d (cost + slice_index weights label) (rows ++ row_of width bits low label ∷ [])
with-own-row weights f width bits low label d cost rows place p g longer own_worth =
    let own = row_of width bits low label in
    let inside = row-inside width bits low label p in
    let all = all_append (IsInside width bits low) rows (own ∷ []) g.inside (inside, tt) in
    record {
      inside = all;
      nested = nested_append width (λ r. width < bits + r.prefix.len) (λ s. s ≡ own) rows (own ∷ [])
          (λ r s l e v h k. omega (arith, ap (λ x. x.prefix.len) e, l, p.len)) longer (refl, tt) g.nested (tt, tt);
      labels = all_append (λ r. r.label < length weights) rows (own ∷ []) g.labels (place, tt);
      weighs = sum_by-append (λ r. slice_index weights r.label) rows (own ∷ []) ∙ omega (arith, g.weighs);
      worth = all_append (IsWorthIn weights f width d (rows ++ own ∷ [])) rows (own ∷ [])
          (all_weaker (λ r. (IsInside width bits low r × (width < bits + r.prefix.len)) × IsWorthIn weights f width label rows r) (IsWorthIn weights f width d (rows ++ own ∷ [])) rows
          (λ r i. under-worth weights f width bits low label d rows r p i.0.0 i.0.1 i.1)
          (both_hold (λ r. IsInside width bits low r × (width < bits + r.prefix.len)) (IsWorthIn weights f width label rows) rows
          (both_hold (IsInside width bits low) (λ r. width < bits + r.prefix.len) rows g.inside longer) g.worth))
          (own-worth weights f width bits low label d (cost + slice_index weights label) rows p all (omega (arith, g.weighs)) own_worth, tt);
      answers = λ v from below.
          front-append width rows (own ∷ []) v d
          ∙ ap (unwrap_or (front width rows v)) (front_head (prefix_holds width own.prefix v) own None d (row-holds width bits low label v p from below))
          ∙ g.answers v from below;
    }

-- a part with the inherited label needs no row
pub constant-inherited : {weights : List ℕ} {f : ℕ → ℕ} {width bits low d : ℕ} {c : Costs} → IsConstant weights c → GivesAll f bits low c.label →
    c.label ≡ d → ArePartRows weights f width bits low d (least_cost c d) []
constant-inherited {weights = weights} {f = f} {width = width} {bits = bits} {low = low} {d = d} {c = c} k gives e =
    subst (λ n. ArePartRows weights f width bits low d n []) (sym (constant-free k e))
    (no-rows weights f width bits low d (λ v from below. gives v from below ∙ e))

-- a part of one label with its row
module _ {weights : List ℕ} {f : ℕ → ℕ} {width bits low d : ℕ} {c : Costs} (k : IsConstant weights c) (gives : GivesAll f bits low c.label)
    (part : IsPart width bits low) where
  own_row : (0 < width - bits → c.label ≢ d) → ArePartRows weights f width bits low d (0 + slice_index weights c.label) (row_of width bits low c.label ∷ [])
  own_row other = with-own-row weights f width bits low c.label d 0 [] k.place part (no-rows weights f width bits low c.label gives) tt
      (λ weighs. worth-constant weights f width bits low d (0 + slice_index weights c.label) c part k gives (omega arith) weighs other)

  -- another label's part needs it
  pub constant-written : c.label ≢ d → ArePartRows weights f width bits low d (least_cost c d) (row_of width bits low c.label ∷ [])
  constant-written e =
      let cost : 0 + slice_index weights c.label ≡ least_cost c d = omega (arith, constant-full k e) in
      subst (λ n. ArePartRows weights f width bits low d n (row_of width bits low c.label ∷ [])) cost (own_row (λ some. e))

-- a part of two halves, and the rows of these where a label is inherited
module _ {weights : List ℕ} {f : ℕ → ℕ} {width bits low e : ℕ} {c : Costs} {rows : List PrefixRow} (lower upper : Node)
    (s : IsSplit weights (costs_of lower) (costs_of upper) c)
    (h : AreHalfRows weights f width bits low e (least_cost (costs_of lower) e + least_cost (costs_of upper) e) rows) where
  -- without a row of its own
  pub halves-inherit : without_row c e ≤ c.row → ArePartRows weights f width bits low e (least_cost c e) rows
  halves-inherit le =
      let cost : least_cost (costs_of lower) e + least_cost (costs_of upper) e ≡ least_cost c e = omega (arith, s.without e, le) in
      subst (λ n. ArePartRows weights f width bits low e n rows) cost h.part

  -- with one
  module _ {n : ℕ} (d : ℕ) (size : bits ≡ suc n) (lo : StandsFor weights f n low lower) (hi : StandsFor weights f n (low + 2 ^ n) upper) (l : e ≡ c.label)
      (part : IsPart width bits low) where
    cost : least_cost (costs_of lower) e + least_cost (costs_of upper) e + slice_index weights e ≡ c.row
    cost = omega (arith, s.without e, ap (without_row c) l, s.with_row, ap (slice_index weights) l)

    pub halves-with : (0 < width - suc n → c.row < without_row c d) → ((v : ℕ) → v < 2 ^ width → IsFresh c (f v) → c.row < without_row c (f v)) →
        ArePartRows weights f width bits low d c.row (rows ++ row_of width bits low e ∷ [])
    halves-with cheaper other =
        let total = least_cost (costs_of lower) e + least_cost (costs_of upper) e in
        let worth = worth-halves weights f width n low d (total + slice_index weights e) e c lower upper (subst (λ k. IsPart width k low) size part) s lo hi l
        cost cheaper other in
        let own = subst (λ k. IsWorth weights f width (row_of width k low e) (total + slice_index weights e) (λ v. d)) (sym size) worth in
        subst (λ m. ArePartRows weights f width bits low d m (rows ++ row_of width bits low e ∷ [])) cost
        (with-own-row weights f width bits low e d total rows (omega (arith, l, s.place)) part h.part h.longer (λ weighs. own))

    pub halves-own : c.row < without_row c d → ArePartRows weights f width bits low d (least_cost c d) (rows ++ row_of width bits low e ∷ [])
    halves-own lt =
        let least : c.row ≡ least_cost c d = omega (arith, lt) in
        subst (λ m. ArePartRows weights f width bits low d m (rows ++ row_of width bits low e ∷ [])) least
        (halves-with (λ some. lt) (λ v small fresh. omega (arith, lt, fresh_without weights f n low c lower upper s lo hi d (f v) fresh)))

-- the field's rows: those of its halves and its own
pub field-halves : {weights : List ℕ} {f : ℕ → ℕ} {width n y : ℕ} {c : Costs} {rows : List PrefixRow} (lower upper : Node) → width ≡ suc n →
    StandsFor weights f n 0 lower → StandsFor weights f n (0 + 2 ^ n) upper →
    y ≡ c.label → IsPart width width 0 → IsSplit weights (costs_of lower) (costs_of upper) c →
    AreHalfRows weights f width width 0 y (least_cost (costs_of lower) y + least_cost (costs_of upper) y) rows →
    AreFieldRows weights f width c.row (rows ++ row_of width width 0 y ∷ [])
field-halves {weights = weights} {f = f} {width = width} {n = n} {y = y} {c = c} {rows = rows} lower upper size lo hi l part s h =
    let listed = λ (v : ℕ) (small : v < 2 ^ width).
    label-listed weights f (suc n) 0 (Halves c lower upper) (s, lo, hi) v (omega arith) (subst (λ k. v < 0 + 2 ^ k) size (omega (arith, small))) in
    record {
      part = λ d. halves-with lower upper s h d size lo hi l part (λ some. absurd (omega (arith, some, size)))
          (λ v small fresh. absurd (fresh (listed v small)));
      label = y;
      whole = Contains-push rows (row_of width width 0 y);
    }

pub field-constant : {weights : List ℕ} {f : ℕ → ℕ} {width : ℕ} {c : Costs} → IsConstant weights c → GivesAll f width 0 c.label → IsPart width width 0 →
    AreFieldRows weights f width c.row (row_of width width 0 c.label ∷ [])
field-constant {weights = weights} {f = f} {width = width} {c = c} k gives part =
    let cost : 0 + slice_index weights c.label ≡ c.row = omega (arith, k.with_row) in
    record {
      part = λ d. subst (λ m. ArePartRows weights f width width 0 d m (row_of width width 0 c.label ∷ [])) cost
          (own_row k gives part (λ some. absurd (omega (arith, some))));
      label = c.label;
      whole = Contains-push [] (row_of width width 0 c.label);
    }

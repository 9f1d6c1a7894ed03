-- A cheapest prefix list for any labels of a field's values.
use Rattle.std.proofs.Common.{◌≡◌, ◌∷◌, ◌++◌, ℕ, zero, suc, List, [], ◌+◌, ◌<◌, ◌≤◌, ◌^◌, refl, ap, arith, sym, ◌∙◌, inl, inr, subst, length}
use Rattle.std.specs.Prelude.{None, unwrap_or, slice_index}
use Rattle.std.specs.List.{AllByRecursion}
use Rattle.std.proofs.lemmas.Bool.{cases_eq, cases_lt}
use Rattle.std.proofs.lemmas.List.Elements.{All-from_recursion}
use Rattle.std.proofs.lemmas.List.Sums.{sum_by-append}
use Rattle.field_boxes.specs.Headline.Prefix.{FitsWidth, prefix_holds}
use Rattle.field_boxes.proofs.Powers.{double}
use Rattle.prefix_min.specs.declared.row.PrefixRow.{PrefixRow}
use Rattle.prefix_min.specs.Costs.{Costs, Has, IsConstant, least_cost, without_row}
use Rattle.prefix_min.specs.PrefixList.{front, weight}
use Rattle.prefix_min.specs.Rows.{IsInside, IsPart, row_of}
use Rattle.prefix_min.specs.Trie.{Constant, GivesAll, Halves, Node, StandsFor, costs_of}
use Rattle.prefix_min.proofs.Lower.{constant-free, constant-full}
use Rattle.prefix_min.proofs.Ordered.{always}
use Rattle.prefix_min.proofs.Rows.{all_append, all_weaker, apart_answer, front-append, front_head, inside_wider, row-holds, row-inside}
use Rattle.prefix_min.proofs.Shapes.{field-part, high-half, low-half}
use Rattle.prefix_min.proofs.Splitting.{both-has, both-split, both_halves, one-constant, one-has, one_label}
use Rattle.prefix_min.proofs.Whole.{IsFresh, least}
use Rattle.table_compose.proofs.Cheapest.{IsCheapestList}
use Rattle.table_compose.proofs.Choices.{IsTaken}

-- rows of a part that give each of its values its label where d is inherited; each has the label of some value, and they
-- weigh so much
record IsPartList (weights : List ℕ) (f : ℕ → ℕ) (width n low d cost : ℕ) (rows : List PrefixRow) : Type 0 where
  inside : AllByRecursion (IsInside width n low) rows
  taken : AllByRecursion (λ r. IsTaken width f r.label) rows
  weighs : weight weights rows ≡ cost
  answers : (v : ℕ) → low ≤ v → v < low + 2 ^ n → unwrap_or (front width rows v) d ≡ f v

abbrev PartList : List ℕ → (ℕ → ℕ) → ℕ → ℕ → ℕ → ℕ → ℕ → Type 0
PartList weights f width n low d cost = (rows : List PrefixRow) × IsPartList weights f width n low d cost rows

costing : {weights : List ℕ} {f : ℕ → ℕ} {width n low d a b : ℕ} → a ≡ b → PartList weights f width n low d a → PartList weights f width n low d b
costing {weights = weights} {f = f} {width = width} {n = n} {low = low} {d = d} e h = subst (PartList weights f width n low d) e h

-- rows of both halves of a part
joined : (weights : List ℕ) (f : ℕ → ℕ) (width n low d a b : ℕ) → PartList weights f width n low d a → PartList weights f width n (low + 2 ^ n) d b → PartList weights f width (suc n) low d (a + b)
joined weights f width n low d a b g h =
    let twice = double n in
    let xs = g.0 in
    let ys = h.0 in (
      xs ++ ys,
      record {
        inside = all_append (IsInside width (suc n) low) xs ys
            (all_weaker (IsInside width n low) (IsInside width (suc n) low) xs (λ r i. inside_wider i (omega arith) (omega arith) (omega (arith, twice))) g.1.inside)
            (all_weaker (IsInside width n (low + 2 ^ n)) (IsInside width (suc n) low) ys (λ r i. inside_wider i (omega arith) (omega arith) (omega (arith, twice))) h.1.inside);
        taken = all_append (λ r. IsTaken width f r.label) xs ys g.1.taken h.1.taken;
        weighs = sum_by-append (λ r. slice_index weights r.label) xs ys ∙ omega (arith, g.1.weighs, h.1.weighs);
        answers = λ v from below. apart_answer width n low (low + 2 ^ n) v d (f v) xs ys (inl (omega arith)) g.1.inside h.1.inside (elim (cases_lt v (low + 2 ^ n)) [
          | inl less ↦ inl (from, less, g.1.answers v from less)
          | inr ge ↦ let top : v < low + 2 ^ n + 2 ^ n = omega (arith, below, twice) in inr (ge, top, h.1.answers v ge top)
        ]);
      },
    )

-- rows that answer where a label is inherited, and the row of the part with this label behind them
owned : (weights : List ℕ) (f : ℕ → ℕ) (width n low label d cost : ℕ) (rows : List PrefixRow) → IsPart width n low → IsTaken width f label →
    IsPartList weights f width n low label cost rows → IsPartList weights f width n low d (cost + slice_index weights label) (rows ++ row_of width n low label ∷ [])
owned weights f width n low label d cost rows p t g =
    let own = row_of width n low label in
    record {
      inside = all_append (IsInside width n low) rows (own ∷ []) g.inside (row-inside width n low label p, tt);
      taken = all_append (λ r. IsTaken width f r.label) rows (own ∷ []) g.taken (t, tt);
      weighs = sum_by-append (λ r. slice_index weights r.label) rows (own ∷ []) ∙ omega (arith, g.weighs);
      answers = λ v from below.
          front-append width rows (own ∷ []) v d
          ∙ ap (unwrap_or (front width rows v)) (front_head (prefix_holds width own.prefix v) own None d (row-holds width n low label v p from below))
          ∙ g.answers v from below;
    }

-- no rows, where the label of all values is inherited
none : (weights : List ℕ) (f : ℕ → ℕ) (width n low d : ℕ) → GivesAll f n low d → IsPartList weights f width n low d 0 []
none weights f width n low d all = record { inside = tt; taken = tt; weighs = refl; answers = λ v from below. sym (all v from below) }

constant_list : (weights : List ℕ) (f : ℕ → ℕ) (width n low : ℕ) (c : Costs) → IsPart width n low → IsConstant weights c → GivesAll f n low c.label → IsTaken width f c.label → (d : ℕ) →
    PartList weights f width n low d (least_cost c d)
constant_list weights f width n low c p k all t d = elim (cases_eq c.label d) [
  | inl same ↦ costing (sym (constant-free k same)) ([], none weights f width n low d (subst (GivesAll f n low) same all))
  | inr other ↦ costing (let e = constant-full k other in omega (arith, e)) (row_of width n low c.label ∷ [], owned weights f width n low c.label d 0 [] p t (none weights f width n low c.label all))
]

-- a part's own row costs what its label weighs, and what the part costs where that is inherited
own_cost : (weights : List ℕ) (f : ℕ → ℕ) (n low : ℕ) (node : Node) → StandsFor weights f n low node →
    (costs_of node).row ≡ least_cost (costs_of node) (costs_of node).label + slice_index weights (costs_of node).label
own_cost weights f n low (Constant c) h = omega (arith, constant-free h.0 refl, h.0.with_row)
own_cost weights f zero low (Halves c lo hi) h = absurd h
own_cost weights f (suc n) low (Halves c lo hi) h = omega (arith, h.0.with_row)

own_listed : (weights : List ℕ) (f : ℕ → ℕ) (n low : ℕ) (node : Node) → StandsFor weights f n low node → Has (costs_of node).labels (costs_of node).label
own_listed weights f n low (Constant c) h = h.0.listed
own_listed weights f zero low (Halves c lo hi) h = absurd h
own_listed weights f (suc n) low (Halves c lo hi) h = h.0.listed

-- a part has rows that weigh its least cost
part_list : (weights : List ℕ) (f : ℕ → ℕ) (width n low : ℕ) (node : Node) → IsPart width n low → StandsFor weights f n low node →
    ((d : ℕ) → Has (costs_of node).labels d → IsTaken width f d) → (d : ℕ) → PartList weights f width n low d (least_cost (costs_of node) d)
part_list weights f width n low (Constant c) p h taken d = constant_list weights f width n low c p h.0 h.1 (taken c.label h.0.listed) d
part_list weights f width zero low (Halves c lo hi) p h taken d = absurd h
part_list weights f width (suc n) low (Halves c lo hi) p h taken d =
    let halves : (e : ℕ) → PartList weights f width (suc n) low e (without_row c e) = λ e.
    costing (sym (h.0.without e)) (joined weights f width n low e (least_cost (costs_of lo) e) (least_cost (costs_of hi) e)
    (part_list weights f width n low lo (low-half p) h.1 (λ x k. taken x (h.0.lists_low x k)) e)
    (part_list weights f width n (low + 2 ^ n) hi (high-half p) h.2 (λ x k. taken x (h.0.lists_high x k)) e)) in
    let inherits = halves c.label in
    elim (cases_lt c.row (without_row c d)) [
      | inl less ↦ costing (let row = h.0.with_row in omega (arith, row, less)) (
        inherits.0 ++ row_of width (suc n) low c.label ∷ [],
        owned weights f width (suc n) low c.label d (without_row c c.label) inherits.0 p (taken c.label h.0.listed) inherits.1,
      )
      | inr ge ↦ costing (omega (arith, ge)) (halves d)
    ]

-- the label is that of some value of the part
abbrev IsGiven : (ℕ → ℕ) → ℕ → ℕ → ℕ → Type 0
IsGiven f n low d = (v : ℕ) × (low ≤ v) × (v < low + 2 ^ n) × (f v ≡ d)

-- what stands for a part, where each label that it lists is that of some value
record Shaped (weights : List ℕ) (f : ℕ → ℕ) (n low : ℕ) : Type 0 where
  node : Node
  stands : StandsFor weights f n low node
  given : (d : ℕ) → Has (costs_of node).labels d → IsGiven f n low d

shaped : (weights : List ℕ) (f : ℕ → ℕ) (n low : ℕ) → ((v : ℕ) → low ≤ v → v < low + 2 ^ n → f v < length weights) → Shaped weights f n low
shaped weights f zero low places =
    let y = f low in record {
      node = Constant (one_label weights y);
      stands = (one-constant weights y (places low (omega arith) (omega arith)), λ v from below. ap f (omega (arith, from, below)));
      given = one-has (IsGiven f zero low) y (low, omega arith, omega arith, refl);
    }
shaped weights f (suc n) low places =
    let twice = double n in
    let a = shaped weights f n low (λ v from below. places v from (omega (arith, below, twice))) in
    let b = shaped weights f n (low + 2 ^ n) (λ v from below. places v (omega (arith, from)) (omega (arith, below, twice))) in
    let own = own_listed weights f n low a.node a.stands in
    let given = both-has (IsGiven f (suc n) low) (costs_of a.node).labels (costs_of b.node).labels
    (λ d k. let g = a.given d k in (g.0, g.1, omega (arith, g.2, twice), g.3)) (λ d k. let g = b.given d k in (g.0, omega (arith, g.1), omega (arith, g.2, twice), g.3)) in
    record {
      node = Halves (both_halves weights (costs_of a.node) (costs_of b.node) own) a.node b.node;
      stands = (
        both-split weights (costs_of a.node) (costs_of b.node) own (λ d k. let g = given d k in let place = places g.0 g.1 g.2 in omega (arith, place, g.3)),
        a.stands,
        b.stands,
      );
      given = given;
    }

-- labels that have weights have a cheapest prefix list
pub cheapest_there : (weights : List ℕ) (f : ℕ → ℕ) (width : ℕ) → width ≤ 32 → ((v : ℕ) → v < 2 ^ width → f v < length weights) →
    (rows : List PrefixRow) × (n : ℕ) × IsCheapestList width f weights rows n
cheapest_there weights f width wide places =
    let s = shaped weights f width 0 (λ v from below. places v (omega (arith, below))) in
    let c = costs_of s.node in
    let label = c.label in
    let taken : (d : ℕ) → Has c.labels d → IsTaken width f d = λ d k. let g = s.given d k in (g.0, omega (arith, g.2), g.3) in
    let own = taken label (own_listed weights f width 0 s.node s.stands) in
    let part = field-part width wide in
    let inherits = part_list weights f width width 0 s.node part s.stands taken label in
    let rows = inherits.0 ++ row_of width width 0 label ∷ [] in
    let cost = least_cost c label + slice_index weights label in
    let lists : (d : ℕ) → IsPartList weights f width width 0 d cost rows = λ d. owned weights f width width 0 label d (least_cost c label) inherits.0 part own inherits.1 in
    let fresh : IsFresh c (length weights) = λ k. let g = s.given (length weights) k in let place = places g.0 (omega (arith, g.2)) in absurd (omega (arith, place, g.3)) in (
      rows,
      cost,
      record {
        right = record {
          fits = All-from_recursion (λ r. FitsWidth width r.prefix) rows (all_weaker (IsInside width width 0) (λ r. FitsWidth width r.prefix) rows (λ r i. i.fits) (lists 0).inside);
          answers = λ v small. always (front width rows v) (f v) (λ d. (lists d).answers v (omega arith) (omega (arith, small)));
        };
        taken = All-from_recursion (λ r. IsTaken width f r.label) rows (lists 0).taken;
        weighs = (lists 0).weighs;
        least = λ others right. subst (λ n. n ≤ weight weights others) (own_cost weights f width 0 s.node s.stands) (least weights f width s.node (length weights) s.stands fresh others right);
      },
    )

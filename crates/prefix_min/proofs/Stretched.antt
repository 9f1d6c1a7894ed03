-- A part about which only one label stands.
use Rattle.std.proofs.Common.{Bool, ◌≡◌, ◌≢◌, ◌∷◌, ◌++◌, ℕ, zero, suc, List, [], ◌+◌, ◌%◌, ◌^◌, ◌<◌, ◌≤◌, true, false, refl, ap, arith, sym, ◌∙◌, inl, inr, subst, length, get_or}
use Rattle.std.specs.Prelude.{IsTrue, ◌==◌, cond, slice_index}
use Rattle.std.proofs.lemmas.Bool.Decides.{eqb_tells}
use Rattle.std.proofs.lemmas.Bool.{cases_lt, false≢true, lt-ltb}
use Rattle.std.proofs.lemmas.List.{append-nil}
use Rattle.std.proofs.lemmas.Nat.{pow_pos}
use Rattle.field_boxes.proofs.Powers.{aligned_high, aligned_low, double}
use Rattle.prefix_min.specs.declared.piece.Piece.{Piece}
use Rattle.prefix_min.specs.declared.plan.Choice.{Choice}
use Rattle.prefix_min.specs.declared.row.PrefixRow.{PrefixRow}
use Rattle.prefix_min.specs.Costs.{Costs, Has, IsSplit, least_cost}
use Rattle.prefix_min.specs.Field.{no_piece}
use Rattle.prefix_min.specs.Pieces.{label_at}
use Rattle.prefix_min.specs.Plan.{AreChosen, Bare, Grown, IsTopped, own_choice, rows_of}
use Rattle.prefix_min.specs.Rows.{ArePartRows, IsPart, row_of}
use Rattle.prefix_min.specs.Savings.{AreSavings, alone}
use Rattle.prefix_min.specs.Trie.{Constant, GivesAll, Halves, Node, StandsFor, costs_of}
use Rattle.prefix_min.proofs.Blocks.{to-within}
use Rattle.prefix_min.proofs.Written.{AreHalfRows, half-rows, constant-inherited, halves-inherit, halves-own}
use Rattle.prefix_min.proofs.Planned.{same_rows, top-added, topless}
use Rattle.prefix_min.proofs.Saved.{IsUnchanged, alone_at, one-saves, unchanged}
use Rattle.prefix_min.proofs.Shapes.{high-half, low-half}
use Rattle.prefix_min.proofs.Splitting.{both-has, both-split, both_halves, has-low, one-constant, one-has, one_label}

-- the piece of a label
abbrev pub Source : List Piece → ℕ → Type 0
Source pieces d = (k : ℕ) × (k < length pieces) × ((get_or pieces k no_piece).label ≡ d)

-- a part by which y alone saves anything, and these rows are written where y is inherited
pub record IsAlone (weights : List ℕ) (pieces : List Piece) (y cost : ℕ) (rows : ℕ → List PrefixRow) (bits low : ℕ) : Type 0 where
  pub node : Node
  pub stands : StandsFor weights (label_at pieces) bits low node
  pub saves : AreSavings weights (costs_of node) (alone weights y)
  pub within : (d : ℕ) → Has (costs_of node).labels d → d < length weights
  pub from : (d : ℕ) → Has (costs_of node).labels d → Source pieces d
  pub row : (costs_of node).row ≡ cost
  pub under : (width : ℕ) → IsPart width bits low → ArePartRows weights (label_at pieces) width bits low y (least_cost (costs_of node) y) (rows width)

-- where another label is inherited, its row is written too
pub record IsOver (weights : List ℕ) (pieces : List Piece) (y cost : ℕ) (rows : ℕ → List PrefixRow) (bits low : ℕ) : Type 0 where
  pub inner : IsAlone weights pieces y cost rows bits low
  pub writes : (width d : ℕ) → y ≢ d → IsPart width bits low → ArePartRows weights (label_at pieces) width bits low d (least_cost (costs_of inner.node) d) (rows width ++ row_of width bits low y ∷ [])

module _ (weights : List ℕ) (pieces : List Piece) (y cost : ℕ) (rows : ℕ → List PrefixRow) (place : y < length weights) (weighs : 0 < slice_index weights y)
    (source : Source pieces y) where
  one_rows : (width bits low : ℕ) → GivesAll (label_at pieces) bits low y → ArePartRows weights (label_at pieces) width bits low y (least_cost (one_label weights y) y) []
  one_rows width bits low gives = constant-inherited (one-constant weights y place) gives refl

  -- two halves, one of them of this label
  module _ {n low : ℕ} {inner : Costs} (lo hi : Node) (a : AreSavings weights (costs_of lo) (alone weights y))
      (b : AreSavings weights (costs_of hi) (alone weights y))
      (p : AreSavings weights inner (alone weights y)) (is : (costs_of lo).row + (costs_of hi).row ≡ inner.row + slice_index weights y) (row : inner.row ≡ cost)
      (h : StandsFor weights (label_at pieces) n low lo) (k : StandsFor weights (label_at pieces) n (low + 2 ^ n) hi)
      (within : (d : ℕ) → Has ((costs_of lo).labels ++ (costs_of hi).labels) d → d < length weights)
      (from : (d : ℕ) → Has ((costs_of lo).labels ++ (costs_of hi).labels) d → Source pieces d)
      (halves : (width : ℕ) → IsPart width (suc n) low → AreHalfRows weights (label_at pieces) width (suc n) low y (least_cost (costs_of lo) y + least_cost (costs_of hi) y) (rows width)) where
    abbrev both_costs : Costs
    both_costs = both_halves weights (costs_of lo) (costs_of hi) a.own

    split : IsSplit weights (costs_of lo) (costs_of hi) both_costs
    split = both-split weights (costs_of lo) (costs_of hi) a.own within

    same : IsUnchanged both_costs inner y
    same = unchanged weighs a b split p is

    pub over-both : IsOver weights pieces y cost rows (suc n) low
    over-both = record {
      inner = record {
        node = Halves both_costs lo hi;
        stands = (split, h, k);
        saves = record {
          saves = λ d. omega (arith, p.saves d, same.costs d, same.row);
          most = p.most;
          full = subst (λ l. cond (y == l) (slice_index weights y) 0 ≡ slice_index weights l) (sym same.label) (alone_at weights y);
          lists = λ d l. has-low (costs_of lo).labels (costs_of hi).labels d (a.lists d l);
          own = split.listed;
        };
        within = within;
        from = from;
        row = same.row ∙ row;
        under = λ width part. halves-inherit lo hi split (halves width part) same.silent;
      };
      writes = λ width d ne part. halves-own lo hi split (halves width part) d refl h k (sym same.label) part (same.writes d ne);
    }

  one_saved : AreSavings weights (one_label weights y) (alone weights y)
  one_saved = one-saves (one-constant weights y place)

  -- the label stands above the part
  above : (n low : ℕ) → IsAlone weights pieces y cost rows n low → GivesAll (label_at pieces) n (low + 2 ^ n) y → IsOver weights pieces y cost rows (suc n) low
  above n low a gives =
      over-both a.node (Constant (one_label weights y)) a.saves one_saved a.saves refl a.row a.stands (one-constant weights y place, gives)
      (both-has (λ d. d < length weights) (costs_of a.node).labels (y ∷ []) a.within (one-has (λ d. d < length weights) y place))
      (both-has (Source pieces) (costs_of a.node).labels (y ∷ []) a.from (one-has (Source pieces) y source))
      (λ width part. subst (AreHalfRows weights (label_at pieces) width (suc n) low y (least_cost (costs_of a.node) y + least_cost (one_label weights y) y))
      (append-nil (rows width))
      (half-rows low _ refl (inl (refl, refl)) (a.under width (low-half part)) (one_rows width n (low + 2 ^ n) gives)))

  -- or below it
  under : (n low : ℕ) → IsAlone weights pieces y cost rows n (low + 2 ^ n) → GivesAll (label_at pieces) n low y → IsOver weights pieces y cost rows (suc n) low
  under n low a gives =
      over-both (Constant (one_label weights y)) a.node one_saved a.saves a.saves (omega arith) a.row (one-constant weights y place, gives) a.stands
      (both-has (λ d. d < length weights) (y ∷ []) (costs_of a.node).labels (one-has (λ d. d < length weights) y place) a.within)
      (both-has (Source pieces) (y ∷ []) (costs_of a.node).labels (one-has (Source pieces) y source) a.from)
      (λ width part. half-rows low _ refl (inl (refl, refl)) (one_rows width n low gives) (a.under width (high-half part)))

  -- or about it on both sides
  module _ {k v : ℕ} (aligned : v % 2 ^ k ≡ 0) (a : IsAlone weights pieces y cost rows k v) where
    abbrev Gives : ℕ → ℕ → Type 0
    Gives n low = ((u : ℕ) → low ≤ u → u < v → label_at pieces u ≡ y) × ((u : ℕ) → v + 2 ^ k ≤ u → u < low + 2 ^ n → label_at pieces u ≡ y)

    same_place : (n low : ℕ) → k ≡ n → v ≡ low → IsAlone weights pieces y cost rows n low
    same_place n low e l = subst (λ m. IsAlone weights pieces y cost rows m low) e (subst (λ m. IsAlone weights pieces y cost rows k m) l a)

    inner_of : (n low : ℕ) → k ≤ n → low ≤ v → v + 2 ^ k ≤ low + 2 ^ n → (k < n → IsOver weights pieces y cost rows n low) → IsAlone weights pieces y cost rows n low
    inner_of n low le from to h = elim (cases_lt k n) [
      | inl lt ↦ (h lt).inner
      | inr ge ↦
          let e : k ≡ n = omega (arith, le, ge) in
          same_place n low e (omega (arith, from, to, ap (λ m. 2 ^ m) e))
    ]

    pub around : (n low : ℕ) → k < n → low % 2 ^ n ≡ 0 → low ≤ v → v + 2 ^ k ≤ low + 2 ^ n → Gives n low → IsOver weights pieces y cost rows n low
    around zero low lt al from to gives = absurd (omega (arith, lt))
    around (suc n) low lt al from to gives =
        let le : k ≤ n = omega (arith, lt) in
        let two = double n in
        let some = pow_pos k in
        elim (cases_lt v (low + 2 ^ n)) [
          | inl below ↦
              let end = to-within k n v low le aligned (aligned_low n low al) below in
              above n low
              (inner_of n low le from end (λ less. around n low less (aligned_low n low al) from end (gives.0, λ u ge small. gives.1 u ge (omega (arith, small, two)))))
              (λ u ge small. gives.1 u (omega (arith, ge, end)) (omega (arith, small, two)))
          | inr ge ↦
              let end : v + 2 ^ k ≤ low + 2 ^ n + 2 ^ n = omega (arith, to, two) in
              under n low
              (inner_of n (low + 2 ^ n) le ge end (λ less. around n (low + 2 ^ n) less (aligned_high n low al) ge end ((λ u more small. gives.0 u (omega (arith, more)) small), (λ u more small. gives.1 u more (omega (arith, small, two))))))
              (λ u more small. gives.0 u more (omega (arith, small, ge)))
        ]

-- the choice of a part that stretches
module _ {keeps : Bool} {weights : List ℕ} {pieces : List Piece} {y cost bits low inner_bits inner_low : ℕ} {node : Node} {cs0 cs : List Choice} {al0 al : List ℕ}
    (c : AreChosen keeps weights (label_at pieces) inner_bits inner_low node cs0 cs al0 al) (o : IsOver weights pieces y cost (λ width. rows_of width c.forest y) bits low) where
  own_writes : (width d : ℕ) → IsPart width bits low →
      ArePartRows weights (label_at pieces) width bits low d (least_cost (costs_of o.inner.node) d)
      (cond (cond (y == d) true false) (rows_of width c.forest d) (rows_of width c.forest y ++ row_of width bits low y ∷ []))
  own_writes width d part = elim (eqb_tells y d) [
    | inl t ↦ rw t.0 (subst (λ x. ArePartRows weights (label_at pieces) width bits low x (least_cost (costs_of o.inner.node) x) (rows_of width c.forest x))
        t.1 (o.inner.under width part))
    | inr t ↦ rw t.0 (o.writes width d t.1 part)
  ]

  abbrev own : Choice
  own = own_choice low bits y (length cs0) (length al) (length al)

  -- where choices aren't kept, nothing is said of those that are put down
  chosen_where : (kept : Bool) → keeps ≡ kept → {cs1 : List Choice} (gain : ℕ) → 0 < gain →
      (IsTrue keeps → IsTopped (record { gain = gain; best = y }) low bits (length cs0) (length al) (length al) cs cs1) →
      AreChosen keeps weights (label_at pieces) bits low o.inner.node cs0 cs1 al0 al
  chosen_where false k gain some put = record { forest = Grown Bare own [] c.forest; kept = λ yes. absurd (false≢true (sym k ∙ yes)); writes = own_writes }
  chosen_where true k gain some put = elim (put k) [
    | inl added ↦ record {
      forest = Grown Bare own [] c.forest;
      kept = λ yes. top-added (c.kept yes) (added ∙ ap (λ u. cs ++ cond u (own ∷ []) []) (lt-ltb 0 gain some)) (sym (append-nil al)) refl;
      writes = own_writes;
    }
    | inr r ↦
        let top = topless c.forest (c.kept k) r.above r.same in
        record {
          forest = Grown Bare own [] top.left;
          kept = λ yes. top-added top.kept r.new_is (sym (append-nil al)) refl;
          writes = λ width d part. subst (ArePartRows weights (label_at pieces) width bits low d (least_cost (costs_of o.inner.node) d))
              (same_rows width d own c.forest top.left (sym (top.rows width))) (own_writes width d part);
        }
  ]

  pub stretch-chosen : {cs1 : List Choice} (gain : ℕ) → 0 < gain →
      (IsTrue keeps → IsTopped (record { gain = gain; best = y }) low bits (length cs0) (length al) (length al) cs cs1) →
      AreChosen keeps weights (label_at pieces) bits low o.inner.node cs0 cs1 al0 al
  stretch-chosen = chosen_where keeps refl

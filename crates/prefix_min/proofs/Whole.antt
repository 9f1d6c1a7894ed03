-- The whole field: no right list weighs less than the cheapest one with a row at the field itself, and what one without weighs.
use Rattle.std.proofs.Common.{◌≡◌, ◌∷◌, ℕ, List, [], ◌+◌, ◌-◌, ◌^◌, ◌<◌, ◌≤◌, Bool, true, false, refl, ap, arith, sym, ◌∙◌, subst, take, ◌≢◌, zero, suc}
use Rattle.std.specs.Prelude.{cond, Option, Some, find, option_map, unwrap_or, suc, zero, slice_index, map, None}
use Rattle.std.specs.List.{All}
use Rattle.std.proofs.lemmas.List.Sums.{sum_by-cons}
use Rattle.std.proofs.lemmas.List.Elements.{All-head, All-tail}
use Rattle.field_boxes.specs.Headline.Prefix.{FitsWidth, prefix_holds}
use Rattle.field_boxes.specs.Prefix.{prefix_bits}
use Rattle.field_boxes.specs.Headline.Bits.{bits}
use Rattle.field_boxes.specs.Bits.{begins}
use Rattle.field_boxes.proofs.Bits.{prefix-begins}
use Rattle.field_boxes.proofs.Halves.{Row, front, IsRootless, half, is_root, weight-halves}
use Rattle.prefix_min.specs.declared.row.PrefixRow.{PrefixRow}
use Rattle.prefix_min.specs.Trie.{Node, Constant, Halves, costs_of, StandsFor, GivesAll}
use Rattle.prefix_min.specs.PrefixList as list
use Rattle.prefix_min.specs.Costs.{Costs, Has, IsConstant, IsSplit, least_cost, without_row}
use Rattle.prefix_min.proofs.Root.{value, value-high, bits-value, weigh}
use Rattle.prefix_min.proofs.Lower.{IsRightWith, lower, weight_of, constant-free, constant-full, right_high, right_low}
use Rattle.field_boxes.proofs.Powers.{double}

-- a label that isn't listed
abbrev pub IsFresh : Costs → ℕ → Type 0
IsFresh c d = Has c.labels d → ⊥

constant_fresh : (weights : List ℕ) (c : Costs) (d : ℕ) → IsConstant weights c → IsFresh c d → least_cost c d ≡ slice_index weights c.label
constant_fresh weights c d k fresh = constant-full k (λ e. fresh (subst (λ x. Has c.labels x) e k.listed))

-- no label helps less than one that isn't listed
pub fresh_helps_least : (weights : List ℕ) (f : ℕ → ℕ) (n low : ℕ) (part : Node) → StandsFor weights f n low part →
    (d e : ℕ) → IsFresh (costs_of part) d → least_cost (costs_of part) e ≤ least_cost (costs_of part) d
fresh_helps_least weights f n low (Constant c) h d e fresh = omega (arith, constant_fresh weights c d h.0 fresh, h.0.with_row)
fresh_helps_least weights f zero low (Halves c lo hi) h d e fresh = absurd h
fresh_helps_least weights f (suc n) low (Halves c lo hi) h d e fresh = omega (
  arith,
  h.0.without d,
  h.0.without e,
  fresh_helps_least weights f n low lo h.1 d e (λ l. fresh (h.0.lists_low d l)),
  fresh_helps_least weights f n (low + 2 ^ n) hi h.2 d e (λ l. fresh (h.0.lists_high d l)),
)

-- where no useful label is inherited, some label's row is worth its weight
abbrev Pays : List ℕ → Costs → ℕ → Type 0
Pays weights c d = (e : ℕ) × Has c.labels e × (slice_index weights e + least_cost c e ≤ least_cost c d)

constant_pays : (weights : List ℕ) (c : Costs) (d : ℕ) → IsConstant weights c → IsFresh c d → Pays weights c d
constant_pays weights c d k fresh = (c.label, k.listed, omega (arith, constant_fresh weights c d k fresh, constant-free k refl))

-- then a split part's own row costs no more than none
split_pays : (weights : List ℕ) (f : ℕ → ℕ) (n low : ℕ) (c : Costs) (lo hi : Node) → IsSplit weights (costs_of lo) (costs_of hi) c →
    StandsFor weights f n (low + 2 ^ n) hi → (d : ℕ) → IsFresh c d → Pays weights (costs_of lo) d → c.row ≤ without_row c d
split_pays weights f n low c lo hi s h d fresh best = omega (
  arith,
  best.2,
  s.without d,
  s.without best.0,
  s.cheapest best.0 (s.lists_low best.0 best.1),
  fresh_helps_least weights f n (low + 2 ^ n) hi h d best.0 (λ l. fresh (s.lists_high d l)),
)

pays : (weights : List ℕ) (f : ℕ → ℕ) (n low : ℕ) (part : Node) → StandsFor weights f n low part →
    (d : ℕ) → IsFresh (costs_of part) d → Pays weights (costs_of part) d
pays weights f n low (Constant c) h d fresh = constant_pays weights c d h.0 fresh
pays weights f zero low (Halves c lo hi) h d fresh = absurd h
pays weights f (suc n) low (Halves c lo hi) h d fresh =
    let best = pays weights f n low lo h.1 d (λ l. fresh (h.0.lists_low d l)) in
    (c.label, h.0.listed, omega (arith, h.0.with_row, split_pays weights f n low c lo hi h.0 h.2 d fresh best))

pub row_pays : (weights : List ℕ) (f : ℕ → ℕ) (n low : ℕ) (part : Node) → StandsFor weights f n low part →
    (d : ℕ) → IsFresh (costs_of part) d → (costs_of part).row ≤ least_cost (costs_of part) d
row_pays weights f n low (Constant c) h d fresh = omega (arith, h.0.with_row, constant_fresh weights c d h.0 fresh)
row_pays weights f zero low (Halves c lo hi) h d fresh = absurd h
row_pays weights f (suc n) low (Halves c lo hi) h d fresh =
    let best = pays weights f n low lo h.1 d (λ l. fresh (h.0.lists_low d l)) in
    omega (arith, split_pays weights f n low c lo hi h.0 h.2 d fresh best)

-- a row as the bits of its prefix
abbrev pub row_bits : ℕ → PrefixRow → Row ℕ
row_bits width r = record { bits = prefix_bits width r.prefix; payload = r.label }

begins_bits : (width : ℕ) (r : PrefixRow) (v : ℕ) → FitsWidth width r.prefix → v < 2 ^ width →
    prefix_holds width r.prefix v ≡ begins (prefix_bits width r.prefix) (bits width v)
begins_bits width r v fits small =
    let l = r.prefix.len in
    let e : l + (width - l) ≡ width = omega (arith, fits.len) in
    let P : ℕ → Type 0 = λ n. prefix_holds width r.prefix v ≡ begins (take l (bits n r.prefix.value)) (bits n v) in
    subst P e (prefix-begins l (width - l) r.prefix.value v (subst (λ n. r.prefix.value < 2 ^ n) (sym e) fits.small) (subst (λ n. v < 2 ^ n) (sym e) small))

front_step : (t s : Bool) (r : PrefixRow) (x : Row ℕ) (o : Option PrefixRow) (q : Option (Row ℕ)) → t ≡ s → r.label ≡ x.payload →
    option_map (λ y. y.label) o ≡ option_map (λ y. y.payload) q → option_map (λ y. y.label) (cond t (Some r) o) ≡ option_map (λ y. y.payload) (cond s (Some x) q)
front_step true true r x o q e l h = ap Some l
front_step false false r x o q e l h = h
front_step true false r x o q e l h = cc
front_step false true r x o q e l h = cc

pub front_bits : (width : ℕ) (rows : List PrefixRow) (v : ℕ) → All (λ r. FitsWidth width r.prefix) rows → v < 2 ^ width →
    list.front width rows v ≡ front (map (row_bits width) rows) (bits width v)
front_bits width [] v fits small = refl
front_bits width (r ∷ rows) v fits small =
    front_step (prefix_holds width r.prefix v) (begins (prefix_bits width r.prefix) (bits width v)) r (row_bits width r)
    (find (λ x. prefix_holds width x.prefix v) rows) (find (λ x. begins x.bits (bits width v)) (map (row_bits width) rows))
    (begins_bits width r v (All-head (λ x. FitsWidth width x.prefix) r rows fits) small) refl
    (front_bits width rows v (All-tail (λ x. FitsWidth width x.prefix) r rows fits) small)

pub weight_bits : (width : ℕ) (weights : List ℕ) (rows : List PrefixRow) → weigh (weight_of weights) (map (row_bits width) rows) ≡ list.weight weights rows
weight_bits width weights [] = refl
weight_bits width weights (r ∷ rows) =
    sum_by-cons (λ x. slice_index weights x.payload) (row_bits width r) (map (row_bits width) rows)
    ∙ ap (λ n. slice_index weights r.label + n) (weight_bits width weights rows)
    ∙ sym (sum_by-cons (λ x. slice_index weights x.label) r rows)

right_bits : (width : ℕ) (f : ℕ → ℕ) (d : ℕ) (rows : List PrefixRow) → list.IsRight width f rows → IsRightWith width 0 f d (map (row_bits width) rows)
right_bits width f d rows right b at =
    let v = value width 0 b in
    let small : v < 2 ^ width = omega (arith, value-high width 0 b) in
    let held : front (map (row_bits width) rows) b ≡ Some (f v) =
    ap (front (map (row_bits width) rows)) (sym (bits-value width b at)) ∙ sym (front_bits width rows v right.fits small) ∙ right.answers v small in
    ap (λ o. unwrap_or o d) held

-- every right list of the field weighs at least what the field costs with a row of its own
pub least : (weights : List ℕ) (f : ℕ → ℕ) (width : ℕ) (part : Node) (d : ℕ) → StandsFor weights f width 0 part → IsFresh (costs_of part) d →
    (rows : List PrefixRow) → list.IsRight width f rows → (costs_of part).row ≤ list.weight weights rows
least weights f width part d h fresh rows right =
    let bound = lower weights f width 0 part h d (map (row_bits width) rows) (right_bits width f d rows right) in
    omega (arith, bound, row_pays weights f width 0 part h d fresh, weight_bits width weights rows)

pub halves-bound : (weights : List ℕ) (f : ℕ → ℕ) (n low : ℕ) (c : Costs) (lower_half upper_half : Node) → IsSplit weights (costs_of lower_half) (costs_of upper_half) c →
    StandsFor weights f n low lower_half → StandsFor weights f n (low + 2 ^ n) upper_half → (d : ℕ) (rows : List (Row ℕ)) → IsRootless rows → IsRightWith (suc n) low f d rows →
    without_row c d ≤ weigh (weight_of weights) rows
halves-bound weights f n low c lo hi s h g d rows rootless right = omega (
  arith,
  s.without d,
  weight-halves (weight_of weights) rows,
  lower weights f n low lo h d (half false rows) (right_low n low f d rows rootless right),
  lower weights f n (low + 2 ^ n) hi g d (half true rows) (right_high n low f d rows rootless right),
)

-- a label that isn't listed helps no more than another
pub fresh_without : (weights : List ℕ) (f : ℕ → ℕ) (n low : ℕ) (c : Costs) (lower_half upper_half : Node) → IsSplit weights (costs_of lower_half) (costs_of upper_half) c →
    StandsFor weights f n low lower_half → StandsFor weights f n (low + 2 ^ n) upper_half → (d e : ℕ) → IsFresh c e → without_row c d ≤ without_row c e
fresh_without weights f n low c lo hi s h g d e fresh = omega (
  arith,
  s.without d,
  s.without e,
  fresh_helps_least weights f n low lo h e d (λ l. fresh (s.lists_low e l)),
  fresh_helps_least weights f n (low + 2 ^ n) hi g e d (λ l. fresh (s.lists_high e l)),
)

unheld_step : (t : Bool) (r : Row ℕ) (o : Option (Row ℕ)) → t ≡ false → option_map (λ x. x.payload) o ≡ None → option_map (λ x. x.payload) (cond t (Some r) o) ≡ None
unheld_step true r o e h = cc
unheld_step false r o e h = h

begins_none : (bs : List Bool) → is_root bs ≡ false → begins bs [] ≡ false
begins_none [] e = cc
begins_none (b ∷ bs) e = refl

-- rows that are longer than one value hold it nowhere
unheld : (rows : List (Row ℕ)) → IsRootless rows → front rows [] ≡ None
unheld [] h = refl
unheld (r ∷ rows) h = unheld_step (begins r.bits []) r (find (λ x. begins x.bits []) rows) (begins_none r.bits h.0) (unheld rows h.1)

-- where another label is inherited, a part of one label needs a row at each half
pub constant-bound : (weights : List ℕ) (f : ℕ → ℕ) (n low : ℕ) (c : Costs) → IsConstant weights c → GivesAll f n low c.label → (d : ℕ) → c.label ≢ d →
    (rows : List (Row ℕ)) → IsRootless rows → IsRightWith n low f d rows → slice_index weights c.label + slice_index weights c.label ≤ weigh (weight_of weights) rows
constant-bound weights f zero low c k all d other rows rootless right =
    absurd (other (sym (all low (omega arith) (omega arith)) ∙ sym (right [] refl) ∙ ap (λ o. unwrap_or o d) (unheld rows rootless)))
constant-bound weights f (suc n) low c k all d other rows rootless right =
    let twice = double n in
    omega (
      arith,
      constant-full k other,
      weight-halves (weight_of weights) rows,
      lower weights f n low (Constant c) (k, λ v from to. all v from (omega arith)) d (half false rows) (right_low n low f d rows rootless right),
      lower weights f n (low + 2 ^ n) (Constant c) (k, λ v from to. all v (omega arith) (omega arith)) d (half true rows) (right_high n low f d rows rootless right),
    )

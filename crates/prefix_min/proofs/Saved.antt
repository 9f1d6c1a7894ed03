-- The savings of a part from those of its halves.
use Rattle.std.proofs.Common.{◌≡◌, ◌≢◌, ◌∷◌, ℕ, List, [], ◌+◌, ◌-◌, ◌<◌, ◌≤◌, Bool, true, false, refl, ap, arith, ◌∙◌, inl, inr, eq-eqb, ne_eqb, subst}
use Rattle.std.specs.Prelude.{◌⊎◌, cond, ◌==◌, nat_lt, slice_index}
use Rattle.std.proofs.lemmas.Bool.{cases_lt, eqb-true, ltb-false}
use Rattle.std.proofs.lemmas.Bool.Decides.{eqb_tells}
use Rattle.prefix_min.specs.declared.savings.LabelCost.{LabelCost}
use Rattle.prefix_min.specs.Costs.{Costs, Has, Lists, RisesFrom, IsConstant, IsSplit, least_cost, without_row}
use Rattle.prefix_min.proofs.Listed.{below_all, rises_later}
use Rattle.prefix_min.specs.Savings.{AreSavings, AreSums, IsGain, alone, less, lowered, saved}

lowered_rises : (gain low : ℕ) (t : Bool) (e : LabelCost) (es : List LabelCost) → low ≤ e.label → RisesFrom (e.label + 1) es → RisesFrom low (cond t (less gain e ∷ es) es)
lowered_rises gain low true e es le h = (le, h)
lowered_rises gain low false e es le h = rises_later (e.label + 1) low es (omega (arith, le)) h

pub lowered-rises : (gain low : ℕ) (es : List LabelCost) → RisesFrom low es → RisesFrom low (lowered gain es)
lowered-rises gain low [] h = tt
lowered-rises gain low (e ∷ es) h = lowered_rises gain low (nat_lt gain e.cost) e (lowered gain es) h.0 (lowered-rises gain (e.label + 1) es h.1)

lists_lowered : (gain d : ℕ) (t : Bool) (e : LabelCost) (es fs : List LabelCost) → (Lists fs d → Lists es d) → Lists (cond t (less gain e ∷ fs) fs) d → Lists (e ∷ es) d
lists_lowered gain d true e es fs f (inl h) = inl h
lists_lowered gain d true e es fs f (inr h) = inr (f h)
lists_lowered gain d false e es fs f h = inr (f h)

pub lists-lowered : (gain : ℕ) (es : List LabelCost) (d : ℕ) → Lists (lowered gain es) d → Lists es d
lists-lowered gain [] d h = h
lists-lowered gain (e ∷ es) d h = lists_lowered gain d (nat_lt gain e.cost) e es (lowered gain es) (lists-lowered gain es d) h

saved_lowered : (gain low d : ℕ) (t s : Bool) (e : LabelCost) (es : List LabelCost) → RisesFrom (e.label + 1) es → nat_lt gain e.cost ≡ t → e.label == d ≡ s → saved (lowered gain es) d ≡ saved es d - gain →
    saved (cond t (less gain e ∷ lowered gain es) (lowered gain es)) d ≡ cond s e.cost (saved es d) - gain
saved_lowered gain low d true true e es h t s k = ap (λ x. cond x (e.cost - gain) (saved (lowered gain es) d)) s
saved_lowered gain low d true false e es h t s k = ap (λ x. cond x (e.cost - gain) (saved (lowered gain es) d)) s ∙ k
saved_lowered gain low d false true e es h t s k =
    let same : e.label ≡ d = eqb-true e.label d s in
    let none : saved es d ≡ 0 = below_all (e.label + 1) d 0 es (omega (arith, same)) h in
    let small = ltb-false gain e.cost t in
    k ∙ omega (arith, none, small)
saved_lowered gain low d false false e es h t s k = k

-- each label saves so much less
pub saved-lowered : (gain low : ℕ) (es : List LabelCost) → RisesFrom low es → (d : ℕ) → saved (lowered gain es) d ≡ saved es d - gain
saved-lowered gain low [] h d = omega arith
saved-lowered gain low (e ∷ es) h d = saved_lowered gain low d (nat_lt gain e.cost) (e.label == d) e es h.1 refl refl (saved-lowered gain (e.label + 1) es h.1 d)

-- a part of one label
module _ {weights : List ℕ} {c : Costs} (k : IsConstant weights c) where
  one_saves : (d : ℕ) (t : Bool) → c.label == d ≡ t → cond t (slice_index weights c.label) 0 + least_cost c d ≡ c.row
  one_saves d true e =
      let free : without_row c d ≡ 0 = k.without d ∙ ap (λ t. cond t 0 (slice_index weights c.label)) e in
      omega (arith, free, k.with_row)
  one_saves d false e =
      let full : without_row c d ≡ slice_index weights c.label = k.without d ∙ ap (λ t. cond t 0 (slice_index weights c.label)) e in
      omega (arith, full, k.with_row)

  one_most : (d : ℕ) → ((c.label == d ≡ true) × (c.label ≡ d)) ⊎ ((c.label == d ≡ false) × (c.label ≢ d)) → cond (c.label == d) (slice_index weights c.label) 0 ≤ slice_index weights d
  one_most d (inl t) = rw t.0 (omega (arith, ap (slice_index weights) t.1))
  one_most d (inr t) = rw t.0 (omega arith)

  one_lists : (d : ℕ) → (c.label ≡ d) ⊎ ⊥ → Has c.labels d
  one_lists d (inl e) = subst (Has c.labels) e k.listed
  one_lists d (inr h) = absurd h

  -- its label saves all that it weighs
  pub one-saves : AreSavings weights c (record { label = c.label; cost = slice_index weights c.label } ∷ [])
  one-saves = record {
    saves = λ d. one_saves d (c.label == d) refl;
    most = λ d. one_most d (eqb_tells c.label d);
    full = ap (λ t. cond t (slice_index weights c.label) 0) (eq-eqb c.label c.label refl);
    lists = one_lists;
    own = k.listed;
  }

-- a part of two halves
module _ {weights : List ℕ} {low high c : Costs} {xs ys : List LabelCost} {gain best : ℕ} (s : IsSplit weights low high c) (a : AreSavings weights low xs)
    (b : AreSavings weights high ys)
    (g : IsGain weights xs ys gain best) where
  -- what the halves save and what they cost
  sum : (d : ℕ) → saved xs d + saved ys d + without_row c d ≡ low.row + high.row
  sum d = omega (arith, a.saves d, b.saves d, s.without d)

  listed_best : 0 < gain → Has c.labels best
  listed_best some = elim (g.listed some) [ inl k ↦ s.lists_low best (a.lists best k) | inr k ↦ s.lists_high best (b.lists best k) ]

  at_most : c.row + gain ≤ low.row + high.row
  at_most = elim (cases_lt 0 gain) [
    | inl some ↦ omega (arith, s.cheapest best (listed_best some), sum best, g.whole some)
    | inr none ↦ omega (arith, none, s.cheapest low.label (s.lists_low low.label a.own), sum low.label, a.full)
  ]

  at_least : low.row + high.row ≤ c.row + gain
  at_least = omega (arith, s.with_row, sum c.label, g.most c.label)

  -- it costs what the halves cost, less the gain
  pub joined-row : c.row + gain ≡ low.row + high.row
  joined-row = omega (arith, at_most, at_least)

  -- and saves what they save, less the gain
  pub joined-saves : (zs : List LabelCost) → AreSums xs ys zs → AreSavings weights c (lowered gain zs)
  joined-saves zs l = record {
    saves = λ d. omega (arith, saved-lowered gain 0 zs l.rise d, l.saves d, joined-row, sum d);
    most = λ d. omega (arith, saved-lowered gain 0 zs l.rise d, l.saves d, g.most d);
    full = omega (arith, saved-lowered gain 0 zs l.rise c.label, l.saves c.label, joined-row, sum c.label, s.with_row);
    lists = λ d h. elim (l.lists d (lists-lowered gain zs d h)) [ inl k ↦ s.lists_low d (a.lists d k) | inr k ↦ s.lists_high d (b.lists d k) ];
    own = s.listed;
  }

  -- it writes no row where it inherits a label by which the halves save the gain or more
  pub writes-none : (d : ℕ) → gain ≤ saved xs d + saved ys d → without_row c d ≤ c.row
  writes-none d le = omega (arith, joined-row, sum d, le)

  pub writes-own : (d : ℕ) → saved xs d + saved ys d < gain → c.row < without_row c d
  writes-own d lt = omega (arith, joined-row, sum d, lt)

  -- its row has the least label with the gain
  pub own-label : 0 < gain → c.label ≡ best
  own-label some = elim (cases_lt c.label best) [
    | inl lt ↦ absurd (omega (arith, g.first some c.label lt, sum c.label, s.with_row, joined-row))
    | inr ge ↦ elim (cases_lt best c.label) [
      | inl lt ↦ absurd (omega (arith, s.first best (listed_best some) lt, sum best, g.whole some, joined-row))
      | inr le ↦ omega (arith, ge, le)
    ]
  ]

-- where a part by which only one label saves anything lies beside a part of that label, nothing changes
pub record IsUnchanged (c part : Costs) (y : ℕ) : Type 0 where
  pub row : c.row ≡ part.row
  pub costs : (d : ℕ) → least_cost c d ≡ least_cost part d
  pub label : c.label ≡ y
  pub silent : without_row c y ≤ c.row
  pub writes : (d : ℕ) → y ≢ d → c.row < without_row c d

alone_most : (weights : List ℕ) (y d : ℕ) (t : Bool) → (y == d ≡ t) → cond t (slice_index weights y) 0 + cond t (slice_index weights y) 0 ≤ slice_index weights d + slice_index weights y
alone_most weights y d true e = omega (arith, ap (slice_index weights) (eqb-true y d e))
alone_most weights y d false e = omega arith

pub alone_at : (weights : List ℕ) (y : ℕ) → saved (alone weights y) y ≡ slice_index weights y
alone_at weights y = ap (λ t. cond t (slice_index weights y) 0) (eq-eqb y y refl)

alone_else : (weights : List ℕ) (y d : ℕ) → y ≢ d → saved (alone weights y) d ≡ 0
alone_else weights y d ne = ap (λ t. cond t (slice_index weights y) 0) (ne_eqb y d ne)

alone-gain : (weights : List ℕ) (y : ℕ) → IsGain weights (alone weights y) (alone weights y) (slice_index weights y) y
alone-gain weights y = record {
  most = λ d. alone_most weights y d (y == d) refl;
  listed = λ some. inl (inl refl);
  whole = λ some. omega (arith, alone_at weights y);
  first = λ some d lt. omega (arith, alone_else weights y d (λ e. omega (arith, e, lt)), some);
}

alone_cases : (weights : List ℕ) (y d : ℕ) → ((y ≡ d) × (saved (alone weights y) d ≡ slice_index weights y)) ⊎ ((y ≢ d) × (saved (alone weights y) d ≡ 0))
alone_cases weights y d = elim (eqb_tells y d) [
  | inl t ↦ inl (t.1, ap (λ b. cond b (slice_index weights y) 0) t.0)
  | inr t ↦ inr (t.1, ap (λ b. cond b (slice_index weights y) 0) t.0)
]

module _ {weights : List ℕ} {y : ℕ} {low high part c : Costs} (weighs : 0 < slice_index weights y) (a : AreSavings weights low (alone weights y))
    (b : AreSavings weights high (alone weights y))
    (s : IsSplit weights low high c) (p : AreSavings weights part (alone weights y)) (is : low.row + high.row ≡ part.row + slice_index weights y) where
  same_row : c.row ≡ part.row
  same_row = omega (arith, joined-row s a b (alone-gain weights y), is)

  same_cost : (d : ℕ) → least_cost c d ≡ least_cost part d
  same_cost d = elim (alone_cases weights y d) [
    | inl t ↦ omega (arith, t.1, a.saves d, b.saves d, p.saves d, s.without d, same_row, is)
    | inr t ↦ omega (arith, t.1, a.saves d, b.saves d, p.saves d, s.without d, same_row, is)
  ]

  pub unchanged : IsUnchanged c part y
  unchanged = record {
    row = same_row;
    costs = same_cost;
    label = own-label s a b (alone-gain weights y) weighs;
    silent = omega (arith, alone_at weights y, a.saves y, b.saves y, s.without y, same_row, is);
    writes = λ d ne. omega (arith, alone_else weights y d ne, a.saves d, b.saves d, s.without d, same_row, is, weighs);
  }

-- No right list below a prefix weighs less than the least cost of its part of the trie.
use Rattle.std.proofs.Common.{◌≡◌, ◌∷◌, ℕ, List, [], ◌+◌, ◌^◌, ◌≤◌, Bool, true, false, refl, ap, arith, sym, ◌∙◌, inl, inr, eq-eqb, subst, length, ◌<◌}
use Rattle.std.specs.Prelude.{◌≢◌, ◌⊎◌, cond, Option, Some, None, unwrap_or, suc, zero, slice_index}
use Rattle.field_boxes.proofs.Halves.{Row, front, half, IsRootless, front-half, weight-halves}
use Rattle.prefix_min.specs.Trie.{Node, Constant, Halves, costs_of, StandsFor}
use Rattle.prefix_min.specs.Costs.{Costs, Has, IsConstant, least_cost, without_row}
use Rattle.prefix_min.proofs.Root.{value, value-low, value-high, weigh, before, root, before-rootless, before-none, front-root, weight-root, weight-before, weight-front}
use Rattle.std.proofs.lemmas.Bool.{cases_eq, ne_eqb, cases_lt}
use Rattle.field_boxes.proofs.Powers.{double}

-- the weight of a label
abbrev pub weight_of : List ℕ → ℕ → ℕ
weight_of weights d = slice_index weights d

-- right for f on the part of n bits from low on, where d answers for the values that no row holds
abbrev pub IsRightWith : ℕ → ℕ → (ℕ → ℕ) → ℕ → List (Row ℕ) → Type 0
IsRightWith n low f d rows = (b : List Bool) → length b ≡ n → unwrap_or (front rows b) d ≡ f (value n low b)

-- a right list falls into right lists of the halves
pub right_low : (n low : ℕ) (f : ℕ → ℕ) (d : ℕ) (rows : List (Row ℕ)) → IsRootless rows → IsRightWith (suc n) low f d rows → IsRightWith n low f d (half false rows)
right_low n low f d rows rootless h b at = ap (λ o. unwrap_or o d) (sym (front-half false b rows rootless)) ∙ h (false ∷ b) (ap suc at)

pub right_high : (n low : ℕ) (f : ℕ → ℕ) (d : ℕ) (rows : List (Row ℕ)) → IsRootless rows → IsRightWith (suc n) low f d rows → IsRightWith n (low + 2 ^ n) f d (half true rows)
right_high n low f d rows rootless h b at = ap (λ o. unwrap_or o d) (sym (front-half true b rows rootless)) ∙ h (true ∷ b) (ap suc at)

decide_step : (x : ℕ) (xs : List ℕ) (d : ℕ) → Has xs d ⊎ (Has xs d → ⊥) → ((x ≡ d) ⊎ (x ≢ d)) → Has (x ∷ xs) d ⊎ (Has (x ∷ xs) d → ⊥)
decide_step x xs d (inl k) s = inl (inr k)
decide_step x xs d (inr k) (inl s) = inl (inl s)
decide_step x xs d (inr k) (inr s) = inr (λ a. elim a [ inl t ↦ s t | inr t ↦ k t ])

pub decide : (xs : List ℕ) (d : ℕ) → Has xs d ⊎ (Has xs d → ⊥)
decide [] d = inr (λ h. h)
decide (x ∷ xs) d = decide_step x xs d (decide xs d) (cases_eq x d)

-- the label of each value of a part is listed
pub label-listed : (weights : List ℕ) (f : ℕ → ℕ) (n low : ℕ) (part : Node) → StandsFor weights f n low part → (v : ℕ) → low ≤ v → v < low + 2 ^ n → Has (costs_of part).labels (f v)
label-listed weights f n low (Constant c) h v from to = rw (h.1 v from to) h.0.listed
label-listed weights f zero low (Halves c lo hi) h v from to = absurd h
label-listed weights f (suc n) low (Halves c lo hi) h v from to =
    let twice = double n in
    elim (cases_lt v (low + 2 ^ n)) [
      | inl below ↦ h.0.lists_low (f v) (label-listed weights f n low lo h.1 v from below)
      | inr above ↦ h.0.lists_high (f v) (label-listed weights f n (low + 2 ^ n) hi h.2 v above (omega arith))
    ]

-- the bits of the least value of a part
abbrev zeros : ℕ → List Bool
zeros zero = []
zeros (suc n) = false ∷ zeros n

length-zeros : (n : ℕ) → length (zeros n) ≡ n
length-zeros zero = refl
length-zeros (suc n) = ap suc (length-zeros n)

-- what a part of one label costs where a label is inherited
pub constant-free : {weights : List ℕ} {c : Costs} {d : ℕ} → IsConstant weights c → c.label ≡ d → least_cost c d ≡ 0
constant-free {weights = weights} {c = c} {d = d} k e =
    let free : without_row c d ≡ 0 = k.without d ∙ ap (λ t. cond t 0 (slice_index weights c.label)) (eq-eqb c.label d e) in
    omega arith

pub constant-full : {weights : List ℕ} {c : Costs} {d : ℕ} → IsConstant weights c → c.label ≢ d → least_cost c d ≡ slice_index weights c.label
constant-full {weights = weights} {c = c} {d = d} k e =
    let full : without_row c d ≡ slice_index weights c.label = k.without d ∙ ap (λ t. cond t 0 (slice_index weights c.label)) (ne_eqb c.label d e) in
    omega (arith, k.with_row)

constant_step : (weights : List ℕ) (c : Costs) (d : ℕ) (rows : List (Row ℕ)) (b : List Bool) → IsConstant weights c →
    (o : Option ℕ) → front rows b ≡ o → unwrap_or o d ≡ c.label → least_cost c d ≤ weigh (weight_of weights) rows
constant_step weights c d rows b k None h e = omega (arith, constant-free k (sym e))
constant_step weights c d rows b k (Some x) h e =
    let held = subst (λ y. weight_of weights y ≤ weigh (weight_of weights) rows) e (weight-front (weight_of weights) rows b x h) in
    omega (arith, k.with_row, held)

-- the halves cost no more than a right list without a row at the part
abbrev HalvesBound : List ℕ → (ℕ → ℕ) → ℕ → ℕ → Costs → List (Row ℕ) → Type 0
HalvesBound weights f n low c rows = (d : ℕ) → IsRightWith (suc n) low f d rows → without_row c d ≤ weigh (weight_of weights) rows

held_step : (o : Option ℕ) (d e x : ℕ) → unwrap_or o e ≡ x → x ≢ e → unwrap_or o d ≡ x
held_step None d e x h k = absurd (k (sym h))
held_step (Some y) d e x h k = h

under_root : (n low : ℕ) (f : ℕ → ℕ) (d e : ℕ) (rows : List (Row ℕ)) → root rows ≡ Some e → IsRightWith n low f d rows → IsRightWith n low f e (before rows)
under_root n low f d e rows h right b at = ap (λ o. unwrap_or o d) (sym (front-root rows b e h)) ∙ right b at

module _ (weights : List ℕ) (f : ℕ → ℕ) (n low : ℕ) (c : Costs)
    (cheapest : (d : ℕ) → Has c.labels d → c.row ≤ slice_index weights d + without_row c d)
    (listed : (b : List Bool) → length b ≡ suc n → Has c.labels (f (value (suc n) low b)))
    (bound : (rows : List (Row ℕ)) → IsRootless rows → HalvesBound weights f n low c rows) where
  root_step : (d e : ℕ) (rows : List (Row ℕ)) → root rows ≡ Some e → IsRightWith (suc n) low f d rows →
      Has c.labels e ⊎ (Has c.labels e → ⊥) → least_cost c d ≤ weigh (weight_of weights) rows
  root_step d e rows h right (inl k) = omega (
    arith,
    bound (before rows) (before-rootless rows) e (under_root (suc n) low f d e rows h right),
    weight-root (weight_of weights) rows e h,
    cheapest e k,
  )
  root_step d e rows h right (inr k) = omega (
    arith,
    weight-before (weight_of weights) rows,
    bound (before rows) (before-rootless rows) d (λ b at. held_step (front (before rows) b) d e (f (value (suc n) low b))
        (under_root (suc n) low f d e rows h right b at) (λ s. k (subst (λ x. Has c.labels x) s (listed b at)))),
  )

  split_step : (d : ℕ) (rows : List (Row ℕ)) (o : Option ℕ) → root rows ≡ o → IsRightWith (suc n) low f d rows → least_cost c d ≤ weigh (weight_of weights) rows
  split_step d rows None h right =
      let rootless = subst IsRootless (before-none rows h) (before-rootless rows) in
      omega (arith, bound rows rootless d right)
  split_step d rows (Some e) h right = root_step d e rows h right (decide c.labels e)

pub lower : (weights : List ℕ) (f : ℕ → ℕ) (n low : ℕ) (part : Node) → StandsFor weights f n low part →
    (d : ℕ) (rows : List (Row ℕ)) → IsRightWith n low f d rows → least_cost (costs_of part) d ≤ weigh (weight_of weights) rows
lower weights f n low (Constant c) h d rows right =
    let b = zeros n in
    constant_step weights c d rows b h.0 (front rows b) refl
    (right b (length-zeros n) ∙ h.1 (value n low b) (value-low n low b) (value-high n low b))
lower weights f zero low (Halves c lo hi) h d rows right = absurd h
lower weights f (suc n) low (Halves c lo hi) h d rows right =
    split_step weights f n low c h.0.cheapest
    (λ b at. label-listed weights f (suc n) low (Halves c lo hi) h (value (suc n) low b) (value-low (suc n) low b) (value-high (suc n) low b))
    (λ rs rootless e r. omega (
      arith,
      h.0.without e,
      weight-halves (weight_of weights) rs,
      lower weights f n low lo h.1 e (half false rs) (right_low n low f e rs rootless r),
      lower weights f n (low + 2 ^ n) hi h.2 e (half true rs) (right_high n low f e rs rootless r),
    ))
    d rows (root rows) refl right

-- What a part of two halves costs.
use Rattle.std.proofs.Common.{subst, ◌∷◌, ◌++◌, ℕ, List, [], ◌+◌, ◌<◌, ◌≤◌, refl, ap, arith, inl, inr, length}
use Rattle.std.specs.Prelude.{◌⊎◌, cond, ◌==◌, slice_index}
use Rattle.std.proofs.lemmas.Bool.{cases_lt}
use Rattle.prefix_min.specs.Costs.{Costs, Has, IsConstant, IsSplit, least_cost}

-- the first of the cheapest labels
pub record IsCheapest (cost : ℕ → ℕ) (es : List ℕ) : Type 0 where
  pub best : ℕ
  pub has : Has es best
  pub least : (d : ℕ) → Has es d → cost best ≤ cost d
  pub first : (d : ℕ) → Has es d → d < best → cost best < cost d

cheaper_least : (cost : ℕ → ℕ) (e best : ℕ) (es : List ℕ) → cost e ≤ cost best → ((d : ℕ) → Has es d → cost best ≤ cost d) → (d : ℕ) → Has (e ∷ es) d → cost e ≤ cost d
cheaper_least cost e best es le h d (inl s) = omega (arith, ap cost s)
cheaper_least cost e best es le h d (inr k) = omega (arith, le, h d k)

cheaper_first : (cost : ℕ → ℕ) (e best : ℕ) (es : List ℕ) → (cost e < cost best) ⊎ ((cost e ≤ cost best) × (e < best)) → ((d : ℕ) → Has es d → cost best ≤ cost d) → ((d : ℕ) → Has es d → d < best → cost best < cost d) →
    (d : ℕ) → Has (e ∷ es) d → d < e → cost e < cost d
cheaper_first cost e best es c l f d (inl s) lt = absurd (omega (arith, s, lt))
cheaper_first cost e best es (inl c) l f d (inr k) lt = omega (arith, c, l d k)
cheaper_first cost e best es (inr c) l f d (inr k) lt = omega (arith, c.0, f d k (omega (arith, lt, c.1)))

kept_least : (cost : ℕ → ℕ) (e best : ℕ) (es : List ℕ) → cost best ≤ cost e → ((d : ℕ) → Has es d → cost best ≤ cost d) → (d : ℕ) → Has (e ∷ es) d → cost best ≤ cost d
kept_least cost e best es le h d (inl s) = omega (arith, le, ap cost s)
kept_least cost e best es le h d (inr k) = h d k

kept_first : (cost : ℕ → ℕ) (e best : ℕ) (es : List ℕ) → (cost best < cost e) ⊎ (best ≤ e) → ((d : ℕ) → Has es d → d < best → cost best < cost d) → (d : ℕ) → Has (e ∷ es) d → d < best → cost best < cost d
kept_first cost e best es (inl c) f d (inl s) lt = omega (arith, c, ap cost s)
kept_first cost e best es (inr c) f d (inl s) lt = absurd (omega (arith, c, s, lt))
kept_first cost e best es c f d (inr k) lt = f d k lt

with_first : (cost : ℕ → ℕ) (e : ℕ) (es : List ℕ) (c : IsCheapest cost es) → (cost e < cost c.best) ⊎ ((cost e ≤ cost c.best) × (e < c.best)) → IsCheapest cost (e ∷ es)
with_first cost e es c h = record {
  best = e;
  has = inl refl;
  least = cheaper_least cost e c.best es (elim h [ inl lt ↦ omega (arith, lt) | inr le ↦ le.0 ]) c.least;
  first = cheaper_first cost e c.best es h c.least c.first;
}

without_first : (cost : ℕ → ℕ) (e : ℕ) (es : List ℕ) (c : IsCheapest cost es) → cost c.best ≤ cost e → (cost c.best < cost e) ⊎ (c.best ≤ e) → IsCheapest cost (e ∷ es)
without_first cost e es c le h = record {
  best = c.best;
  has = inr c.has;
  least = kept_least cost e c.best es le c.least;
  first = kept_first cost e c.best es h c.first;
}

pub cheapest : (cost : ℕ → ℕ) (e : ℕ) (es : List ℕ) → IsCheapest cost (e ∷ es)
cheapest cost e [] = record {
  best = e;
  has = inl refl;
  least = λ d h. elim h [ inl s ↦ omega (arith, ap cost s) | inr k ↦ absurd k ];
  first = λ d h lt. elim h [ inl s ↦ absurd (omega (arith, s, lt)) | inr k ↦ absurd k ];
}
cheapest cost e (x ∷ es) =
    let c = cheapest cost x es in
    elim (cases_lt (cost e) (cost c.best)) [
      | inl lt ↦ with_first cost e (x ∷ es) c (inl lt)
      | inr ge ↦ elim (cases_lt e c.best) [
        | inr after ↦ without_first cost e (x ∷ es) c ge (inr after)
        | inl before ↦ elim (cases_lt (cost c.best) (cost e)) [
          | inl less ↦ without_first cost e (x ∷ es) c ge (inl less)
          | inr le ↦ with_first cost e (x ∷ es) c (inr (le, before))
        ]
      ]
    ]

pub cheapest-some : (cost : ℕ → ℕ) (d : ℕ) (es : List ℕ) → Has es d → IsCheapest cost es
cheapest-some cost d [] h = absurd h
cheapest-some cost d (e ∷ es) h = cheapest cost e es

pub has-low : (xs ys : List ℕ) (d : ℕ) → Has xs d → Has (xs ++ ys) d
has-low [] ys d h = absurd h
has-low (x ∷ xs) ys d (inl h) = inl h
has-low (x ∷ xs) ys d (inr h) = inr (has-low xs ys d h)

pub has-high : (xs ys : List ℕ) (d : ℕ) → Has ys d → Has (xs ++ ys) d
has-high [] ys d h = h
has-high (x ∷ xs) ys d h = inr (has-high xs ys d h)

-- what a part of one label costs
abbrev pub one_label : List ℕ → ℕ → Costs
one_label weights y = record { labels = y ∷ []; without = λ d. cond (y == d) 0 (slice_index weights y); row = slice_index weights y; label = y }

pub one-constant : (weights : List ℕ) (y : ℕ) → y < length weights → IsConstant weights (one_label weights y)
one-constant weights y h = record { place = h; listed = inl refl; without = λ d. refl; with_row = refl }

pub one-has : (P : ℕ → Type 0) (y : ℕ) → P y → (d : ℕ) → Has (y ∷ []) d → P d
one-has P y p d (inl e) = subst P e p
one-has P y p d (inr none) = absurd none

-- what the halves cost together
abbrev pub together : Costs → Costs → ℕ → ℕ
together low high d = least_cost low d + least_cost high d

abbrev pub with_own : List ℕ → Costs → Costs → ℕ → ℕ
with_own weights low high d = slice_index weights d + together low high d

-- two halves, where the label of the lower one's row is listed
module _ (weights : List ℕ) (low high : Costs) (own : Has low.labels low.label) where
  abbrev best_of : IsCheapest (with_own weights low high) (low.labels ++ high.labels)
  best_of = cheapest-some (with_own weights low high) low.label (low.labels ++ high.labels) (has-low low.labels high.labels low.label own)

  abbrev pub both_halves : Costs
  both_halves = record { labels = low.labels ++ high.labels; without = together low high; row = with_own weights low high best_of.best; label = best_of.best }

  pub both-split : ((d : ℕ) → Has (low.labels ++ high.labels) d → d < length weights) → IsSplit weights low high both_halves
  both-split places = record {
    place = places best_of.best best_of.has;
    listed = best_of.has;
    lists_low = has-low low.labels high.labels;
    lists_high = has-high low.labels high.labels;
    without = λ d. refl;
    with_row = refl;
    cheapest = best_of.least;
    first = best_of.first;
  }

pub both-has : (P : ℕ → Type 0) (xs ys : List ℕ) → ((d : ℕ) → Has xs d → P d) → ((d : ℕ) → Has ys d → P d) → (d : ℕ) → Has (xs ++ ys) d → P d
both-has P [] ys f g d h = g d h
both-has P (x ∷ xs) ys f g d (inl h) = f d (inl h)
both-has P (x ∷ xs) ys f g d (inr h) = both-has P xs ys (λ e k. f e (inr k)) g d h

-- Headers in the boxes of groups.
use Rattle.std.proofs.Common.{◌≡◌, ◌∷◌, ℕ, List, [], ◌++◌, false, ◌≤◌, ◌<◌, arith, ap, refl, sym, subst, inl, inr, ◌⊎◌, suc, cond, map}
use Rattle.field_boxes.specs.Headline.Classifier.{Interval, interval_holds}
use Rattle.box_query.specs.Boxes.{Group, boxes_of, put_first, AreRising, AreGrouped}
use Rattle.field_boxes.proofs.Held.{LiesInOne}
use Rattle.box_query.proofs.Runs.{rest_at, at-first, at-past}
use Rattle.field_boxes.proofs.Unions.{not_past, not_below}

-- headers in rows with one interval in front, and more rows
held-front : (i : Interval) (rest more : List (List Interval)) (v : ℕ) (vs : List ℕ) → i.lo ≤ v → v ≤ i.hi → LiesInOne rest vs → LiesInOne (map (put_first i) rest ++ more) (v ∷ vs)
held-front i [] more v vs low high h = absurd h
held-front i (b ∷ rest) more v vs low high (inl h) = inl (low, high, h)
held-front i (b ∷ rest) more v vs low high (inr h) = inr (held-front i rest more v vs low high h)

held-more : (i : Interval) (rest more : List (List Interval)) (vs : List ℕ) → LiesInOne more vs → LiesInOne (map (put_first i) rest ++ more) vs
held-more i [] more vs h = h
held-more i (b ∷ rest) more vs h = inr (held-more i rest more vs h)

pub held-parts : (i : Interval) (rest more : List (List Interval)) (v : ℕ) (vs : List ℕ) → LiesInOne (map (put_first i) rest ++ more) (v ∷ vs) →
    ((i.lo ≤ v) × (v ≤ i.hi) × LiesInOne rest vs) ⊎ LiesInOne more (v ∷ vs)
held-parts i [] more v vs h = inr h
held-parts i (b ∷ rest) more v vs (inl h) = inl (h.0, h.1, inl h.2)
held-parts i (b ∷ rest) more v vs (inr h) = elim (held-parts i rest more v vs h) [ inl p ↦ inl (p.0, p.1, inr p.2) | inr p ↦ inr p ]

-- the rows of the groups hold a header exactly where the rows at its first value hold the rest of it
pub held-at_value : (groups : List Group) (P : List (List Interval) → Type 0) (lo hi v : ℕ) (vs : List ℕ) → AreRising P lo hi groups →
    LiesInOne (boxes_of groups) (v ∷ vs) → (lo ≤ v) × (v ≤ hi) × LiesInOne (rest_at v groups) vs
held-at_value [] P lo hi v vs h held = absurd held
held-at_value (x ∷ groups) P lo hi v vs h held = elim (held-parts x.first x.rest (boxes_of groups) v vs held) [
  | inl p ↦ (omega (arith, h.1, p.0), omega (arith, h.3, p.1), subst (λ rows. LiesInOne rows vs) (sym (at-first v x groups p.0 p.1)) p.2)
  | inr p ↦
      let r = held-at_value groups P (suc x.first.hi) hi v vs h.5 p in
      (omega (arith, h.1, h.2, r.0), r.1, subst (λ rows. LiesInOne rows vs) (sym (at-past v x groups (omega (arith, r.0)))) r.2)
]

-- where a value lies
placed : (v lo hi : ℕ) → ((lo ≤ v) × (v ≤ hi)) ⊎ ((v < lo) ⊎ (hi < v))
placed v lo hi = grind arith

where_is : (v : ℕ) (i : Interval) → ((i.lo ≤ v) × (v ≤ i.hi)) ⊎ (interval_holds v i ≡ false)
where_is v i = elim (placed v i.lo i.hi) [ inl p ↦ inl p | inr p ↦ elim p [ inl q ↦ inr (not_below v i q) | inr q ↦ inr (not_past v i q) ] ]

at-rest : (v : ℕ) (x : Group) (groups : List Group) → interval_holds v x.first ≡ false → rest_at v (x ∷ groups) ≡ rest_at v groups
at-rest v x groups e = ap (λ t. cond t x.rest (rest_at v groups)) e

pub held-from_value : (groups : List Group) (v : ℕ) (vs : List ℕ) → LiesInOne (rest_at v groups) vs → LiesInOne (boxes_of groups) (v ∷ vs)
held-from_value [] v vs h = absurd h
held-from_value (x ∷ groups) v vs h = elim (where_is v x.first) [
  | inl p ↦ held-front x.first x.rest (boxes_of groups) v vs p.0 p.1 (subst (λ rows. LiesInOne rows vs) (at-first v x groups p.0 p.1) h)
  | inr e ↦ held-more x.first x.rest (boxes_of groups) (v ∷ vs) (held-from_value groups v vs (subst (λ rows. LiesInOne rows vs) (at-rest v x groups e) h))
]

pub none-grouped : (fields : List ℕ) → AreGrouped fields []
none-grouped [] = inl refl
none-grouped (f ∷ fields) = ([], refl, tt, tt)

pub at-has : (P : List (List Interval) → Type 0) (lo hi v : ℕ) (groups : List Group) → P [] → AreRising P lo hi groups → P (rest_at v groups)
at-has P lo hi v [] none h = none
at-has P lo hi v (x ∷ groups) none h = elim (where_is v x.first) [
  | inl p ↦ subst P (sym (at-first v x groups p.0 p.1)) h.4
  | inr e ↦ subst P (sym (at-rest v x groups e)) (at-has P (suc x.first.hi) hi v groups none h.5)
]

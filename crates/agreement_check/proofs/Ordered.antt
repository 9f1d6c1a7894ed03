-- The order of pairs.
use Rattle.std.proofs.Common.{ℕ, Bool, List, Some, ap, Contains, slice_get, slice_index_or, length, subst, le_refl, ◌≡◌, ◌⊎◌, ◌<◌, ◌≤◌, ◌∙◌, true, false, ◌&&◌, nat_eq, nat_lt, sym, arith, inl, inr, eq-eqb}
use Rattle.std.specs.Bool.{OnFalse}
use Rattle.std.specs.List.{AllPairs}
use Rattle.std.specs.List.Sorted.{IsPartitionedBy, IsPartitionPoint}
use Rattle.std.proofs.lemmas.Option.{none-some, same_Some, slice_get-get_or, slice_get_past}
use Rattle.std.proofs.lemmas.Bool.{and_from, and_parts, cases_lt, eqb-true, false≢true, lt-ltb, ltb-true, or_cases, or_left, or_right}
use Rattle.agreement_check.specs.declared.pair.Pair.{Pair}
use Rattle.agreement_check.specs.Pairs.{comes_before}

-- what it says
abbrev pub IsBefore : Pair → Pair → Type 0
IsBefore p q = (p.entry < q.entry) ⊎ ((p.entry ≡ q.entry) × (p.rule < q.rule))

pub is-before : (p q : Pair) → comes_before p q ≡ true → IsBefore p q
is-before p q t = elim (or_cases (nat_lt p.entry q.entry) (nat_eq p.entry q.entry && nat_lt p.rule q.rule) t) [
  | inl less ↦ inl (ltb-true p.entry q.entry less)
  | inr same ↦ (let both = and_parts (nat_eq p.entry q.entry) (nat_lt p.rule q.rule) same in inr (eqb-true p.entry q.entry both.0, ltb-true p.rule q.rule both.1))
]

pub before : (p q : Pair) → IsBefore p q → comes_before p q ≡ true
before p q (inl less) = or_left (nat_lt p.entry q.entry) (nat_eq p.entry q.entry && nat_lt p.rule q.rule) (lt-ltb p.entry q.entry less)
before p q (inr same) =
    or_right (nat_lt p.entry q.entry) (nat_eq p.entry q.entry && nat_lt p.rule q.rule)
    (and_from (nat_eq p.entry q.entry) (nat_lt p.rule q.rule) (eq-eqb p.entry q.entry same.0) (lt-ltb p.rule q.rule same.1))

along : (p q r : Pair) → IsBefore p q → IsBefore q r → IsBefore p r
along p q r (inl s) (inl t) = inl (omega (arith, s, t))
along p q r (inl s) (inr t) = inl (omega (arith, s, t.0))
along p q r (inr s) (inl t) = inl (omega (arith, s.0, t))
along p q r (inr s) (inr t) = inr (s.0 ∙ t.0, omega (arith, s.1, t.1))

-- two of which neither comes before the other are one
pub neither : (p q : Pair) → (comes_before p q ≡ true → ⊥) → (comes_before q p ≡ true → ⊥) → (p.rule ≡ q.rule) × (p.entry ≡ q.entry)
neither p q f g =
    elim (cases_lt p.entry q.entry) [
      | inl less ↦ absurd (f (before p q (inl less)))
      | inr not_less ↦ elim (cases_lt q.entry p.entry) [
        | inl more ↦ absurd (g (before q p (inl more)))
        | inr not_more ↦
            let same : p.entry ≡ q.entry = omega (arith, not_less, not_more) in
            elim (cases_lt p.rule q.rule) [
              | inl less ↦ absurd (f (before p q (inr (same, less))))
              | inr low ↦ elim (cases_lt q.rule p.rule) [
                | inl more ↦ absurd (g (before q p (inr (sym same, more))))
                | inr high ↦ (omega (arith, low, high), same)
              ]
            ]
      ]
    ]

pub not-itself : (p : Pair) → comes_before p p ≡ true → ⊥
not-itself p t = elim (is-before p p t) [ inl less ↦ omega (arith, less) | inr same ↦ omega (arith, same.1) ]

pub follows : (p q r : Pair) → comes_before p q ≡ true → comes_before q r ≡ true → comes_before p r ≡ true
follows p q r s t = before p r (along p q r (is-before p q s) (is-before q r t))

-- Pairs that rise.

abbrev pub AreRising : List Pair → Type 0
AreRising pairs = AllPairs (λ p q. comes_before p q ≡ true) pairs

pub rising-parted : (pairs : List Pair) (p : Pair) → AreRising pairs → IsPartitionedBy (λ q. comes_before q p) pairs
rising-parted pairs p rise i j d le less t = elim (cases_lt i j) [
  | inl low ↦ follows (slice_index_or pairs i d) (slice_index_or pairs j d) p (rise i j d low less) t
  | inr high ↦ (let e : j ≡ i = omega (arith, le, high) in subst (λ k. comes_before (slice_index_or pairs k d) p ≡ true) e t)
]

-- a pair among them stands where the search ends
pub rising-found : (pairs : List Pair) (p : Pair) (place : ℕ) → AreRising pairs → IsPartitionPoint (λ q. comes_before q p ≡ true) (λ q. comes_before q p ≡ false) pairs place → Contains pairs p →
    slice_get pairs place ≡ Some p
rising-found pairs p place rise part (k, less, is) = elim (cases_lt k place) [
  | inl low ↦ absurd (not-itself p (subst (λ q. comes_before q p ≡ true) is (part.0 k p (omega arith) low)))
  | inr not_low ↦ elim (cases_lt place k) [
    | inl high ↦
        absurd (false≢true (sym (part.1 place p (le_refl place) (omega (arith, high, less))) ∙ subst (λ q. comes_before (slice_index_or pairs place p) q ≡ true) is (rise place k p high less)))
    | inr not_high ↦
        let e : k ≡ place = omega (arith, not_low, not_high) in
        subst (λ n. slice_get pairs n ≡ Some p) e (slice_get-get_or pairs k p less ∙ ap (λ q. Some q) is)
  ]
]

-- The search for a pair among them.

abbrev IsPoint : List Pair → Pair → ℕ → Type 0
IsPoint pairs p place = IsPartitionPoint (λ q. comes_before q p ≡ true) (λ q. comes_before q p ≡ false) pairs place

same_fields : (q p : Pair) → q ≡ p → nat_eq q.rule p.rule && nat_eq q.entry p.entry ≡ true
same_fields q p e = and_from (nat_eq q.rule p.rule) (nat_eq q.entry p.entry) (eq-eqb q.rule p.rule (ap (λ (x : Pair). x.rule) e)) (eq-eqb q.entry p.entry (ap (λ (x : Pair). x.entry) e))

not_there : (b : Bool) (P : Type 0) → (P → b ≡ true) → OnFalse b (P → ⊥)
not_there true P f = tt
not_there false P f = λ h. false≢true (f h)

-- another one stands where it ends
pub other-line : (pairs : List Pair) (p q : Pair) (place : ℕ) (b : Bool) → AreRising pairs → IsPoint pairs p place → slice_get pairs place ≡ Some q → b ≡ nat_eq q.rule p.rule && nat_eq q.entry p.entry →
    OnFalse b (Contains pairs p → ⊥)
other-line pairs p q place b rise point at is =
    not_there b (Contains pairs p) (λ has. is ∙ same_fields q p (same_Some q p (sym at ∙ rising-found pairs p place rise point has)))

-- or none
pub no-line : (pairs : List Pair) (p : Pair) (place : ℕ) → AreRising pairs → IsPoint pairs p place → length pairs ≤ place → Contains pairs p → ⊥
no-line pairs p place rise point past has = none-some p (sym (slice_get_past pairs place past) ∙ rising-found pairs p place rise point has)

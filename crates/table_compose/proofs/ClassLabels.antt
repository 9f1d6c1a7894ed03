-- A label for each number: the first number that is alike.
use Rattle.std.proofs.Common.{◌≡◌, ℕ, zero, suc, ◌<◌, ◌≤◌, arith, sym, inl, inr, subst}
use Rattle.std.proofs.lemmas.Bool.{cases_lt}
use Rattle.table_compose.proofs.Told.{Told}

-- u is the first number below k that is alike to v, or k where there is none
abbrev IsFirst : (ℕ → ℕ → Type 0) → ℕ → ℕ → ℕ → Type 0
IsFirst Alike v k u = (u ≤ k) × (u < k → Alike u v) × ((x : ℕ) → x < u → ¬ Alike x v)

-- where no number below k is alike, it is k or a later one
next : (Alike : ℕ → ℕ → Type 0) (v k u : ℕ) → k ≤ u → ((x : ℕ) → x < u → ¬ Alike x v) → Told (Alike k v) → (w : ℕ) × IsFirst Alike v (suc k) w
next Alike v k u le none (inl here) = (k, (omega arith, λ less. here, λ x less. none x (omega (arith, less, le))))
next Alike v k u le none (inr other) = (
  suc k,
  (
    omega arith,
    λ less. absurd (omega (arith, less)),
    λ x less alike. elim (cases_lt x k) [
      | inl below ↦ none x (omega (arith, below, le)) alike
      | inr above ↦ let same : x ≡ k = omega (arith, less, above) in other (subst (λ y. Alike y v) same alike)
    ],
  ),
)

first : (Alike : ℕ → ℕ → Type 0) → ((a b : ℕ) → Told (Alike a b)) → (v k : ℕ) → (u : ℕ) × IsFirst Alike v k u
first Alike told v zero = (0, (omega arith, λ less. absurd (omega (arith, less)), λ x less. absurd (omega (arith, less))))
first Alike told v (suc k) =
    let h = first Alike told v k in
    elim (cases_lt h.0 k) [
      | inl less ↦ (h.0, (omega (arith, less), λ within. h.1.1 less, h.1.2))
      | inr ge ↦ next Alike v k h.0 ge h.1.2 (told k v)
    ]

module _ (Alike : ℕ → ℕ → Type 0) (told : (a b : ℕ) → Told (Alike a b)) (same : (a : ℕ) → Alike a a) (back : (a b : ℕ) → Alike a b → Alike b a)
    (chain : (a b c : ℕ) → Alike a b → Alike b c → Alike a c) where
  pub label : ℕ → ℕ
  label v = (first Alike told v v).0

  pub label_low : (v : ℕ) → label v ≤ v
  unfolding label
  label_low v = (first Alike told v v).1.0

  pub label_alike : (v : ℕ) → Alike (label v) v
  unfolding label
  label_alike v = elim (cases_lt (label v) v) [
    | inl less ↦ (first Alike told v v).1.1 less
    | inr ge ↦ let low = label_low v in let own : v ≡ label v = omega (arith, low, ge) in subst (λ y. Alike y v) own (same v)
  ]

  label_least : (v x : ℕ) → x < label v → ¬ Alike x v
  unfolding label
  label_least v = (first Alike told v v).1.2

  pub one_label : (v u : ℕ) → label v ≡ label u → Alike v u
  one_label v u e = chain v (label v) u (back (label v) v (label_alike v)) (subst (λ y. Alike y u) (sym e) (label_alike u))

  pub alike_label : (v u : ℕ) → Alike v u → label v ≡ label u
  alike_label v u h = elim (cases_lt (label v) (label u)) [
    | inl less ↦ absurd (label_least u (label v) less (chain (label v) v u (label_alike v) h))
    | inr ge ↦ elim (cases_lt (label u) (label v)) [
      | inl less ↦ absurd (label_least v (label u) less (chain (label u) u v (label_alike u) (back v u h)))
      | inr le ↦ omega (arith, ge, le)
    ]
  ]

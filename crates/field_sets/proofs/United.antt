-- What comes of two numbers that a union's sets answer.
use Rattle.std.proofs.Common.{◌≡◌, ℕ, ◌≤◌, ◌<◌, ◌∙◌, arith, refl, ap, sym, subst}
use Rattle.std.specs.Prelude.{Bool, true, false, cond, zero, suc, min, nat_eq, not, ◌==◌, ◌||◌}
use Rattle.std.proofs.lemmas.Bool.{ne_eqb}
use Rattle.field_sets.specs.Unions.{united}

some : (n : ℕ) → nat_eq n 0 ≡ false → 0 < n
some zero h = cc
some (suc n) h = omega arith

abbrev beside : ℕ → ℕ → Bool → ℕ
beside m n none = cond none m (min m n)

either_by : (m n : ℕ) (s t : Bool) → nat_eq m 0 ≡ s → nat_eq n 0 ≡ t → not (united m n == 0) ≡ (not (m == 0) || not (n == 0))
either_by m n true t p q =
    ap (λ b. not (cond b n (beside m n (nat_eq n 0)) == 0)) p ∙ sym (ap (λ b. not b || not (n == 0)) p)
either_by m n false true p q =
    ap (λ b. not (cond b n (beside m n (nat_eq n 0)) == 0)) p ∙ ap (λ b. not (beside m n b == 0)) q ∙ ap not p ∙ sym (ap (λ b. not b || not (n == 0)) p)
either_by m n false false p q =
    let low = some m p in
    let high = some n q in
    ap (λ b. not (cond b n (beside m n (nat_eq n 0)) == 0)) p
    ∙ ap (λ b. not (beside m n b == 0)) q
    ∙ ap not (ne_eqb (min m n) 0 (λ e. omega (arith, e, low, high)))
    ∙ sym (ap (λ b. not b || not (n == 0)) p)

pub in_either : (m n : ℕ) → not (united m n == 0) ≡ (not (m == 0) || not (n == 0))
in_either m n = either_by m n (nat_eq m 0) (nat_eq n 0) refl refl

small_by : (m n : ℕ) (s t : Bool) → nat_eq m 0 ≡ s → nat_eq n 0 ≡ t → m ≤ 1 → n ≤ 1 → united m n ≤ 1
small_by m n true t p q h k = subst (λ b. cond b n (beside m n (nat_eq n 0)) ≤ 1) (sym p) k
small_by m n false true p q h k = subst (λ b. cond b n (beside m n (nat_eq n 0)) ≤ 1) (sym p) (subst (λ b. beside m n b ≤ 1) (sym q) h)
small_by m n false false p q h k = subst (λ b. cond b n (beside m n (nat_eq n 0)) ≤ 1) (sym p) (subst (λ b. beside m n b ≤ 1) (sym q) (omega (arith, h)))

pub at_most_one : (m n : ℕ) → m ≤ 1 → n ≤ 1 → united m n ≤ 1
at_most_one m n h k = small_by m n (nat_eq m 0) (nat_eq n 0) refl refl h k

-- Unions that rise apart and have the same values are the same list.
use Rattle.std.proofs.Common.{◌≡◌, ℕ, ◌+◌, ◌≤◌, List, [], ◌∷◌, arith, refl, ap, sym, ◌∙◌, inl, inr}
use Rattle.std.specs.Prelude.{true, false, ◌||◌}
use Rattle.std.proofs.Math.Nat.{le_refl}
use Rattle.std.proofs.lemmas.Bool.{cases_lt, false≢true, or_left}
use Rattle.field_boxes.specs.Headline.Classifier.{Interval, interval_holds, union_holds}
use Rattle.field_boxes.specs.Unions.{RiseApart}
use Rattle.field_boxes.proofs.Unions.{weaken, holds_between, not_past, below}

-- the least value of the first interval is held
least : (i : Interval) (is : List Interval) → i.lo ≤ i.hi → union_holds i.lo (i ∷ is) ≡ true
least i is h = or_left (interval_holds i.lo i) (union_holds i.lo is) (holds_between i.lo i (le_refl i.lo) h)

-- no value lies below the first interval, and none between it and the next
none_before : (low top v : ℕ) (i : Interval) (is : List Interval) → RiseApart low top (i ∷ is) → union_holds v (i ∷ is) ≡ true → i.lo ≤ v
none_before low top v i is rise h =
    elim (cases_lt v i.lo) [
      | inl less ↦ absurd (false≢true (sym (below i.lo top v (i ∷ is) (le_refl i.lo, rise.1, rise.2, rise.3) less) ∙ h))
      | inr more ↦ more
    ]

none_after : (low top : ℕ) (i : Interval) (is : List Interval) → RiseApart low top (i ∷ is) → union_holds (i.hi + 1) (i ∷ is) ≡ false
none_after low top i is rise =
    ap (λ b. b || union_holds (i.hi + 1) is) (not_past (i.hi + 1) i (omega arith)) ∙ below (i.hi + 2) top (i.hi + 1) is rise.3 (omega arith)

begins : (low top : ℕ) (i j : Interval) (is js : List Interval) → RiseApart low top (i ∷ is) → RiseApart low top (j ∷ js) →
    ((v : ℕ) → union_holds v (i ∷ is) ≡ union_holds v (j ∷ js)) → j.lo ≤ i.lo
begins low top i j is js rise_i rise_j same = none_before low top i.lo j js rise_j (sym (same i.lo) ∙ least i is rise_i.1)

ends : (low top : ℕ) (i j : Interval) (is js : List Interval) → RiseApart low top (i ∷ is) → RiseApart low top (j ∷ js) → i.lo ≡ j.lo →
    ((v : ℕ) → union_holds v (i ∷ is) ≡ union_holds v (j ∷ js)) → j.hi ≤ i.hi
ends low top i j is js rise_i rise_j lo same =
    elim (cases_lt i.hi j.hi) [
      | inr within ↦ within
      | inl past ↦
          let ordered = rise_i.1 in
          absurd (false≢true (sym (none_after low top i is rise_i) ∙ same (i.hi + 1)
          ∙ or_left (interval_holds (i.hi + 1) j) (union_holds (i.hi + 1) js) (holds_between (i.hi + 1) j (omega arith) (omega arith))))
    ]

later : (top v : ℕ) (i j : Interval) (is js : List Interval) → i.hi ≡ j.hi → RiseApart (i.hi + 2) top is → RiseApart (j.hi + 2) top js →
    union_holds v (i ∷ is) ≡ union_holds v (j ∷ js) → union_holds v is ≡ union_holds v js
later top v i j is js hi rise_i rise_j same =
    elim (cases_lt v (i.hi + 2)) [
      | inl less ↦ below (i.hi + 2) top v is rise_i less ∙ sym (below (j.hi + 2) top v js rise_j (omega arith))
      | inr more ↦
          sym (ap (λ b. b || union_holds v is) (not_past v i (omega arith))) ∙ same ∙ ap (λ b. b || union_holds v js) (not_past v j (omega arith))
    ]

pub same_interval : (i j : Interval) → i.lo ≡ j.lo → i.hi ≡ j.hi → i ≡ j
same_interval i j lo hi =
    ap (λ (n : ℕ). let k : Interval = record { lo = n; hi = i.hi } in k) lo ∙ ap (λ (n : ℕ). let k : Interval = record { lo = j.lo; hi = n } in k) hi

≤_both : (a b : ℕ) → a ≤ b → b ≤ a → a ≡ b
≤_both a b p q = omega arith

pub same_list_from : (low top : ℕ) (a b : List Interval) → RiseApart low top a → RiseApart low top b → ((v : ℕ) → union_holds v a ≡ union_holds v b) → a ≡ b
same_list_from low top [] [] rise_a rise_b same = refl
same_list_from low top [] (j ∷ js) rise_a rise_b same = absurd (false≢true (same j.lo ∙ least j js rise_b.1))
same_list_from low top (i ∷ is) [] rise_a rise_b same = absurd (false≢true (sym (same i.lo) ∙ least i is rise_a.1))
same_list_from low top (i ∷ is) (j ∷ js) rise_a rise_b same =
    let lo = ≤_both i.lo j.lo (begins low top j i js is rise_b rise_a (λ v. sym (same v))) (begins low top i j is js rise_a rise_b same) in
    let hi = ≤_both i.hi j.hi (ends low top j i js is rise_b rise_a (sym lo) (λ v. sym (same v))) (ends low top i j is js rise_a rise_b lo same) in
    ap (λ k. k ∷ is) (same_interval i j lo hi)
    ∙ ap (λ ks. j ∷ ks) (same_list_from (i.hi + 2) top is js rise_a.3 (weaken (i.hi + 2) (j.hi + 2) top js (omega (arith, hi)) rise_b.3) (λ v. later top v i j is js hi rise_a.3 rise_b.3 (same v)))

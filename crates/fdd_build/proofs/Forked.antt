-- Where edges lead that go inside in a set and outside elsewhere, one interval after another.
use Rattle.std.proofs.Common.{◌≡◌, ◌≤◌, ◌<◌, ℕ, ◌∙◌, ap, arith, sym, inl, inr}
use Rattle.std.specs.Prelude.{Bool, false, ◌&&◌, ◌||◌, cond, nat_le, nat_lt}
use Rattle.std.proofs.Math.Bool.{and-true, or-false}
use Rattle.std.proofs.lemmas.Bool.{le-leb, lt-ltb, le-ltb, cases_lt}
use Rattle.field_boxes.specs.Headline.Classifier.{Interval, interval_holds}
use Rattle.field_boxes.proofs.Unions.{not_below}

holds_to_end : (i : Interval) (v : ℕ) → v ≤ i.hi → interval_holds v i ≡ nat_le i.lo v
holds_to_end i v h = ap (λ b. nat_le i.lo v && b) (le-leb v i.hi h) ∙ and-true (nat_le i.lo v)

-- up to the end of one more interval: `held` says whether an earlier one has the value
pub with_interval : (v low old inside outside : ℕ) (i : Interval) (held : Bool) → low ≤ i.lo → v ≤ i.hi → (v < low → old ≡ cond held inside outside) → (low ≤ v → held ≡ false) →
    cond (nat_lt v low) old (cond (nat_le i.lo v) inside outside) ≡ cond (held || interval_holds v i) inside outside
with_interval v low old inside outside i held above top before none =
    elim (cases_lt v low) [
      | inl less ↦
          ap (λ b. cond b old (cond (nat_le i.lo v) inside outside)) (lt-ltb v low less)
          ∙ before less
          ∙ sym (ap (λ b. cond (held || b) inside outside) (not_below v i (omega arith)) ∙ ap (λ b. cond b inside outside) (or-false held))
      | inr more ↦
          ap (λ b. cond b old (cond (nat_le i.lo v) inside outside)) (le-ltb v low more)
          ∙ sym (ap (λ b. cond (b || interval_holds v i) inside outside) (none more) ∙ ap (λ b. cond b inside outside) (holds_to_end i v top))
    ]

-- past the end of the last interval
pub at_end : (v low old inside outside : ℕ) (held : Bool) → (v < low → old ≡ cond held inside outside) → (low ≤ v → held ≡ false) →
    cond (nat_lt v low) old outside ≡ cond held inside outside
at_end v low old inside outside held before none =
    elim (cases_lt v low) [
      | inl less ↦ ap (λ b. cond b old outside) (lt-ltb v low less) ∙ before less
      | inr more ↦ ap (λ b. cond b old outside) (le-ltb v low more) ∙ sym (ap (λ b. cond b inside outside) (none more))
    ]

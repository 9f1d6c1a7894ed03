-- How an update ends.
use Rattle.std.proofs.Common.{◌≡◌, ℕ, zero, suc, ◌+◌, ◌-◌, ◌==◌, ◌<◌, Bool, true, false, Some, None, if◌then◌else◌, refl, ap, ◌∙◌, arith}
use Rattle.std.proofs.lemmas.Bool.{eqb-false, eqb-true}
use Rattle.bank_update.specs.Machine.{State, Update, after_steps, held, moved, reached, reached_by, settle, stepped, total, with_update}
use Rattle.bank_update.specs.Plans.{Plan, bank_after_writes}
use Rattle.bank_update.specs.Swapping.{at_stage}
use Rattle.bank_update.proofs.NextWrites.{reached-back}

abbrev going : Plan → ℕ → Update
going plan done = record { plan = plan; done = done; back = false }

abbrev forward : State → Plan → ℕ → State
forward s plan done = with_update s (Some (going plan done))

last_step : (t : Bool) (s : State) (plan : Plan) (done : ℕ) → done + 1 == total (going plan done) ≡ t → done + 1 ≡ total (going plan done) →
    (if t then settle (going plan (done + 1)) else forward s plan (done + 1)) ≡ settle (going plan 0)
last_step true s plan done is h = refl
last_step false s plan done is h = absurd (eqb-false (done + 1) (total (going plan done)) is h)

next_step : (t : Bool) (s : State) (plan : Plan) (done : ℕ) → done + 1 == total (going plan done) ≡ t → done + 1 < total (going plan done) →
    (if t then settle (going plan (done + 1)) else forward s plan (done + 1)) ≡ forward s plan (done + 1)
next_step true s plan done is h = absurd (let e = eqb-true (done + 1) (total (going plan done)) is in omega (arith, e, h))
next_step false s plan done is h = refl

ends : (n : ℕ) (s : State) (plan : Plan) (done : ℕ) → done + suc n ≡ total (going plan done) → after_steps (suc n) (forward s plan done) ≡ settle (going plan 0)
ends zero s plan done h = last_step (done + 1 == total (going plan done)) s plan done refl (omega (arith, h))
ends (suc n) s plan done h =
    ap (λ x. after_steps (suc n) x) (next_step (done + 1 == total (going plan done)) s plan done refl (omega (arith, h)))
    ∙ ends n s plan (done + 1) (omega (arith, h))

goes_on : (n : ℕ) (s : State) (plan : Plan) (done : ℕ) → done + n < total (going plan done) → after_steps n (forward s plan done) ≡ forward s plan (done + n)
goes_on zero s plan done h = ap (forward s plan) (let e : done ≡ done + 0 = omega arith in e)
goes_on (suc n) s plan done h =
    ap (after_steps n) (next_step (done + 1 == total (going plan done)) s plan done refl (omega (arith, h)))
    ∙ goes_on n s plan (done + 1) (omega (arith, h))
    ∙ ap (forward s plan) (let e : done + 1 + n ≡ done + suc n = omega arith in e)

as_forward : (s : State) (u : Update) → s.pending ≡ Some u → u.back ≡ false → s ≡ forward s u.plan u.done
as_forward s u pending back = ap (with_update s) pending ∙ ap (λ b. with_update s (Some (record { plan = u.plan; done = u.done; back = b }))) back

pub settles : (s : State) (u : Update) (n : ℕ) → s.pending ≡ Some u → u.back ≡ false → u.done + suc n ≡ total u → after_steps (suc n) s ≡ settle u
settles s u n pending back h = ap (after_steps (suc n)) (as_forward s u pending back) ∙ ends n s u.plan u.done h

pub stays-pending : (s : State) (u : Update) (n : ℕ) → s.pending ≡ Some u → u.back ≡ false → u.done + n < total u → after_steps n s ≡ at_stage s u (u.done + n) false
stays-pending s u n pending back h = ap (after_steps n) (as_forward s u pending back) ∙ goes_on n s u.plan u.done h

pub restores : (s : State) (u : Update) → s.pending ≡ Some u → u.back ≡ true → held (stepped s) ≡ bank_after_writes s.settled u.plan (u.done - 1)
restores s u pending back =
    ap (λ p. held (reached_by moved s p)) pending
    ∙ ap (λ b. held (reached s (record { plan = u.plan; done = if b then u.done - 1 else u.done + 1; back = b }))) back
    ∙ reached-back s (record { plan = u.plan; done = u.done - 1; back = true }) refl

back_step : (done : ℕ) (s : State) (plan : Plan) → done ≡ 0 →
    (if done == 0 then with_update s None else with_update s (Some (record { plan = plan; done = done; back = true }))) ≡ with_update s None
back_step done s plan h = ap (λ n. if n == 0 then with_update s None else with_update s (Some (record { plan = plan; done = n; back = true }))) h

pub goes-back-over : (s : State) (u : Update) → s.pending ≡ Some u → u.back ≡ true → u.done ≡ 1 → stepped s ≡ with_update s None
goes-back-over s u pending back one =
    ap (reached_by moved s) pending
    ∙ ap (λ b. reached_by moved s (Some (record { plan = u.plan; done = u.done; back = b }))) back
    ∙ back_step (u.done - 1) s u.plan (omega (arith, one))

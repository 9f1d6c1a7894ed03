-- The answers of the new table stay.
use Rattle.std.proofs.Common.{◌≡◌, ◌≢◌, ℕ, ◌+◌, ◌≤◌, ◌==◌, Bool, true, false, List, Option, Some, None, if◌then◌else◌, refl, ap, sym, ◌∙◌, arith, subst, true≢false}
use Rattle.std.specs.Prelude.{IfSome}
use Rattle.bank_update.specs.Machine.{State, Update, looked, moved, reached_by, settle, stepped, total, with_update}
use Rattle.bank_update.specs.Plans.{answer_after}
use Rattle.bank_update.specs.Sound.{IsSound}
use Rattle.bank_update.specs.Standing.{answer}
use Rattle.bank_update.specs.Swapping.{KeepsNew, at_stage}
use Rattle.bank_update.proofs.NextWrites.{underway}
use Rattle.bank_update.proofs.OldOrNew.{looked_with, table-answer}

-- what is looked up at a stage
at_now : (s : State) (u : Update) (values : List ℕ) → s.pending ≡ Some u → looked s values ≡ answer_after s.settled u.plan u.done values
at_now s u values pending = ap (λ p. looked_with s p values) pending

pub stays-new : (s : State) (u : Update) (done : ℕ) (back : Bool) (values : List ℕ) → IsSound s → s.pending ≡ Some u → u.done ≤ done → done ≤ total u →
    answer u.plan.new values ≢ answer s.settled values → looked s values ≡ answer u.plan.new values → looked (at_stage s u done back) values ≡ answer u.plan.new values
stays-new s u done back values sound pending later small apart h =
    (underway s u pending sound).plan.good.stays u.done done values later small apart (sym (at_now s u values pending) ∙ h)

-- when it has settled
pub settled-new : (u : Update) (values : List ℕ) → looked (settle u) values ≡ answer u.plan.new values
settled-new u values = table-answer u.plan.new values

keeps_case : (t : Bool) (s : State) (u : Update) (values : List ℕ) → answer_after s.settled u.plan u.done values ≡ answer u.plan.new values →
    looked (if t then settle u else with_update s (Some u)) values ≡ answer u.plan.new values
keeps_case true s u values h = settled-new u values
keeps_case false s u values h = h

keeps_back : (back : Bool) (s : State) (u : Update) (values : List ℕ) → u.back ≡ back → s.pending ≡ Some u → IsSound s → back ≡ false →
    answer u.plan.new values ≢ answer s.settled values → looked s values ≡ answer u.plan.new values → looked (reached_by moved s (Some u)) values ≡ answer u.plan.new values
keeps_back true s u values is pending sound back apart h = absurd (true≢false back)
keeps_back false s u values is pending sound back apart h =
    let next : Update = record { plan = u.plan; done = u.done + 1; back = false } in
    let way = underway s u pending sound in
    ap (λ b. looked (reached_by moved s (Some (record { plan = u.plan; done = u.done; back = b }))) values) is
    ∙ keeps_case (u.done + 1 == total u) s next values
    (way.plan.good.stays u.done (u.done + 1) values (omega arith) (omega (arith, way.left)) apart (sym (at_now s u values pending) ∙ h))

keeps_new : (s : State) (pending : Option Update) (values : List ℕ) → s.pending ≡ pending → IsSound s →
    IfSome pending (λ u. u.back ≡ false → answer u.plan.new values ≢ answer s.settled values →
    looked s values ≡ answer u.plan.new values → looked (reached_by moved s pending) values ≡ answer u.plan.new values)
keeps_new s None values is sound = tt
keeps_new s (Some u) values is sound = λ back. keeps_back u.back s u values refl is sound back

pub keeps-new : (s later : State) (values : List ℕ) → IsSound s → later ≡ stepped s → KeepsNew s later values
keeps-new s later values sound is = subst (λ x. KeepsNew s x values) (sym is) (keeps_new s s.pending values refl sound)

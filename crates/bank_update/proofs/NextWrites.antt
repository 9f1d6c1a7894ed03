-- What the slots hold at the stages that an update reaches, and its next write.
use Rattle.std.proofs.Common.{◌≡◌, ◌<◌, ◌+◌, ◌-◌, ◌==◌, suc, Bool, true, false, Option, Some, None, option_map, length, set, slice_get, if◌then◌else◌, refl, ap, sym, ◌∙◌, subst, arith, add-one, eqb-true, true≢false}
use Rattle.std.specs.Prelude.{IfSome, is_some}
use Rattle.std.proofs.lemmas.Option.{none-some, slice_get_within}
use Rattle.tcam_sim.specs.Slots.{stored}
use Rattle.bank_update.specs.Machine.{State, Update, held, held_with, moved, reached, reached_by, settle, stage, stage_of, total, with_update}
use Rattle.bank_update.specs.Next.{IsNextWrite}
use Rattle.bank_update.specs.Plans.{after, bank_after_writes}
use Rattle.bank_update.specs.Sound.{IsSound, IsUnderway, MayBegin}
use Rattle.bank_update.specs.Standing.{bank_of}
use Rattle.bank_update.specs.declared.write.Write.{Write}
use Rattle.bank_update.proofs.Afterwards.{does, length-after, undoes}

idle_by : (p : Option Update) → is_some (option_map stage_of p) ≡ false → p ≡ None
idle_by None h = refl
idle_by (Some u) h = absurd (true≢false h)

-- no update is pending where there is no stage
pub no-stage : (s : State) → is_some (stage s) ≡ false → s.pending ≡ None
no-stage s h = idle_by s.pending h

pub underway : (s : State) (u : Update) → s.pending ≡ Some u → IsSound s → IsUnderway s u
underway s u pending sound = subst (λ q. IfSome q (IsUnderway s)) pending sound.update

forward_case : (t : Bool) (s : State) (u : Update) → u.done == total u ≡ t → MayBegin s.settled u.plan →
    held (if t then settle u else with_update s (Some u)) ≡ bank_after_writes s.settled u.plan u.done
forward_case true s u is h = sym h.good.ends ∙ ap (bank_after_writes s.settled u.plan) (sym (eqb-true u.done (total u) is))
forward_case false s u is h = refl

back_case : (t : Bool) (s : State) (u : Update) → u.done == 0 ≡ t →
    held (if t then with_update s None else with_update s (Some u)) ≡ bank_after_writes s.settled u.plan u.done
back_case true s u is = ap (bank_after_writes s.settled u.plan) (sym (eqb-true u.done 0 is))
back_case false s u is = refl

-- going back
pub reached-back : (s : State) (u : Update) → u.back ≡ true → held (reached s u) ≡ bank_after_writes s.settled u.plan u.done
reached-back s u back =
    ap (λ t. held (if t then (if u.done == 0 then with_update s None else with_update s (Some u)) else (if u.done == total u then settle u else with_update s (Some u)))) back
    ∙ back_case (u.done == 0) s u refl

reached_case : (back : Bool) (s : State) (u : Update) → MayBegin s.settled u.plan →
    held (if back then (if u.done == 0 then with_update s None else with_update s (Some u)) else (if u.done == total u then settle u else with_update s (Some u)))
    ≡ bank_after_writes s.settled u.plan u.done
reached_case true s u h = back_case (u.done == 0) s u refl
reached_case false s u h = forward_case (u.done == total u) s u refl h

pub reached-held : (s : State) (u : Update) → MayBegin s.settled u.plan → held (reached s u) ≡ bank_after_writes s.settled u.plan u.done
reached-held s u h = reached_case u.back s u h

pub next-forward : (s : State) (u : Update) (w : Write) → s.pending ≡ Some u → IsSound s → u.back ≡ false → slice_get u.plan.writes u.done ≡ Some w →
    IsNextWrite s (record { slot = w.slot; entry = w.entry })
next-forward s u w pending sound back at =
    let way = underway s u pending sound in
    let old = bank_of s.settled.slots in
    record {
      pending = λ none. none-some u (sym none ∙ pending);
      within = subst (λ q. w.slot < length (held_with s q)) (sym pending) (slice_get_within (after old u.plan.writes u.done) w.slot (option_map stored w.before) (way.plan.good.stood u.done w at));
      leads = ap (λ q. set (held_with s q) w.slot (option_map stored w.entry)) pending
          ∙ sym (does old u.plan.writes u.done w at)
          ∙ ap (after old u.plan.writes) (sym (add-one u.done) ∙ ap (λ t. if t then u.done - 1 else u.done + 1) (sym back))
          ∙ sym (reached-held s (moved u) way.plan)
          ∙ ap (λ q. held (reached_by moved s q)) (sym pending);
    }

pub next-back : (s : State) (u : Update) (w : Write) → s.pending ≡ Some u → IsSound s → u.back ≡ true → slice_get u.plan.writes (u.done - 1) ≡ Some w →
    IsNextWrite s (record { slot = w.slot; entry = w.before })
next-back s u w pending sound back at =
    let way = underway s u pending sound in
    let old = bank_of s.settled.slots in
    let some = way.begun back in
    record {
      pending = λ none. none-some u (sym none ∙ pending);
      within = subst (λ q. w.slot < length (held_with s q)) (sym pending)
          (subst (λ n. w.slot < n) (length-after old u.plan.writes (u.done - 1) ∙ sym (length-after old u.plan.writes u.done))
          (slice_get_within (after old u.plan.writes (u.done - 1)) w.slot (option_map stored w.before) (way.plan.good.stood (u.done - 1) w at)));
      leads = ap (λ q. set (held_with s q) w.slot (option_map stored w.before)) pending
          ∙ ap (λ n. set (after old u.plan.writes n) w.slot (option_map stored w.before)) (let e : u.done ≡ suc (u.done - 1) = omega (arith, some) in e)
          ∙ undoes old u.plan.writes (u.done - 1) w way.plan.good.stood at
          ∙ ap (after old u.plan.writes) (ap (λ t. if t then u.done - 1 else u.done + 1) (sym back))
          ∙ sym (reached-held s (moved u) way.plan)
          ∙ ap (λ q. held (reached_by moved s q)) (sym pending);
    }

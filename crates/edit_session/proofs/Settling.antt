-- How an update that a commit has begun ends.
use Rattle.std.proofs.Common.{◌≡◌, ℕ, zero, suc, ◌+◌, ◌==◌, List, Bool, true, false, Some, None, Ok, if◌then◌else◌, length, refl, ap, sym, subst, ◌∙◌, arith}
use Rattle.std.proofs.lemmas.Bool.{eqb-false, eqb-true}
use Rattle.field_boxes.specs.Headline.Classifier.{source}
use Rattle.field_boxes.specs.Headline.Fields.{stated}
use Rattle.bank_update.specs.Machine.{State, Update, begun_by, settle, with_update}
use Rattle.bank_update.specs.Plans.{Plan}
use Rattle.edit_session.specs.Lists.{Listed}
use Rattle.edit_session.specs.Machine.{Copies, HasSettled, IsCommit, SessionState, after_steps, copies_begun, decided, decided_with, with_state}
use Rattle.edit_session.proofs.Tables.{no_writes}
use Rattle.edit_session.proofs.Ways.{planned}

-- going forward with so many writes done
abbrev going : Plan → ℕ → Update
going plan done = record { plan = plan; done = done; back = false }

abbrev forward : State → Plan → ℕ → State
forward s plan done = with_update s (Some (going plan done))

abbrev both : SessionState → Copies
both s = record { settled = s.copies.settled; pending = Some s.list.rules }

abbrev one : SessionState → Copies
one s = record { settled = s.list.rules; pending = None }

-- the update of a session by a plan, with so many writes done, and when it has ended
abbrev on : SessionState → Plan → ℕ → SessionState
on s plan done = with_state s (forward s.state plan done) (both s)

abbrev over : SessionState → Plan → SessionState
over s plan = with_state s (settle (going plan 0)) (one s)

abbrev at : Bool → SessionState → Plan → ℕ → SessionState
at t s plan done = with_state s (if t then settle (going plan done) else forward s.state plan done) (if t then one s else both s)

last_step : (t : Bool) (s : SessionState) (plan : Plan) (done : ℕ) → done + 1 == length plan.writes ≡ t → done + 1 ≡ length plan.writes → at t s plan (done + 1) ≡ over s plan
last_step true s plan done is h = refl
last_step false s plan done is h = absurd (eqb-false (done + 1) (length plan.writes) is h)

next_step : (t : Bool) (s : SessionState) (plan : Plan) (done n : ℕ) → done + 1 == length plan.writes ≡ t → done + suc (suc n) ≡ length plan.writes → at t s plan (done + 1) ≡ on s plan (done + 1)
next_step true s plan done n is h = absurd (let e = eqb-true (done + 1) (length plan.writes) is in omega (arith, e, h))
next_step false s plan done n is h = refl

ends : (n : ℕ) (s : SessionState) (plan : Plan) (done : ℕ) → done + suc n ≡ length plan.writes → after_steps (suc n) (on s plan done) ≡ over s plan
ends zero s plan done h = last_step (done + 1 == length plan.writes) s plan done refl (omega (arith, h))
ends (suc n) s plan done h =
    ap (after_steps (suc n)) (next_step (done + 1 == length plan.writes) s plan done n refl h)
    ∙ ends n s plan (done + 1) (omega (arith, h))

-- an update that begins, by whether it has no writes
starts : (t : Bool) (n : ℕ) (s : SessionState) (plan : Plan) → length plan.writes == 0 ≡ t → n ≡ length plan.writes → after_steps n (at t s plan 0) ≡ over s plan
starts true zero s plan is h = refl
starts true (suc n) s plan is h = absurd (let e = eqb-true (length plan.writes) 0 is in omega (arith, e, h))
starts false zero s plan is h = absurd (eqb-false (length plan.writes) 0 is (sym h))
starts false (suc n) s plan is h = ends n s plan 0 (omega (arith, h))

begins : (s : SessionState) (plan : Plan) → with_state s (begun_by s.state plan) (copies_begun s.list (length plan.writes) s.copies) ≡ at (length plan.writes == 0) s plan 0
begins s plan =
    ap (λ t. with_state s (if t then settle (going plan 0) else forward s.state plan 0) (copies_begun s.list (length plan.writes) s.copies)) (no_writes (length plan.writes))

pub has-settled : (s t : SessionState) (total : ℕ) → IsCommit s t (Ok total) → HasSettled s.list (after_steps total t)
has-settled s t total h =
    let begun = planned s.way s.state h.state h.table total h.begun in
    let plan = begun.plan in
    let first : t ≡ at (length plan.writes == 0) s plan 0 = h.session
    ∙ ap (λ (x : State). with_state s x (copies_begun s.list total s.copies)) begun.state
    ∙ ap (λ n. with_state s (begun_by s.state plan) (copies_begun s.list n s.copies)) begun.count
    ∙ begins s plan in
    let is : after_steps total t ≡ over s plan = ap (after_steps total) first ∙ starts (length plan.writes == 0) total s plan refl begun.count in
    subst (HasSettled s.list) (sym is) (record { idle = refl; settled = refl; list_is = refl })

pub settled-decides : (s : SessionState) (values : List ℕ) → s.state.pending ≡ None → decided s.state s.copies values ≡ source stated values s.copies.settled
settled-decides s values idle = ap (λ p. decided_with s.state s.copies p values) idle

pub commit-decides : (s t : SessionState) (total : ℕ) (values : List ℕ) → IsCommit s t (Ok total) → decided (after_steps total t).state (after_steps total t).copies values ≡ source stated values (after_steps total t).list.rules
commit-decides s t total values h =
    let settled = has-settled s t total h in
    settled-decides (after_steps total t) values settled.idle
    ∙ ap (source stated values) (settled.settled ∙ sym (ap (λ (l : Listed). l.rules) settled.list_is))

-- The tables stay tables of their lists when the state of the swap changes.
use Rattle.std.proofs.Common.{◌≡◌, ℕ, zero, suc, List, [], Bool, true, false, Option, Some, None, Ok, Err, ap, refl, sym, subst, ◌∙◌, length, map, replicate}
use Rattle.std.specs.Prelude.{◌==◌, if◌then◌else◌, ok_or, option_map}
use Rattle.std.proofs.lemmas.Bool.{eqb-false, eqb-true}
use Rattle.field_boxes.specs.Headline.Classifier.{Rule}
use Rattle.ternary_words.specs.Headline.Table as words
use Rattle.ternary_words.specs.Views.{entry_of}
use Rattle.ternary_words.specs.declared.entry.Entry.{Entry}
use Rattle.ternary_words.specs.declared.table.Table as code
use Rattle.bank_update.specs.Machine as updates
use Rattle.bank_update.specs.Machine.{State, Update, abort_answer, begun_by, moved, reached_by, settle, stage_of, step_answer, total, turned_back, with_update}
use Rattle.bank_update.specs.Plans.{Plan}
use Rattle.bank_update.specs.Standing.{answer, entries_in}
use Rattle.bank_update.specs.Whole.{unsettled}
use Rattle.bank_update.specs.declared.refusal.Idle.{Idle}
use Rattle.bank_update.specs.declared.stage.Stage.{Stage}
use Rattle.edit_session.specs.Lists.{Listed}
use Rattle.edit_session.specs.Machine.{Copies, aborted_copies, copies_at, copies_begun, copies_by, kept_copies, no_copies, settled_copies, stepped_copies}
use Rattle.edit_session.specs.Sound.{AreTablesOf, IsPendingOf, IsTableBy, IsTableOf}
use Rattle.edit_session.proofs.Ways.{HasPlan}

-- the lists of the settled and of the pending table
abbrev lists : List (Rule (List ℕ)) → List (Rule (List ℕ)) → Copies
lists settled pending = record { settled = settled; pending = Some pending }

-- a swap that has reached a stage, by which way it goes, whether no write is done, and whether all are
reached_with : (settled pending : List (Rule (List ℕ))) (s : State) (swap : Update) (back none whole : Bool) → IsTableOf settled s.settled → IsTableOf pending swap.plan.new →
    AreTablesOf (if back then (if none then kept_copies (lists settled pending) else lists settled pending) else (if whole then settled_copies (lists settled pending) else lists settled pending))
    (if back then (if none then with_update s None else with_update s (Some swap)) else (if whole then settle swap else with_update s (Some swap)))
reached_with settled pending s swap true true whole old new = record { settled = old; pending = tt }
reached_with settled pending s swap true false whole old new = record { settled = old; pending = new }
reached_with settled pending s swap false none true old new = record { settled = new; pending = tt }
reached_with settled pending s swap false none false old new = record { settled = old; pending = new }

reached_of : (settled : List (Rule (List ℕ))) (pending : Option (List (Rule (List ℕ)))) (s : State) (swap swap' : Update) → ((rules : List (Rule (List ℕ))) → IsTableOf rules swap.plan.new → IsTableOf rules swap'.plan.new) →
    IsTableOf settled s.settled → IsPendingOf pending (Some swap) →
    let copies : Copies = record { settled = settled; pending = pending } in
    AreTablesOf (copies_by copies (Some (stage_of swap'))) (updates.reached s swap')
reached_of settled None s swap swap' same old new = absurd new
reached_of settled (Some pending) s swap swap' same old new =
    reached_with settled pending s swap' swap'.back (swap'.done == 0) (swap'.done == total swap') old (same pending new)

changed_by : (change : Update → Update) → ((swap : Update) (rules : List (Rule (List ℕ))) → IsTableOf rules swap.plan.new → IsTableOf rules (change swap).plan.new) →
    (copies : Copies) (s : State) (p : Option Update) → AreTablesOf copies s → IsPendingOf copies.pending p →
    AreTablesOf (copies_by copies (option_map (λ swap. stage_of (change swap)) p)) (reached_by change s p)
changed_by change same copies s None tables pending = tables
changed_by change same copies s (Some swap) tables pending = reached_of copies.settled copies.pending s swap (change swap) (same swap) tables.settled pending

-- after a step that succeeds
pub stepped-tables : (copies : Copies) (s : State) → AreTablesOf copies s → AreTablesOf (stepped_copies s copies) (updates.stepped s)
stepped-tables copies s tables = changed_by moved (λ swap rules h. h) copies s s.pending tables tables.pending

-- after abort
pub aborted-tables : (copies : Copies) (s : State) → AreTablesOf copies s → AreTablesOf (aborted_copies s copies) (updates.aborted s)
aborted-tables copies s tables = changed_by turned_back (λ swap rules h. h) copies s s.pending tables tables.pending

-- an update that begins, by whether it has no writes
begun_with : (list : Listed) (copies : Copies) (s : State) (u : Update) (none : Bool) → AreTablesOf copies s → IsTableOf list.rules u.plan.new →
    let over : Copies = record { settled = list.rules; pending = None } in
    let on : Copies = record { settled = copies.settled; pending = Some list.rules } in
    AreTablesOf (if none then over else on) (if none then settle u else with_update s (Some u))
begun_with list copies s u true tables new = record { settled = new; pending = tt }
begun_with list copies s u false tables new = record { settled = tables.settled; pending = new }

no_case : (t u : Bool) (n : ℕ) → (0 == n) ≡ t → (n == 0) ≡ u → t ≡ u
no_case true true n a b = refl
no_case false false n a b = refl
no_case true false n a b = absurd (eqb-false n 0 b (sym (eqb-true 0 n a)))
no_case false true n a b = absurd (eqb-false 0 n a (sym (eqb-true n 0 b)))

pub no_writes : (n : ℕ) → (0 == n) ≡ (n == 0)
no_writes n = no_case (0 == n) (n == 0) n refl refl

-- after an update to a table of the list has begun
pub begun-tables : (list : Listed) (copies : Copies) (s : State) (plan : Plan) → AreTablesOf copies s → IsTableOf list.rules plan.new →
    AreTablesOf (copies_begun list (length plan.writes) copies) (begun_by s plan)
begun-tables list copies s plan tables new =
    let u : Update = record { plan = plan; done = 0; back = false } in
    subst (λ (t : Bool). AreTablesOf (if t then record { settled = list.rules; pending = None } else record { settled = copies.settled; pending = Some list.rules }) (begun_by s plan))
    (no_writes (length plan.writes)) (begun_with list copies s u (0 == length plan.writes) tables new)

in_none : (n : ℕ) → entries_in (replicate n None) ≡ []
in_none zero = refl
in_none (suc n) = in_none n

-- at first
pub first-tables : (slots : ℕ) → AreTablesOf no_copies (unsettled slots)
first-tables slots = record { settled = λ header is. ap (λ (es : List Entry). words.answer (map (entry_of []) es) header) (in_none slots); pending = tt }

-- the list of the settled table at first
pub new-tables : (copies : Copies) (s : State) (slots : ℕ) → copies ≡ no_copies → s ≡ unsettled slots → AreTablesOf copies s
new-tables copies s slots none first = subst (λ (x : Copies). AreTablesOf x s) (sym none) (subst (AreTablesOf no_copies) (sym first) (first-tables slots))

-- a swap was begun
pub has-begun : (new copies : Copies) (t s : State) (list : Listed) (table : code.Table) (count : ℕ) → HasPlan s t table count → new ≡ copies_begun list count copies →
    AreTablesOf copies s → IsTableBy list.rules table → AreTablesOf new t
has-begun new copies t s list table count begun is tables of =
    let leads : IsTableOf list.rules begun.plan.new = λ header good. begun.leads header ∙ of header good in
    subst (λ (x : Copies). AreTablesOf x t) (sym (is ∙ ap (λ n. copies_begun list n copies) begun.count))
    (subst (AreTablesOf (copies_begun list (length begun.plan.writes) copies)) (sym begun.state) (begun-tables list copies s begun.plan tables leads))

-- the state is as it was
pub same-tables : (copies : Copies) (t s : State) → t ≡ s → AreTablesOf copies s → AreTablesOf copies t
same-tables copies t s same tables = subst (AreTablesOf copies) (sym same) tables

-- a step was done
pub has-stepped : (new copies : Copies) (t s : State) (stage : Stage) → step_answer s ≡ Some stage → new ≡ copies_at copies stage → t ≡ updates.stepped s → AreTablesOf copies s → AreTablesOf new t
has-stepped new copies t s stage answer is steps tables =
    subst (λ (x : Copies). AreTablesOf x t) (sym (is ∙ ap (copies_by copies) (sym answer))) (subst (AreTablesOf (stepped_copies s copies)) (sym steps) (stepped-tables copies s tables))

abort_by : (o : Option Stage) (stage : Stage) (idle : Idle) → ok_or o idle ≡ Ok stage → o ≡ Some stage
abort_by None stage idle h = absurd (cc)
abort_by (Some x) stage idle h = cc

-- the swap goes back
pub has-aborted : (new copies : Copies) (t s : State) (stage : Stage) (idle : Idle) → ok_or (abort_answer s) idle ≡ Ok stage → new ≡ copies_at copies stage → t ≡ updates.aborted s → AreTablesOf copies s → AreTablesOf new t
has-aborted new copies t s stage idle answer is turns tables =
    subst (λ (x : Copies). AreTablesOf x t) (sym (is ∙ ap (copies_by copies) (sym (abort_by (abort_answer s) stage idle answer))))
    (subst (AreTablesOf (aborted_copies s copies)) (sym turns) (aborted-tables copies s tables))

-- the lists after abort
pub aborts-copies : (new copies : Copies) (s : State) (stage : Stage) (idle : Idle) → ok_or (abort_answer s) idle ≡ Ok stage → new ≡ copies_at copies stage → new ≡ aborted_copies s copies
aborts-copies new copies s stage idle answer is = is ∙ ap (copies_by copies) (sym (abort_by (abort_answer s) stage idle answer))

no_abort : (o : Option Stage) (idle e : Idle) → ok_or o idle ≡ Err e → o ≡ None
no_abort None idle e h = refl
no_abort (Some x) idle e h = absurd (cc)

idle_aborts : (s : State) (copies : Copies) (p : Option Update) → option_map (λ swap. stage_of (turned_back swap)) p ≡ None → reached_by turned_back s p ≡ s
idle_aborts s copies None h = refl
idle_aborts s copies (Some swap) h = absurd (cc)

-- no swap was pending, so the lists are as they were
pub aborts-none : (copies : Copies) (s : State) (idle e : Idle) → ok_or (abort_answer s) idle ≡ Err e → copies ≡ aborted_copies s copies
aborts-none copies s idle e h = ap (copies_by copies) (sym (no_abort (abort_answer s) idle e h))

-- and so is the state
pub aborts-still : (copies : Copies) (t s : State) (idle e : Idle) → ok_or (abort_answer s) idle ≡ Err e → t ≡ updates.aborted s → AreTablesOf copies s → AreTablesOf copies t
aborts-still copies t s idle e h turns tables = same-tables copies t s (turns ∙ idle_aborts s copies s.pending (no_abort (abort_answer s) idle e h)) tables

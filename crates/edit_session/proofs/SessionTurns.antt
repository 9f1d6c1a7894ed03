-- A command of a session takes its turn, or is left where memory is refused.
use Rattle.std.proofs.Common.{◌≡◌, ℕ, ◌≤◌, true, false, List, Some, None, Result, Ok, Err, inl, inr, refl, sym, ap, subst, ◌∙◌, arith}
use Rattle.std.specs.Prelude.{◌↔◌, ◌⊎◌, IfOk, IfErr, OnOk, OnErr, option_map, if◌then◌else◌}
use Rattle.razor_base.specs.Headline.Outcomes.{CallOutcome}
use Rattle.razor_limits.specs.Counts.{counted, Rose}
use Rattle.razor_base.specs.Output.{Writes}
use Rattle.tcam_sim.specs.Tries.{counted_times}
use Rattle.field_boxes.specs.Headline.Classifier.{Rule}
use Rattle.bank_update.specs.declared.stage.Stage.{Stage}
use Rattle.bank_update.specs.declared.refusal.StepRefusal.{StepRefusal}
use Rattle.bank_update.specs.declared.refusal.StepRefusal.TheVariants as refusals
use Rattle.bank_update.specs.Lines.{fault_line, stage_or_idle, step_line}
use Rattle.bank_update.specs.Machine.{moved, stage_of, step_answer}
use Rattle.bank_update.specs.Machine as swaps
use Rattle.bank_update.specs.Runs.{RoseBy}
use Rattle.edit_session.specs.Editing.{Editing, IsAddRefused}
use Rattle.edit_session.specs.Lists.{Listed, add_answer, added_by, with_name_alone, with_rule}
use Rattle.edit_session.specs.Machine.{IsCommit, SessionState, copies_by, stepped, with_list, with_state}
use Rattle.edit_session.specs.Refusals.{IsKnownAdd, IsKnownCommit}
use Rattle.edit_session.specs.SessionEnds.{IsLeft, TakesTurn}
use Rattle.edit_session.specs.SessionLines.{add_line, commit_line}
use Rattle.edit_session.specs.SessionRuns.{IsTurn, faults_of, tries_of}
use Rattle.edit_session.specs.SessionText as texts
use Rattle.edit_session.specs.declared.refusal.CommitRefusal.{CommitRefusal}
use Rattle.edit_session.specs.declared.refusal.CommitRefusal.TheVariants as commits
use Rattle.edit_session.specs.declared.refusal.PlaceRefusal.{PlaceRefusal}
use Rattle.edit_session.specs.declared.refusal.PlaceRefusal.TheVariants as places
use Rattle.bank_update.proofs.Taking.{some_of, rose_one, tried-by}

-- a command that doesn't write to the device
pub takes-quietly : {S T E : Type 0} {w : S → List CallOutcome} {f : S → ℕ} {a b : S} {old new : SessionState} {m n p q : ℕ} {event : texts.SessionEvent} {x : Result T E} (line : List ℕ) →
    IsTurn old event false new line → faults_of old event false ≡ 0 → tries_of old event ≡ 0 → m ≡ n → p ≡ q → Writes w f a b line x → TakesTurn w f a b old new m n p q event x
takes-quietly {p = p} line turn none quiet same untried writes = record {
  breaks = false;
  printed = line;
  turn = turn;
  counted = inl (omega (arith, none, same));
  counts = omega (arith, same);
  once = sym untried ∙ ap (λ k. counted_times k p) (sym quiet);
  line = writes;
}

add_turn : (old new : SessionState) (place : ℕ) (rule : Rule (List ℕ)) (r : Result ℕ PlaceRefusal) → IfOk r (λ count. add_answer old.list place ≡ Ok count) → OnOk r (new.list ≡ with_rule old.list place rule) →
    IfErr r (λ e. IsAddRefused old.list new.list place rule.decision e) → new ≡ with_list old new.list → IsKnownAdd r → IsTurn old (texts.Add place rule) false new (add_line r)
add_turn old new place rule (Ok count) answer list refused is known =
    (is ∙ ap (with_list old) (list ∙ ap (λ r. added_by r old.list place rule) (sym answer)), ap add_line (sym answer))
add_turn old new place rule (Err (places.NoPlace count)) answer list refused is known =
    (is ∙ ap (with_list old) (refused.1 ∙ ap (λ r. added_by r old.list place rule) (sym refused.0)), ap add_line (sym refused.0))
add_turn old new place rule (Err places.Full) answer list refused is known =
    (is ∙ ap (with_list old) (refused.1 ∙ ap (λ r. added_by r old.list place rule) (sym refused.0)), ap add_line (sym refused.0))
add_turn old new place rule (Err places.Memory) answer list refused is known = absurd known

-- a rule is added, or there is no place for it
pub takes-add : {S T E X : Type 0} (w : S → List CallOutcome) (f : S → ℕ) (a b : S) (old new : SessionState) (m n p q : ℕ) (place : ℕ) (rule : Rule (List ℕ)) (r : Result ℕ PlaceRefusal) (x : Result (Result T E) X) →
    IfOk r (λ count. add_answer old.list place ≡ Ok count) → OnOk r (new.list ≡ with_rule old.list place rule) →
    IfErr r (λ e. IsAddRefused old.list new.list place rule.decision e) → new ≡ with_list old new.list → m ≡ n → p ≡ q →
    OnOk x (IsKnownAdd r) → IfOk x (λ written. Writes w f a b (add_line r) written) →
    IfOk x (λ written. TakesTurn w f a b old new m n p q (texts.Add place rule) written)
takes-add w f a b old new m n p q place rule r (Ok written) answer list refused is same untried known writes =
    takes-quietly (add_line r) (add_turn old new place rule r answer list refused is known) refl refl same untried writes
takes-add w f a b old new m n p q place rule r (Err e) answer list refused is same untried known writes = tt

-- a commit begins a swap, or is refused for another reason than memory
pub takes-commit : {S T E X : Type 0} (w : S → List CallOutcome) (f : S → ℕ) (a b : S) (old new : SessionState) (m n p q : ℕ) (r : Result ℕ CommitRefusal) (x : Result (Result T E) X) →
    IsCommit old new r → m ≡ n → p ≡ q → OnOk x (IsKnownCommit r) → IfOk x (λ written. Writes w f a b (commit_line r) written) →
    IfOk x (λ written. TakesTurn w f a b old new m n p q texts.Commit written)
takes-commit w f a b old new m n p q r (Ok written) commit same untried known writes =
    takes-quietly (commit_line r) (record { answer = r; commit = commit; answered = known; line_is = refl }) refl refl same untried writes
takes-commit w f a b old new m n p q r (Err e) commit same untried known writes = tt

idle-step : (s : SessionState) → s.state.pending ≡ None → s ≡ stepped s
idle-step s idle =
    ap (λ p. with_state s (swaps.reached_by moved s.state p) (copies_by s.copies (option_map (λ swap. stage_of (moved swap)) p))) (sym idle)

-- a step that succeeds, that finds no swap pending, or that fails
pub takes-step : {S T E : Type 0} {w : S → List CallOutcome} {f : S → ℕ} {a b : S} {old new : SessionState} {m n p q : ℕ} {x : Result T E} (r : Result Stage StepRefusal) →
    IfOk r (λ stage. step_answer old.state ≡ Some stage) → OnOk r (new ≡ stepped old) → (r ≡ Err refusals.Idle ↔ old.state.pending ≡ None) → OnErr r (new ≡ old) →
    (r ≡ Err refusals.DeviceFault → Rose m n) → m ≤ n → ((old.state.pending ≡ None → ⊥) → q ≡ counted p) → (old.state.pending ≡ None → q ≡ p) →
    Writes w f a b (step_line r) x → TakesTurn w f a b old new m n p q texts.Step x
takes-step {old = old} {p = p} {q = q} (Ok stage) answer is idle same fault le once none writes = record {
  breaks = false;
  printed = step_line (Ok stage);
  turn = (is, ap stage_or_idle (sym answer));
  counted = inl (omega (arith, le));
  counts = le;
  once = tried-by old.state.pending p q once none;
  line = writes;
}
takes-step {old = old} {p = p} {q = q} (Err refusals.Idle) answer is idle same fault le once quiet writes =
    let none = idle.0 refl in
    record {
      breaks = false;
      printed = step_line (Err refusals.Idle);
      turn = (same ∙ idle-step old none, ap (λ o. stage_or_idle (option_map (λ swap. stage_of (moved swap)) o)) (sym none));
      counted = inl (omega (arith, le));
      counts = le;
      once = tried-by old.state.pending p q once quiet;
      line = writes;
    }
takes-step {old = old} {m = m} {n = n} {p = p} {q = q} (Err refusals.DeviceFault) answer is idle same fault le once none writes =
    let some = some_of old.state.pending (λ none. absurd (let e = idle.1 none in cc)) in
    record {
      breaks = true;
      printed = fault_line;
      turn = (same ∙ ap (λ t. if t then old else stepped old) (sym some), ap (λ t. if t then fault_line else stage_or_idle (step_answer old.state)) (sym some));
      counted = subst (λ t. RoseBy (if t then 1 else 0) m n) (sym some) (rose_one m n (fault refl));
      counts = le;
      once = tried-by old.state.pending p q once none;
      line = writes;
    }

-- the same of the command as the code has it
pub turn-is : {S T E : Type 0} {w : S → List CallOutcome} {f : S → ℕ} {a b : S} {old new : SessionState} {m n p q : ℕ} {x : Result T E} {event other : texts.SessionEvent} → other ≡ event →
    TakesTurn w f a b old new m n p q event x → TakesTurn w f a b old new m n p q other x
turn-is {w = w} {f = f} {a = a} {b = b} {old = old} {new = new} {m = m} {n = n} {p = p} {q = q} {x = x} is turn = subst (λ e. TakesTurn w f a b old new m n p q e x) (sym is) turn

-- the same where the answer is handed on
pub turns-are : {S T E X : Type 0} (w : S → List CallOutcome) (f : S → ℕ) (a b : S) (old new : SessionState) (m n p q : ℕ) (event other : texts.SessionEvent) (r : Result (Result T E) X) → other ≡ event →
    IfOk r (λ x. TakesTurn w f a b old new m n p q event x) → IfOk r (λ x. TakesTurn w f a b old new m n p q other x)
turns-are w f a b old new m n p q event other (Ok x) is turn = turn-is is turn
turns-are w f a b old new m n p q event other (Err e) is turn = tt

left_by : (old new : SessionState) (list : Listed) (name : List ℕ) → new ≡ with_list old list → (list ≡ old.list) ⊎ (list ≡ with_name_alone old.list name) →
    (new ≡ old) ⊎ (new ≡ with_list old (with_name_alone old.list name))
left_by old new list name is (inl same) = inl (is ∙ ap (with_list old) same)
left_by old new list name is (inr named) = inr (is ∙ ap (with_list old) named)

left_add : {V : Type 0} (old new : Editing V) (place : ℕ) (rule : Rule (List ℕ)) (r : Result ℕ PlaceRefusal) → r ≡ Err places.Memory →
    IfErr r (λ e. IsAddRefused old.session.list new.session.list place rule.decision e) → new.session ≡ with_list old.session new.session.list → new.device ≡ old.device →
    IsLeft (texts.Add place rule) old new
left_add old new place rule r memory refused is device =
    let left = subst (λ (x : Result ℕ PlaceRefusal). IfErr x (λ e. IsAddRefused old.session.list new.session.list place rule.decision e)) memory refused in
    (left_by old.session new.session new.session.list rule.decision is left.1, device)

-- memory was refused, and no rule is added
pub leaves-add : {V S Y X : Type 0} (a b : S) (old new : Editing V) (place : ℕ) (rule : Rule (List ℕ)) (r : Result ℕ PlaceRefusal) (x : Result Y X) →
    IfErr r (λ e. IsAddRefused old.session.list new.session.list place rule.decision e) → new.session ≡ with_list old.session new.session.list → new.device ≡ old.device →
    OnErr x ((r ≡ Err places.Memory) × (b ≡ a)) → OnErr x (IsLeft (texts.Add place rule) old new × (b ≡ a))
leaves-add a b old new place rule r (Ok y) refused is device memory = tt
leaves-add a b old new place rule r (Err e) refused is device memory = (left_add old new place rule r memory.0 refused is device, memory.1)

-- memory was refused, and no swap is begun
pub leaves-commit : {V S Y X : Type 0} (a b : S) (old new : Editing V) (r : Result ℕ CommitRefusal) (x : Result Y X) → IsCommit old.session new.session r → new.device ≡ old.device →
    OnErr x ((r ≡ Err commits.Memory) × (b ≡ a)) → OnErr x (IsLeft texts.Commit old new × (b ≡ a))
leaves-commit a b old new r (Ok y) commit device memory = tt
leaves-commit a b old new r (Err e) commit device memory = (((subst (IsCommit old.session new.session) memory.0 commit).1, device), memory.1)

-- the same of the command as the code has it
pub leaves-as : {V S Y X : Type 0} (a b : S) (old new : Editing V) (event other : texts.SessionEvent) (x : Result Y X) → other ≡ event →
    OnErr x (IsLeft event old new × (b ≡ a)) → OnErr x (IsLeft other old new × (b ≡ a))
leaves-as a b old new event other x is left = subst (λ e. OnErr x (IsLeft e old new × (b ≡ a))) (sym is) left

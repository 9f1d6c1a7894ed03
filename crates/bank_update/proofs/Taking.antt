-- A command takes its turn.
use Rattle.std.proofs.Common.{◌≡◌, ℕ, ◌≤◌, true, false, List, length, Option, Some, None, Result, Ok, Err, inl, inr, refl, sym, ap, subst, ◌∙◌, arith}
use Rattle.std.specs.Result.{result_ok}
use Rattle.std.specs.Prelude.{◌↔◌, ok_or, IfOk, IfErr, OnOk, OnErr, is_some, option_map, if◌then◌else◌}
use Rattle.razor_base.specs.Headline.Outcomes.{CallOutcome}
use Rattle.razor_limits.specs.Counts.{counted, Rose}
use Rattle.razor_base.specs.Output.{Writes}
use Rattle.razor_base.proofs.Writing.{writes-is}
use Rattle.tcam_sim.specs.Tries.{counted_times}
use Rattle.ternary_words.specs.declared.table.Table.{Table}
use Rattle.ternary_words.specs.Copies.{IsCopyOf}
use Rattle.bank_update.specs.declared.stage.Stage.{Stage}
use Rattle.bank_update.specs.declared.refusal.BeginRefusal.{BeginRefusal}
use Rattle.bank_update.specs.declared.refusal.Idle.{Idle}
use Rattle.bank_update.specs.declared.refusal.StepRefusal.{StepRefusal}
use Rattle.bank_update.specs.declared.refusal.StepRefusal.TheVariants as refusals
use Rattle.bank_update.specs.Lines.{begin_line, fault_line, stage_or_idle, step_line}
use Rattle.bank_update.specs.Machine.{State, moved, reached_by, stage_of, step_answer, stepped}
use Rattle.bank_update.specs.Whole.{begin_answer, begun}
use Rattle.bank_update.specs.Script as script
use Rattle.bank_update.specs.Runs.{RoseBy, begun_to_table, faults_of, line_of, next, table_line, table_of_number, tries_of}
use Rattle.bank_update.specs.Turns.{TakesTurn, without_table}

-- a command that doesn't write to the device
pub takes-quietly : {S T E : Type 0} {w : S → List CallOutcome} {f : S → ℕ} {a b : S} {tables : List Table} {old new : State} {m n p q : ℕ} {event : script.Event} {x : Result T E} (line : List ℕ) →
    new ≡ next tables old event false → faults_of old event false ≡ 0 → tries_of old event ≡ 0 → m ≡ n → p ≡ q → line ≡ line_of tables old event false → Writes w f a b line x →
    TakesTurn w f a b tables old new m n p q event x
takes-quietly {w = w} {f = f} {a = a} {b = b} {m = m} {n = n} {p = p} line is none quiet same untried reads writes = record {
  breaks = false;
  state = is;
  counted = inl (omega (arith, none, same));
  counts = omega (arith, same);
  once = sym untried ∙ ap (λ k. counted_times k p) (sym quiet);
  line = writes-is writes reads;
}

pub some_of : {X : Type 0} (o : Option X) → (o ≡ None → ⊥) → is_some o ≡ true
some_of None h = absurd (h refl)
some_of (Some x) h = refl

pub rose_one : (m n : ℕ) → Rose m n → RoseBy 1 m n
rose_one m n (inl less) = inl (omega (arith, less))
rose_one m n (inr last) = inr last

-- one write is tried while a swap is pending, and else none
pub tried-by : {X : Type 0} (o : Option X) (p q : ℕ) → ((o ≡ None → ⊥) → q ≡ counted p) → (o ≡ None → q ≡ p) → q ≡ counted_times (if is_some o then 1 else 0) p
tried-by None p q once none = none refl
tried-by (Some x) p q once none = once (λ e. absurd (let f = e in cc))

-- a step that succeeds, that finds no swap pending, or that fails
pub takes-step : {S T E : Type 0} {w : S → List CallOutcome} {f : S → ℕ} {a b : S} {tables : List Table} {old new : State} {m n p q : ℕ} {x : Result T E} (r : Result Stage StepRefusal) →
    IfOk r (λ stage. step_answer old ≡ Some stage) → OnOk r (new ≡ stepped old) → (r ≡ Err refusals.Idle ↔ old.pending ≡ None) → OnErr r (new ≡ old) →
    (r ≡ Err refusals.DeviceFault → Rose m n) → m ≤ n → ((old.pending ≡ None → ⊥) → q ≡ counted p) → (old.pending ≡ None → q ≡ p) → Writes w f a b (step_line r) x →
    TakesTurn w f a b tables old new m n p q script.Step x
takes-step {old = old} {p = p} {q = q} (Ok stage) answer is idle same fault le once none writes = record {
  breaks = false;
  state = is;
  counted = inl (omega (arith, le));
  counts = le;
  once = tried-by old.pending p q once none;
  line = writes-is writes (ap stage_or_idle (sym answer));
}
takes-step {old = old} {p = p} {q = q} (Err refusals.Idle) answer is idle same fault le once quiet writes =
    let none = idle.0 refl in
    record {
      breaks = false;
      state = same ∙ ap (reached_by moved old) (sym none);
      counted = inl (omega (arith, le));
      counts = le;
      once = tried-by old.pending p q once quiet;
      line = writes-is writes (ap (λ o. stage_or_idle (option_map (λ swap. stage_of (moved swap)) o)) (sym none));
    }
takes-step {old = old} {m = m} {n = n} {p = p} {q = q} (Err refusals.DeviceFault) answer is idle same fault le once none writes =
    let some = some_of old.pending (λ none. absurd (let e = idle.1 none in cc)) in
    record {
      breaks = true;
      state = same ∙ ap (λ t. if t then old else stepped old) (sym some);
      counted = subst (λ t. RoseBy (if t then 1 else 0) m n) (sym some) (rose_one m n (fault refl));
      counts = le;
      once = tried-by old.pending p q once none;
      line = writes-is writes (ap (λ t. if t then fault_line else stage_or_idle (step_answer old)) (sym some));
    }

answer_as : {A B E : Type 0} (r : Result A (B × E)) (answer : Result A E) (b : B) → IfOk r (λ total. answer ≡ Ok total) → IfErr r (λ refused. (refused.0 ≡ b) × (answer ≡ Err refused.1)) → without_table r ≡ answer
answer_as (Ok total) answer b ok err = sym ok
answer_as (Err refused) answer b ok err = sym err.1

-- a swap to a copy of a table begins, or is refused
pub takes-begin : {S T E : Type 0} {w : S → List CallOutcome} {f : S → ℕ} {a b : S} {tables : List Table} {old new : State} {m n p q : ℕ} {x : Result T E} (number : ℕ) (table copy : Table) (r : Result ℕ (Table × BeginRefusal)) →
    table_of_number tables number ≡ Some table → IsCopyOf table copy →
    IfOk r (λ total. begin_answer old (length copy.entries.items) ≡ Ok total) → IfErr r (λ refused. (refused.0 ≡ copy) × (begin_answer old (length copy.entries.items) ≡ Err refused.1)) →
    new ≡ begun old copy.entries.items copy.names → m ≡ n → p ≡ q → Writes w f a b (begin_line (without_table r)) x → TakesTurn w f a b tables old new m n p q (script.Begin number) x
takes-begin {old = old} number table copy r found same ok err is quiet untried writes =
    takes-quietly (begin_line (without_table r))
    (is ∙ ap (λ es. begun old es copy.names) same.entries ∙ ap (begun old table.entries.items) same.names ∙ ap (begun_to_table old) (sym found))
    refl refl quiet untried
    (ap begin_line (answer_as r (begin_answer old (length copy.entries.items)) copy ok err) ∙ ap (λ es. begin_line (begin_answer old (length es))) same.entries ∙ ap (table_line old) (sym found))
    writes

-- the stage that abort answers
pub stage-known : (o : Option Stage) → stage_or_idle (result_ok (ok_or {E = Idle} o (record {}))) ≡ stage_or_idle o
stage-known None = refl
stage-known (Some stage) = refl

-- the same of the command as the code has it
pub turn-is : {S T E : Type 0} {w : S → List CallOutcome} {f : S → ℕ} {a b : S} {tables : List Table} {old new : State} {m n p q : ℕ} {x : Result T E} {event other : script.Event} → other ≡ event →
    TakesTurn w f a b tables old new m n p q event x → TakesTurn w f a b tables old new m n p q other x
turn-is {w = w} {f = f} {a = a} {b = b} {tables = tables} {old = old} {new = new} {m = m} {n = n} {p = p} {q = q} {x = x} is turn = subst (λ e. TakesTurn w f a b tables old new m n p q e x) (sym is) turn

-- Runs in which no step fails.
use Rattle.std.proofs.Common.{◌≡◌, ℕ, suc, ◌+◌, Bool, true, false, List, [], ◌∷◌, inl, inr, refl, sym, ap, ◌∙◌, length, map, arith}
use Rattle.std.proofs.lemmas.List.{length-map}
use Rattle.std.specs.Prelude.{if◌then◌else◌}
use Rattle.ternary_words.specs.declared.table.Table.{Table}
use Rattle.bank_update.specs.Lines.{fault_line, stage_or_idle}
use Rattle.bank_update.specs.Machine.{State, step_answer, stepped}
use Rattle.bank_update.specs.Script as script
use Rattle.bank_update.specs.Runs.{IsRun, RoseBy, Turn, fault_count, faults_of, line_of, lines_of, next, session, session_end, state_after, step_fails}

-- a count that stays 0 rose by none
rose_none : (n : ℕ) → RoseBy n 0 0 → n ≡ 0
rose_none n (inl h) = omega (arith, h)
rose_none n (inr h) = absurd (omega (arith, h))

not_failed : (t : Bool) → ◌≡◌ {A = ℕ} (if t then 1 else 0) 0 → t ≡ false
not_failed true h = absurd (omega (arith, h))
not_failed false h = refl

next_same : (tables : List Table) (s : State) (event : script.Event) (fails : Bool) → faults_of s event fails ≡ 0 → next tables s event fails ≡ next tables s event false
next_same tables s (script.Begin number) fails h = refl
next_same tables s script.Step fails h = ap (λ t. if t then s else stepped s) (not_failed (step_fails s fails) h)
next_same tables s script.Abort fails h = refl
next_same tables s (script.Look values) fails h = refl
next_same tables s script.Stage fails h = refl

line_same : (tables : List Table) (s : State) (event : script.Event) (fails : Bool) → faults_of s event fails ≡ 0 → line_of tables s event fails ≡ line_of tables s event false
line_same tables s (script.Begin number) fails h = refl
line_same tables s script.Step fails h = ap (λ t. if t then fault_line else stage_or_idle (step_answer s)) (not_failed (step_fails s fails) h)
line_same tables s script.Abort fails h = refl
line_same tables s (script.Look values) fails h = refl
line_same tables s script.Stage fails h = refl

first_none : (m n : ℕ) → m + n ≡ 0 → m ≡ 0
first_none m n h = omega (arith, h)

rest_none : (m n : ℕ) → m + n ≡ 0 → n ≡ 0
rest_none m n h = omega (arith, h)

calm_lines : (tables : List Table) (s : State) (turns : List Turn) → fault_count tables s turns ≡ 0 → lines_of tables s turns ≡ session tables s (map (λ (t : Turn). t.event) turns)
calm_lines tables s [] h = refl
calm_lines tables s (turn ∷ turns) h =
    let here = first_none (faults_of s turn.event turn.fails) (fault_count tables (next tables s turn.event turn.fails) turns) h in
    let rest = rest_none (faults_of s turn.event turn.fails) (fault_count tables (next tables s turn.event turn.fails) turns) h in
    ap (λ l. l ∷ lines_of tables (next tables s turn.event turn.fails) turns) (line_same tables s turn.event turn.fails here)
    ∙ ap (λ ls. line_of tables s turn.event false ∷ ls) (calm_lines tables (next tables s turn.event turn.fails) turns rest)
    ∙ ap (λ x. line_of tables s turn.event false ∷ session tables x (map (λ (t : Turn). t.event) turns)) (next_same tables s turn.event turn.fails here)

calm_end : (tables : List Table) (s : State) (turns : List Turn) → fault_count tables s turns ≡ 0 → state_after tables s turns ≡ session_end tables s (map (λ (t : Turn). t.event) turns)
calm_end tables s [] h = refl
calm_end tables s (turn ∷ turns) h =
    let here = first_none (faults_of s turn.event turn.fails) (fault_count tables (next tables s turn.event turn.fails) turns) h in
    let rest = rest_none (faults_of s turn.event turn.fails) (fault_count tables (next tables s turn.event turn.fails) turns) h in
    calm_end tables (next tables s turn.event turn.fails) turns rest
    ∙ ap (λ x. session_end tables x (map (λ (t : Turn). t.event) turns)) (next_same tables s turn.event turn.fails here)

pub run-lines : (tables : List Table) (start last : State) (events : List script.Event) (lines : List (List ℕ)) → IsRun tables start last 0 0 events lines → lines ≡ session tables start events
run-lines tables start last events lines r =
    r.printed ∙ calm_lines tables start r.turns (rose_none (fault_count tables start r.turns) r.counted) ∙ ap (session tables start) r.commands

pub run-end : (tables : List Table) (start last : State) (events : List script.Event) (lines : List (List ℕ)) → IsRun tables start last 0 0 events lines → last ≡ session_end tables start events
run-end tables start last events lines r =
    r.state ∙ calm_end tables start r.turns (rose_none (fault_count tables start r.turns) r.counted) ∙ ap (session_end tables start) r.commands

count_lines : (tables : List Table) (s : State) (turns : List Turn) → length (lines_of tables s turns) ≡ length turns
count_lines tables s [] = refl
count_lines tables s (turn ∷ turns) = ap suc (count_lines tables (next tables s turn.event turn.fails) turns)

pub run-count : (tables : List Table) (start last : State) (m n : ℕ) (events : List script.Event) (lines : List (List ℕ)) → IsRun tables start last m n events lines → length lines ≡ length events
run-count tables start last m n events lines r =
    ap length r.printed ∙ count_lines tables start r.turns ∙ sym (length-map r.turns (λ (t : Turn). t.event)) ∙ ap length r.commands

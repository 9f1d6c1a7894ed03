-- Runs of commands, one turn after another.
use Rattle.std.proofs.Common.{◌≡◌, ℕ, zero, suc, ◌+◌, ◌≤◌, ◌<◌, Bool, List, [], ◌∷◌, ◌++◌, Result, Ok, Err, inl, inr, refl, sym, ap, subst, ◌∙◌, append-nil, length, get_or, take, drop, take-append-drop, arith}
use Rattle.std.specs.List.{concat}
use Rattle.std.specs.Prelude.{All, IsErrAnd}
use Rattle.std.proofs.lemmas.List.{get_or-map, length-map, map-append, take_more}
use Rattle.std.proofs.lemmas.List.Elements.{All-get_or}
use Rattle.std.proofs.lemmas.List.Folds.{concat-append}
use Rattle.razor_base.proofs.Output.{Appends-nil, Appends-trans}
use Rattle.razor_base.proofs.Writing.{refused-then, taken-then}
use Rattle.razor_base.specs.Headline.Outcomes.{CallOutcome, Extends}
use Rattle.razor_limits.specs.Counts.{counted}
use Rattle.tcam_sim.specs.Tries.{counted_times}
use Rattle.ternary_words.specs.declared.table.Table.{Table}
use Rattle.bank_update.specs.Machine.{State}
use Rattle.bank_update.specs.Script.{Event, IsWithin}
use Rattle.razor_base.specs.Output.{Appends, AreTaken, Writes}
use Rattle.bank_update.specs.declared.drive.DriveError.{DriveError}
use Rattle.bank_update.specs.declared.drive.DriveError.TheVariants as errors
use Rattle.bank_update.specs.declared.script.Command.{Command}
use Rattle.bank_update.specs.Commands.{event_of, events_of}
use Rattle.bank_update.specs.Driven.{AreWritesOf, HasRun, HasRunFront, IsCutOff, Outcome, RanFront, UnlessWriteFault}
use Rattle.bank_update.specs.Turns.{TakesTurn}
use Rattle.bank_update.specs.Runs.{IsRun, IsTriedRun, RoseBy, Turn, fault_count, faults_of, line_of, lines_of, next, state_after, tries_of, try_count}

-- more steps fail later
pub rose-more : (m n a b c : ℕ) → RoseBy m a b → RoseBy n b c → b ≤ c → RoseBy (m + n) a c
rose-more m n a b c (inr last) q le = inr (omega arith)
rose-more m n a b c (inl p) (inl q) le = inl (omega arith)
rose-more m n a b c (inl p) (inr last) le = inr last

-- one more turn
pub after-turn : (tables : List Table) (s : State) (turns : List Turn) (turn : Turn) →
    state_after tables s (turns ++ turn ∷ []) ≡ next tables (state_after tables s turns) turn.event turn.fails
after-turn tables s [] turn = refl
after-turn tables s (first ∷ turns) turn = after-turn tables (next tables s first.event first.fails) turns turn

pub lines-turn : (tables : List Table) (s : State) (turns : List Turn) (turn : Turn) →
    lines_of tables s (turns ++ turn ∷ []) ≡ lines_of tables s turns ++ line_of tables (state_after tables s turns) turn.event turn.fails ∷ []
lines-turn tables s [] turn = refl
lines-turn tables s (first ∷ turns) turn = ap (λ ls. line_of tables s first.event first.fails ∷ ls) (lines-turn tables (next tables s first.event first.fails) turns turn)

pub faults-turn : (tables : List Table) (s : State) (turns : List Turn) (turn : Turn) →
    fault_count tables s (turns ++ turn ∷ []) ≡ fault_count tables s turns + faults_of (state_after tables s turns) turn.event turn.fails
faults-turn tables s [] turn = omega arith
faults-turn tables s (first ∷ turns) turn =
    ap (λ n. faults_of s first.event first.fails + n) (faults-turn tables (next tables s first.event first.fails) turns turn) ∙ omega arith

tries-turn : (tables : List Table) (s : State) (turns : List Turn) (turn : Turn) →
    try_count tables s (turns ++ turn ∷ []) ≡ try_count tables s turns + tries_of (state_after tables s turns) turn.event
tries-turn tables s [] turn = omega arith
tries-turn tables s (first ∷ turns) turn =
    ap (λ n. tries_of s first.event + n) (tries-turn tables (next tables s first.event first.fails) turns turn) ∙ omega arith

-- so many counts and then so many more
pub counted-more : (m n count : ℕ) → counted_times n (counted_times m count) ≡ counted_times (m + n) count
counted-more m zero count = ap (λ k. counted_times k count) (omega arith)
counted-more m (suc n) count = let next : suc (m + n) ≡ m + suc n = omega arith in ap counted (counted-more m n count) ∙ ap (λ k. counted_times k count) next

-- one command more ran
abbrev pub run-turn : {tables : List Table} {start s last : State} {a b c : ℕ} {events : List Event} {lines : List (List ℕ)} (event : Event) (fails : Bool) →
    IsRun tables start s a b events lines → last ≡ next tables s event fails → RoseBy (faults_of s event fails) b c → b ≤ c →
    IsRun tables start last a c (events ++ event ∷ []) (lines ++ line_of tables s event fails ∷ [])
run-turn {tables = tables} {start = start} {s = s} {last = last} {a = a} {b = b} {c = c} {events = events} {lines = lines} event fails r is rose le =
    let turn : Turn = record { event = event; fails = fails } in
    record {
      turns = r.turns ++ turn ∷ [];
      commands = map-append (λ (t : Turn). t.event) r.turns (turn ∷ []) ∙ ap (λ es. es ++ event ∷ []) r.commands;
      state = is ∙ ap (λ x. next tables x event fails) r.state ∙ sym (after-turn tables start r.turns turn);
      printed = ap (λ ls. ls ++ line_of tables s event fails ∷ []) r.printed ∙ ap (λ x. lines_of tables start r.turns ++ line_of tables x event fails ∷ []) r.state ∙ sym (lines-turn tables start r.turns turn);
      counted = subst (λ n. RoseBy n a c) (ap (λ x. fault_count tables start r.turns + faults_of x event fails) r.state ∙ sym (faults-turn tables start r.turns turn))
          (rose-more (fault_count tables start r.turns) (faults_of s event fails) a b c r.counted rose le);
    }

-- and it tried a write, or none
tried-turn : {tables : List Table} {start s last : State} {a b c p q r : ℕ} {events : List Event} {lines : List (List ℕ)} (event : Event) (fails : Bool) →
    IsTriedRun tables start s a b p q events lines → last ≡ next tables s event fails → RoseBy (faults_of s event fails) b c → b ≤ c → r ≡ counted_times (tries_of s event) q →
    IsTriedRun tables start last a c p r (events ++ event ∷ []) (lines ++ line_of tables s event fails ∷ [])
tried-turn {tables = tables} {start = start} {s = s} {p = p} event fails h is rose le once =
    let turn : Turn = record { event = event; fails = fails } in
    let so_far = try_count tables start h.run.turns in
    record {
      run = run-turn event fails h.run is rose le;
      once = once ∙ ap (counted_times (tries_of s event)) h.once ∙ counted-more so_far (tries_of s event) p
          ∙ ap (λ k. counted_times k p) (ap (λ x. so_far + tries_of x event) h.run.state ∙ sym (tries-turn tables start h.run.turns turn));
    }

-- no command ran yet, and nothing was written
pub has-run-none : {S : Type 0} (w : S → List CallOutcome) (a : S) {tables : List Table} {s : State} {m p : ℕ} → HasRun (IsTriedRun tables s s m m p p) (Appends (w a) (w a)) []
has-run-none w a = record {
  lines = [];
  ran = record { run = record { turns = []; commands = refl; state = refl; printed = refl; counted = inl (omega arith) }; once = refl };
  written = Appends-nil (w a);
}

-- the first commands of a script
pub first-ran : (Ran : List Event → List (List ℕ) → Type 0) (events : List Event) (lines : List (List ℕ)) (i : ℕ) → Ran (take i events) lines → RanFront Ran events lines
first-ran Ran events lines i ran = record { front = take i events; rest = drop i events; parts = sym (take-append-drop i events); ran = ran }

-- what ran is a run
pub runs-of : (tables : List Table) (start last : State) (m n p q : ℕ) (Appended : List ℕ → Type 0) (events : List Event) (r : Result ℕ DriveError) →
    Outcome (IsTriedRun tables start last m n p q) Appended events r → Outcome (IsRun tables start last m n) Appended events r
runs-of tables start last m n p q Appended events (Ok count) h = (h.0, record { lines = h.1.lines; ran = h.1.ran.run; written = h.1.written })
runs-of tables start last m n p q Appended events (Err errors.Memory) h = record { lines = h.lines; ran = record { front = h.ran.front; rest = h.ran.rest; parts = h.ran.parts; ran = h.ran.ran.run }; written = h.written }
runs-of tables start last m n p q Appended events (Err errors.WriteFault) h = record {
  lines = h.lines;
  last = h.last;
  part = h.part;
  lost = h.lost;
  ran = record { front = h.ran.front; rest = h.ran.rest; parts = h.ran.parts; ran = h.ran.ran.run };
  cut = h.cut;
  written = h.written;
}

-- the next command takes its turn, and its line is written
pub goes-on : {S T E : Type 0} (w : S → List CallOutcome) {f : S → ℕ} (o : List CallOutcome) (a b : S) {tables : List Table} {start old new : State} {m n p t u v : ℕ} (events more : List Event) {event : Event} {x : T} (r : Result T E) → r ≡ Ok x →
    HasRun (IsTriedRun tables start old m n t u) (Appends o (w a)) events → TakesTurn w f a b tables old new n p u v event r → more ≡ events ++ event ∷ [] →
    HasRun (IsTriedRun tables start new m p t v) (Appends o (w b)) more
goes-on w {f = f} o a b {tables = tables} {start = start} {old = old} {new = new} {m = m} {n = n} {p = p} {t = tried} {v = tries} events more {event = event} r ok h t is =
    let line = line_of tables old event t.breaks in
    let writes = subst (Writes w f a b line) ok t.line in
    record {
      lines = h.lines ++ line ∷ [];
      ran = subst (λ es. IsTriedRun tables start new m p tried tries es (h.lines ++ line ∷ [])) (sym is) (tried-turn event t.breaks h.ran t.state t.counted t.counts t.once);
      written = subst (Appends o (w b)) (ap (λ t. concat h.lines ++ t) (sym (append-nil line)) ∙ sym (concat-append h.lines (line ∷ [])))
          (Appends-trans o (w a) (w b) (concat h.lines) line h.written writes.ok);
    }

-- the next command takes its turn, and its line is cut off
pub is-cut-off : {S T E : Type 0} (w : S → List CallOutcome) {f : S → ℕ} (o : List CallOutcome) (a b : S) {tables : List Table} {start old new : State} {m n p t u v : ℕ} {event : Event} {e : E} (events : List Event) (i : ℕ) (r : Result T E) → r ≡ Err e →
    HasRun (IsTriedRun tables start old m n t u) (Appends o (w a)) (take i events) → TakesTurn w f a b tables old new n p u v event r → take (i + 1) events ≡ take i events ++ event ∷ [] →
    IsCutOff (IsTriedRun tables start new m p t v) (Appends o (w b)) events
is-cut-off w {f = f} o a b {tables = tables} {start = start} {old = old} {new = new} {m = m} {n = n} {p = p} {t = tried} {v = tries} {event = event} events i r err h t is =
    let line = line_of tables old event t.breaks in
    let writes = subst (Writes w f a b line) err t.line in
    let cut = writes.err in
    record {
      lines = h.lines;
      last = line;
      part = cut.1.0;
      lost = cut.0;
      ran = first-ran (IsTriedRun tables start new m p tried tries) events (h.lines ++ line ∷ []) (i + 1)
          (subst (λ es. IsTriedRun tables start new m p tried tries es (h.lines ++ line ∷ [])) (sym is) (tried-turn event t.breaks h.ran t.state t.counted t.counts t.once));
      cut = cut.1.2;
      written = Appends-trans o (w a) (w b) (concat h.lines) cut.1.0 h.written cut.1.1;
    }

-- the next command isn't done: nothing has changed
pub stopped-before : {S : Type 0} (w : S → List CallOutcome) (o : List CallOutcome) (a b : S) {tables : List Table} {start s : State} {m n u v : ℕ} (t : State) (p tries : ℕ) (events : List Event) (i : ℕ) → t ≡ s → p ≡ n → tries ≡ v → b ≡ a →
    HasRun (IsTriedRun tables start s m n u v) (Appends o (w a)) (take i events) → HasRunFront (IsTriedRun tables start t m p u tries) (Appends o (w b)) events
stopped-before w o a b {tables = tables} {start = start} {s = s} {m = m} {n = n} {u = u} {v = v} t p tries events i state count tried out h = record {
  lines = h.lines;
  ran = first-ran (IsTriedRun tables start t m p u tries) events h.lines i
      (subst (λ k. IsTriedRun tables start t m p u k (take i events) h.lines) (sym tried)
      (subst (λ q. IsTriedRun tables start t m q u v (take i events) h.lines) (sym count) (subst (λ z. IsTriedRun tables start z m n u v (take i events) h.lines) (sym state) h.ran)));
  written = subst (λ z. Appends o (w z) (concat h.lines)) (sym out) h.written;
}

-- how a drive ends, where its error was handed on
pub out-of-memory : {Ran : List Event → List (List ℕ) → Type 0} {Appended : List ℕ → Type 0} {events : List Event} (r : Result ℕ DriveError) → IsErrAnd r (λ e. e ≡ errors.Memory) → HasRunFront Ran Appended events → Outcome Ran Appended events r
out-of-memory (Ok n) is h = absurd is
out-of-memory {Ran = Ran} {Appended = Appended} {events = events} (Err e) is h = subst (λ x. Outcome Ran Appended events (Err x)) (sym is) h

pub write-failed : {Ran : List Event → List (List ℕ) → Type 0} {Appended : List ℕ → Type 0} {events : List Event} (r : Result ℕ DriveError) → IsErrAnd r (λ e. e ≡ errors.WriteFault) → IsCutOff Ran Appended events → Outcome Ran Appended events r
write-failed (Ok n) is h = absurd is
write-failed {Ran = Ran} {Appended = Appended} {events = events} (Err e) is h = subst (λ x. Outcome Ran Appended events (Err x)) (sym is) h

-- no write failed where the line of a turn was written
pub calm-turn : {S T E : Type 0} {w : S → List CallOutcome} {f : S → ℕ} {a b : S} {tables : List Table} {old new : State} {n p u v : ℕ} {event : Event} {x : T} (r : Result T E) → r ≡ Ok x →
    TakesTurn w f a b tables old new n p u v event r → f b ≡ f a
calm-turn {w = w} {f = f} {a = a} {b = b} {tables = tables} {old = old} {event = event} r ok t =
    let writes = subst (Writes w f a b (line_of tables old event t.breaks)) ok t.line in writes.calm

-- its writes took all of it
pub written-turn : {S T E : Type 0} (w : S → List CallOutcome) {f : S → ℕ} (o : List CallOutcome) (a b : S) {tables : List Table} {old new : State} {n p u v : ℕ} {event : Event} {x : T} (r : Result T E) → r ≡ Ok x →
    Extends o (w a) AreTaken → TakesTurn w f a b tables old new n p u v event r → Extends o (w b) AreTaken
written-turn w {f = f} o a b {tables = tables} {old = old} {event = event} r ok so_far t =
    let writes = subst (Writes w f a b (line_of tables old event t.breaks)) ok t.line in taken-then o (w a) (w b) so_far writes.tries

-- or the last one failed, and stopped the run
pub refused-turn : {S T E : Type 0} (w : S → List CallOutcome) {f : S → ℕ} (o : List CallOutcome) (a b : S) {tables : List Table} {old new : State} {n p u v : ℕ} {event : Event} {e : E} (r : Result T E) → r ≡ Err e →
    Extends o (w a) AreTaken → TakesTurn w f a b tables old new n p u v event r → (result : Result ℕ DriveError) → IsErrAnd result (λ x. x ≡ errors.WriteFault) → Extends o (w b) (AreWritesOf result)
refused-turn w o a b r err so_far t (Ok n) is = absurd is
refused-turn w {f = f} o a b {tables = tables} {old = old} {event = event} r err so_far t (Err x) is =
    let writes = subst (Writes w f a b (line_of tables old event t.breaks)) err t.line in
    subst (λ (s : DriveError). Extends o (w b) (AreWritesOf (Err s))) (sym is) (refused-then o (w a) (w b) so_far writes.tries)

-- where memory was refused none failed
pub writes-out-of-memory : {S : Type 0} (w : S → List CallOutcome) (o : List CallOutcome) (a b : S) (result : Result ℕ DriveError) → IsErrAnd result (λ x. x ≡ errors.Memory) → b ≡ a → Extends o (w a) AreTaken → Extends o (w b) (AreWritesOf result)
writes-out-of-memory w o a b (Ok n) is same so_far = absurd is
writes-out-of-memory w o a b (Err x) is same so_far =
    subst (λ (s : DriveError). Extends o (w b) (AreWritesOf (Err s))) (sym is) (subst (λ z. Extends o (w z) AreTaken) (sym same) so_far)

-- nor where memory was refused
pub calm-out-of-memory : {P : Type 0} (r : Result ℕ DriveError) → IsErrAnd r (λ e. e ≡ errors.Memory) → P → UnlessWriteFault r P
calm-out-of-memory (Ok n) is p = absurd is
calm-out-of-memory {P = P} (Err e) is p = subst (λ x. UnlessWriteFault (Err x) P) (sym is) p

pub calm-write-failed : (P : Type 0) (r : Result ℕ DriveError) → IsErrAnd r (λ e. e ≡ errors.WriteFault) → UnlessWriteFault r P
calm-write-failed P (Ok n) is = absurd is
calm-write-failed P (Err e) is = subst (λ x. UnlessWriteFault (Err x) P) (sym is) tt

-- the command at a place of a script
event_at : (script : List Event) (items xs : List Command) (i : ℕ) (item : Command) → events_of items ≡ script → xs ≡ items → i < length xs → item ≡ get_or xs i item → (i < length script) × (get_or script i (event_of item) ≡ event_of item)
event_at script items xs i item seen same within is =
    let long = ap length same in
    let longer = length-map items event_of in
    let longest = ap length seen in
    let there : i < length items = omega (arith, within, long) in (
      omega (arith, there, longer, longest),
      ap (λ es. get_or es i (event_of item)) (sym seen) ∙ get_or-map event_of items i item (event_of item) there ∙ ap event_of (ap (λ ys. get_or ys i item) (sym same) ∙ sym is),
    )

pub next-event : (script : List Event) (items xs : List Command) (i : ℕ) (item : Command) → events_of items ≡ script → xs ≡ items → i < length xs → item ≡ get_or xs i item → take (i + 1) script ≡ take i script ++ event_of item ∷ []
next-event script items xs i item seen same within is =
    let at = event_at script items xs i item seen same within is in
    take_more script i (event_of item) at.0 ∙ ap (λ e. take i script ++ e ∷ []) at.1

pub event-within : (tables : ℕ) (script : List Event) (items xs : List Command) (i : ℕ) (item : Command) → events_of items ≡ script → xs ≡ items → i < length xs → item ≡ get_or xs i item → All (IsWithin tables) script → IsWithin tables (event_of item)
event-within tables script items xs i item seen same within is all =
    let at = event_at script items xs i item seen same within is in
    subst (IsWithin tables) at.1 (All-get_or (IsWithin tables) script i (event_of item) at.0 all)

-- Runs of the commands of a session, one turn after another.
use Rattle.std.proofs.Common.{◌≡◌, ℕ, ◌+◌, ◌≤◌, ◌<◌, Bool, List, [], ◌∷◌, ◌++◌, Result, Ok, Err, inl, refl, sym, ap, subst, ◌∙◌, append-nil, append_assoc, length, get_or, take, drop, take-append-drop, arith}
use Rattle.std.specs.List.{concat}
use Rattle.std.specs.Prelude.{All, IsErrAnd}
use Rattle.std.proofs.lemmas.List.{get_or-map, length-map, map-append, take_more}
use Rattle.std.proofs.lemmas.List.Elements.{All-get_or}
use Rattle.std.proofs.lemmas.List.Folds.{concat-append}
use Rattle.razor_base.proofs.Output.{Appends-nil, Appends-trans}
use Rattle.razor_base.proofs.Writing.{refused-then, taken-then}
use Rattle.razor_base.specs.Headline.Outcomes.{CallOutcome, Extends}
use Rattle.razor_base.specs.Output.{Appends, AreTaken, Writes}
use Rattle.bank_update.specs.Driven.{AreWritesOf}
use Rattle.bank_update.specs.Runs.{RoseBy}
use Rattle.tcam_sim.specs.Tries.{counted_times}
use Rattle.bank_update.proofs.Driving.{counted-more, rose-more}
use Rattle.bank_update.specs.declared.drive.DriveError.{DriveError}
use Rattle.bank_update.specs.declared.drive.DriveError.TheVariants as errors
use Rattle.edit_session.specs.Machine.{SessionState}
use Rattle.edit_session.specs.SessionEnds.{HasRunBefore, HasRunSession, IsCutOffSession, SessionOutcome, StandsBefore, TakesTurn}
use Rattle.edit_session.specs.SessionRuns.{AreTurns, IsSessionRun, IsTriedSessionRun, IsTurn, Turn, fault_count, faults_of, last_of, tries_of, try_count}
use Rattle.edit_session.specs.SessionText.{SessionEvent}
use Rattle.edit_session.specs.SessionViews.{IsCommand, event_of, events_of}
use Rattle.edit_session.specs.declared.session.SessionCommand.{SessionCommand}

-- one more turn
turns-turn : (s : SessionState) (turns : List Turn) (turn : Turn) → AreTurns s turns → IsTurn (last_of s turns) turn.event turn.fails turn.after turn.line → AreTurns s (turns ++ turn ∷ [])
turns-turn s [] turn are is = (is, tt)
turns-turn s (first ∷ turns) turn are is = (are.0, turns-turn first.after turns turn are.1 is)

last-turn : (s : SessionState) (turns : List Turn) (turn : Turn) → last_of s (turns ++ turn ∷ []) ≡ turn.after
last-turn s [] turn = refl
last-turn s (first ∷ turns) turn = last-turn first.after turns turn

faults-turn : (s : SessionState) (turns : List Turn) (turn : Turn) → fault_count s (turns ++ turn ∷ []) ≡ fault_count s turns + faults_of (last_of s turns) turn.event turn.fails
faults-turn s [] turn = omega arith
faults-turn s (first ∷ turns) turn = ap (λ n. faults_of s first.event first.fails + n) (faults-turn first.after turns turn) ∙ omega arith

tries-turn : (s : SessionState) (turns : List Turn) (turn : Turn) → try_count s (turns ++ turn ∷ []) ≡ try_count s turns + tries_of (last_of s turns) turn.event
tries-turn s [] turn = omega arith
tries-turn s (first ∷ turns) turn = ap (λ n. tries_of s first.event + n) (tries-turn first.after turns turn) ∙ omega arith

-- nothing ran yet
run-none : (s : SessionState) (d p : ℕ) → IsTriedSessionRun s s d d p p [] []
run-none s d p = record { run = record { turns = []; commands = refl; are = tt; state = refl; printed = refl; counted = inl (omega arith) }; once = refl }

-- one command more ran
abbrev run-turn : {start s last : SessionState} {a b c : ℕ} {events : List SessionEvent} {lines : List (List ℕ)} (event : SessionEvent) (fails : Bool) (line : List ℕ) →
    IsSessionRun start s a b events lines → IsTurn s event fails last line → RoseBy (faults_of s event fails) b c → b ≤ c →
    IsSessionRun start last a c (events ++ event ∷ []) (lines ++ line ∷ [])
run-turn {start = start} {s = s} {last = last} {a = a} {b = b} {c = c} {events = events} {lines = lines} event fails line r is rose le =
    let turn : Turn = record { event = event; fails = fails; after = last; line = line } in
    record {
      turns = r.turns ++ turn ∷ [];
      commands = map-append (λ (t : Turn). t.event) r.turns (turn ∷ []) ∙ ap (λ es. es ++ event ∷ []) r.commands;
      are = turns-turn start r.turns turn r.are (subst (λ (x : SessionState). IsTurn x event fails last line) r.state is);
      state = sym (last-turn start r.turns turn);
      printed = ap (λ ls. ls ++ line ∷ []) r.printed ∙ sym (map-append (λ (t : Turn). t.line) r.turns (turn ∷ []));
      counted = subst (λ n. RoseBy n a c) (ap (λ (x : SessionState). fault_count start r.turns + faults_of x event fails) r.state ∙ sym (faults-turn start r.turns turn))
          (rose-more (fault_count start r.turns) (faults_of s event fails) a b c r.counted rose le);
    }

-- and it tried a write, or none
tried-turn : {start s last : SessionState} {a b c p q r : ℕ} {events : List SessionEvent} {lines : List (List ℕ)} (event : SessionEvent) (fails : Bool) (line : List ℕ) →
    IsTriedSessionRun start s a b p q events lines → IsTurn s event fails last line → RoseBy (faults_of s event fails) b c → b ≤ c → r ≡ counted_times (tries_of s event) q →
    IsTriedSessionRun start last a c p r (events ++ event ∷ []) (lines ++ line ∷ [])
tried-turn {start = start} {s = s} {last = last} {p = p} event fails line h is rose le once =
    let turn : Turn = record { event = event; fails = fails; after = last; line = line } in
    let so_far = try_count start h.run.turns in
    record {
      run = run-turn event fails line h.run is rose le;
      once = once ∙ ap (counted_times (tries_of s event)) h.once ∙ counted-more so_far (tries_of s event) p
          ∙ ap (λ k. counted_times k p) (ap (λ (x : SessionState). so_far + tries_of x event) h.run.state ∙ sym (tries-turn start h.run.turns turn));
    }

-- runs that led to a session, over a device
abbrev pub Led : SessionState → ℕ → ℕ → ℕ → ℕ → SessionState → List SessionEvent → List (List ℕ) → Type 0
Led start m n p q stood events lines = IsTriedSessionRun start stood m n p q events lines

-- what ran is a run
pub runs-of : (start last : SessionState) (m n p q : ℕ) (Appended : List ℕ → Type 0) (events : List SessionEvent) (r : Result ℕ DriveError) →
    SessionOutcome (λ stood. IsTriedSessionRun start stood m n p q) Appended last events r → SessionOutcome (λ stood. IsSessionRun start stood m n) Appended last events r
runs-of start last m n p q Appended events (Ok count) h = (h.0, record { lines = h.1.lines; ran = h.1.ran.run; written = h.1.written })
runs-of start last m n p q Appended events (Err errors.Memory) h = record { front = h.front; refused = h.refused; rest = h.rest; parts = h.parts; stood = h.stood; stands = h.stands; lines = h.lines; ran = h.ran.run; written = h.written }
runs-of start last m n p q Appended events (Err errors.WriteFault) h = record {
  front = h.front;
  rest = h.rest;
  parts = h.parts;
  lines = h.lines;
  line = h.line;
  part = h.part;
  lost = h.lost;
  ran = h.ran.run;
  cut = h.cut;
  written = h.written;
}

-- the next command takes its turn, and its line is written
pub goes-on : {S T E : Type 0} (w : S → List CallOutcome) {f : S → ℕ} (o : List CallOutcome) (a b : S) {start old new : SessionState} {m n p t u v : ℕ} (events more : List SessionEvent) {event : SessionEvent} {x : T} (r : Result T E) → r ≡ Ok x →
    HasRunSession (Led start m n t u) (Appends o (w a)) old events → TakesTurn w f a b old new n p u v event r → more ≡ events ++ event ∷ [] →
    HasRunSession (Led start m p t v) (Appends o (w b)) new more
goes-on w {f = f} o a b {start = start} {old = old} {new = new} {m = m} {n = n} {p = p} {t = tried} {v = tries} events more {event = event} r ok h t is =
    let writes = subst (Writes w f a b t.printed) ok t.line in
    record {
      lines = h.lines ++ t.printed ∷ [];
      ran = subst (λ es. IsTriedSessionRun start new m p tried tries es (h.lines ++ t.printed ∷ [])) (sym is) (tried-turn event t.breaks t.printed h.ran t.turn t.counted t.counts t.once);
      written = subst (Appends o (w b)) (ap (λ t. concat h.lines ++ t) (sym (append-nil t.printed)) ∙ sym (concat-append h.lines (t.printed ∷ [])))
          (Appends-trans o (w a) (w b) (concat h.lines) t.printed h.written writes.ok);
    }

-- the next command takes its turn, and its line is cut off
pub is-cut-off : {S T E : Type 0} (w : S → List CallOutcome) {f : S → ℕ} (o : List CallOutcome) (a b : S) {start old new : SessionState} {m n p t u v : ℕ} {event : SessionEvent} {e : E} (events : List SessionEvent) (i : ℕ) (r : Result T E) → r ≡ Err e →
    HasRunSession (Led start m n t u) (Appends o (w a)) old (take i events) → TakesTurn w f a b old new n p u v event r → take (i + 1) events ≡ take i events ++ event ∷ [] →
    IsCutOffSession (Led start m p t v) (Appends o (w b)) new events
is-cut-off w {f = f} o a b {start = start} {old = old} {new = new} {m = m} {n = n} {p = p} {t = tried} {v = tries} {event = event} events i r err h t is =
    let writes = subst (Writes w f a b t.printed) err t.line in
    let cut = writes.err in
    record {
      front = take (i + 1) events;
      rest = drop (i + 1) events;
      parts = sym (take-append-drop (i + 1) events);
      lines = h.lines;
      line = t.printed;
      part = cut.1.0;
      lost = cut.0;
      ran = subst (λ es. IsTriedSessionRun start new m p tried tries es (h.lines ++ t.printed ∷ [])) (sym is) (tried-turn event t.breaks t.printed h.ran t.turn t.counted t.counts t.once);
      cut = cut.1.2;
      written = Appends-trans o (w a) (w b) (concat h.lines) cut.1.0 h.written cut.1.1;
    }

-- the next command wanted memory
pub stopped-before : {S : Type 0} (w : S → List CallOutcome) (o : List CallOutcome) (a b : S) {start old : SessionState} {m n u v : ℕ} (last : SessionState) (p tries : ℕ) (event : SessionEvent) (events : List SessionEvent) (i : ℕ) →
    StandsBefore event old last → p ≡ n → tries ≡ v → b ≡ a → take (i + 1) events ≡ take i events ++ event ∷ [] →
    HasRunSession (Led start m n u v) (Appends o (w a)) old (take i events) → HasRunBefore (Led start m p u tries) (Appends o (w b)) last events
stopped-before w o a b {start = start} {old = old} {m = m} {n = n} {u = u} {v = v} last p tries event events i left count tried out is h = record {
  front = take i events;
  refused = event;
  rest = drop (i + 1) events;
  parts = sym (take-append-drop (i + 1) events) ∙ ap (λ es. es ++ drop (i + 1) events) is ∙ append_assoc (take i events) (event ∷ []) (drop (i + 1) events);
  stood = old;
  stands = left;
  lines = h.lines;
  ran = subst (λ k. IsTriedSessionRun start old m p u k (take i events) h.lines) (sym tried) (subst (λ q. IsTriedSessionRun start old m q u v (take i events) h.lines) (sym count) h.ran);
  written = subst (λ z. Appends o (w z) (concat h.lines)) (sym out) h.written;
}

-- no command ran yet, and nothing was written
pub has-run-none : {S : Type 0} (w : S → List CallOutcome) (a : S) {s : SessionState} {n p : ℕ} → HasRunSession (Led s n n p p) (Appends (w a) (w a)) s []
has-run-none w a {s = s} {n = n} {p = p} = record { lines = []; ran = run-none s n p; written = Appends-nil (w a) }

-- how a session ends, where its error was handed on
pub out-of-memory : {Ran : SessionState → List SessionEvent → List (List ℕ) → Type 0} {Appended : List ℕ → Type 0} {last : SessionState} {events : List SessionEvent} (r : Result ℕ DriveError) → IsErrAnd r (λ e. e ≡ errors.Memory) → HasRunBefore Ran Appended last events → SessionOutcome Ran Appended last events r
out-of-memory (Ok n) is h = absurd is
out-of-memory {Ran = Ran} {Appended = Appended} {last = last} {events = events} (Err e) is h = subst (λ x. SessionOutcome Ran Appended last events (Err x)) (sym is) h

pub write-failed : {Ran : SessionState → List SessionEvent → List (List ℕ) → Type 0} {Appended : List ℕ → Type 0} {last : SessionState} {events : List SessionEvent} (r : Result ℕ DriveError) → IsErrAnd r (λ e. e ≡ errors.WriteFault) → IsCutOffSession Ran Appended last events → SessionOutcome Ran Appended last events r
write-failed (Ok n) is h = absurd is
write-failed {Ran = Ran} {Appended = Appended} {last = last} {events = events} (Err e) is h = subst (λ x. SessionOutcome Ran Appended last events (Err x)) (sym is) h

-- no write failed where the line of a turn was written
pub calm-turn : {S T E : Type 0} {w : S → List CallOutcome} {f : S → ℕ} {a b : S} {old new : SessionState} {n p u v : ℕ} {event : SessionEvent} {x : T} (r : Result T E) → r ≡ Ok x →
    TakesTurn w f a b old new n p u v event r → f b ≡ f a
calm-turn {w = w} {f = f} {a = a} {b = b} r ok t =
    let writes = subst (Writes w f a b t.printed) ok t.line in writes.calm

-- its writes took all of it
pub written-turn : {S T E : Type 0} (w : S → List CallOutcome) {f : S → ℕ} (o : List CallOutcome) (a b : S) {old new : SessionState} {n p u v : ℕ} {event : SessionEvent} {x : T} (r : Result T E) → r ≡ Ok x →
    Extends o (w a) AreTaken → TakesTurn w f a b old new n p u v event r → Extends o (w b) AreTaken
written-turn w {f = f} o a b r ok so_far t =
    let writes = subst (Writes w f a b t.printed) ok t.line in taken-then o (w a) (w b) so_far writes.tries

-- or the last one failed, and stopped the session
pub refused-turn : {S T E : Type 0} (w : S → List CallOutcome) {f : S → ℕ} (o : List CallOutcome) (a b : S) {old new : SessionState} {n p u v : ℕ} {event : SessionEvent} {e : E} (r : Result T E) → r ≡ Err e →
    Extends o (w a) AreTaken → TakesTurn w f a b old new n p u v event r → (result : Result ℕ DriveError) → IsErrAnd result (λ x. x ≡ errors.WriteFault) → Extends o (w b) (AreWritesOf result)
refused-turn w o a b r err so_far t (Ok n) is = absurd is
refused-turn w {f = f} o a b r err so_far t (Err x) is =
    let writes = subst (Writes w f a b t.printed) err t.line in
    subst (λ (s : DriveError). Extends o (w b) (AreWritesOf (Err s))) (sym is) (refused-then o (w a) (w b) so_far writes.tries)

-- the command at a place of a session
event_at : (session : List SessionEvent) (items : List SessionCommand) (i : ℕ) (item : SessionCommand) → events_of items ≡ session → i < length items → item ≡ get_or items i item → (i < length session) × (get_or session i (event_of item) ≡ event_of item)
event_at session items i item seen within is =
    let longer = length-map items event_of in
    let longest = ap length seen in (
      omega (arith, within, longer, longest),
      ap (λ es. get_or es i (event_of item)) (sym seen) ∙ get_or-map event_of items i item (event_of item) within ∙ ap event_of (sym is),
    )

pub next-event : (session : List SessionEvent) (items : List SessionCommand) (i : ℕ) (item : SessionCommand) → events_of items ≡ session → i < length items → item ≡ get_or items i item → take (i + 1) session ≡ take i session ++ event_of item ∷ []
next-event session items i item seen within is =
    let at = event_at session items i item seen within is in
    take_more session i (event_of item) at.0 ∙ ap (λ e. take i session ++ e ∷ []) at.1

pub good-command : (items : List SessionCommand) (i : ℕ) (item : SessionCommand) → i < length items → item ≡ get_or items i item → All IsCommand items → IsCommand item
good-command items i item within is all = subst IsCommand (sym is) (All-get_or IsCommand items i item within all)

-- The reads and writes of commands, by what their parts come to.
use Rattle.std.proofs.Common.{◌≡◌, ◌⊎◌, ◌∷◌, ℕ, List, [], Result, Ok, Err, inl, inr, ap, refl, sym, subst, append-nil}
use Rattle.std.specs.Prelude.{map}
use Rattle.razor_base.specs.Headline.Outcomes.{CallOutcome, Extends}
use Rattle.razor_base.specs.Headline.Readings.{Reading}
use Rattle.razor_base.specs.Output.{AreRefused, AreTaken}
use Rattle.razor_base.specs.Turns.{AreTurns, IsFailedTurn, IsUnfailed}
use Rattle.razor_base.proofs.Joining.{one_whole}
use Rattle.razor_base.proofs.Writing.{made-none, refused-then, taken-then}
use Rattle.bank_update.specs.Driven.{AreWritesOf}
use Rattle.bank_update.specs.declared.drive.DriveError.{DriveError}
use Rattle.bank_update.specs.declared.drive.DriveError.TheVariants as drives
use Rattle.list_equiv.specs.declared.verdict.Verdict.{Verdict}
use Rattle.list_equiv.specs.declared.verdict.Verdict.TheVariants.{Equal, Differ}
use Rattle.trace_run.specs.Progress.{AreTried}
use Rattle.trace_run.specs.Turn.{IsTurnOfTrace}
use Rattle.trace_run.specs.declared.error.TraceError.{TraceError}
use Rattle.trace_run.specs.declared.error.TraceError.TheVariants as errors
use Rattle.razor_core.specs.Calls.{MakesCalls, WritesBehind}
use Rattle.razor_core.specs.Commands.Drive.{IsEndOfDrive}
use Rattle.razor_core.specs.Commands.Equiv.{IsAnswer}
use Rattle.razor_core.specs.Commands.Make.{IsNotMade}
use Rattle.razor_core.specs.Commands.Trace.{IsEndOfRun}
use Rattle.razor_core.specs.Inputs.{Input, table_input}
use Rattle.razor_core.specs.Meaning.{at_the_end, in_turn}
use Rattle.razor_core.specs.declared.ending.Ending.{Ending}
use Rattle.razor_core.specs.declared.ending.Ending.TheVariants.{Done, No, BadLine as Bad, TooLong, TooMany, ReadFault, WriteFault, Memory}
use Rattle.razor_core.proofs.Calls.{failed_last, none_begun, unfailed_turn}

-- writes that took all, and then those of the rest
pub behind_then : (ending : Ending) (first mid last : List CallOutcome) → Extends first mid AreTaken → Extends mid last (WritesBehind ending) → Extends first last (WritesBehind ending)
behind_then (Done summary) first mid last p q = taken-then first mid last p q
behind_then No first mid last p q = taken-then first mid last p q
behind_then (Bad file line reason) first mid last p q = taken-then first mid last p q
behind_then (TooLong file limit) first mid last p q = absurd q.2
behind_then (TooMany needed limit) first mid last p q = taken-then first mid last p q
behind_then (ReadFault file) first mid last p q = absurd q.2
behind_then WriteFault first mid last p q = refused-then first mid last p q
behind_then Memory first mid last p q = taken-then first mid last p q

-- a table that was not made leaves nothing written
pub not_made_writes : (Needed : ℕ → Type 0) (limit : ℕ) (ending : Ending) (writes : List CallOutcome) → IsNotMade Needed limit ending → Extends writes writes (WritesBehind ending)
not_made_writes Needed limit (Done summary) writes h = absurd h
not_made_writes Needed limit No writes h = absurd h
not_made_writes Needed limit (Bad file line reason) writes h = absurd h
not_made_writes Needed limit (TooLong file most) writes h = absurd h
not_made_writes Needed limit (TooMany needed most) writes h = made-none writes
not_made_writes Needed limit (ReadFault file) writes h = absurd h
not_made_writes Needed limit WriteFault writes h = absurd h
not_made_writes Needed limit Memory writes h = made-none writes

-- the ending of a verdict that was written
pub answered_writes : (verdict : Verdict) (ending : Ending) (first last : List CallOutcome) → IsAnswer verdict ending → Extends first last AreTaken → Extends first last (WritesBehind ending)
answered_writes Equal ending first last is tries = subst (λ (e : Ending). Extends first last (WritesBehind e)) (sym is) tries
answered_writes (Differ header left right) ending first last is tries = subst (λ (e : Ending). Extends first last (WritesBehind e)) (sym is) tries

-- a script or a session that ran
pub drive_writes : (ended : Result ℕ DriveError) (ending : Ending) (first last : List CallOutcome) → IsEndOfDrive ended ending → Extends first last (AreWritesOf ended) → Extends first last (WritesBehind ending)
drive_writes (Ok count) ending first last is tries = subst (λ (e : Ending). Extends first last (WritesBehind e)) (sym is) tries
drive_writes (Err drives.WriteFault) ending first last is tries = subst (λ (e : Ending). Extends first last (WritesBehind e)) (sym is) tries
drive_writes (Err drives.Memory) ending first last is tries = subst (λ (e : Ending). Extends first last (WritesBehind e)) (sym is) tries

one_alone : (name : List ℕ) (added : List Reading) → IsUnfailed name added → AreTurns (name ∷ []) added
one_alone name added h = (unfailed_turn name [] added h).0

-- a write of it failed: a read may have failed before
cut_trace : (name : List ℕ) (added : List Reading) → IsUnfailed name added ⊎ IsFailedTurn name added → AreTurns (name ∷ []) added
cut_trace name added (inl h) = one_alone name added h
cut_trace name added (inr h) = inl (inr h)

-- a trace that was answered while it was read
pub trace_calls : (name : List ℕ) (ended : Result ℕ TraceError) (ending : Ending) (old after : List Reading) (first last : List CallOutcome) → IsEndOfRun name ended ending →
    Extends old after (λ added. IsTurnOfTrace name ended added) → Extends first last (AreTried ended) → MakesCalls in_turn (name ∷ []) old after first last ending
trace_calls name (Ok count) ending old after first last is turn tries = subst (λ (e : Ending). MakesCalls in_turn (name ∷ []) old after first last e) (sym is) (record { reads = (turn.0, turn.1, one_whole name turn.0 turn.2); written = tries })
trace_calls name (Err (errors.BadLine line reason)) (Bad file at why) old after first last is turn tries = record { reads = (turn.0, turn.1, unfailed_turn name [] turn.0 turn.2); written = tries }
trace_calls name (Err errors.TooLong) (TooLong file limit) old after first last is turn tries = record { reads = (turn.0, turn.1, unfailed_turn name [] turn.0 (inr turn.2)); written = tries }
trace_calls name (Err errors.ReadFault) (ReadFault file) old after first last is turn tries = record { reads = (turn.0, turn.1, (inl (inr turn.2), failed_last name turn.0 turn.2)); written = tries }
trace_calls name (Err errors.WriteFault) ending old after first last is turn tries =
    subst (λ (e : Ending). MakesCalls in_turn (name ∷ []) old after first last e) (sym is) (record { reads = (turn.0, turn.1, cut_trace name turn.0 turn.2); written = tries })
trace_calls name (Err errors.Memory) ending old after first last is turn tries =
    subst (λ (e : Ending). MakesCalls in_turn (name ∷ []) old after first last e) (sym is) (record { reads = (turn.0, turn.1, unfailed_turn name [] turn.0 turn.2); written = tries })
trace_calls name (Err (errors.BadLine line reason)) other old after first last is turn tries = absurd is
trace_calls name (Err errors.TooLong) other old after first last is turn tries = absurd is
trace_calls name (Err errors.ReadFault) other old after first last is turn tries = absurd is

-- memory was refused before any input was begun
pub unbegun_calls : (names : List (List ℕ)) (reads : List Reading) (writes : List CallOutcome) → MakesCalls at_the_end names reads reads writes writes Memory
unbegun_calls names reads writes = record { reads = ([], sym (append-nil reads), (none_begun names, tt)); written = made-none writes }

-- a certificate of which a row was wrong, and that was written
pub wrong_calls : (name : List ℕ) (old after : List Reading) (first last : List CallOutcome) → Extends old after (IsUnfailed name) → Extends first last AreTaken → MakesCalls at_the_end (name ∷ []) old after first last No
wrong_calls name old after first last turn tries = record { reads = (turn.0, turn.1, unfailed_turn name [] turn.0 turn.2); written = tries }

-- or failed to be
pub unwritten_calls : (name : List ℕ) (old after : List Reading) (first last : List CallOutcome) → Extends old after (IsUnfailed name) → Extends first last AreRefused → MakesCalls at_the_end (name ∷ []) old after first last WriteFault
unwritten_calls name old after first last turn tries = record { reads = (turn.0, turn.1, unfailed_turn name [] turn.0 turn.2); written = tries }

-- the names of tables
pub table_names : (files : List (List ℕ)) → map (λ (input : Input). input.name) (map table_input files) ≡ files
table_names [] = refl
table_names (file ∷ files) = ap (λ (names : List (List ℕ)). file ∷ names) (table_names files)

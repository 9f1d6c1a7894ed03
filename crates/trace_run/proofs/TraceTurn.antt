-- The reads of a trace.
use Rattle.std.proofs.Common.{[], ◌∷◌, List, ℕ, Result, Ok, Err, inl, inr}
use Rattle.std.specs.Prelude.{Option}
use Rattle.text_lines.specs.Headline.Reading.{BadLine}
use Rattle.razor_base.specs.Headline.Readings.{Reading}
use Rattle.razor_base.specs.Turns.{ArePieces, AreTurns, IsUnfailed, IsWholeTurn}
use Rattle.razor_base.specs.Headline.Outcomes.{Extends}
use Rattle.razor_base.proofs.Joining.{one_whole, turns_join}
use Rattle.trace_run.specs.Progress.{StopsAt}
use Rattle.trace_run.specs.Turn.{IsTurnOfTrace, TraceIsLast}
use Rattle.trace_run.specs.declared.error.TraceError.{TraceError}
use Rattle.trace_run.specs.declared.error.TraceError.TheVariants as errors
use Rattle.trace_run.specs.declared.reason.TraceReason.{TraceReason}

-- behind the end a line may be bad, or a write fail
pub ends_behind : (T : Type 0) (name : List ℕ) (old after : List Reading) (error : TraceError) (bad : Option (BadLine TraceReason)) → StopsAt error bad → Extends old after (IsWholeTurn name) → Extends old after (λ added. IsTurnOfTrace {T = T} name (Err error) added)
ends_behind T name old after (errors.BadLine line reason) bad stops turn = (turn.0, turn.1, inl turn.2)
ends_behind T name old after errors.ReadFault bad stops turn = absurd stops
ends_behind T name old after errors.TooLong bad stops turn = absurd stops
ends_behind T name old after errors.WriteFault bad stops turn = (turn.0, turn.1, inl (inl turn.2))
ends_behind T name old after errors.Memory bad stops turn = (turn.0, turn.1, inl turn.2)

-- and before it
pub ends_before : (T : Type 0) (name : List ℕ) (old after : List Reading) (error : TraceError) (bad : Option (BadLine TraceReason)) → StopsAt error bad → Extends old after (ArePieces name) → Extends old after (λ added. IsTurnOfTrace {T = T} name (Err error) added)
ends_before T name old after (errors.BadLine line reason) bad stops turn = (turn.0, turn.1, inr turn.2)
ends_before T name old after errors.ReadFault bad stops turn = absurd stops
ends_before T name old after errors.TooLong bad stops turn = absurd stops
ends_before T name old after errors.WriteFault bad stops turn = (turn.0, turn.1, inl (inr turn.2))
ends_before T name old after errors.Memory bad stops turn = (turn.0, turn.1, inr turn.2)

-- the last write failed, however it had ended
pub unwritten : (T U : Type 0) (name : List ℕ) (old after : List Reading) (ended : Result T TraceError) → Extends old after (λ added. IsTurnOfTrace name ended added) → Extends old after (λ added. IsTurnOfTrace {T = U} name (Err errors.WriteFault) added)
unwritten T U name old after (Ok value) turn = (turn.0, turn.1, inl (inl turn.2))
unwritten T U name old after (Err (errors.BadLine line reason)) turn = (turn.0, turn.1, inl turn.2)
unwritten T U name old after (Err errors.ReadFault) turn = (turn.0, turn.1, inr turn.2)
unwritten T U name old after (Err errors.TooLong) turn = (turn.0, turn.1, inl (inr turn.2))
unwritten T U name old after (Err errors.WriteFault) turn = turn
unwritten T U name old after (Err errors.Memory) turn = (turn.0, turn.1, inl turn.2)

unfailed : (name : List ℕ) (added : List Reading) → IsUnfailed name added → AreTurns (name ∷ []) added
unfailed name added (inl whole) = inr (one_whole name added whole)
unfailed name added (inr pieces) = inl (inl pieces)

one_turn : (name : List ℕ) (added : List Reading) (result : Result ℕ TraceError) → IsTurnOfTrace name result added → AreTurns (name ∷ []) added
one_turn name added (Ok value) h = inr (one_whole name added h)
one_turn name added (Err (errors.BadLine line reason)) h = unfailed name added h
one_turn name added (Err errors.ReadFault) h = inl (inr h)
one_turn name added (Err errors.TooLong) h = inl (inl h)
one_turn name added (Err errors.WriteFault) (inl h) = unfailed name added h
one_turn name added (Err errors.WriteFault) (inr h) = inl (inr h)
one_turn name added (Err errors.Memory) h = unfailed name added h

pub trace_is_last : TraceIsLast
trace_is_last names name whole added result h t = turns_join names (name ∷ []) whole added h (one_turn name added result t)

-- The writes of a run over a trace.
use Rattle.std.proofs.Common.{◌≡◌, List, ℕ, false, Result, Ok, Err}
use Rattle.razor_base.specs.Headline.Outcomes.{CallOutcome, Extends}
use Rattle.razor_base.specs.Output.{AreRefused, AreTaken}
use Rattle.razor_base.proofs.Writing.{refused-then, taken-then}
use Rattle.trace_run.specs.Progress.{AreTried, is_lost}
use Rattle.trace_run.specs.declared.error.TraceError.{TraceError}
use Rattle.trace_run.specs.declared.error.TraceError.TheVariants as errors

-- a call that stops, behind writes that took all
pub tried-then : (T U : Type 0) (old b after : List CallOutcome) (error : TraceError) → Extends old b AreTaken → Extends b after (AreTried {T = T} (Err error)) → Extends old after (AreTried {T = U} (Err error))
tried-then T U old b after (errors.BadLine line reason) p q = taken-then old b after p q
tried-then T U old b after errors.ReadFault p q = taken-then old b after p q
tried-then T U old b after errors.TooLong p q = taken-then old b after p q
tried-then T U old b after errors.WriteFault p q = refused-then old b after p q
tried-then T U old b after errors.Memory p q = taken-then old b after p q

-- where answers can still be written, no write failed
unlost : (old b : List CallOutcome) (ended : Result ℕ TraceError) → is_lost ended ≡ false → Extends old b (AreTried ended) → Extends old b AreTaken
unlost old b (Ok value) e p = p
unlost old b (Err (errors.BadLine line reason)) e p = p
unlost old b (Err errors.ReadFault) e p = p
unlost old b (Err errors.TooLong) e p = p
unlost old b (Err errors.WriteFault) e p = absurd cc
unlost old b (Err errors.Memory) e p = absurd cc

still : (old b : List CallOutcome) (ended : Result ℕ TraceError) → is_lost ended ≡ false → Extends old b AreTaken → Extends old b (AreTried ended)
still old b (Ok value) e p = p
still old b (Err (errors.BadLine line reason)) e p = p
still old b (Err errors.ReadFault) e p = p
still old b (Err errors.TooLong) e p = p
still old b (Err errors.WriteFault) e p = absurd cc
still old b (Err errors.Memory) e p = absurd cc

-- the answers that waited were written
pub flushed-tries : (old b after : List CallOutcome) (ended : Result ℕ TraceError) → is_lost ended ≡ false → Extends old b (AreTried ended) → Extends b after AreTaken → Extends old after (AreTried ended)
flushed-tries old b after ended e p q = still old after ended e (taken-then old b after (unlost old b ended e p) q)

-- or that failed
pub unflushed-tries : (old b after : List CallOutcome) (ended : Result ℕ TraceError) → is_lost ended ≡ false → Extends old b (AreTried ended) → Extends b after AreRefused → Extends old after AreRefused
unflushed-tries old b after ended e p q = refused-then old b after (unlost old b ended e p) q

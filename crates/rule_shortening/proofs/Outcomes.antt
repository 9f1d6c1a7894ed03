-- Tests that answer yes where they see something.
use Rattle.std.specs.Prelude.{Bool, true, false, IfOk, Result, Ok, Err}
use Rattle.std.specs.Bool.{OnTrue}

-- what is seen shows something else
pub if_seen : {E P Q : Type 0} (r : Result Bool E) → (P → Q) → IfOk r (λ yes. OnTrue yes P) → IfOk r (λ yes. OnTrue yes Q)
if_seen (Ok true) f h = f h
if_seen (Ok false) f h = tt
if_seen (Err e) f h = tt

use Rattle.std.proofs.Common.{◌≡◌, Option, Some, Result, Ok, Err, subst}
use Rattle.std.specs.Prelude.{IfOk, IfSome}
use Rattle.bank_update.specs.Commands.{event_of}
use Rattle.bank_update.specs.Script.{IsWithin}
use Rattle.bank_update.proofs.command_line.command_named.Goals as goal

-- what holds of a command holds of it where it is answered
kept : {X E : Type 0} (P : X → Type 0) (o : Option X) (r : Result X E) → IfSome o P → IfOk r (λ x. o ≡ Some x) → IfOk r P
kept P o (Ok x) h is = subst (λ p. IfSome p P) is h
kept P o (Err e) h is = tt

pub returns-then-eq-4-clause-within : goal.returns-then-eq-4-clause-within
returns-then-eq-4-clause-within c =
    kept (λ x. IsWithin c.args.tables (event_of x)) c.look_of.result c.with_arguments-then-eq-4.result (c.look_of.ensures.within c.args.tables) c.with_arguments-then-eq-4.ensures.same

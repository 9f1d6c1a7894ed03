use Rattle.table_steps.specs.Passing.{ArePassed}
use Rattle.table_steps.proofs.free.free_behind.Given as goal

abbrev pub invariant-loop-entry : goal.invariant-loop-entry
invariant-loop-entry l = ArePassed l.initial.above.items l.above.items l.rest l.word l.decision l.entry-index

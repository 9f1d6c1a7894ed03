use Rattle.std.proofs.Common.{[], take}
use Rattle.table_steps.specs.Free.{words_of}
use Rattle.table_steps.specs.Passing.{ArePassed}
use Rattle.table_steps.proofs.free.opening.Given as goal

abbrev pub invariant-loop-place : goal.invariant-loop-place
invariant-loop-place l = ArePassed [] (words_of (take l.place l.entries)) l.entries l.word l.decision l.place

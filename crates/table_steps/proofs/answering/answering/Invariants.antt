use Rattle.std.proofs.Common.{◌++◌, drop}
use Rattle.table_steps.specs.Answering.{AnswerBehind}
use Rattle.table_steps.specs.Free.{words_of}
use Rattle.table_steps.proofs.answering.answering.Given as goal

abbrev pub invariant-loop-place : goal.invariant-loop-place
invariant-loop-place l = AnswerBehind (words_of l.before) (l.some.items ++ drop l.place l.rest) l.rest l.word

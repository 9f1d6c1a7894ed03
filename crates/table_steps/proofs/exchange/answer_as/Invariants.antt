use Rattle.std.proofs.Common.{take}
use Rattle.std.specs.Prelude.{All}
use Rattle.table_steps.specs.Answering.{IsPartOf}
use Rattle.table_steps.specs.Exchange.{AnswerAs}
use Rattle.table_steps.proofs.exchange.answer_as.Given as goal

abbrev pub invariant-loop-place : goal.invariant-loop-place
invariant-loop-place l = AnswerAs (take l.place l.new) l.table × All (IsPartOf l.table) l.parts.parts.items

use Rattle.table_steps.specs.Free.{words_of}
use Rattle.table_steps.proofs.Exchanged.{ArePassedOver}
use Rattle.table_steps.proofs.exchange.leave_rest.Given as goal

abbrev pub invariant-loop-place : goal.invariant-loop-place
invariant-loop-place l = ArePassedOver (words_of l.new) l.table l.count l.place

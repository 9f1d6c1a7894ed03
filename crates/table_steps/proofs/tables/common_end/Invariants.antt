use Rattle.table_steps.specs.Exchange.{IsCommonEnd}
use Rattle.table_steps.proofs.tables.common_end.Given as goal

abbrev pub invariant-loop-count : goal.invariant-loop-count
invariant-loop-count l = IsCommonEnd l.table l.new l.count

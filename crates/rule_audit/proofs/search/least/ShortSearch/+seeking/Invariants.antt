use Rattle.std.proofs.Common.{◌+◌, ◌-◌, ◌*◌, suc}
use Rattle.rule_audit.proofs.Least.{AreGone}
use Rattle.rule_audit.proofs.search.least.ShortSearch.+seeking.Given as goal

abbrev pub decreases-least : goal.decreases-least
decreases-least l = 2 * (6 - l.depth) + 1

abbrev pub decreases-each_value : goal.decreases-each_value
decreases-each_value l = 2 * (6 - l.depth)

abbrev pub invariant-each_value-loop-lo : goal.invariant-each_value-loop-lo
invariant-each_value-loop-lo l = AreGone l.fn.store l.fn.depth l.fn.around l.lo

abbrev pub decreases-each_value-loop-lo : goal.decreases-each_value-loop-lo
decreases-each_value-loop-lo l = suc l.top - l.lo

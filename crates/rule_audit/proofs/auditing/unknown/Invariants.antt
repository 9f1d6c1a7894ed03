use Rattle.std.proofs.Common.{◌≡◌, map, take, is_none}
use Rattle.rule_audit.proofs.auditing.unknown.Given as goal

abbrev pub invariant-loop-state : goal.invariant-loop-state
invariant-loop-state l = l.marks.items ≡ map is_none (take l.state-index l.known)

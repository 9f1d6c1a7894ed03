use Rattle.std.proofs.Common.{◌≡◌, [], drop}
use Rattle.rule_audit.specs.Search.{first_answer}
use Rattle.rule_audit.proofs.search.around.first_of.Given as goal

abbrev pub invariant-loop-id : goal.invariant-loop-id
invariant-loop-id l = first_answer l.store l.leaves [] ≡ first_answer l.store (drop l.id-index l.leaves) []

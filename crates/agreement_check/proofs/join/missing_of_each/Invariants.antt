use Rattle.std.proofs.Common.{Contains}
use Rattle.agreement_check.specs.Joins.{IsFirstOf}
use Rattle.agreement_check.specs.Standing.{own_sides, taken_in}
use Rattle.agreement_check.proofs.Searching.{IsBefore}
use Rattle.agreement_check.proofs.join.missing_of_each.Given as goal

abbrev pub invariant-loop-entry : goal.invariant-loop-entry
invariant-loop-entry l = IsFirstOf (own_sides l.claims) (taken_in l.claims) (λ p. Contains l.rules p.rule × IsBefore l.entries l.entry-index p.entry) l.found

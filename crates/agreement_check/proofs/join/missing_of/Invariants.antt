use Rattle.std.proofs.Common.{◌≡◌}
use Rattle.agreement_check.specs.Joins.{IsFirstOf}
use Rattle.agreement_check.specs.Standing.{own_sides, taken_in}
use Rattle.agreement_check.proofs.Searching.{IsBefore}
use Rattle.agreement_check.proofs.join.missing_of.Given as goal

abbrev pub invariant-loop-rule : goal.invariant-loop-rule
invariant-loop-rule l = IsFirstOf (own_sides l.claims) (taken_in l.claims) (λ p. IsBefore l.rules l.rule-index p.rule × (p.entry ≡ l.entry)) l.found

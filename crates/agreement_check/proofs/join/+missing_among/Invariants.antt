use Rattle.agreement_check.proofs.join.+missing_among.Given as goal

abbrev pub decreases-missing_among : goal.decreases-missing_among
decreases-missing_among l = l.depth

use Rattle.std.proofs.Common.{◌≡◌, length}
use Rattle.agreement_check.specs.Joins.{AreRuleWords}
use Rattle.agreement_check.specs.Standing.{list_in}
use Rattle.agreement_check.proofs.join.rule_words.Given as goal

abbrev pub invariant-loop-place : goal.invariant-loop-place
invariant-loop-place l = AreRuleWords (list_in l.claims).rules.items l.words.items × (length l.words.items ≡ l.place)

use Rattle.std.proofs.Common.{◌≡◌}
use Rattle.agreement_check.specs.RuleWords.{bits_apart}
use Rattle.agreement_check.proofs.rule_word.bits_apart.Given as goal

abbrev pub invariant-loop-bit : goal.invariant-loop-bit
invariant-loop-bit l = bits_apart l.width l.one l.other ≡ bits_apart l.bit l.one l.other

use Rattle.std.proofs.Common.{Contains, List}
use Rattle.std.specs.List.{AllWithin}
use Rattle.field_boxes.specs.declared.rule.Rule.{Rule}
use Rattle.agreement_check.specs.Covers.{rule_word}
use Rattle.word_cover.specs.Cubes.{Allows}
use Rattle.agreement_check.specs.Joins.{AreRuleWords}
use Rattle.agreement_check.proofs.join.rules_allowing.Given as goal

abbrev pub invariant-loop-rule : goal.invariant-loop-rule
invariant-loop-rule l = (items : List Rule) → AreRuleWords items l.words → AllWithin (λ k. Allows (rule_word items k) l.bit l.one → Contains l.some.items k) l.rules 0 l.rule-index

use Rattle.std.proofs.Common.{◌≡◌, take}
use Rattle.std.specs.Prelude.{map}
use Rattle.field_boxes.specs.Rules.{rule_of}
use Rattle.list_equiv.specs.Names.{common_rule}
use Rattle.list_equiv.proofs.renumbering.renumbered.Given as goal

abbrev pub invariant-loop-rule : goal.invariant-loop-rule
invariant-loop-rule l = map rule_of l.made.items ≡ map (common_rule l.names l.others) (take l.rule-index l.rules)

use Rattle.std.proofs.Common.{◌≡◌, map, take}
use Rattle.field_boxes.specs.Rules.{rule_of}
use Rattle.rule_expansion.specs.Entries.{decided_of}
use Rattle.rule_expansion.specs.Expansion.{decided_words}
use Rattle.rule_expansion.proofs.entries.expanded_entries.Given as goal

abbrev pub invariant-loop-rule : goal.invariant-loop-rule
invariant-loop-rule l = map decided_of l.entries.items ≡ decided_words (map rule_of (take l.rule-index l.rules))

use Rattle.std.proofs.Common.{◌≡◌, ◌≤◌, ◌*◌, ◌^◌, map, take}
use Rattle.field_boxes.specs.Rules.{rule_of}
use Rattle.rule_expansion.specs.Expansion.{expanded_count}
use Rattle.rule_expansion.proofs.counting.entry_count.Given as goal

abbrev pub invariant-loop-rule : goal.invariant-loop-rule
invariant-loop-rule l = record {
  count : l.count ≡ expanded_count (map rule_of (take l.rule-index l.rules));
  few : l.count ≤ l.rule-index * 2 ^ 50;
}

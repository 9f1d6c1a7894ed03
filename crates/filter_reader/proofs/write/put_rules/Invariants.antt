use Rattle.std.proofs.Common.{take, flat_map}
use Rattle.field_boxes.specs.NamedRules.{named_rule}
use Rattle.razor_base.proofs.Writing.{HasPut}
use Rattle.filter_reader.specs.ListText.{rule_text}
use Rattle.filter_reader.proofs.write.put_rules.Given as goal

abbrev pub invariant-loop-rule : goal.invariant-loop-rule
invariant-loop-rule g l = HasPut g.K.Sink.written g.K.Sink.faults l.initial.out l.out l.initial.pending l.pending (flat_map (λ r. rule_text (named_rule l.names r)) (take l.rule-index l.rules))

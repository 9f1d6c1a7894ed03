use Rattle.std.proofs.Common.{[], subst}
use Rattle.field_boxes.specs.declared.rule_list.RuleList.{RuleList}
use Rattle.ternary_words.specs.declared.table.Table.{Table}
use Rattle.agreement_check.specs.declared.reader.Reader.{Reader}
use Rattle.agreement_check.specs.Standing.{IsAfter, list_in}
use Rattle.agreement_check.proofs.Reading.{after-none}
use Rattle.agreement_check.proofs.reader.Reader.new.Goals as goal

pub returns-clause-after : goal.returns-clause-after
returns-clause-after c =
    let r : Reader = record { claims = c.new.result; line = c.new-2.result; word = c.new-3.result; alloc = c.args.alloc } in
    subst (λ (l : RuleList). IsAfter l c.args.table.now [] r) c.new.ensures.sides.0
    (subst (λ (t : Table). IsAfter (list_in c.new.result) t [] r) c.new.ensures.sides.1 (after-none r c.new.ensures.reading c.new-2.ensures.start c.new-3.ensures.items))

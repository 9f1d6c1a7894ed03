use Rattle.agreement_check.specs.Views.{claim_of, sides_in}
use Rattle.table_equiv.proofs.Covered.{last-entry, last-rule}
use Rattle.table_equiv.proofs.leaves.last_step.Goals as goal

pub returns-then-rule-task : goal.returns-then-rule-task
returns-then-rule-task c = λ holds.
    last-rule (sides_in c.args.sides.now) (claim_of c.args.task.now) c.args.word.now c.least-header.result.values c.first_rule-rule.result c.requires.closed c.least-header.ensures.within
    c.first_rule-rule.ensures c.if-rule-task.true

pub returns : goal.returns
returns c =
    last-entry (sides_in c.args.sides.now) (claim_of c.args.task.now) c.args.word.now c.least-header.result.values c.first_rule-rule.result c.first_entry-entry.result c.requires.closed
    c.least-header.ensures.within c.least-header.ensures.key c.requires.early c.requires.meets c.first_rule-rule.ensures c.if-rule-task.false c.first_entry-entry.ensures

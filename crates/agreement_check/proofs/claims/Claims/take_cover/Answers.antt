use Rattle.std.proofs.Common.{◌∙◌, sym}
use Rattle.agreement_check.proofs.Claiming.{entry-due, not-due, pair-due, rule-due}
use Rattle.agreement_check.proofs.Judging.{cover-unfinished, entry-result, pair-result, rule-result}
use Rattle.agreement_check.proofs.claims.Claims.take_cover.Goals as goal

pub returns-then-is_due-clause-judged : goal.returns-then-is_due-clause-judged
returns-then-is_due-clause-judged c = λ words begun front.
    cover-unfinished c.args.self.now c.args.self.now c.args.numbers.now c.args.cover.now words begun (c.is_due.ensures.0 c.if-is_due.true) front

pub returns-in-Entry-clause-judged : goal.returns-in-Entry-clause-judged
returns-in-Entry-clause-judged c = λ words begun front.
    entry-result c.args.self.now _ c.args.numbers.now c.args.cover.now words c.take_entry.result c.requires.sound (entry-due c.args.self.now (sym c.due.ensures ∙ c.in-Entry.is))
    (not-due c.is_due.result _ c.is_due.ensures c.if-is_due.false) front (λ steps stands. c.take_entry.ensures.judged steps begun stands)

pub returns-in-Rule-clause-judged : goal.returns-in-Rule-clause-judged
returns-in-Rule-clause-judged c = λ words begun front.
    rule-result c.args.self.now _ c.args.numbers.now c.args.cover.now words c.take_rule.result c.requires.sound (rule-due c.args.self.now (sym c.due.ensures ∙ c.in-Rule.is))
    (not-due c.is_due.result _ c.is_due.ensures c.if-is_due.false) front (λ steps stands. c.take_rule.ensures.judged steps begun stands)

pub returns-in-Pair-clause-judged : goal.returns-in-Pair-clause-judged
returns-in-Pair-clause-judged c = λ words begun front.
    pair-result c.args.self.now _ c.args.numbers.now c.args.cover.now words c.take_pair.result c.requires.sound (pair-due c.args.self.now (sym c.due.ensures ∙ c.in-Pair.is))
    (not-due c.is_due.result _ c.is_due.ensures c.if-is_due.false) front (λ i j steps are stands. c.take_pair.ensures.judged i j steps are begun stands)

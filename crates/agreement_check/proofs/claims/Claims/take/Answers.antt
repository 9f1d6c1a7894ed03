use Rattle.std.proofs.Common.{List, ℕ, subst, sym}
use Rattle.agreement_check.specs.declared.line.At.{At}
use Rattle.agreement_check.specs.Standing.{IsAt, IsHeadingFront, IsLastFront}
use Rattle.agreement_check.proofs.Claiming.{pair-due}
use Rattle.agreement_check.proofs.Judging.{heading-judged, last-result, unfit-judged}
use Rattle.agreement_check.proofs.claims.Claims.take.Goals as goal

pub returns-in-Heading-clause-judged : goal.returns-in-Heading-clause-judged
returns-in-Heading-clause-judged c = λ words some is.
    let here = subst (λ (a : At). IsAt c.args.self.now a c.args.line.now words) c.in-Heading.is is in
    heading-judged c.args.self.now c.take_heading.new.self c.in-Heading.words c.deref.result.now words c.take_heading.result here.0
    (subst (λ (ns : List ℕ). IsHeadingFront c.in-Heading.words ns words) (sym c.deref.ensures.value) here.1) (λ states. c.take_heading.ensures.judged here.0 states)

pub returns-in-Last-clause-judged : goal.returns-in-Last-clause-judged
returns-in-Last-clause-judged c = λ words some is.
    let here = subst (λ (a : At). IsAt c.args.self.now a c.args.line.now words) c.in-Last.is is in
    let due = pair-due c.args.self.now here.0 in
    last-result c.args.self.now _ c.deref-in-Last.result.now words c.take_last.result c.requires.sound due (subst (λ (ns : List ℕ). IsLastFront ns words) (sym c.deref-in-Last.ensures.value) here.1)
    c.take_last.ensures.form (λ k are. c.take_last.ensures.judged k are due.begun)

pub returns-in-Start-clause-judged : goal.returns-in-Start-clause-judged
returns-in-Start-clause-judged c = λ words some is. unfit-judged c.args.self.now c.args.self.now c.args.line.now.at c.args.line.now words c.in-Start.is some is

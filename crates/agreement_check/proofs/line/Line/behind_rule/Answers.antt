use Rattle.std.proofs.Common.{◌≡◌, ◌∙◌, [], ap, arith, codes, length, subst}
use Rattle.agreement_check.specs.Claims.{rule_claim}
use Rattle.agreement_check.specs.Covers.{Claim}
use Rattle.agreement_check.specs.Covering.{StandsFor}
use Rattle.agreement_check.specs.Standing.{own_sides}
use Rattle.agreement_check.proofs.Lines.{rule-begun, no-rule, other-word, same-word}
use Rattle.agreement_check.proofs.line.Line.behind_rule.Goals as goal

pub returns-then-ne-clause-behind : goal.returns-then-ne-clause-behind
returns-then-ne-clause-behind c = λ more.
    no-rule c.args.claims.now c.args.word.now more c.requires.rule (other-word c.args.word.now (codes "r") c.as_slice.result.now c.ne.result c.ne.ensures c.if-ne.true c.as_slice.ensures)

pub returns-clause-behind : goal.returns-clause-behind
returns-clause-behind c =
    let claims = c.args.claims.now in
    let s = own_sides claims in
    let cover = c.begin.new.self in
    let place : c.len.result ≡ length claims.rules.items = omega (arith, c.len.ensures, claims.rules.ok.0) in
    let stands : StandsFor s (rule_claim s (length claims.rules.items)) [] cover = subst (λ (x : Claim). StandsFor s x [] cover) (c.rule_task-task.ensures ∙ ap (rule_claim s) place) (c.in_ok-begin.ensures.stands s) in
    rule-begun claims c.args.self.now.numbers.items cover c.args.word.now c.requires.rule (same-word c.args.word.now (codes "r") c.as_slice.result.now c.ne.result c.ne.ensures c.if-ne.false c.as_slice.ensures) stands

use Rattle.agreement_check.specs.Standing.{own_sides, taken_in}
use Rattle.agreement_check.proofs.Searching.{all-rules, no-rule-yet, rule-turn}
use Rattle.agreement_check.proofs.join.missing_of.Goals as goal

pub loop-rule-init : goal.loop-rule-init
loop-rule-init c = no-rule-yet (own_sides c.args.claims.now) (taken_in c.args.claims.now) c.args.rules.now c.args.entry

pub loop-rule-preserved : goal.loop-rule-preserved
loop-rule-preserved c =
    rule-turn (own_sides c.args.claims.now) (taken_in c.args.claims.now) c.args.rules.now c.loop-rule.rule-index _ c.args.entry c.loop-rule.found c.missing.result c.earlier-found.result
    c.loop-rule-test.true c.loop-rule.invariant c.missing.ensures c.earlier-found.ensures.one c.earlier-found.ensures.other c.earlier-found.ensures.either

pub returns : goal.returns
returns c = all-rules (own_sides c.args.claims.now) (taken_in c.args.claims.now) c.args.rules.now c.loop-rule.rule-index c.args.entry c.loop-rule.found c.loop-rule-test.false c.loop-rule.invariant

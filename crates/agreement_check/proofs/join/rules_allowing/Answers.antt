use Rattle.std.proofs.Common.{Contains}
use Rattle.agreement_check.specs.Covers.{rule_word}
use Rattle.word_cover.specs.Cubes.{Allows}
use Rattle.agreement_check.proofs.Searching.{contained, kept-turn}
use Rattle.agreement_check.proofs.join.rules_allowing.Goals as goal

pub loop-rule-preserved : goal.loop-rule-preserved
loop-rule-preserved c = λ items are.
    kept-turn (λ k. Allows (rule_word items k) c.args.bit c.args.one) c.args.rules.now c.loop-rule.some.items c.keep.new.others.items c.loop-rule.rule-index _ c.rule_allows.result c.loop-rule-test.true
    c.in_ok-keep.ensures (c.rule_allows.ensures items are) (c.loop-rule.invariant items are)

pub returns : goal.returns
returns c = λ items are k has allow.
    contained (λ k. Allows (rule_word items k) c.args.bit c.args.one → Contains c.loop-rule.some.items k) c.args.rules.now c.loop-rule.rule-index (c.loop-rule.invariant items are) c.loop-rule-test.false k has allow

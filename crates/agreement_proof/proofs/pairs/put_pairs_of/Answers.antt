use Rattle.std.proofs.Common.{arith}
use Rattle.agreement_check.specs.Views.{sides_in}
use Rattle.agreement_proof.specs.Texts.{reaching}
use Rattle.agreement_proof.proofs.Listing.{row-ended}
use Rattle.agreement_proof.proofs.pairs.put_pairs_of.Goals as goal

pub loop-rule-init : goal.loop-rule-init
loop-rule-init c = λ first h. h

pub put_if_open-requires-clause-within : goal.put_if_open-requires-clause-within
put_if_open-requires-clause-within c = record { rule = omega (arith, c.rule_count-rule-end.ensures, c.loop-rule-test.true); entry = c.requires.entry }

pub loop-rule-preserved : goal.loop-rule-preserved
loop-rule-preserved c = λ first h. c.in_ok-count.ensures first (c.loop-rule.invariant first h)

pub returns : goal.returns
returns c = λ first h.
    row-ended (sides_in c.args.sides.now) (reaching c.args.reaches.now.entries.items c.args.reaches.now.rules.items) c.args.entry c.loop-rule.rule first c.loop-rule.text.items c.loop-rule.count
    (omega (arith, c.loop-rule-test.false, c.rule_count-rule-end.ensures)) (c.loop-rule.invariant first h)

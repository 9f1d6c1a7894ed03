use Rattle.std.proofs.Common.{◌≡◌, ◌+◌, ◌-◌, ◌∙◌, suc, arith, subst, sym}
use Rattle.agreement_check.specs.RuleWords.{bits_apart}
use Rattle.agreement_check.proofs.Rules.{bits-none, bits-other, bits-same}
use Rattle.agreement_check.proofs.rule_word.bits_apart.Goals as goal

pub returns-then-one-bit-clause-is : goal.returns-then-one-bit-clause-is
returns-then-one-bit-clause-is c =
    let n = c.loop-bit.bit - 1 in
    let e : suc n ≡ c.loop-bit.bit = omega (arith, c.loop-bit-test.true) in
    subst (λ k. n + 1 ≡ bits_apart k c.args.one c.args.other) e (omega (arith, bits-other n c.args.one c.args.other c.if-one-bit.true)) ∙ sym c.loop-bit.invariant

pub loop-bit-preserved : goal.loop-bit-preserved
loop-bit-preserved c =
    let n = c.loop-bit.bit - 1 in
    let e : suc n ≡ c.loop-bit.bit = omega (arith, c.loop-bit-test.true) in
    c.loop-bit.invariant ∙ subst (λ k. bits_apart k c.args.one c.args.other ≡ bits_apart n c.args.one c.args.other) e (bits-same n c.args.one c.args.other c.if-one-bit.false)

pub returns-clause-is : goal.returns-clause-is
returns-clause-is c =
    let e : 0 ≡ c.loop-bit.bit = omega (arith, c.loop-bit-test.false) in
    sym (c.loop-bit.invariant ∙ subst (λ k. bits_apart k c.args.one c.args.other ≡ 0) e (bits-none c.args.one c.args.other))

use Rattle.std.proofs.Common.{◌∙◌, ap, arith}
use Rattle.std.proofs.lemmas.List.{take_all}
use Rattle.agreement_check.specs.Covers.{entries_named}
use Rattle.agreement_proof.proofs.Taken.{entries-further}
use Rattle.agreement_proof.proofs.testing.entries_named.Goals as goal

pub loop-step-preserved : goal.loop-step-preserved
loop-step-preserved c =
    entries-further c.args.steps.now c.loop-step.step-index c.loop-step.reach c.entry_reach.result _ (omega arith) c.loop-step.invariant c.entry_reach.ensures c.max-reach.ensures

pub returns : goal.returns
returns c = c.loop-step.invariant ∙ ap entries_named (take_all c.loop-step.step-index c.args.steps.now (omega (arith, c.loop-step-test.false)))

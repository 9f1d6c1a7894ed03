use Rattle.std.proofs.Common.{◌∙◌, arith, sym, take}
use Rattle.std.proofs.lemmas.Bool.{false≢true}
use Rattle.agreement_check.specs.Views.{claim_of, sides_in}
use Rattle.agreement_proof.proofs.Taken.{all-taken, stands-further}
use Rattle.agreement_proof.proofs.testing.is_cover.Goals as goal

pub loop-step-init : goal.loop-step-init
loop-step-init c = (c.in_ok-begin.ensures.stands (sides_in c.args.sides.now), omega arith)

pub loop-step-preserved : goal.loop-step-preserved
loop-step-preserved c =
    let s = sides_in c.args.sides.now in
    let claim = claim_of c.args.task.now in
    let i = c.loop-step.step-index in (
      stands-further s claim c.args.steps.now i c.take.new.self (omega arith) (c.in_ok-take.ensures.stands claim (take i c.args.steps.now) c.loop-step.invariant.0),
      omega (arith, c.loop-step.invariant.1, c.in_ok-take.ensures.due),
    )

pub returns : goal.returns
returns c =
    all-taken (sides_in c.args.sides.now) (claim_of c.args.task.now) c.args.steps.now c.loop-step.step-index c.loop-step.cover (omega (arith, c.loop-step-test.false))
    (λ h. false≢true (sym c.if-is_due.false ∙ c.is_due-2.ensures.1 h)) c.loop-step.invariant.0

use Rattle.std.proofs.Common.{◌∷◌, [], append-nil, arith, sym}
use Rattle.agreement_check.specs.Proofs.{word_text}
use Rattle.agreement_proof.proofs.Taken.{no_step}
use Rattle.agreement_proof.proofs.Words.{put-all, put-more}
use Rattle.agreement_proof.proofs.lines.put_cover.Goals as goal

pub loop-step-init : goal.loop-step-init
loop-step-init c = sym (append-nil c.args.text.now.items)

pub loop-step-preserved : goal.loop-step-preserved
loop-step-preserved c =
    put-more (λ step. 32 ∷ word_text step) c.args.steps.now c.loop-step.step-index no_step c.args.text.now.items c.loop-step.text.items c.put_step.new.text.items (omega arith) c.loop-step.invariant c.in_ok-put_step.ensures

pub returns : goal.returns
returns c =
    put-all (λ step. 32 ∷ word_text step) c.args.steps.now c.loop-step.step-index c.args.text.now.items c.loop-step.text.items c.push.new.self.items (10 ∷ []) (omega (arith, c.loop-step-test.false)) c.loop-step.invariant c.in_ok-push.ensures.items

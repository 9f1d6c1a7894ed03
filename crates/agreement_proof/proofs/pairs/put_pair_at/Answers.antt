use Rattle.std.proofs.Common.{subst, sym}
use Rattle.agreement_check.specs.Claims.{pair_claim}
use Rattle.agreement_check.specs.Covers.{Claim, IsCover}
use Rattle.agreement_check.specs.Views.{claim_of, sides_in}
use Rattle.table_equiv.specs.Claimed.{HoldsOf}
use Rattle.table_equiv.proofs.Claimed.{pair-holds}
use Rattle.agreement_proof.proofs.Listing.{pair-put}
use Rattle.agreement_proof.proofs.Outcomes.{on-ok, when-yes}
use Rattle.agreement_proof.proofs.Trees.{cover-steps, steps-as}
use Rattle.agreement_proof.proofs.pairs.put_pair_at.Goals as goal

pub returns : goal.returns
returns c =
    let s = sides_in c.args.sides.now in
    let p = c.args.pair.now in
    let claim = claim_of c.pair_task-task.result in
    let steps = c.deref.result.now in
    let holds = subst (λ (x : Claim). HoldsOf s x x.cube) (sym c.pair_task-task.ensures) (pair-holds c.first_match_answers.ensures s p c.requires.agree c.requires.apart.apart c.requires.apart.words) in
    let cover = subst (λ xs. IsCover s claim xs) (sym c.deref.ensures.value) (c.in_ok-steps.ensures holds) in
    on-ok c.put_pair-2.result _ _ (λ e. pair-put s p steps c.args.text.now.items c.put_pair-2.new.text.items (steps-as s claim (pair_claim s p) steps c.pair_task-task.ensures (cover-steps s claim steps cover)) e) c.put_pair-2.ensures

pub returns-then-branch : goal.returns-then-branch
returns-then-branch c =
    let s = sides_in c.args.sides.now in
    let p = c.args.pair.now in
    let claim = claim_of c.pair_task-task.result in
    let cover = when-yes c.in_ok-is_cover.field-0 (IsCover s claim c.args.steps.now) c.if-branch.true c.in_ok-is_cover.ensures in
    on-ok c.put_pair.result _ _ (λ e. pair-put s p c.args.steps.now c.args.text.now.items c.put_pair.new.text.items (steps-as s claim (pair_claim s p) c.args.steps.now c.pair_task-task.ensures (cover-steps s claim c.args.steps.now cover)) e) c.put_pair.ensures

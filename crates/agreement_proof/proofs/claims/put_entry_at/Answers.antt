use Rattle.std.proofs.Common.{◌∷◌, ◌+◌, [], arith}
use Rattle.agreement_check.specs.declared.step.Step.TheVariants.{InRule}
use Rattle.agreement_check.specs.Claims.{entry_claim}
use Rattle.agreement_check.specs.Covers.{IsCover, rules_named}
use Rattle.agreement_check.specs.Views.{claim_of, sides_in}
use Rattle.agreement_proof.proofs.Listing.{cover-put}
use Rattle.agreement_proof.proofs.Opens.{open-rule, open-rule-reach}
use Rattle.agreement_proof.proofs.Outcomes.{when-yes}
use Rattle.agreement_proof.proofs.Trees.{cover-steps, steps-as}
use Rattle.agreement_proof.proofs.claims.put_entry_at.Goals as goal

pub returns : goal.returns
returns c =
    let s = sides_in c.args.sides.now in
    let n = c.rule_count-rules.result in
    cover-put s (entry_claim s c.args.place) 101 rules_named (InRule n ∷ []) c.args.text.now.items c.put_entry-2.new.text.items (c.from.result + 1) (open-rule s c.args.place n c.rule_count-rules.ensures) c.in_ok-put_entry-2.ensures (open-rule-reach n (c.from.result + 1) (omega (arith, c.from.ensures)))

pub returns-then-branch : goal.returns-then-branch
returns-then-branch c =
    let s = sides_in c.args.sides.now in
    let claim = claim_of c.entry_task.result in
    let cover = when-yes c.in_ok-is_cover.field-0 (IsCover s claim c.args.steps.now) c.if-branch.true c.in_ok-is_cover.ensures in
    cover-put s (entry_claim s c.args.place) 101 rules_named c.args.steps.now c.args.text.now.items c.put_entry.new.text.items c.rules_named.result
    (steps-as s claim (entry_claim s c.args.place) c.args.steps.now c.entry_task.ensures (cover-steps s claim c.args.steps.now cover)) c.in_ok-put_entry.ensures c.rules_named.ensures

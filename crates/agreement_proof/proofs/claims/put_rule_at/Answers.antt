use Rattle.std.proofs.Common.{◌∷◌, ◌+◌, [], arith}
use Rattle.agreement_check.specs.declared.step.Step.TheVariants.{InEntry}
use Rattle.agreement_check.specs.Claims.{rule_claim}
use Rattle.agreement_check.specs.Covers.{IsCover, entries_named}
use Rattle.agreement_check.specs.Views.{claim_of, sides_in}
use Rattle.agreement_proof.proofs.Listing.{cover-put}
use Rattle.agreement_proof.proofs.Opens.{open-entry, open-entry-reach}
use Rattle.agreement_proof.proofs.Outcomes.{when-yes}
use Rattle.agreement_proof.proofs.Trees.{cover-steps, steps-as}
use Rattle.agreement_proof.proofs.claims.put_rule_at.Goals as goal

pub returns : goal.returns
returns c =
    let s = sides_in c.args.sides.now in
    let n = c.entry_count-entries.result in
    cover-put s (rule_claim s c.args.place) 114 entries_named (InEntry n ∷ []) c.args.text.now.items c.put_rule-2.new.text.items (c.from.result + 1) (open-entry s c.args.place n c.entry_count-entries.ensures) c.in_ok-put_rule-2.ensures (open-entry-reach n (c.from.result + 1) (omega (arith, c.from.ensures)))

pub returns-then-branch : goal.returns-then-branch
returns-then-branch c =
    let s = sides_in c.args.sides.now in
    let claim = claim_of c.rule_task.result in
    let cover = when-yes c.in_ok-is_cover.field-0 (IsCover s claim c.args.steps.now) c.if-branch.true c.in_ok-is_cover.ensures in
    cover-put s (rule_claim s c.args.place) 114 entries_named c.args.steps.now c.args.text.now.items c.put_rule.new.text.items c.entries_named.result
    (steps-as s claim (rule_claim s c.args.place) c.args.steps.now c.rule_task.ensures (cover-steps s claim c.args.steps.now cover)) c.in_ok-put_rule.ensures c.entries_named.ensures

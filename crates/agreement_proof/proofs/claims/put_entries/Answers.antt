use Rattle.std.proofs.Common.{◌≡◌, ◌+◌, arith, length, subst}
use Rattle.agreement_check.specs.Claims.{entry_claim}
use Rattle.agreement_check.specs.Covers.{rules_named}
use Rattle.agreement_check.specs.Views.{sides_in}
use Rattle.agreement_proof.specs.Texts.{PutsCovers}
use Rattle.agreement_proof.proofs.Listing.{covers-more, no-covers}
use Rattle.agreement_proof.proofs.claims.put_entries.Goals as goal

pub loop-place-init : goal.loop-place-init
loop-place-init c = let s = sides_in c.args.sides.now in no-covers s (entry_claim s) 101 rules_named c.args.text.now.items c.new-reaches.result.items c.new-reaches.ensures.items

pub loop-place-preserved : goal.loop-place-preserved
loop-place-preserved c =
    let s = sides_in c.args.sides.now in
    covers-more s (entry_claim s) 101 rules_named c.loop-place.place c.args.text.now.items c.loop-place.text.items c.put_entry_at.new.text.items c.loop-place.reaches.items c.push.new.self.items c.in_ok-reach.reach
    c.loop-place.invariant c.in_ok-reach.ensures c.in_ok-push.ensures.items

pub returns : goal.returns
returns c =
    let s = sides_in c.args.sides.now in
    let all : c.loop-place.place ≡ length c.args.sides.now.table.now.entries.items + 1 = omega (arith, c.loop-place-test.false, c.loop-place.auto.place-end, c.entry_count-place-end.ensures) in
    subst (λ n. PutsCovers s (entry_claim s) 101 rules_named n c.args.text.now.items c.loop-place.text.items c.loop-place.reaches.items) all c.loop-place.invariant

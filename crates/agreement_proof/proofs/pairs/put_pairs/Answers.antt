use Rattle.std.proofs.Common.{◌≡◌, ◌+◌, arith, length, subst}
use Rattle.agreement_check.specs.Views.{sides_in}
use Rattle.agreement_proof.specs.Texts.{PutsPairs, reaching}
use Rattle.agreement_proof.proofs.Listing.{no-pairs}
use Rattle.agreement_proof.proofs.pairs.put_pairs.Goals as goal

pub loop-entry-init : goal.loop-entry-init
loop-entry-init c = no-pairs (sides_in c.args.sides.now) (reaching c.args.reaches.now.entries.items c.args.reaches.now.rules.items) c.args.text.now.items

pub loop-entry-preserved : goal.loop-entry-preserved
loop-entry-preserved c = c.in_ok-count.ensures c.args.text.now.items c.loop-entry.invariant

pub returns : goal.returns
returns c =
    let all : c.loop-entry.entry ≡ length c.args.sides.now.table.now.entries.items + 1 = omega (arith, c.loop-entry-test.false, c.loop-entry.auto.entry-end, c.entry_count-entry-end.ensures) in
    subst (λ n. PutsPairs (sides_in c.args.sides.now) (reaching c.args.reaches.now.entries.items c.args.reaches.now.rules.items) (record { rule = 0; entry = n }) c.args.text.now.items c.loop-entry.text.items c.loop-entry.count)
    all c.loop-entry.invariant

use Rattle.std.proofs.Common.{◌≡◌, ℕ, sym, subst, arith, add-one}
use Rattle.slot_patch.specs.Merging.{IsMerged}
use Rattle.slot_patch.proofs.Merges.{merged-new}
use Rattle.slot_patch.proofs.merging.put_new.Goals as goal

pub loop-place-preserved : goal.loop-place-preserved
loop-place-preserved c = λ old new i shared end m.
    let l = c.loop-place in
    subst (λ (n : ℕ). IsMerged old new i n shared c.put.new.self) (sym (add-one l.place))
    (merged-new old new i l.place shared l.layout c.put.new.self (l.invariant old new i shared end m) c.in_ok-put.ensures.start c.in_ok-put.ensures.next (omega (arith, c.loop-place-test.true, end)))

pub returns : goal.returns
returns c = λ old new i shared end m.
    let l = c.loop-place in
    let all : l.place ≡ c.args.to = omega (arith, c.loop-place-test.false, l.auto.place-end, c.requires) in
    subst (λ (n : ℕ). IsMerged old new i n shared l.layout) all (l.invariant old new i shared end m)

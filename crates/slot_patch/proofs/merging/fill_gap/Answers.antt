use Rattle.std.proofs.Common.{◌≡◌, ℕ, sym, subst, arith, add-one}
use Rattle.slot_patch.specs.Merging.{IsMerged}
use Rattle.slot_patch.proofs.Merges.{merged-old}
use Rattle.slot_patch.proofs.merging.fill_gap.Goals as goal

pub loop-place-preserved : goal.loop-place-preserved
loop-place-preserved c =
    let l = c.loop-place in
    let until = c.wished-until.result in
    let most = c.wished-until.ensures.most in
    record {
      from = omega (arith, l.invariant.from, c.wished-until.ensures.least);
      to = most;
      merged = λ old new shared old_end new_end m. subst (λ (n : ℕ). IsMerged old new n until shared c.put.new.self) (sym (add-one l.place))
          (merged-old old new l.place until shared c.put_new.new.layout c.put.new.self
          (c.in_ok-put_new.ensures old new l.place shared (omega (arith, most, new_end)) (l.invariant.merged old new shared old_end new_end m))
          c.in_ok-put.ensures.start c.in_ok-put.ensures.next (omega (arith, c.loop-place-test.true, old_end)));
    }

pub returns : goal.returns
returns c = λ old new shared old_end new_end m.
    let l = c.loop-place in
    let all : l.place ≡ c.args.end.old = omega (arith, c.loop-place-test.false, l.auto.place-end, c.requires.old) in
    c.in_ok-put_new-2.ensures old new c.args.end.old shared new_end
    (subst (λ (n : ℕ). IsMerged old new n l.taken shared l.layout) all (l.invariant.merged old new shared old_end new_end m))

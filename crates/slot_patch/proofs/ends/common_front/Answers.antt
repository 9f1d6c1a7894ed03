use Rattle.std.proofs.Common.{◌∙◌, ℕ, sym, subst, arith, add-one}
use Rattle.slot_patch.specs.Sharing.{AreShared, run}
use Rattle.slot_patch.proofs.Trimming.{one-word, run-behind}
use Rattle.slot_patch.proofs.ends.common_front.Goals as goal

pub loop-place-preserved : goal.loop-place-preserved
loop-place-preserved c =
    let old = c.args.old.now in
    let new = c.args.new.now in
    let k = c.loop-place.place in
    let least = c.min-most.ensures in
    let word = one-word old new k k c.index-old-place.result c.index-new-place.result (omega (arith, c.loop-place-test.true, least)) (omega (arith, c.loop-place-test.true, least))
    c.index-old-place.is c.index-new-place.is (sym c.have_one_word.ensures ∙ c.if-not-have_one_word.false) in
    subst (λ (n : ℕ). AreShared old new 0 0 (run 0 0 n)) (sym (add-one k)) (run-behind old new 0 0 k k k (omega arith) (omega arith) c.loop-place.invariant word)

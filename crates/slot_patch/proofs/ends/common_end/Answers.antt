use Rattle.std.proofs.Common.{◌≡◌, ◌∙◌, ◌+◌, ◌-◌, ℕ, suc, length, sym, arith}
use Rattle.slot_patch.specs.Sharing.{AreShared, run}
use Rattle.slot_patch.proofs.Trimming.{one-word, run-before}
use Rattle.slot_patch.proofs.ends.common_end.Goals as goal

pub loop-done-preserved : goal.loop-done-preserved
loop-done-preserved c =
    let old = c.args.old.now in
    let new = c.args.new.now in
    let d = c.loop-done.done in
    let i = length old - 1 - d in
    let j = length new - 1 - d in
    let small = c.loop-done-test.true in
    let least = c.min-most.ensures in
    let word = one-word old new i j c.index-old-old.result c.index-new-new.result (omega (arith, small, least)) (omega (arith, small, least))
    c.index-old-old.is c.index-new-new.is (sym c.have_one_word.ensures ∙ c.if-not-have_one_word.false) in
    let here : length old - d ≡ suc i = omega (arith, small, least) in
    let there : length new - d ≡ suc j = omega (arith, small, least) in
    let behind : AreShared old new (suc i) (suc j) (run (suc i) (suc j) d) = rw (← here, ← there) c.loop-done.invariant in
    let is : suc d ≡ d + 1 = omega arith in
    let old_is : i ≡ length old - (d + 1) = omega (arith, small, least) in
    let new_is : j ≡ length new - (d + 1) = omega (arith, small, least) in
    rw (← old_is, ← new_is, ← is) (run-before old new i j d word behind)

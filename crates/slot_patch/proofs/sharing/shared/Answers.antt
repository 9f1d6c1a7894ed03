use Rattle.std.proofs.Common.{◌∙◌, ◌-◌, List, length, ap, sym, subst, arith, length-append}
use Rattle.std.proofs.lemmas.List.{length-take}
use Rattle.slot_patch.specs.Least.{same_word}
use Rattle.slot_patch.specs.Sharing.{AreShared, run}
use Rattle.slot_patch.specs.declared.pair.Pair.{Pair}
use Rattle.slot_patch.proofs.Trimming.{least-taken, length-run, taken-shared}
use Rattle.slot_patch.proofs.sharing.shared.Goals as goal

pub returns-clause-shared : goal.returns-clause-shared
returns-clause-shared c =
    let old = c.args.old.now in
    let new = c.args.new.now in
    let end = c.common_end-end.result in
    let m = length old - end in
    let n = length new - end in
    subst (λ (ps : List Pair). AreShared old new 0 0 ps) (sym c.in_ok-push_run.ensures)
    (taken-shared old new 0 0 m n c.in_ok-pairs.pairs.items (run m n end) c.in_ok-pairs.ensures.shared c.common_end-end.ensures.shared)

pub returns-clause-most : goal.returns-clause-most
returns-clause-most c =
    let old = c.args.old.now in
    let new = c.args.new.now in
    let end = c.common_end-end.result in
    let m = length old - end in
    let n = length new - end in
    let f = c.common_end-end.ensures.old in
    let g = c.common_end-end.ensures.new in
    let least = least-taken same_word end m n old new (omega (arith, f)) (omega (arith, g)) in
    let olds = length-take m old in
    let news = length-take n new in
    let long = ap (λ (ps : List Pair). length ps) c.in_ok-push_run.ensures ∙ length-append c.in_ok-pairs.pairs.items (run m n end) in
    let row = length-run m n end in
    omega (arith, least, c.in_ok-pairs.ensures.most, f, g, olds, news, long, row)

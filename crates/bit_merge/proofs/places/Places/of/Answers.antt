use Rattle.std.proofs.Common.{◌≡◌, ◌-◌, ◌∙◌, ap, arith, set, sym, Some, suc}
use Rattle.ternary_words.specs.declared.entry.Entry.{Entry}
use Rattle.bit_merge.proofs.Filled.{filled-next, filled-end}
use Rattle.bit_merge.proofs.places.Places.of.Goals as goal

pub loop-place-preserved : goal.loop-place-preserved
loop-place-preserved c =
    let l = c.loop-place in
    let p = l.place - 1 in
    let next : suc p ≡ l.place = omega (arith, c.loop-place-test.true) in
    filled-next c.args.run.now l.places c.put.new.self l.place p c.index-run-place.result l.invariant next c.index-run-place.is
    (c.in_ok-put.ensures ∙ ap (λ (x : Entry). set l.places p (Some x.word)) (sym c.index-run-place.is))

pub returns : goal.returns
returns c = let l = c.loop-place in filled-end c.args.run.now l.places l.place c.loop-place-test.false l.invariant

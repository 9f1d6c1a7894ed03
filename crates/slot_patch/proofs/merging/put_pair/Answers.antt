use Rattle.std.proofs.Common.{◌<◌, length, arith}
use Rattle.std.proofs.lemmas.Option.{slice_get_within}
use Rattle.slot_patch.proofs.Merges.{merged-both}
use Rattle.slot_patch.proofs.merging.put_pair.Goals as goal

pub returns : goal.returns
returns c = λ old new shared word m.
    let p = c.args.pair in
    let inside_old : p.old < length old = slice_get_within old p.old word.a word.old_at in
    let inside_new : p.new < length new = slice_get_within new p.new word.b word.new_at in
    merged-both old new p.old p.new shared c.fill_gap.new.layout c.put.new.self (c.in_ok-fill_gap.ensures old new shared (omega (arith, inside_old)) (omega (arith, inside_new)) m)
    c.in_ok-put.ensures.start c.in_ok-put.ensures.next word

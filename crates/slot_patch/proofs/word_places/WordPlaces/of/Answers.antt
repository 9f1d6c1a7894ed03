use Rattle.std.proofs.Common.{◌≡◌, ◌-◌, ◌+◌, ℕ, suc, length, refl, ap, subst, arith}
use Rattle.std.proofs.lemmas.Option.{slice_get_read}
use Rattle.ternary_words.specs.declared.entry.Entry.{Entry}
use Rattle.slot_patch.specs.Finding.{ArePlaces}
use Rattle.slot_patch.proofs.word_places.WordPlaces.of.Goals as goal

pub loop-done-preserved : goal.loop-done-preserved
loop-done-preserved c =
    let es = c.args.entries.now in
    let done = c.loop-done.done in
    let place = length es - 1 - done in
    let e = c.index-entries-place.result in
    let at = slice_get_read es (length es) place e refl (omega (arith, c.loop-done-test.true)) c.index-entries-place.is in
    let before : length es - done ≡ suc place = omega (arith, c.loop-done-test.true) in
    let behind : place ≡ length es - (done + 1) = omega (arith, c.loop-done-test.true) in
    subst (λ (n : ℕ). ArePlaces es n c.put.new.self) behind
    (c.in_ok-put.ensures es e at (ap (λ (x : Entry). x.word) c.index-entries-place.is) (subst (λ (n : ℕ). ArePlaces es n c.loop-done.places) before c.loop-done.invariant))

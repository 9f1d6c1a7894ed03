use Rattle.word_cover.specs.Cubes.{cube_of}
use Rattle.word_cover.proofs.Hulls.{masked-freed}
use Rattle.word_cover.proofs.Members.{masked-word}
use Rattle.word_cover.proofs.words.freed.Goals as goal

pub invariant_of-result : goal.invariant_of-result
invariant_of-result c =
    let word = c.args.word.now in
    let is = masked-freed (cube_of word) c.args.bits (masked-word word) in
    rw (c.without.ensures, c.without-2.ensures) (record { narrow = is.narrow; masked = is.masked })

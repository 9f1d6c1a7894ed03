use Rattle.word_cover.specs.Cubes.{cube_of}
use Rattle.word_cover.proofs.Members.{masked-word, masked-zero}
use Rattle.word_cover.proofs.splits.zero_half.Goals as goal

pub invariant_of-result : goal.invariant_of-result
invariant_of-result c =
    let word = c.args.word.now in
    let is = masked-zero (cube_of word) c.args.bit c.requires (masked-word word) in
    rw c.only.ensures (record { narrow = is.narrow; masked = is.masked })

use Rattle.word_cover.specs.Cubes.{cube_of}
use Rattle.word_cover.proofs.Members.{masked-one, masked-word}
use Rattle.word_cover.proofs.splits.one_half.Goals as goal

pub invariant_of-result : goal.invariant_of-result
invariant_of-result c =
    let word = c.args.word.now in
    let is = masked-one (cube_of word) c.args.bit c.requires (masked-word word) in
    rw c.only-only.ensures (record { narrow = is.narrow; masked = is.masked })

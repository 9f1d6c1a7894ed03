use Rattle.word_cover.specs.Cubes.{cube_of}
use Rattle.word_cover.proofs.Hulls.{hull-is, masked-hull}
use Rattle.word_cover.proofs.Members.{masked-word}
use Rattle.word_cover.proofs.words.hull.Goals as goal

pub invariant_of-result : goal.invariant_of-result
invariant_of-result c =
    let one = c.args.one.now in
    let is = masked-hull (cube_of one) (cube_of c.args.other.now) (masked-word one) in
    rw c.without-mask.ensures (record { narrow = is.narrow; masked = is.masked })

pub returns : goal.returns
returns c = rw c.without-mask.ensures (hull-is (cube_of c.args.one.now) (cube_of c.args.other.now))

use Rattle.std.proofs.Common.{◌%◌, ◌^◌}
use Rattle.std.proofs.lemmas.Nat.{mod_below, pow_pos}
use Rattle.word_cover.specs.Cubes.{bits_of, cube_of}
use Rattle.word_cover.proofs.Members.{masked-meet, masked-twice, masked-word}
use Rattle.word_cover.proofs.words.fixed.Goals as goal

pub invariant_of-result : goal.invariant_of-result
invariant_of-result c =
    let word = c.args.word.now in
    let bits = c.args.bits % 2 ^ 104 in
    let is = masked-meet (cube_of word) (bits_of bits c.args.value) (masked-word word) (record { masked = masked-twice c.args.value bits; narrow = mod_below c.args.bits (2 ^ 104) (pow_pos 104) }) in
    record { narrow = is.narrow; masked = is.masked }

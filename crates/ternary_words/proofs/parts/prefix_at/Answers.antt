use Rattle.std.proofs.Common.{◌≡◌, ◌/◌, ◌%◌, ◌^◌, ◌≤◌, subst, sym, arith, ℕ}
use Rattle.std.specs.Prelude.{bit_and}
use Rattle.std.proofs.lemmas.Nat.{one_shl}
use Rattle.ternary_words.proofs.Parted.{part_within}
use Rattle.ternary_words.proofs.parts.prefix_at.Goals as goal

pub part-requires-clause-within : goal.part-requires-clause-within
part-requires-clause-within c =
    let w = c.args.width in
    let wide : w ≤ 32 = c.requires.wide in
    let word = c.args.word.now in
    let P : ℕ → Type 0 = λ s. bit_and (word.value / 2 ^ c.args.low % s) (word.mask / 2 ^ c.args.low % s) ≡ word.value / 2 ^ c.args.low % s in
    subst P (sym (one_shl w 128 (omega (arith, wide)))) (part_within c.args.low w word.value word.mask word.masked)

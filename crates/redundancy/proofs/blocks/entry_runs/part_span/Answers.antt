use Rattle.std.proofs.Common.{◌/◌, ◌%◌, ◌^◌, arith}
use Rattle.std.proofs.lemmas.Nat.{and_le_r}
use Rattle.ternary_words.proofs.Parted.{part_within}
use Rattle.redundancy.proofs.blocks.entry_runs.part_span.Goals as goal

pub span_of-requires-clause-masked : goal.span_of-requires-clause-masked
span_of-requires-clause-masked c =
    let v = c.args.entry.now.word.value / 2 ^ c.args.low % 2 ^ c.args.width in
    let m = c.args.entry.now.word.mask / 2 ^ c.args.low % 2 ^ c.args.width in
    let below = and_le_r v m in
    let within = part_within c.args.low c.args.width c.args.entry.now.word.value c.args.entry.now.word.mask c.args.entry.now.word.masked in
    omega (arith, below, within, c.part-value.ensures, c.part-mask.ensures)

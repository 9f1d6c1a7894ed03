use Rattle.std.proofs.Common.{ap, ◌∙◌}
use Rattle.field_boxes.specs.Headline.Bits.{bits}
use Rattle.ternary_words.specs.Headline.Word.{header_bits}
use Rattle.ternary_words.specs.Word.{trits}
use Rattle.ternary_words.proofs.Masked.{masked_fields}
use Rattle.ternary_words.proofs.word.Word.of_fields.Goals as goal

pub invariant_of-result-clause-masked : goal.invariant_of-result-clause-masked
invariant_of-result-clause-masked c =
    rw (c.key.ensures.number, c.key-2.ensures.number) (masked_fields c.args.values.now c.args.masks.now c.requires.values c.requires.masks c.requires.within)

pub returns : goal.returns
returns c = ap (λ ms. trits ms (bits 104 c.key.result)) c.key-2.ensures.bits ∙ ap (trits (header_bits c.args.masks.now)) c.key.ensures.bits

use Rattle.std.proofs.Common.{◌≡◌, ℕ, List, length, map, ap, ◌∙◌, rules}
use Rattle.field_boxes.specs.Headline.Fields.{stated}
use Rattle.field_boxes.specs.Headline.Bits.{bits}
use Rattle.ternary_words.specs.Headline.Word.{agrees, header_bits}
use Rattle.ternary_words.specs.Word.{trits}
use Rattle.ternary_words.specs.Prefixes.{FitFields, fields_trits, masks_of}
use Rattle.field_boxes.specs.declared.prefix.Prefix.{Prefix}
use Rattle.ternary_words.proofs.Masked.{masked_key}
use Rattle.ternary_words.proofs.PrefixTrits.{trits-fields}
use Rattle.ternary_words.proofs.PrefixHolds.{agrees-fields}
use Rattle.ternary_words.proofs.word.Word.of.Goals as goal

word_trits : (ps : List Prefix) (values masks : List ℕ) (value mask : ℕ) → FitFields stated ps →
    values ≡ map (λ p. p.value) ps → masks ≡ masks_of stated ps → bits 104 value ≡ header_bits values → bits 104 mask ≡ header_bits masks →
    trits (bits 104 mask) (bits 104 value) ≡ fields_trits stated ps
word_trits ps values masks value mask fits ev em bv bm =
    ap (λ ms. trits ms (bits 104 value)) (bm ∙ ap header_bits em) ∙ ap (trits (header_bits (masks_of stated ps))) (bv ∙ ap header_bits ev) ∙ trits-fields stated ps fits

pub invariant_of-result-clause-masked : goal.invariant_of-result-clause-masked
invariant_of-result-clause-masked c =
    let five : length c.args.prefixes.now ≡ 5 = search rules in
    rw (c.key.ensures.number, c.key-2.ensures.number, c.values.ensures.values, c.masks.ensures.masks) (masked_key c.args.prefixes.now (record { value = 0; len = 0 }) five c.requires)

pub returns-clause-trits : goal.returns-clause-trits
returns-clause-trits c =
    word_trits c.args.prefixes.now c.values.result c.masks.result c.key.result c.key-2.result c.requires c.values.ensures.values c.masks.ensures.masks c.key.ensures.bits c.key-2.ensures.bits

pub returns-clause-boxes : goal.returns-clause-boxes
returns-clause-boxes c = λ values are.
    ap (λ ts. agrees ts (header_bits values)) (word_trits c.args.prefixes.now c.values.result c.masks.result c.key.result c.key-2.result c.requires c.values.ensures.values c.masks.ensures.masks c.key.ensures.bits c.key-2.ensures.bits)
    ∙ agrees-fields stated c.args.prefixes.now values c.requires are

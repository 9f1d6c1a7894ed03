use Rattle.std.proofs.Common.{refl, take, arith}
use Rattle.table_text.proofs.TritTexts.{spelled-more, small-more, within_word, masked-more, spelled-all}
use Rattle.table_text.proofs.trits.word_of_trits.Goals as goal

pub with_bit-value-requires-clause-small : goal.with_bit-value-requires-clause-small
with_bit-value-requires-clause-small c = within_word c.loop-byte.value c.loop-byte.byte-index c.loop-byte.invariant.value_small (omega arith)

pub with_bit-mask-requires-clause-small : goal.with_bit-mask-requires-clause-small
with_bit-mask-requires-clause-small c = within_word c.loop-byte.mask c.loop-byte.byte-index c.loop-byte.invariant.mask_small (omega arith)

pub loop-byte-preserved : goal.loop-byte-preserved
loop-byte-preserved c =
    let l = c.loop-byte in
    let b = c.bits_of-asks in
    record {
      places = l.invariant.places;
      mask_small = small-more l.mask b.result.0 l.byte-index c.with_bit-mask.result l.invariant.mask_small b.ensures.mask c.with_bit-mask.ensures;
      value_small = small-more l.value b.result.1 l.byte-index c.with_bit-value.result l.invariant.value_small b.ensures.value c.with_bit-value.ensures;
      masked = masked-more l.value l.mask b.result.1 b.result.0 c.with_bit-value.result c.with_bit-mask.result b.ensures.value b.ensures.mask l.invariant.masked b.ensures.within c.with_bit-value.ensures c.with_bit-mask.ensures;
      spelled = spelled-more _ l.byte-index l.mask l.value b.result.0 b.result.1 _ c.with_bit-mask.result c.with_bit-value.result (omega arith) refl b.ensures.mask b.ensures.value b.ensures.trit c.with_bit-mask.ensures c.with_bit-value.ensures l.invariant.spelled;
    }

pub returns : goal.returns
returns c = spelled-all (take 104 c.args.text.now) c.loop-byte.byte-index 104 c.loop-byte.mask c.loop-byte.value (omega (arith, c.loop-byte.invariant.places)) c.loop-byte-test.false c.loop-byte.invariant.spelled

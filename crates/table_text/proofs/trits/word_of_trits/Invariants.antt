use Rattle.std.proofs.Common.{◌≡◌, ◌<◌, ◌^◌, length, map, take, bit_and}
use Rattle.field_boxes.specs.Headline.Bits.{bits}
use Rattle.ternary_words.specs.Word.{trits}
use Rattle.table_text.specs.Trits.{trit_of}
use Rattle.table_text.proofs.trits.word_of_trits.Given as goal

abbrev pub invariant-loop-byte : goal.invariant-loop-byte
invariant-loop-byte l = record {
  places : length l.byte-items ≡ 104;
  mask_small : l.mask < 2 ^ l.byte-index;
  value_small : l.value < 2 ^ l.byte-index;
  masked : bit_and l.value l.mask ≡ l.value;
  spelled : trits (bits l.byte-index l.mask) (bits l.byte-index l.value) ≡ map trit_of (take l.byte-index l.byte-items);
}

use Rattle.std.proofs.Common.{◌≡◌, map, replicate, take, None, vec_len}
use Rattle.ternary_words.specs.Views.{entry_of}
use Rattle.memory_text.specs.Memory.{after}
use Rattle.memory_text.specs.Spreading.{even_writes}
use Rattle.memory_text.specs.Views.{memory_of}
use Rattle.memory_text.proofs.spreading.spread.Given as goal

abbrev pub invariant-loop-place : goal.invariant-loop-place
invariant-loop-place l = record {
  many : vec_len l.memory.slots ≡ l.slots;
  width : l.memory.width.bits ≡ l.table.slot.bits;
  slots : (memory_of l.memory).slots ≡ after (replicate l.slots None) (even_writes l.slots l.many 0 (map (entry_of l.table.names) (take l.place l.table.entries.items)));
}

use Rattle.std.proofs.Common.{◌≡◌, take, vec_len}
use Rattle.memory_text.specs.Memory.{after}
use Rattle.memory_text.specs.Views.{memory_of, writes_of}
use Rattle.memory_text.proofs.memory.SlotMemory.after.Given as goal

abbrev pub invariant-loop-write : goal.invariant-loop-write
invariant-loop-write l = record {
  many : vec_len l.memory.slots ≡ vec_len l.initial.memory.slots;
  width : l.memory.width ≡ l.initial.memory.width;
  slots : (memory_of l.memory).slots ≡ after (memory_of l.initial.memory).slots (writes_of l.plan.names (take l.write-index l.write-items));
}

use Rattle.std.proofs.Common.{◌≤◌, length}
use Rattle.field_boxes.specs.Spans.{interval_of}
use Rattle.redundancy.specs.Stretches.{AreListed}
use Rattle.redundancy.proofs.contexts.listed_below.Given as goal

abbrev pub invariant-loop-pair : goal.invariant-loop-pair
invariant-loop-pair l = record {
  listed : AreListed l.sets (interval_of l.span) l.contexts l.pair-index l.room.distinct l.stretches.items;
  room : length l.contexts ≤ l.stretches.capacity;
}

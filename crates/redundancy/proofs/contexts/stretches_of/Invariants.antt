use Rattle.std.proofs.Common.{◌≡◌, ◌<◌, ◌≤◌, length, take}
use Rattle.std.specs.Prelude.{map}
use Rattle.redundancy.specs.Stretches.{AreStretches, Gains, context_of}
use Rattle.redundancy.proofs.Listing.{low_after}
use Rattle.redundancy.proofs.contexts.stretches_of.Given as goal

abbrev pub invariant-loop-part : goal.invariant-loop-part
invariant-loop-part l = record {
  own : AreStretches l.distinct l.fn.span.lo (take l.part-index l.parts) l.own.items;
  gains : Gains (map context_of l.parts) l.part-index l.fn.distinct l.distinct;
  count : length l.own.items ≡ l.part-index;
  room : length l.parts ≤ l.own.capacity;
  lo : l.part-index < length l.parts → l.lo ≡ low_after l.fn.span.lo (take l.part-index l.parts);
}

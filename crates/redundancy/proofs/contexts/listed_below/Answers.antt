use Rattle.std.proofs.Common.{◌≡◌, arith, sym, subst, length}
use Rattle.std.specs.Prelude.{map}
use Rattle.field_boxes.specs.Spans.{interval_of}
use Rattle.redundancy.specs.Stretches.{AreListed, AreStretches, Gains, context_of}
use Rattle.redundancy.proofs.Listing.{listed_next}
use Rattle.redundancy.proofs.contexts.listed_below.Goals as goal

pub loop-pair-preserved : goal.loop-pair-preserved
loop-pair-preserved c = record {
  listed = listed_next c.args.sets.now (interval_of c.args.span) c.args.contexts.now c.loop-pair.pair-index c.loop-pair.room.distinct c.stretches_of.new.distinct c.loop-pair.stretches.items c.push_reserved.new.self.items c.in_ok-own.own
      c.put_parts.new.parts.items c.in_ok-put_parts.ensures.split
      (subst (λ ps. Gains (map context_of ps) (length ps) c.loop-pair.room.distinct c.stretches_of.new.distinct) c.as_slice.ensures c.in_ok-own.ensures.pairs)
      (subst (λ ps. AreStretches c.stretches_of.new.distinct c.args.span.lo ps c.in_ok-own.own.items) c.as_slice.ensures c.in_ok-own.ensures.stretches) c.push_reserved.ensures.items c.loop-pair.invariant.listed;
  room = omega (arith, c.loop-pair.invariant.room, c.push_reserved.ensures.capacity);
}

pub returns : goal.returns
returns c =
    let end : c.loop-pair.pair-index ≡ length c.args.contexts.now = omega arith in
    subst (λ ps. AreListed c.args.sets.now (interval_of c.args.span) c.args.contexts.now (length c.args.contexts.now) ps c.loop-pair.stretches.items) (sym c.in_ok-pairs.ensures)
    (subst (λ n. AreListed c.args.sets.now (interval_of c.args.span) c.args.contexts.now n c.loop-pair.room.distinct c.loop-pair.stretches.items) end c.loop-pair.invariant.listed)

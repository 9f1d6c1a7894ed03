use Rattle.std.proofs.Common.{◌∙◌, ◌+◌, List, ap, arith, length, refl}
use Rattle.std.proofs.lemmas.List.{length-append}
use Rattle.node_store.specs.declared.split.Part.{Part}
use Rattle.redundancy.specs.declared.contexts.Stretch.{Stretch}
use Rattle.redundancy.proofs.Listing.{next_part, stretch_next}
use Rattle.redundancy.proofs.contexts.stretches_of.Goals as goal

abbrev no_part : Part
no_part = record { hi = 0; left = record { 0 = 0 }; right = record { 0 = 0 } }

pub invariant_of-push_reserved : goal.invariant_of-push_reserved
invariant_of-push_reserved c =
    let less = c.loop-part-test.true in
    let n = next_part c.args.span.lo c.args.span.hi c.loop-part.part-index c.args.parts.now no_part c.requires (omega (arith, less)) in
    let lo = c.loop-part.invariant.lo (omega (arith, less)) in
    record { ordered = omega (arith, n.0, lo) }

pub loop-part-preserved : goal.loop-part-preserved
loop-part-preserved c =
    let less = c.loop-part-test.true in
    let i = c.loop-part.invariant in
    let p = stretch_next c.args.span.lo c.args.span.hi c.loop-part.part-index c.args.parts.now no_part c.args.distinct.now c.loop-part.distinct c.place.new.self
    c.loop-part.own.items c.push_reserved.new.self.items _ c.loop-part.lo c.saturating_add-lo.result c.requires (omega (arith, less)) i.own i.gains (i.lo (omega (arith, less))) refl refl c.in_ok-place.ensures.found c.in_ok-place.ensures.keys
    c.push_reserved.ensures.items (λ small. omega (arith, c.saturating_add-lo.ensures, small)) in
    let more = c.push_reserved.ensures.items in
    record { own = p.0; gains = p.1; count = ap (λ (ss : List Stretch). length ss) more ∙ length-append c.loop-part.own.items _ ∙ ap (λ n. n + 1) i.count; room = omega (arith, i.room, c.push_reserved.ensures.capacity); lo = p.2 }

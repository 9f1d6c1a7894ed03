use Rattle.std.proofs.Common.{arith, ap, ◌∙◌, get_or}
use Rattle.smallvec.specs.SmallVec.{SmallVec}
use Rattle.field_sets.specs.declared.placed.Placed.{Placed}
use Rattle.redundancy.specs.declared.sifting.layer.Change.{Change}
use Rattle.redundancy.proofs.LayerDrafts.{gathered_next}
use Rattle.redundancy.proofs.sifting.layer.gather.Goals as goal

pub loop-change-preserved : goal.loop-change-preserved
loop-change-preserved c =
    gathered_next c.args.changes.now c.loop-change.change-index c.args.place c.change-item.result c.index-deref-place.result c.loop-change.placed.items c.extend_from_slice.new.self.items c.as_slice.result.now (omega (arith, c.loop-change-test.true))
    (c.requires c.loop-change.change-index c.change-item.result (omega (arith, c.loop-change-test.true))) c.loop-change.invariant c.in_ok-extend_from_slice.ensures.items
    (c.as_slice.ensures ∙ ap (λ (o : SmallVec Placed). o.items) (c.index-deref-place.is ∙ ap (λ ps. get_or ps c.args.place c.index-deref-place.result) c.deref.ensures ∙ ap (λ (ch : Change). get_or ch.placed.items c.args.place c.index-deref-place.result) c.change-item.is))

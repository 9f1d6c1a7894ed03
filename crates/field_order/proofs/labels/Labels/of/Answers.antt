use Rattle.std.proofs.Common.{◌∙◌, ◌+◌, ap, sym, refl, subst, take}
use Rattle.std.specs.Prelude.{slice_index_or}
use Rattle.node_store.specs.declared.edge.Edge.{Edge}
use Rattle.prefix_min.specs.declared.piece.Piece.{Piece}
use Rattle.table_compose.specs.Labels.{with_child, children_of, ArePieces}
use Rattle.table_compose.proofs.Children.{children_more, few_more, pieces_more, stored}
use Rattle.field_order.proofs.labels.Labels.of.Goals as goal

pub loop-edge-preserved : goal.loop-edge-preserved
loop-edge-preserved c =
    let d : Edge = record { hi = 0; to = record { 0 = 0 } } in
    let l = c.loop-edge in
    let edge = slice_index_or c.args.edges.now l.edge-index d in
    let p : Piece = record { hi = edge.hi; label = c.in_ok-place.place } in
    let children = c.in_ok-place.ensures.keys ∙ ap (λ cs. with_child cs edge.to) l.invariant.children ∙ sym (children_more c.args.edges.now l.edge-index d c.loop-edge-test.true) in
    let at = c.in_ok-place.ensures.stored in
    record {
      children = children;
      pieces = subst (λ ps. ArePieces (children_of (take (l.edge-index + 1) c.args.edges.now)) (take (l.edge-index + 1) c.args.edges.now) ps) (sym c.in_ok-push.ensures.items)
          (pieces_more c.args.edges.now l.pieces.items l.edge-index d p c.loop-edge-test.true l.invariant.pieces
          (refl, stored c.insert_full.new.self.keys (children_of (take (l.edge-index + 1) c.args.edges.now)) c.in_ok-place.place at.0 edge.to children at.1 at.2));
      few = few_more c.args.edges.now l.edge-index d c.loop-edge-test.true l.invariant.few;
    }

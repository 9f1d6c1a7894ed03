use Rattle.std.proofs.Common.{◌∙◌, ◌+◌, ap, sym, refl, subst, take}
use Rattle.std.specs.Prelude.{slice_get, slice_index_or}
use Rattle.node_store.specs.declared.edge.Edge.{Edge}
use Rattle.prefix_min.specs.declared.piece.Piece.{Piece}
use Rattle.table_compose.specs.Labels.{with_child, children_of, ArePieces}
use Rattle.table_compose.proofs.Children.{children_more, few_more, pieces_more}
use Rattle.table_compose.proofs.labels.Labelling.label.Goals as goal

pub loop-edge-preserved : goal.loop-edge-preserved
loop-edge-preserved c =
    let d : Edge = record { hi = 0; to = record { 0 = 0 } } in
    let l = c.loop-edge in
    let edges = c.args.edges.now in
    let edge = slice_index_or edges l.edge-index d in
    let p : Piece = record { hi = edge.hi; label = c.in_ok-label.label } in
    let children = c.in_ok-label.ensures.nodes ∙ ap (λ cs. with_child cs edge.to) l.invariant.children ∙ sym (children_more edges l.edge-index d c.loop-edge-test.true) in
    record {
      children = children;
      pieces = subst (λ ps. ArePieces (children_of (take (l.edge-index + 1) edges)) (take (l.edge-index + 1) edges) ps) (sym c.in_ok-push.ensures.items)
          (pieces_more edges l.self.pieces.items l.edge-index d p c.loop-edge-test.true l.invariant.pieces (refl, ap (λ cs. slice_get cs c.in_ok-label.label) (sym children) ∙ c.in_ok-label.ensures.at));
      few = few_more edges l.edge-index d c.loop-edge-test.true l.invariant.few;
      placed = c.in_ok-label.ensures.placed;
      room = c.place.ensures.room ∙ l.invariant.room;
    }

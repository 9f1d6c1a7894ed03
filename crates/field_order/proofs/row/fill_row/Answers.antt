use Rattle.std.proofs.Common.{◌≤◌, ap, refl, sym, subst, arith, take, get_or, ◌∙◌, List}
use Rattle.std.specs.List.{AllZip}
use Rattle.std.proofs.lemmas.List.{take_all, get_or_default}
use Rattle.field_boxes.specs.Fields.{greatest_of}
use Rattle.node_store.specs.declared.edge.Edge.{Edge}
use Rattle.node_store.specs.Levels.{HasField, top_of}
use Rattle.node_store.specs.Edges.{AreFull, child_of}
use Rattle.node_store.specs.Diagram.{edges_of}
use Rattle.field_order.specs.Fronts.{ArePassed, IsCell}
use Rattle.field_order.proofs.Passed.{moved}
use Rattle.field_order.proofs.Rows.{narrowed, row_nodes}
use Rattle.field_order.proofs.Zipped.{pushed}
use Rattle.field_order.proofs.row.fill_row.Goals as goal

pub loop-index-preserved : goal.loop-index-preserved
loop-index-preserved c =
    let d : Edge = record { hi = 0; to = record { 0 = 0 } } in
    let l = c.loop-index in
    let inside = c.loop-index-test.true in
    let store = c.args.store.now in
    let items = c.args.edges.now in
    let edge = get_or items l.index d in
    let under = c.edges-under.result.now in
    let place = c.place_from-place.result in
    let cell = get_or under place d in
    let at = c.requires.nodes.2 l.index d inside in
    let inner = c.edges-under.ensures.inner (subst HasField (sym at) c.requires.nodes.1) in
    let found = c.place_from-place.ensures.edge (greatest_of c.args.field) (subst (λ k. AreFull (top_of k) under) at inner.full) c.requires.within in
    let hi = c.min-hi.result in
    let new : Edge = record { hi = edge.hi; to = cell.to } in
    let is = c.min-hi.ensures in
    let less : hi ≤ l.hi = omega (arith, is) in record {
      low = let low = found.low d in omega (arith, low, is, l.invariant.low);
      high = omega (arith, less, l.invariant.high);
      cells = pushed (IsCell store c.args.lo hi) items l.cells.items c.push.new.self.items l.index d new inside c.in_ok-push.ensures.ok
          (narrowed store c.args.lo l.hi hi (take l.index items) l.cells.items less l.invariant.cells)
          (refl, λ v low high. ap (λ es. child_of es v) (sym c.edges-under.ensures.edges) ∙ found.leads d v low (omega (arith, high, is)));
      places = moved store items l.places c.args.lo l.invariant.places l.index place inside (λ e.
          subst (λ (x : Edge). ArePassed (edges_of store x.to.0) place c.args.lo) (get_or_default items l.index d e inside)
          (subst (λ (es : List Edge). ArePassed es place c.args.lo) c.edges-under.ensures.edges c.place_from-place.ensures.passed));
    }

pub returns-clause-nodes : goal.returns-clause-nodes
returns-clause-nodes c = λ rest has lead.
    let l = c.loop-index in
    row_nodes c.args.store.now c.args.lo l.hi c.args.field rest c.args.edges.now l.cells.items c.same_answers.ensures.store has l.invariant.low l.invariant.high lead
    (subst (λ es. AllZip (IsCell c.args.store.now c.args.lo l.hi) es l.cells.items) (take_all l.index c.args.edges.now c.loop-index-test.false) l.invariant.cells)

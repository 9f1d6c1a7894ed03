use Rattle.std.proofs.Common.{◌≡◌, ◌+◌, ◌≤◌, ◌∙◌, ap, sym, subst, arith, get_or}
use Rattle.std.specs.Prelude.{suc}
use Rattle.std.proofs.lemmas.List.Elements.{All-push}
use Rattle.node_store.specs.declared.edge.Edge.{Edge}
use Rattle.node_store.specs.Edges.{child_of}
use Rattle.node_store.specs.Diagram.{level_of, edges_of}
use Rattle.node_store.specs.Levels.{HasField, next as next_level, top_of}
use Rattle.node_store.specs.Store.{LeadTo}
use Rattle.node_store.proofs.Canonical.{in_use, is_level}
use Rattle.fdd_build.proofs.Fills.{full_after}
use Rattle.field_order.proofs.Blocks.{cell_level, leads_more}
use Rattle.field_order.proofs.Passed.{passed_later}
use Rattle.field_order.proofs.row.splice_row.Goals as goal

pub place_from-next-requires-clause-full : goal.place_from-next-requires-clause-full
place_from-next-requires-clause-full c = (top_of c.args.level.now, c.requires.full, omega (arith, c.loop-filled-test.true, c.from-top.ensures, c.greatest_in.ensures))

pub edges-under-requires : goal.edges-under-requires
edges-under-requires c =
    let l = c.loop-filled in
    let level = c.args.level.now in
    let d : Edge = record { hi = 0; to = record { 0 = 0 } } in
    let next = c.place_from-next.result in
    let found = c.place_from-next.ensures.edge (top_of level) c.requires.full (omega (arith, c.loop-filled-test.true, c.from-top.ensures, c.greatest_in.ensures)) in
    in_use c.args.store.now (get_or c.args.cells.now next d).to.0 level (is_level level c.requires.level) (c.requires.nodes next d found.inside)

pub edge_at-edge-requires : goal.edge_at-edge-requires
edge_at-edge-requires c =
    let level = c.args.level.now in
    let d : Edge = record { hi = 0; to = record { 0 = 0 } } in
    let next = c.place_from-next.result in
    let within : c.loop-filled.filled ≤ top_of level = omega (arith, c.loop-filled-test.true, c.from-top.ensures, c.greatest_in.ensures) in
    let found = c.place_from-next.ensures.edge (top_of level) c.requires.full within in
    let at = c.requires.nodes next d found.inside in
    let inner = c.edges-under.ensures.inner (subst HasField (sym at) c.requires.level) in
    (top_of (level_of c.args.store.now (get_or c.args.cells.now next d).to.0), inner.full, subst (λ l. c.loop-filled.filled ≤ top_of l) (sym at) within)

pub loop-filled-preserved : goal.loop-filled-preserved
loop-filled-preserved c =
    let l = c.loop-filled in
    let level = c.args.level.now in
    let store = c.args.store.now in
    let cells = c.args.cells.now in
    let d : Edge = record { hi = 0; to = record { 0 = 0 } } in
    let next = c.place_from-next.result in
    let within : l.filled ≤ top_of level = omega (arith, c.loop-filled-test.true, c.from-top.ensures, c.greatest_in.ensures) in
    let found = c.place_from-next.ensures.edge (top_of level) c.requires.full within in
    let cell = get_or cells next d in
    let at = c.requires.nodes next d found.inside in
    let under = c.edges-under.result.now in
    let edge = c.edge_at-edge.result in
    let leads = c.edge_at-edge.ensures.leads in
    let low = c.edge_at-edge.ensures.low in
    let hi = c.min-hi.result in
    let is = c.min-hi.ensures in
    let e : Edge = record { hi = hi; to = edge.to } in
    let count : c.from-filled.result + 1 ≡ suc hi = omega (arith, c.from-filled.ensures) in
    let starts = found.low d in
    let ends : l.filled ≤ hi = omega (arith, is, starts, low) in
    let same = c.edges-under.ensures.edges in record {
      room = let high = found.high d in omega (arith, count, is, high);
      full = full_after l.filled (c.from-filled.result + 1) l.row.items c.push.new.self.items e l.invariant.full ends count c.in_ok-push.ensures.ok;
      nodes = subst (LeadTo store (next_level level)) (sym c.in_ok-push.ensures.ok)
          (All-push (λ (x : Edge). level_of store x.to.0 ≡ next_level level) l.row.items e l.invariant.nodes
          (cell_level store level cell.to.0 l.filled edge.to.0 c.same_answers.ensures.store c.requires.level at within
          (ap (λ es. child_of es l.filled) (sym same) ∙ leads l.filled (omega arith) low)));
      passed = passed_later cells next l.filled (c.from-filled.result + 1) (omega (arith, count, ends)) c.place_from-next.ensures.passed;
      leads = leads_more (λ u. child_of (edges_of store (child_of cells u)) u) l.filled hi (c.from-filled.result + 1) l.row.items c.push.new.self.items edge.to l.invariant.full l.invariant.leads
          (λ u late high. ap (λ k. child_of (edges_of store k) u) (found.leads d u late (omega (arith, is, high))) ∙ ap (λ es. child_of es u) (sym same) ∙ leads u late (omega (arith, is, high)))
          count c.in_ok-push.ensures.ok;
    }

pub loop-filled-smaller : goal.loop-filled-smaller
loop-filled-smaller c =
    let l = c.loop-filled in
    let level = c.args.level.now in
    let d : Edge = record { hi = 0; to = record { 0 = 0 } } in
    let within : l.filled ≤ top_of level = omega (arith, c.loop-filled-test.true, c.from-top.ensures, c.greatest_in.ensures) in
    let found = c.place_from-next.ensures.edge (top_of level) c.requires.full within in
    let starts = found.low d in
    omega (arith, within, starts, c.min-hi.ensures, c.edge_at-edge.ensures.low, c.from-filled.ensures)

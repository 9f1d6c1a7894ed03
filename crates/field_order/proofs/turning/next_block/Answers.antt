use Rattle.std.proofs.Common.{◌≡◌, ◌+◌, ◌≤◌, arith}
use Rattle.std.specs.Prelude.{suc}
use Rattle.node_store.specs.declared.edge.Edge.{Edge}
use Rattle.node_store.specs.Edges.{child_of}
use Rattle.fdd_build.proofs.Fills.{full_after}
use Rattle.field_order.proofs.Blocks.{leads_from, led}
use Rattle.field_order.proofs.turning.next_block.Goals as goal

pub edge_at-edge-requires : goal.edge_at-edge-requires
edge_at-edge-requires c = (c.args.top, c.requires.full, omega (arith, c.max-from.ensures, c.requires.within, c.loop-filled-test.true, c.from-last.ensures))

pub end_of-end-requires : goal.end_of-end-requires
end_of-end-requires c = c.edge_at-edge.ensures.high c.args.top c.requires.full

pub loop-filled-preserved : goal.loop-filled-preserved
loop-filled-preserved c =
    let l = c.loop-filled in
    let edges = c.args.edges.now in
    let top = c.args.top in
    let from = c.max-from.result in
    let edge = c.edge_at-edge.result in
    let end = c.end_of-end.result in
    let at = c.edge_at-edge.ensures in
    let is = c.end_of-end.ensures in
    let e : Edge = record { hi = end; to = edge.to } in
    let most = c.max-from.ensures in
    let test = c.loop-filled-test.true in
    let high = at.high top c.requires.full in
    let low = at.low in
    let count : c.from-filled.result + 1 ≡ suc end = omega (arith, c.from-filled.ensures) in
    let ends : l.filled ≤ end = omega (arith, most, low, is.low) in record {
      room = omega (arith, count, is.high);
      low = omega (arith, most, low);
      high = high;
      full = full_after l.filled (c.from-filled.result + 1) l.few.items c.push.new.self.items e l.invariant.full ends count c.in_ok-push.ensures.ok;
      passed = λ less. let own = is.own (omega (arith, count, less)) in omega (arith, count, own);
      leads = leads_from (child_of edges) c.args.lo l.hi edge.hi l.filled end (c.from-filled.result + 1) l.few.items c.push.new.self.items edge.to l.invariant.full l.invariant.leads
          (l.invariant.passed (omega (arith, test, c.from-last.ensures))) (λ u start late within. at.leads u (omega (arith, most, start, late)) within) count c.in_ok-push.ensures.ok;
      nodes = λ nodes level lead. led nodes level top from end edges l.few.items c.push.new.self.items edge.to c.requires.full (omega (arith, low, high)) (at.leads from (omega arith) low) c.in_ok-push.ensures.ok lead (l.invariant.nodes nodes level lead);
    }

use Rattle.std.proofs.Common.{◌+◌, arith}
use Rattle.node_store.specs.declared.edge.Edge.{Edge}
use Rattle.fdd_build.proofs.Fills.{full_after, leads_after_push}
use Rattle.fdd_build.proofs.filling.Filling.lead.Goals as goal

pub returns-clause-full : goal.returns-clause-full
returns-clause-full c =
    let e : Edge = record { hi = c.args.hi; to = c.args.to } in
    full_after c.args.self.now.filled (c.from.result + 1) c.args.self.now.edges.items c.push.new.self.items e c.requires.full c.requires.above
    (omega (arith, c.from.ensures)) c.in_ok-push.ensures.ok

pub returns-clause-leads : goal.returns-clause-leads
returns-clause-leads c = λ v top.
    let e : Edge = record { hi = c.args.hi; to = c.args.to } in
    leads_after_push c.args.self.now.filled v c.args.self.now.edges.items c.push.new.self.items e c.requires.full top c.in_ok-push.ensures.ok

use Rattle.std.proofs.Common.{◌≡◌, arith, ap, sym, ◌∙◌}
use Rattle.node_store.specs.Levels.{top_of}
use Rattle.node_store.specs.Diagram.{level_of, edges_of}
use Rattle.node_store.specs.Edges.{child_of}
use Rattle.node_store.proofs.Canonical.{leads_on}
use Rattle.node_store.proofs.store.Store.child.Goals as goal

pub edge_at-requires : goal.edge_at-requires
edge_at-requires c = (top_of (level_of c.args.self.now c.args.id.0), (c.edges.ensures.inner c.requires.inner).full, c.requires.value)

pub returns-clause-child : goal.returns-clause-child
returns-clause-child c =
    sym (c.edge_at.ensures.leads c.args.value (omega arith) c.edge_at.ensures.low) ∙ ap (λ es. child_of es c.args.value) c.edges.ensures.edges

pub returns-clause-number : goal.returns-clause-number
returns-clause-number c =
    let nodes = c.args.self.now in
    let id = c.args.id.0 in
    let is : c.edge_at.result.to.0 ≡ child_of (edges_of nodes id) c.args.value =
    sym (c.edge_at.ensures.leads c.args.value (omega arith) c.edge_at.ensures.low) ∙ ap (λ es. child_of es c.args.value) c.edges.ensures.edges in
    let below = (leads_on nodes id c.args.value c.same_answers.ensures.store c.requires.inner c.requires.value).0 in
    omega (arith, is, below, c.requires.number)

pub returns-clause-level : goal.returns-clause-level
returns-clause-level c =
    let nodes = c.args.self.now in
    let id = c.args.id.0 in
    ap (λ n. level_of nodes n) (sym (c.edge_at.ensures.leads c.args.value (omega arith) c.edge_at.ensures.low) ∙ ap (λ es. child_of es c.args.value) c.edges.ensures.edges)
    ∙ (leads_on nodes id c.args.value c.same_answers.ensures.store c.requires.inner c.requires.value).1

use Rattle.std.proofs.Common.{◌∙◌, arith, refl, subst, sym, List}
use Rattle.field_boxes.specs.Fields.{greatest_of}
use Rattle.node_store.specs.declared.edge.NodeId.{NodeId}
use Rattle.rule_audit.specs.Search.{AreChildren}
use Rattle.rule_audit.proofs.Least.{full, has, leads_from, step_on, step_past}
use Rattle.rule_audit.proofs.search.least.ShortSearch.step.Goals as goal

pub is_nothing-requires : goal.is_nothing-requires
is_nothing-requires c =
    let on = leads_from c.args.store.now c.args.around.now.here.0 c.args.depth c.args.value c.edges.result.now c.edge_at-edge.result c.same_answers.ensures.store c.requires.depth
    c.requires.around.here c.requires.value c.edges.ensures.edges c.edge_at-edge.ensures.low c.edge_at-edge.ensures.leads in
    omega (arith, on.used, c.requires.nothing.count)

pub returns-then-is_nothing : goal.returns-then-is_nothing
returns-then-is_nothing c =
    let nodes = c.args.store.now in
    let around = c.args.around.now in
    let e = c.edge_at-edge.result in
    let at = c.requires.around.here in
    let high = c.edge_at-edge.ensures.high (greatest_of c.args.depth)
    (full nodes around.here.0 c.args.depth c.edges.result.now c.requires.depth at (c.edges.ensures.inner (has nodes around.here.0 c.args.depth c.requires.depth at)).full) in
    let on = leads_from c.args.store.now c.args.around.now.here.0 c.args.depth c.args.value c.edges.result.now c.edge_at-edge.result c.same_answers.ensures.store c.requires.depth
    c.requires.around.here c.requires.value c.edges.ensures.edges c.edge_at-edge.ensures.low c.edge_at-edge.ensures.leads in
    step_past nodes c.args.depth c.args.value around _ e on.level on.leads refl high on.low (c.requires.nothing.right e.to.0 (sym c.is_nothing.ensures ∙ c.if-is_nothing.true)) refl
    c.new.ensures.items c.new-then-is_nothing.ensures.items

pub returns : goal.returns
returns c =
    let nodes = c.args.store.now in
    let around = c.args.around.now in
    let before = c.in_ok-before.before in
    let behind = c.in_ok-behind.behind in
    let second = c.in_ok-behind.ensures.low in
    let least = c.min.ensures in
    let is = c.min-hi.ensures in
    let at = c.requires.around.here in
    let high = c.edge_at-edge.ensures.high (greatest_of c.args.depth)
    (full nodes around.here.0 c.args.depth c.edges.result.now c.requires.depth at (c.edges.ensures.inner (has nodes around.here.0 c.args.depth c.requires.depth at)).full) in
    let on = leads_from c.args.store.now c.args.around.now.here.0 c.args.depth c.args.value c.edges.result.now c.edge_at-edge.result c.same_answers.ensures.store c.requires.depth
    c.requires.around.here c.requires.value c.edges.ensures.edges c.edge_at-edge.ensures.low c.edge_at-edge.ensures.leads in
    step_on nodes c.args.depth c.args.value around _ c.edge_at-edge.result on.level on.leads refl high before.hi behind.hi
    (omega (arith, on.low, c.in_ok-before.ensures.low, second, least, is)) (omega (arith, least, is)) (omega (arith, least, is)) (omega (arith, least, is))
    (subst (λ (ids : List NodeId). AreChildren nodes c.args.depth ids c.args.value before.hi before.children.items) c.as_slice.ensures c.in_ok-before.ensures)
    (subst (λ (ids : List NodeId). AreChildren nodes c.args.depth ids c.args.value behind.hi behind.children.items) c.as_slice-2.ensures c.in_ok-behind.ensures)

use Rattle.std.proofs.Common.{get_or, take, subst, sym, List}
use Rattle.std.proofs.lemmas.List.{take_more}
use Rattle.node_store.specs.declared.edge.NodeId.{NodeId}
use Rattle.rule_audit.specs.Search.{AreChildren}
use Rattle.rule_audit.proofs.Least.{leads_from, next_row, no_id}
use Rattle.rule_audit.proofs.search.least.ShortSearch.row.Goals as goal

pub add-requires : goal.add-requires
add-requires c =
    let l = c.loop-id in
    let id = get_or c.args.ids.now l.id-index no_id in
    let e = c.edge_at-edge.result in
    let on = leads_from c.args.store.now id.0 c.args.depth c.args.value c.edges.result.now e c.same_answers.ensures.store c.requires.depth (c.requires.stand l.id-index no_id c.loop-id-test.true)
    c.requires.value c.edges.ensures.edges c.edge_at-edge.ensures.low c.edge_at-edge.ensures.leads in
    record { id = on.used; nothing = c.requires.nothing }

pub loop-id-preserved : goal.loop-id-preserved
loop-id-preserved c =
    let l = c.loop-id in
    let nodes = c.args.store.now in
    let ids = c.args.ids.now in
    let id = get_or ids l.id-index no_id in
    let e = c.edge_at-edge.result in
    let on = leads_from c.args.store.now id.0 c.args.depth c.args.value c.edges.result.now e c.same_answers.ensures.store c.requires.depth (c.requires.stand l.id-index no_id c.loop-id-test.true)
    c.requires.value c.edges.ensures.edges c.edge_at-edge.ensures.low c.edge_at-edge.ensures.leads in
    subst (λ (xs : List NodeId). AreChildren nodes c.args.depth xs c.args.value c.min-hi.result c.add.new.children.items) (sym (take_more ids l.id-index no_id c.loop-id-test.true))
    (next_row nodes c.args.depth c.args.value l.hi c.min-hi.result (take l.id-index ids) l.children.items c.add.new.children.items id e on.level on.low on.leads c.min-hi.ensures
    c.in_ok-add.ensures l.invariant)

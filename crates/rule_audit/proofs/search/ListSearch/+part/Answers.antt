use Rattle.std.proofs.Common.{◌≡◌, ◌∙◌, ◌/◌, ap, arith, drop, length, subst, sym, take, List}
use Rattle.field_boxes.specs.declared.rule.Rule as code
use Rattle.node_store.specs.Diagram.{Node}
use Rattle.rule_audit.specs.declared.list_parts.ListPart.{ListPart}
use Rattle.rule_audit.specs.Parts.{IsPart, Shows, shown_of}
use Rattle.node_store.specs.declared.edge.NodeId.{NodeId}
use Rattle.rule_audit.proofs.Between.{first_half, second_half}
use Rattle.rule_audit.proofs.Joining.{whole}
use Rattle.rule_audit.proofs.PartsShown.{part_size, part_shows}
use Rattle.rule_audit.proofs.search.ListSearch.+part.Goals as goal

-- the diagram of a part that its half of the rules is
half_shows : (nodes : List Node) (half rules : List code.Rule) (part : ListPart) (id : NodeId) → half ≡ rules → id ≡ shown_of part → IsPart nodes rules part → Shows nodes half id
half_shows nodes half rules part id is same h = subst (λ (rs : List code.Rule). Shows nodes rs id) (sym is) (subst (Shows nodes rules) (sym same) (part_shows nodes rules part h))

-- the part of a half of the rules
half_is : (nodes : List Node) (half rules : List code.Rule) (part same : ListPart) → half ≡ rules → same ≡ part → IsPart nodes rules part → IsPart nodes half same
half_is nodes half rules part same is e h = subst (λ (rs : List code.Rule). IsPart nodes rs same) (sym is) (subst (IsPart nodes rules) (sym e) h)

pub part-requires : goal.part-requires
part-requires t c =
    let nodes = c.args.self.now.store.now in
    let rules = c.args.rules.now in
    let parts = subst (IsPart nodes rules) c.in-Halves.is c.requires.part in
    let upper = c.split_at.result.0.now in
    let lower = c.split_at.result.1.now in
    let front = c.split_at.ensures.front in
    let back = c.split_at.ensures.back in
    let made = c.in_ok-around_first-in-Halves.ensures in
    let part = half_is nodes upper (take (length rules / 2) rules) c.in-Halves.first.value c.deref-in-Halves-2.result.now front c.deref-in-Halves-2.ensures parts.1 in
    let between = first_half nodes c.args.self.now.rules.now c.requires.decide rules upper lower (length c.args.states.now.items) c.args.around.now c.in_ok-around_first-in-Halves.around_first
    c.shown.result c.shown-in-Halves.result (sym (whole rules upper lower (length rules / 2) front back)) c.requires.between
    (half_shows nodes upper (take (length rules / 2) rules) c.in-Halves.first.value c.shown.result front (c.shown.ensures ∙ ap shown_of c.deref.ensures) parts.1)
    (half_shows nodes lower (drop (length rules / 2) rules) c.in-Halves.second.value c.shown-in-Halves.result back (c.shown-in-Halves.ensures ∙ ap shown_of c.deref-in-Halves.ensures) parts.2)
    made.here made.before made.behind in
    let less = ap part_size c.in-Halves.is in
    let same = ap part_size c.deref-in-Halves-2.ensures in
    (omega (arith, c.decreases, less, same), (part, (between, (c.requires.decide, (c.requires.nothing, (c.requires.full, c.requires.told))))))

pub part-requires-in-Halves : goal.part-requires-in-Halves
part-requires-in-Halves t c =
    let nodes = c.args.self.now.store.now in
    let rules = c.args.rules.now in
    let parts = subst (IsPart nodes rules) c.in-Halves.is c.requires.part in
    let upper = c.split_at.result.0.now in
    let lower = c.split_at.result.1.now in
    let front = c.split_at.ensures.front in
    let back = c.split_at.ensures.back in
    let made = c.in_ok-around_second-in-Halves.ensures in
    let part = half_is nodes lower (drop (length rules / 2) rules) c.in-Halves.second.value c.deref-in-Halves-5.result.now back c.deref-in-Halves-5.ensures parts.2 in
    let between = second_half nodes c.args.self.now.rules.now c.requires.decide rules upper lower (length c.args.states.now.items) (length c.part.new.states.items) c.args.around.now
    c.in_ok-around_second-in-Halves.around_second c.shown-in-Halves-2.result c.shown-in-Halves-3.result (sym (whole rules upper lower (length rules / 2) front back))
    c.in_ok-part-in-Halves.ensures.count c.requires.between
    (half_shows nodes upper (take (length rules / 2) rules) c.in-Halves.first.value c.shown-in-Halves-2.result front (c.shown-in-Halves-2.ensures ∙ ap shown_of c.deref-in-Halves-3.ensures) parts.1)
    (half_shows nodes lower (drop (length rules / 2) rules) c.in-Halves.second.value c.shown-in-Halves-3.result back (c.shown-in-Halves-3.ensures ∙ ap shown_of c.deref-in-Halves-4.ensures) parts.2)
    made.here made.before made.behind in
    let less = ap part_size c.in-Halves.is in
    let same = ap part_size c.deref-in-Halves-5.ensures in
    (omega (arith, c.decreases, less, same), (part, (between, (c.requires.decide, (c.requires.nothing, (c.requires.full, c.in_ok-part-in-Halves.ensures.told))))))

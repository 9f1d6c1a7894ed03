use Rattle.std.proofs.Common.{◌≡◌, ◌<◌, ◌+◌, ◌∙◌, ◌∷◌, ◌++◌, ℕ, List, [], false, Some, length, get_or, drop, take, set, ap, sym, subst, refl, arith, rules, suc, unwrap_or}
use Rattle.std.proofs.lemmas.Option.{slice_get-get_or}
use Rattle.std.proofs.lemmas.List.{length-take-le, take_all, take_more_set}
use Rattle.field_boxes.specs.Fields.{greatest_of}
use Rattle.node_store.specs.declared.edge.Edge.{Edge}
use Rattle.node_store.specs.Edges.{AreFull, child_of}
use Rattle.node_store.specs.Levels.{HasField, next, top_of}
use Rattle.rule_audit.proofs.Least.{used}
use Rattle.rule_audit.specs.Meeting.{AreMet, Before, UpTo, next_shown, state_after}
use Rattle.rule_audit.proofs.Meetings.{RiseFrom, all_left, next_edge}
use Rattle.rule_audit.proofs.Meetings as meetings
use Rattle.rule_audit.proofs.Order.{header_is}
use Rattle.field_boxes.proofs.Orders.{field_few}
use Rattle.node_store.proofs.Stated.{has_field, next_is, top_is}
use Rattle.rule_audit.proofs.label_walk.LabelWalk.+meeting.Goals as goal

abbrev no_edge : Edge
no_edge = record { hi = 0; to = record { 0 = 0 } }

-- the values with the one that was written
with_one : (values others : List ℕ) (depth v : ℕ) → length values ≡ 5 → depth < 5 → others ≡ set values depth v → take (depth + 1) others ≡ take depth values ++ v ∷ []
with_one values others depth v five less is =
    ap (take (depth + 1)) is ∙ take_more_set values depth v (omega (arith, five, less))

pub edge-returns : goal.edge-returns
edge-returns t c =
    let nodes = c.args.self.now.store.now in
    let root = c.args.self.now.root.0 in
    let five : length c.args.header.values ≡ 5 = search rules in
    let is = with_one c.args.header.values c.with_value-header.result.values c.args.depth c.args.lo five c.requires.depth c.with_value-header.ensures in record {
      met = meetings.met_edge c.args.self.now.first nodes root (take c.args.depth c.args.header.values) c.args.lo c.args.edge.hi c.args.edge.to.0 c.requires.rises c.requires.leads c.node.new.seen c.node.new.states
          (subst (λ front. AreMet c.args.self.now.first nodes root (UpTo front) c.node.new.seen c.node.new.states) is c.node.ensures.met);
    }

pub edges-loop-edge-init : goal.edges-loop-edge-init
edges-loop-edge-init t c =
    let inner = c.edges-edges.ensures.inner (subst HasField (sym c.requires.level) (has_field c.args.depth c.requires.depth)) in record {
      rise = all_left (greatest_of c.args.depth) c.edges-edges.result.now
          (subst (λ g. AreFull g c.edges-edges.result.now) (ap top_of c.requires.level ∙ top_is c.args.depth c.requires.depth) inner.full);
      leads = λ v h. refl;
      count = c.requires.room;
      met = meetings.met_first c.args.self.now.first c.args.self.now.store.now c.args.self.now.root.0 (take c.args.depth c.args.header.values) c.args.seen.now c.args.states.now c.requires.met;
    }

pub edges-overflow_cast-lo : goal.edges-overflow_cast-lo
edges-overflow_cast-lo t c =
    let l = c.loop-edge in
    let r = next_edge (greatest_of c.args.depth) l.lo c.edges-edges.result.now l.edge-index no_edge c.loop-edge-test.true l.invariant.rise in
    omega (arith, r.low, r.high, field_few c.args.depth c.requires.depth)

pub edges-edge-requires : goal.edges-edge-requires
edges-edge-requires t c =
    let l = c.loop-edge in
    let nodes = c.args.self.now.store.now in
    let root = c.args.self.now.root.0 in
    let edges = c.edges-edges.result.now in
    let edge = get_or edges l.edge-index no_edge in
    let front = take c.args.depth c.args.header.values in
    let r = next_edge (greatest_of c.args.depth) l.lo edges l.edge-index no_edge c.loop-edge-test.true l.invariant.rise in
    let inner = c.edges-edges.ensures.inner (subst HasField (sym c.requires.level) (has_field c.args.depth c.requires.depth)) in (
      omega (arith, c.decreases),
      (
        c.requires.depth,
        (
          r.low,
          (
            r.high,
            (
              (inner.children l.edge-index no_edge c.loop-edge-test.true).1 ∙ ap next c.requires.level ∙ next_is c.args.depth c.requires.depth,
              (
                (λ v low high. meetings.leads_on c.args.self.now.first nodes root front c.args.id.0 edge.to.0 v edges c.requires.leads c.edges-edges.ensures.edges (l.invariant.leads v low ∙ r.leads v high)),
                (l.invariant.count, l.invariant.met),
              ),
            ),
          ),
        ),
      ),
    )

pub edges-loop-edge-preserved : goal.edges-loop-edge-preserved
edges-loop-edge-preserved t c =
    let l = c.loop-edge in
    let nodes = c.args.self.now.store.now in
    let root = c.args.self.now.root.0 in
    let edges = c.edges-edges.result.now in
    let greatest = greatest_of c.args.depth in
    let edge = get_or edges l.edge-index no_edge in
    let front = take c.args.depth c.args.header.values in
    let r = next_edge greatest l.lo edges l.edge-index no_edge c.loop-edge-test.true l.invariant.rise in
    let one : suc l.edge-index ≡ l.edge-index + 1 = omega arith in
    let low : suc edge.hi ≡ c.from-lo.result + 1 = omega (arith, c.from-lo.ensures) in record {
      rise = subst (λ n. RiseFrom greatest n (drop (l.edge-index + 1) edges)) low (subst (λ n. RiseFrom greatest (suc edge.hi) (drop n edges)) one r.rise);
      leads = λ v h.
          l.invariant.leads v (omega (arith, r.low, low, h)) ∙ r.later v (omega (arith, low, h)) ∙ ap (λ n. child_of (drop n edges) v) one;
      count = omega arith;
      met = subst (λ n. AreMet c.args.self.now.first nodes root (Before (front ++ n ∷ [])) c.edge.new.seen c.edge.new.states) low c.edge.ensures.met;
    }

pub node-returns-then-seen-id : goal.node-returns-then-seen-id
node-returns-then-seen-id t c =
    let five : length c.args.header.values ≡ 5 = search rules in
    let inside : c.args.id.0 < length c.args.seen.now = omega (arith, used c.args.self.now.store.now c.args.id.0 c.args.depth c.requires.level, c.requires.room) in record {
      met = meetings.met_again c.args.self.now.first c.args.self.now.store.now c.args.self.now.root.0 (take c.args.depth c.args.header.values) c.args.depth c.args.id.0
          (length-take-le c.args.depth c.args.header.values (omega (arith, five, c.requires.depth))) c.requires.level c.requires.leads c.args.seen.now c.args.states.now
          (slice_get-get_or c.args.seen.now c.args.id.0 false inside ∙ ap Some c.if-seen-id.true) c.requires.met;
    }

pub node-bounds-seen-id-2 : goal.node-bounds-seen-id-2
node-bounds-seen-id-2 t c = omega (arith, used c.args.self.now.store.now c.args.id.0 c.args.depth c.requires.level, c.requires.room)

pub node-returns : goal.node-returns
node-returns t c =
    let five : length c.args.header.values ≡ 5 = search rules in record {
      met = meetings.met_marked c.args.self.now.first c.args.self.now.store.now c.args.self.now.root.0 (take c.args.depth c.args.header.values) c.args.depth c.args.id.0
          (length-take-le c.args.depth c.args.header.values (omega (arith, five, c.requires.depth))) c.requires.level c.requires.leads c.args.header.values c.worked_out.new.seen c.worked_out.new.states
          (header_is c.args.header.values five c.args.header.in_fields) refl c.worked_out.ensures.met;
    }

pub worked_out-returns-then-depth-eq5 : goal.worked_out-returns-then-depth-eq5
worked_out-returns-then-depth-eq5 t c =
    let five : length c.args.header.values ≡ 5 = search rules in
    let deep : c.args.depth ≡ 5 = omega (arith, c.if-depth-eq5.true) in record {
      met = meetings.met_leaf c.args.self.now.first c.args.self.now.store.now c.args.self.now.root.0 (take c.args.depth c.args.header.values) c.args.depth c.args.id.0
          (length-take-le c.args.depth c.args.header.values (omega (arith, five, c.requires.depth))) c.requires.level c.requires.leads c.args.header deep
          (take_all c.args.depth c.args.header.values (omega (arith, five, deep))) (header_is c.args.header.values five c.args.header.in_fields)
          c.unwrap_or-number.result c.args.seen.now c.args.states.now c.meet.new.states
          (c.unwrap_or-number.ensures ∙ ap (λ o. unwrap_or o 0) c.decision.ensures.decision) (omega arith)
          (λ k d less. c.meet.ensures k d less ∙ ap (λ l. state_after (next_shown k l) c.args.header (get_or c.args.states.now k d)) c.at.ensures)
          c.requires.met;
    }

pub worked_out-returns-else-depth-eq5 : goal.worked_out-returns-else-depth-eq5
worked_out-returns-else-depth-eq5 t c =
    let five : length c.args.header.values ≡ 5 = search rules in record {
      met = meetings.met_last c.args.self.now.first c.args.self.now.store.now c.args.self.now.root.0 (take c.args.depth c.args.header.values) c.args.depth (omega (arith, c.requires.depth, c.if-depth-eq5.false))
          (length-take-le c.args.depth c.args.header.values (omega (arith, five, c.requires.depth))) c.edges.new.seen c.edges.new.states c.edges.ensures.met;
    }

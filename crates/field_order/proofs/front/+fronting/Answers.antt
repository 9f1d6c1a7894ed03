use Rattle.std.proofs.Common.{◌≡◌, ◌≤◌, ℕ, List, ◌∷◌, ap, refl, sym, subst, arith, take, get_or, ◌∙◌}
use Rattle.std.specs.List.{AllZip}
use Rattle.std.proofs.lemmas.List.{take_all}
use Rattle.field_boxes.specs.Fields.{greatest_of}
use Rattle.node_store.specs.declared.edge.Edge.{Edge}
use Rattle.node_store.specs.Levels.{HasField, IsLevel, next as next_level, top_of}
use Rattle.node_store.specs.Edges.{AreFull, child_of}
use Rattle.node_store.specs.Diagram.{edges_of, answer}
use Rattle.node_store.specs.Store.{LeadTo}
use Rattle.node_store.proofs.Canonical.{is_next}
use Rattle.node_store.proofs.Values.{rest_is}
use Rattle.field_boxes.specs.Orders.{AreDistinct, Has}
use Rattle.node_store.proofs.Growth as growth
use Rattle.field_order.specs.Fronts.{IsFrontEdge, without}
use Rattle.field_order.proofs.Fronted.{edge_level, ready, front_made, next_distinct, some_field, upper_is, own, first_is, in_rest, has_field}
use Rattle.field_order.proofs.Stays as stays
use Rattle.field_order.proofs.Zipped.{pushed}
use Rattle.field_order.proofs.front.+fronting.Goals as goal

pub front_edges-front-requires : goal.front_edges-front-requires
front_edges-front-requires t c =
    let l = c.loop-edge in
    let d : Edge = record { hi = 0; to = record { 0 = 0 } } in
    let same = c.as_slice-edge-items.ensures ∙ c.in_ok-edges.ensures ∙ c.edges.ensures.edges in
    let at = edge_level c.args.store.now l.store c.args.id.0 l.edge-index c.args.level.now c.as_slice-edge-items.result.now d c.same_answers.ensures.store c.requires.inner c.requires.at c.requires.level same l.invariant.grows c.loop-edge-test.true in
    (omega (arith, c.decreases), (c.requires.level, (c.requires.apart, (at, (c.requires.has, l.invariant.fronts)))))

pub front_edges-loop-edge-preserved : goal.front_edges-loop-edge-preserved
front_edges-loop-edge-preserved t c =
    let l = c.loop-edge in
    let d : Edge = record { hi = 0; to = record { 0 = 0 } } in
    let items = c.as_slice-edge-items.result.now in
    let edge = get_or items l.edge-index d in
    let new : Edge = record { hi = edge.hi; to = c.in_ok-to.to } in
    let made = c.in_ok-to.ensures in
    let n = c.front.new.store in record {
      grows = growth.twice c.args.store.now l.store n l.invariant.grows made.grows;
      fronts = made.fronts;
      edges = pushed (IsFrontEdge n c.args.field) items l.fronted.items c.push.new.self.items l.edge-index d new c.loop-edge-test.true c.in_ok-push.ensures.ok
          (stays.front_edges l.store n made.grows c.args.field (take l.edge-index items) l.fronted.items l.invariant.edges) (refl, made.front);
    }

pub front_edges-returns-clause-edges : goal.front_edges-returns-clause-edges
front_edges-returns-clause-edges t c =
    let l = c.loop-edge in
    let items = c.as_slice-edge-items.result.now in
    let same = c.as_slice-edge-items.ensures ∙ c.in_ok-edges.ensures ∙ c.edges.ensures.edges in
    subst (λ es. AllZip (IsFrontEdge l.store c.args.field) es l.fronted.items) (take_all l.edge-index items c.loop-edge-test.false ∙ same) l.invariant.edges

pub crossed-front_edges-requires : goal.crossed-front_edges-requires
crossed-front_edges-requires t c =
    let level = c.args.level.now in
    let tail = sym (rest_is level) in
    let at = c.requires.at in
    let is = subst IsLevel tail (is_next level c.requires.other) in
    let apart = subst AreDistinct tail (next_distinct level c.requires.apart) in
    let has = subst (Has c.args.field) tail c.requires.has in
    (omega (arith, c.decreases, some_field level c.requires.other), (is, (apart, (subst HasField (sym at) c.requires.other, (ap next_level at ∙ tail, (has, c.requires.fronts))))))

pub crossed-rows-requires : goal.crossed-rows-requires
crossed-rows-requires t c =
    let r = ready c.args.store.now c.front_edges.new.store c.args.level.now c.as_slice-2.result.now c.args.id.0 c.args.field c.in_ok-edges.edges.items c.as_slice-3.result.now c.same_answers.ensures.store c.requires.at c.requires.level c.requires.apart
    c.requires.other c.requires.has c.in_ok-edges.ensures.grows c.in_ok-edges.ensures.edges (c.as_slice-2.ensures ∙ c.in_ok-lower.ensures) c.as_slice-3.ensures in
    record { level = r.field; upper = r.upper; field = r.side; full = r.full; nodes = r.nodes }

pub crossed-make-requires : goal.crossed-make-requires
crossed-make-requires t c =
    let f = c.args.field in
    let lower = without f c.args.level.now in
    let rows = c.as_slice-5.result.now in
    let made = sym c.as_slice-5.ensures in
    let upper = sym (upper_is f lower c.as_slice.result.now c.in_ok-upper.upper.items c.as_slice-4.result.now (c.as_slice.ensures ∙ c.in_ok-lower.ensures) c.in_ok-upper.ensures c.as_slice-4.ensures) in
    let r = ready c.args.store.now c.front_edges.new.store c.args.level.now lower c.args.id.0 f c.in_ok-edges.edges.items c.in_ok-edges.edges.items c.same_answers.ensures.store c.requires.at c.requires.level c.requires.apart c.requires.other c.requires.has
    c.in_ok-edges.ensures.grows c.in_ok-edges.ensures.edges refl refl in record {
      field = subst HasField upper r.upper;
      full = subst (λ l. AreFull (top_of l) rows) upper (subst (AreFull (greatest_of f)) made c.in_ok-rows.ensures.full);
      children = subst (λ l. LeadTo c.rows.new.store (next_level l) rows) upper
          (subst (LeadTo c.rows.new.store lower) made (subst (λ l. LeadTo c.rows.new.store l c.in_ok-rows.rows.items) (c.as_slice-2.ensures ∙ c.in_ok-lower.ensures) c.in_ok-rows.ensures.nodes));
    }

pub crossed-returns-clause-front : goal.crossed-returns-clause-front
crossed-returns-clause-front t c =
    let f = c.args.field in
    let level = c.args.level.now in
    let lower = c.as_slice-2.ensures ∙ c.in_ok-lower.ensures in
    let upper = upper_is f (without f level) c.as_slice.result.now c.in_ok-upper.upper.items c.as_slice-4.result.now (c.as_slice.ensures ∙ c.in_ok-lower.ensures) c.in_ok-upper.ensures c.as_slice-4.ensures in
    let n1 = c.front_edges.new.store in
    let n2 = c.rows.new.store in
    let n3 = c.make.new.self in
    let made = c.in_ok-made.made.0 in
    let es = c.in_ok-edges.edges.items in
    let rows = c.in_ok-rows.rows.items in
    front_made c.args.store.now n1 n2 n3 level c.args.id.0 f made es rows c.same_answers.ensures.store c.requires.at c.requires.level c.requires.apart c.requires.other c.requires.has
    c.in_ok-edges.ensures.grows c.in_ok-edges.ensures.edges c.in_ok-rows.ensures.grows c.in_ok-made.ensures.grows
    (subst (λ l. (v u : ℕ) (values : List ℕ) → v ≤ greatest_of f → u ≤ top_of l → answer n2 (child_of rows v) (u ∷ values) ≡ answer n1 (child_of (edges_of n1 (child_of es u)) v) values) lower
    (subst (λ ds. (v u : ℕ) (values : List ℕ) → v ≤ greatest_of f → u ≤ top_of c.as_slice-2.result.now → answer n2 (child_of rows v) (u ∷ values) ≡ answer n1 (child_of (edges_of n1 (child_of ds u)) v) values) c.as_slice-3.ensures c.in_ok-rows.ensures.answers))
    (subst (λ ds. (v : ℕ) (values : List ℕ) → v ≤ greatest_of f → answer n3 made (v ∷ values) ≡ answer n2 (child_of ds v) values) c.as_slice-5.ensures
    (subst (λ l. (v : ℕ) (values : List ℕ) → v ≤ top_of l → answer n3 made (v ∷ values) ≡ answer n2 (child_of c.as_slice-5.result.now v) values) upper c.in_ok-made.ensures.answers))
    (c.in_ok-made.ensures.level ∙ upper)

pub crossed-returns-clause-fronts : goal.crossed-returns-clause-fronts
crossed-returns-clause-fronts t c =
    stays.fronts c.front_edges.new.store c.make.new.self (growth.twice c.front_edges.new.store c.rows.new.store c.make.new.self c.in_ok-rows.ensures.grows c.in_ok-made.ensures.grows) c.front_edges.new.fronts c.in_ok-edges.ensures.fronts

pub crossed-returns-clause-grows : goal.crossed-returns-clause-grows
crossed-returns-clause-grows t c =
    growth.twice c.args.store.now c.front_edges.new.store c.make.new.self c.in_ok-edges.ensures.grows (growth.twice c.front_edges.new.store c.rows.new.store c.make.new.self c.in_ok-rows.ensures.grows c.in_ok-made.ensures.grows)

pub crossed-slice_bounds-front_edges-count : goal.crossed-slice_bounds-front_edges-count
crossed-slice_bounds-front_edges-count t c = omega (arith, some_field c.args.level.now c.requires.other)

pub front-returns-then-first-field-clause-front : goal.front-returns-then-first-field-clause-front
front-returns-then-first-field-clause-front t c =
    let level = c.args.level.now in
    own c.args.store.now level c.args.id.0 c.args.field c.requires.level c.requires.apart c.requires.has c.requires.at (next_level level) (first_is c.args.field level _ c.requires.has c.if-first-field.true)

pub front-crossed-requires : goal.front-crossed-requires
front-crossed-requires t c =
    (omega (arith, c.decreases), (c.requires.level, (c.requires.apart, (c.requires.at, (in_rest c.args.field c.args.level.now _ c.requires.has c.if-first-field.false, (has_field c.args.field c.args.level.now c.requires.has c.requires.level, c.requires.fronts))))))

pub crossed-returns-in_err-rows-clause-fronts : goal.crossed-returns-in_err-rows-clause-fronts
crossed-returns-in_err-rows-clause-fronts t c =
    stays.fronts c.front_edges.new.store c.rows.new.store c.in_err-rows.ensures.grows c.front_edges.new.fronts c.in_ok-edges.ensures.fronts

pub crossed-returns-in_err-made-clause-fronts : goal.crossed-returns-in_err-made-clause-fronts
crossed-returns-in_err-made-clause-fronts t c =
    stays.fronts c.front_edges.new.store c.make.new.self (growth.twice c.front_edges.new.store c.rows.new.store c.make.new.self c.in_ok-rows.ensures.grows c.in_err-made.ensures.grows) c.front_edges.new.fronts c.in_ok-edges.ensures.fronts

pub crossed-returns-in_err-made-clause-grows : goal.crossed-returns-in_err-made-clause-grows
crossed-returns-in_err-made-clause-grows t c =
    growth.twice c.args.store.now c.front_edges.new.store c.make.new.self c.in_ok-edges.ensures.grows (growth.twice c.front_edges.new.store c.rows.new.store c.make.new.self c.in_ok-rows.ensures.grows c.in_err-made.ensures.grows)

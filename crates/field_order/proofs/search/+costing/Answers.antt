use Rattle.std.proofs.Common.{◌+◌, ◌-◌, ◌∷◌, ◌≤◌, ◌^◌, ◌/◌, ◌%◌, ap, sym, subst, arith, get_or, length, ◌∙◌}
use Rattle.std.specs.Prelude.{None, IfOk}
use Rattle.std.specs.Bool.{OnTrue}
use Rattle.std.specs.List.{All, AllZip}
use Rattle.std.proofs.lemmas.List.{take_all}
use Rattle.field_boxes.specs.Headline.Fields.{width}
use Rattle.std.proofs.lemmas.Option.{slice_get-get_or}
use Rattle.field_boxes.specs.Orders.{AreDistinct, Has}
use Rattle.node_store.specs.declared.edge.Edge.{Edge}
use Rattle.node_store.specs.Levels.{HasField, IsLevel, next as next_level}
use Rattle.node_store.proofs.Values.{rest_is}
use Rattle.node_store.specs.Diagram.{level_of}
use Rattle.node_store.proofs.Canonical.{in_use, is_level, is_next, not_empty, within}
use Rattle.table_compose.specs.Labels.{children_of}
use Rattle.table_compose.proofs.FewHeaders.{narrow}
use Rattle.table_compose.proofs.Inputs.{minimal}
use Rattle.table_compose.proofs.Planned.{few_at, no_fields}
use Rattle.node_store.specs.declared.edge.NodeId.{NodeId}
use Rattle.node_store.proofs.Growth as growth
use Rattle.field_order.specs.Worth.{IsAbove, IsExact, IsRearranged, IsWorth, Settles, AreFields, AreWeights, answer_by, digits}
use Rattle.field_order.specs.Fronts.{without}
use Rattle.field_order.proofs.Fronted.{in_rest, next_distinct, ready, some_field}
use Rattle.field_order.proofs.Without.{distinct, five, order_distinct, order_has, parted}
use Rattle.field_order.proofs.Digits.{order_small}
use Rattle.field_order.proofs.Parts.{lower}
use Rattle.field_order.proofs.Rows.{lead_later}
use Rattle.field_order.proofs.Sampled.{above_later, child_told, children_fields, first_has, next_has, sample_fields, several_told}
use Rattle.field_order.proofs.Steps.{step, small, opened, brought, front_field, children, beyond, asked, leaf, to_keep, kept_is}
use Rattle.field_order.proofs.Stays as stays
use Rattle.field_order.proofs.Weighed as weighed
use Rattle.field_order.proofs.Zipped.{pushed}
use Rattle.field_order.proofs.search.+costing.Goals as goal

pub weights-worth-requires : goal.weights-worth-requires
weights-worth-requires t c =
    let l = c.loop-node in
    let d : NodeId = record { 0 = 0 } in
    let level = c.args.level.now in
    let node = (get_or c.args.nodes.now l.node-index d).0 in
    let fields = stays.fields c.args.store.now l.store l.invariant.grows level (digits (length level) c.args.order) node c.requires.level (c.requires.fields l.node-index d c.loop-node-test.true) in
    (omega (arith, c.decreases), (c.requires.level, (fields, (l.invariant.fronts, l.invariant.worths))))

pub weights-loop-node-preserved : goal.weights-loop-node-preserved
weights-loop-node-preserved t c =
    let l = c.loop-node in
    let d : NodeId = record { 0 = 0 } in
    let items = c.args.nodes.now in
    let order = digits (length c.args.level.now) c.args.order in
    let node = get_or items l.node-index d in
    let n = c.worth.new.store in
    let made = c.in_ok-found.ensures in
    let cost = c.in-Is.cost in
    let exact : IsExact n order node.0 cost = subst (IsWorth n order node.0) c.in-Is.is made.worth in
    record {
      grows = growth.twice c.args.store.now l.store n l.invariant.grows made.grows;
      fronts = made.fronts;
      worths = made.worths;
      weights = pushed (λ (k : NodeId) m. IsExact n order k.0 m) items l.weights.items c.push.new.self.items l.node-index d cost c.loop-node-test.true c.in_ok-push-in-Is.ensures.items
          (weighed.stay c.args.store.now l.store n c.args.level.now order items l.node-index l.weights.items c.requires.level l.invariant.grows made.grows c.requires.fields l.invariant.weights) exact;
      others = weighed.others_more n order l.others cost (length items) l.node-index c.saturating_sub-others-in-Is.result l.weights.items c.push.new.self.items c.loop-node-test.true l.invariant.others
          (omega (arith, c.saturating_sub-others-in-Is.ensures, c.saturating_add.ensures)) c.in_ok-push-in-Is.ensures.items;
    }

pub weights-returns-then-cap-others-clause-weights : goal.weights-returns-then-cap-others-clause-weights
weights-returns-then-cap-others-clause-weights t c =
    let l = c.loop-node in
    weighed.reached l.store (digits (length c.args.level.now) c.args.order) c.args.nodes.now l.node-index l.others c.args.cap l.weights.items l.invariant.weights c.loop-node-test.true l.invariant.others c.if-cap-others.true

pub weights-returns-then-cap-others-2-clause-weights : goal.weights-returns-then-cap-others-2-clause-weights
weights-returns-then-cap-others-2-clause-weights t c =
    let l = c.loop-node in
    weighed.reached_all l.store (digits (length c.args.level.now) c.args.order) c.args.nodes.now l.node-index l.others c.args.cap l.weights.items l.invariant.weights l.invariant.others c.if-cap-others-2.true

pub weights-returns-in-Above-clause-weights : goal.weights-returns-in-Above-clause-weights
weights-returns-in-Above-clause-weights t c =
    let l = c.loop-node in
    let d : NodeId = record { 0 = 0 } in
    let items = c.args.nodes.now in
    let order = digits (length c.args.level.now) c.args.order in
    let node = get_or items l.node-index d in
    let n = c.worth.new.store in
    let made = c.in_ok-found.ensures in
    let stay = weighed.stay c.args.store.now l.store n c.args.level.now order items l.node-index l.weights.items c.requires.level l.invariant.grows made.grows c.requires.fields l.invariant.weights in
    weighed.passed n order items l.node-index l.others c.args.cap c.in-Above._least d l.weights.items stay c.loop-node-test.true l.invariant.others c.if-cap-others.false
    (subst (Settles (c.args.cap - l.others)) c.in-Above.is made.settles) (subst (IsWorth n order node.0) c.in-Above.is made.worth)

pub weights-returns-clause-weights : goal.weights-returns-clause-weights
weights-returns-clause-weights t c =
    let l = c.loop-node in
    subst (λ ids. AllZip (λ (k : NodeId) m. IsExact l.store (digits (length c.args.level.now) c.args.order) k.0 m) ids l.weights.items) (take_all l.node-index c.args.nodes.now c.loop-node-test.false) l.invariant.weights

pub worked_out-overflow_sub-level : goal.worked_out-overflow_sub-level
worked_out-overflow_sub-level t c = omega (arith, some_field c.args.level.now c.requires.some)

pub worked_out-unit-unit-requires : goal.worked_out-unit-unit-requires
worked_out-unit-unit-requires t c = omega (arith, some_field c.args.level.now c.requires.some, five c.args.level.now c.requires.level)

pub worked_out-overflow_cast-field : goal.worked_out-overflow_cast-field
worked_out-overflow_cast-field t c =
    let f = c.args.order / c.unit-unit.result in
    let st = step c.args.store.now c.args.level.now c.args.order c.args.id.0 c.unit-unit.result c.requires.level c.requires.some c.requires.fields c.unit-unit.ensures.value in
    omega (arith, small c.args.level.now c.args.order f (c.args.order % c.unit-unit.result) c.requires.level c.requires.fields.apart st)

pub worked_out-front-requires-clause-has : goal.worked_out-front-requires-clause-has
worked_out-front-requires-clause-has t c =
    (step c.args.store.now c.args.level.now c.args.order c.args.id.0 c.unit-unit.result c.requires.level c.requires.some c.requires.fields c.unit-unit.ensures.value).has

pub worked_out-edges-requires : goal.worked_out-edges-requires
worked_out-edges-requires t c =
    let o = opened c.args.store.now c.front.new.store c.args.level.now c.args.order c.args.id.0 c.unit-unit.result c.in_ok-front.front.0 c.same_answers.ensures.store c.requires.level c.requires.some c.requires.fields
    c.unit-unit.ensures.value c.in_ok-front.ensures.front c.in_ok-front.ensures.grows in
    within c.front.new.store c.in_ok-front.front.0 (is_level (level_of c.front.new.store c.in_ok-front.front.0) (front_field o))

pub worked_out-of-requires : goal.worked_out-of-requires
worked_out-of-requires t c =
    let o = opened c.args.store.now c.front.new.store c.args.level.now c.args.order c.args.id.0 c.unit-unit.result c.in_ok-front.front.0 c.same_answers.ensures.store c.requires.level c.requires.some c.requires.fields
    c.unit-unit.ensures.value c.in_ok-front.ensures.front c.in_ok-front.ensures.grows in
    few_at (level_of c.front.new.store c.in_ok-front.front.0) c.edges.result.now (front_field o) (c.edges.ensures.inner (front_field o)).full

pub worked_out-weights-requires : goal.worked_out-weights-requires
worked_out-weights-requires t c =
    let o = opened c.args.store.now c.front.new.store c.args.level.now c.args.order c.args.id.0 c.unit-unit.result c.in_ok-front.front.0 c.same_answers.ensures.store c.requires.level c.requires.some c.requires.fields
    c.unit-unit.ensures.value c.in_ok-front.ensures.front c.in_ok-front.ensures.grows in
    let slice = c.as_slice-lower.ensures ∙ c.in_ok-rest.ensures in
    let p = parted (c.args.order / c.unit-unit.result) c.args.level.now o.step.has c.requires.fields.apart c.requires.level in
    let fields = children o c.as_slice-lower.result.now c.as_slice-nodes.result.now slice (c.as_slice-nodes.ensures.keys ∙ c.in_ok-labels.ensures.children ∙ ap children_of c.edges.ensures.edges) in
    let worths = stays.worths c.args.store.now c.front.new.store o.grows c.args.worths.now c.requires.worths in
    (omega (arith, c.decreases, p.count, ap length slice), (subst IsLevel (sym slice) p.others, (fields, (c.in_ok-front.ensures.fronts, worths))))

pub worked_out-returns-in-None-clause-worth : goal.worked_out-returns-in-None-clause-worth
worked_out-returns-in-None-clause-worth t c =
    let o = opened c.args.store.now c.front.new.store c.args.level.now c.args.order c.args.id.0 c.unit-unit.result c.in_ok-front.front.0 c.same_answers.ensures.store c.requires.level c.requires.some c.requires.fields
    c.unit-unit.ensures.value c.in_ok-front.ensures.front c.in_ok-front.ensures.grows in
    let told = brought c.front.new.store c.weights.new.store (without (c.args.order / c.unit-unit.result) c.args.level.now) c.in_ok-front.front.0 c.edges.result.now c.in_ok-labels.labels.pieces.items c.as_slice-lower.result.now
    c.as_slice-nodes.result.now c.same_answers-2.ensures.store c.in_ok-weights.ensures.grows c.edges.ensures.edges c.in_ok-labels.ensures.pieces (c.as_slice-lower.ensures ∙ c.in_ok-rest.ensures)
    (c.as_slice-nodes.ensures.keys ∙ c.in_ok-labels.ensures.children) in
    beyond o told c.args.cap c.in_ok-weights.weights c.in-None.is c.in_ok-weights.ensures.weights

pub worked_out-minimum-requires : goal.worked_out-minimum-requires
worked_out-minimum-requires t c =
    let o = opened c.args.store.now c.front.new.store c.args.level.now c.args.order c.args.id.0 c.unit-unit.result c.in_ok-front.front.0 c.same_answers.ensures.store c.requires.level c.requires.some c.requires.fields
    c.unit-unit.ensures.value c.in_ok-front.ensures.front c.in_ok-front.ensures.grows in
    let told = brought c.front.new.store c.weights.new.store (without (c.args.order / c.unit-unit.result) c.args.level.now) c.in_ok-front.front.0 c.edges.result.now c.in_ok-labels.labels.pieces.items c.as_slice-lower.result.now
    c.as_slice-nodes.result.now c.same_answers-2.ensures.store c.in_ok-weights.ensures.grows c.edges.ensures.edges c.in_ok-labels.ensures.pieces (c.as_slice-lower.ensures ∙ c.in_ok-rest.ensures)
    (c.as_slice-nodes.ensures.keys ∙ c.in_ok-labels.ensures.children) in
    let a = asked o told c.args.cap c.in_ok-weights.weights c.in-Some.weights c.as_slice-pieces.result.now c.as_slice.result.now c.in-Some.is c.as_slice-pieces.ensures.value c.as_slice.ensures.value c.in_ok-weights.ensures.weights in
    let bits = c.width-bits.ensures ∙ ap width c.from.ensures in
    record { wide = subst (λ w. w ≤ 32) (sym bits) (narrow (c.args.order / c.unit-unit.result)); follow = a.follow; whole = a.whole ∙ ap (λ w. 2 ^ w) (sym bits); light = a.light }

pub worked_out-returns-clause-worth : goal.worked_out-returns-clause-worth
worked_out-returns-clause-worth t c =
    let o = opened c.args.store.now c.front.new.store c.args.level.now c.args.order c.args.id.0 c.unit-unit.result c.in_ok-front.front.0 c.same_answers.ensures.store c.requires.level c.requires.some c.requires.fields
    c.unit-unit.ensures.value c.in_ok-front.ensures.front c.in_ok-front.ensures.grows in
    let told = brought c.front.new.store c.weights.new.store (without (c.args.order / c.unit-unit.result) c.args.level.now) c.in_ok-front.front.0 c.edges.result.now c.in_ok-labels.labels.pieces.items c.as_slice-lower.result.now
    c.as_slice-nodes.result.now c.same_answers-2.ensures.store c.in_ok-weights.ensures.grows c.edges.ensures.edges c.in_ok-labels.ensures.pieces (c.as_slice-lower.ensures ∙ c.in_ok-rest.ensures)
    (c.as_slice-nodes.ensures.keys ∙ c.in_ok-labels.ensures.children) in
    let a = asked o told c.args.cap c.in_ok-weights.weights c.in-Some.weights c.as_slice-pieces.result.now c.as_slice.result.now c.in-Some.is c.as_slice-pieces.ensures.value c.as_slice.ensures.value c.in_ok-weights.ensures.weights in
    let e = c.in_ok-least-in-Some.ensures in
    let least = c.in_ok-least-in-Some.least in
    let bits = c.width-bits.ensures ∙ ap width c.from.ensures in
    a.exact e.rows least (minimal c.width-bits.result (width (c.args.order / c.unit-unit.result)) bits c.as_slice-pieces.result.now c.as_slice.result.now e.rows least e.right e.labels e.weighs e.least)

pub worth-returns-then-is_empty-clause-worth : goal.worth-returns-then-is_empty-clause-worth
worth-returns-then-is_empty-clause-worth t c = leaf c.args.store.now c.args.level.now c.args.order c.args.id.0 c.requires.fields.at (no_fields c.args.level.now (sym c.if-is_empty.ensures))

pub worth-returns-in-Some-clause-worth : goal.worth-returns-in-Some-clause-worth
worth-returns-in-Some-clause-worth t c = kept_is c.args.store.now c.args.level.now c.args.order c.args.id c.in-Some.known c.requires.fields.at (c.in-Some.ensures.kept c.args.store.now c.requires.worths)

pub worth-tried-requires : goal.worth-tried-requires
worth-tried-requires t c =
    (omega (arith, c.decreases), (c.requires.level, (not_empty c.args.level.now c.requires.level (sym c.if-is_empty.ensures), (c.requires.fields, (c.requires.fronts, c.requires.worths)))))

pub worth-returns-in_err-keep-clause-worths : goal.worth-returns-in_err-keep-clause-worths
worth-returns-in_err-keep-clause-worths t c =
    c.keep.ensures c.tried.new.store c.in_ok-found.ensures.worths
    (to_keep c.args.store.now c.tried.new.store c.args.level.now c.args.order c.args.id c.in_ok-found.found c.requires.level c.requires.fields.at c.in_ok-found.ensures.grows c.in_ok-found.ensures.worth)

pub worth-returns-clause-worths : goal.worth-returns-clause-worths
worth-returns-clause-worths t c =
    c.keep.ensures c.tried.new.store c.in_ok-found.ensures.worths
    (to_keep c.args.store.now c.tried.new.store c.args.level.now c.args.order c.args.id c.in_ok-found.found c.requires.level c.requires.fields.at c.in_ok-found.ensures.grows c.in_ok-found.ensures.worth)

pub worked_out-returns-in_err-front-clause-worths : goal.worked_out-returns-in_err-front-clause-worths
worked_out-returns-in_err-front-clause-worths t c = stays.worths c.args.store.now c.front.new.store c.in_err-front.ensures.grows c.args.worths.now c.requires.worths

pub worked_out-returns-in_err-labels-clause-worths : goal.worked_out-returns-in_err-labels-clause-worths
worked_out-returns-in_err-labels-clause-worths t c = stays.worths c.args.store.now c.front.new.store c.in_ok-front.ensures.grows c.args.worths.now c.requires.worths

pub worked_out-returns-in_err-least-in-Some-clause-grows : goal.worked_out-returns-in_err-least-in-Some-clause-grows
worked_out-returns-in_err-least-in-Some-clause-grows t c = growth.twice c.args.store.now c.front.new.store c.weights.new.store c.in_ok-front.ensures.grows c.in_ok-weights.ensures.grows

pub worked_out-returns-clause-grows : goal.worked_out-returns-clause-grows
worked_out-returns-clause-grows t c = growth.twice c.args.store.now c.front.new.store c.weights.new.store c.in_ok-front.ensures.grows c.in_ok-weights.ensures.grows

pub tried-is_above-requires : goal.tried-is_above-requires
tried-is_above-requires t c = (omega (arith, c.decreases), (c.requires.level, (c.requires.some, (c.requires.fields, (c.requires.fronts, c.requires.worths)))))

pub tried-worked_out-requires : goal.tried-worked_out-requires
tried-worked_out-requires t c =
    let told = c.in_ok-above.ensures in
    let level = c.args.level.now in
    let fields = stays.fields c.args.store.now c.is_above.new.store told.grows level (digits (length level) c.args.order) c.args.id.0 c.requires.level c.requires.fields in
    (omega (arith, c.decreases), (c.requires.level, (c.requires.some, (fields, (told.fronts, told.worths)))))

pub tried-returns-then-above-clause-worth : goal.tried-returns-then-above-clause-worth
tried-returns-then-above-clause-worth t c =
    subst (λ b. OnTrue b (IsAbove c.is_above.new.store (digits (length c.args.level.now) c.args.order) c.args.cap c.args.id)) c.if-above.true c.in_ok-above.ensures.above

pub tried-returns-clause-grows : goal.tried-returns-clause-grows
tried-returns-clause-grows t c = growth.twice c.args.store.now c.is_above.new.store c.worked_out.new.store c.in_ok-above.ensures.grows c.worked_out.ensures.grows

pub is_above-bounds-level-0 : goal.is_above-bounds-level-0
is_above-bounds-level-0 t c = omega (arith, some_field c.args.level.now c.requires.some)

pub is_above-overflow_sub-level : goal.is_above-overflow_sub-level
is_above-overflow_sub-level t c = omega (arith, some_field c.args.level.now c.requires.some)

pub is_above-unit-unit-requires : goal.is_above-unit-unit-requires
is_above-unit-unit-requires t c = omega (arith, some_field c.args.level.now c.requires.some, five c.args.level.now c.requires.level)

pub is_above-overflow_cast-field : goal.is_above-overflow_cast-field
is_above-overflow_cast-field t c =
    let st = step c.args.store.now c.args.level.now c.args.order c.args.id.0 c.unit-unit.result c.requires.level c.requires.some c.requires.fields c.unit-unit.ensures.value in
    omega (arith, small c.args.level.now c.args.order (c.args.order / c.unit-unit.result) (c.args.order % c.unit-unit.result) c.requires.level c.requires.fields.apart st)

pub is_above-child_above-requires : goal.is_above-child_above-requires
is_above-child_above-requires t c = (omega (arith, c.decreases), (c.requires.level, (c.requires.some, (c.requires.fields, (c.requires.fronts, c.requires.worths)))))

pub is_above-edges-requires : goal.is_above-edges-requires
is_above-edges-requires t c = in_use c.args.store.now c.args.id.0 c.args.level.now c.requires.level c.requires.fields.at

pub is_above-several_above-requires : goal.is_above-several_above-requires
is_above-several_above-requires t c =
    let level = c.args.level.now in
    let st = step c.args.store.now level c.args.order c.args.id.0 c.unit-unit.result c.requires.level c.requires.some c.requires.fields c.unit-unit.ensures.value in
    let has = in_rest (c.args.order / c.unit-unit.result) level _ st.has c.if-first-field.false in
    (omega (arith, c.decreases), (c.requires.level, (c.requires.some, (c.requires.fields.apart, (c.requires.fields.at, (has, (st.rest, (c.requires.fronts, c.requires.worths))))))))

pub is_above-returns-clause-above : goal.is_above-returns-clause-above
is_above-returns-clause-above t c =
    let st = step c.args.store.now c.args.level.now c.args.order c.args.id.0 c.unit-unit.result c.requires.level c.requires.some c.requires.fields c.unit-unit.ensures.value in
    subst (λ o. IfOk c.several_above.result (λ b. OnTrue b (IsAbove c.several_above.new.store o c.args.cap c.args.id))) (sym st.order_is) c.several_above.ensures.above

pub child_above-bounds-level-0 : goal.child_above-bounds-level-0
child_above-bounds-level-0 t c = omega (arith, some_field c.args.level.now c.requires.some)

pub child_above-order_without-below-requires : goal.child_above-order_without-below-requires
child_above-order_without-below-requires t c =
    let level = c.args.level.now in
    let order = digits (length level) c.args.order in
    let fields = c.requires.fields in record {
      count = omega (arith, five level c.requires.level);
      fields = order_small order level fields.rearranged fields.apart c.requires.level;
      apart = order_distinct order level fields.rearranged;
      has = order_has _ order level fields.rearranged (first_has level _ c.requires.some);
    }

pub child_above-edges-requires : goal.child_above-edges-requires
child_above-edges-requires t c = in_use c.args.store.now c.args.id.0 c.args.level.now c.requires.level c.requires.fields.at

pub child_above-slice_bounds-rest-count : goal.child_above-slice_bounds-rest-count
child_above-slice_bounds-rest-count t c = omega (arith, some_field c.args.level.now c.requires.some)

pub child_above-one_above-requires : goal.child_above-one_above-requires
child_above-one_above-requires t c =
    let level = c.args.level.now in
    let same = c.as_slice-seen.ensures ∙ c.in_ok-edges.ensures ∙ c.edges.ensures.edges in
    let is = subst IsLevel (sym (rest_is level)) (is_next level c.requires.some) in
    let fields = children_fields c.args.store.now level _ c.args.order c.order_without-below.result _ c.args.id.0 c.as_slice-seen.result.now c.same_answers.ensures.store c.requires.level c.requires.some c.requires.fields (rest_is level)
    same c.order_without-below.ensures in
    (omega (arith, c.decreases, some_field level c.requires.some), (is, (fields, (c.requires.fronts, c.requires.worths))))

pub child_above-returns-clause-above : goal.child_above-returns-clause-above
child_above-returns-clause-above t c =
    let level = c.args.level.now in
    let same = c.as_slice-seen.ensures ∙ c.in_ok-edges.ensures ∙ c.edges.ensures.edges in
    child_told c.in_ok-above.above c.args.store.now c.one_above.new.store level _ c.args.order c.order_without-below.result c.args.cap _ c.args.id c.as_slice-seen.result.now c.same_answers-2.ensures.store c.requires.level c.requires.some
    c.requires.fields c.in_ok-above.ensures.grows (rest_is level) same c.order_without-below.ensures c.in_ok-above.ensures.above

pub several_above-slice_bounds-front_edges-count : goal.several_above-slice_bounds-front_edges-count
several_above-slice_bounds-front_edges-count t c = omega (arith, some_field c.args.level.now c.requires.some)

pub several_above-front_edges-requires : goal.several_above-front_edges-requires
several_above-front_edges-requires t c =
    let level = c.args.level.now in
    let tail = sym (rest_is level) in record {
      level = subst IsLevel tail (is_next level c.requires.some);
      apart = subst AreDistinct tail (next_distinct level c.requires.apart);
      inner = subst HasField (sym c.requires.at) c.requires.some;
      at = ap next_level c.requires.at ∙ tail;
      has = subst (Has c.args.field) tail c.requires.has;
      fronts = c.requires.fronts;
    }

pub several_above-parts_above-requires : goal.several_above-parts_above-requires
several_above-parts_above-requires t c =
    let f = c.args.field in
    let level = c.args.level.now in
    let n = c.front_edges.new.store in
    let made = c.in_ok-edges.ensures in
    let lower = c.as_slice-lower.ensures ∙ c.in_ok-rest.ensures in
    let r = ready c.args.store.now n level c.as_slice-lower.result.now c.args.id.0 f c.in_ok-edges.edges.items c.as_slice-seen.result.now c.same_answers.ensures.store c.requires.at c.requires.level c.requires.apart c.requires.some
    c.requires.has made.grows made.edges lower c.as_slice-seen.ensures in
    let p = parted f level (next_has f level c.requires.has) c.requires.apart c.requires.level in
    let apart = subst AreDistinct (sym lower) (distinct f level c.requires.apart) in
    let rearranged = subst (λ l. IsRearranged (digits (length l) c.args.order) l) (sym lower) c.requires.rearranged in
    let worths = stays.worths c.args.store.now n made.grows c.args.worths.now c.requires.worths in
    (omega (arith, c.decreases, p.count, ap length lower), (r.field, (apart, (rearranged, (r.side, (r.full, (r.nodes, (made.fronts, worths))))))))

pub several_above-returns-clause-above : goal.several_above-returns-clause-above
several_above-returns-clause-above t c =
    let made = c.in_ok-edges.ensures in
    several_told c.in_ok-above.above c.args.store.now c.front_edges.new.store c.parts_above.new.store c.args.level.now c.as_slice-lower.result.now c.args.id c.args.field c.args.order c.args.cap c.in_ok-edges.edges.items
    c.as_slice-seen.result.now c.same_answers.ensures.store c.same_answers-2.ensures.store c.requires.level c.requires.some c.requires.apart c.requires.at c.requires.has c.requires.rearranged made.grows made.edges
    c.in_ok-above.ensures.grows (c.as_slice-lower.ensures ∙ c.in_ok-rest.ensures) c.as_slice-seen.ensures c.in_ok-above.ensures.above

pub several_above-returns-in_err-edges-clause-worths : goal.several_above-returns-in_err-edges-clause-worths
several_above-returns-in_err-edges-clause-worths t c = stays.worths c.args.store.now c.front_edges.new.store c.in_err-edges.ensures.grows c.args.worths.now c.requires.worths

pub several_above-returns-in_err-rest-clause-worths : goal.several_above-returns-in_err-rest-clause-worths
several_above-returns-in_err-rest-clause-worths t c = stays.worths c.args.store.now c.front_edges.new.store c.in_ok-edges.ensures.grows c.args.worths.now c.requires.worths

pub several_above-returns-in_err-above-clause-grows : goal.several_above-returns-in_err-above-clause-grows
several_above-returns-in_err-above-clause-grows t c = growth.twice c.args.store.now c.front_edges.new.store c.parts_above.new.store c.in_ok-edges.ensures.grows c.in_err-above.ensures.grows

pub several_above-returns-clause-grows : goal.several_above-returns-clause-grows
several_above-returns-clause-grows t c = growth.twice c.args.store.now c.front_edges.new.store c.parts_above.new.store c.in_ok-edges.ensures.grows c.in_ok-above.ensures.grows

pub one_above-worth-requires : goal.one_above-worth-requires
one_above-worth-requires t c =
    let l = c.loop-edge in
    let d : Edge = record { hi = 0; to = record { 0 = 0 } } in
    let level = c.args.level.now in
    let to = (get_or c.args.edges.now l.edge-index d).to.0 in
    let fields = stays.fields c.args.store.now l.store l.invariant.grows level (digits (length level) c.args.order) to c.requires.level (c.requires.fields l.edge-index d c.loop-edge-test.true) in
    (omega (arith, c.decreases), (c.requires.level, (fields, (l.invariant.fronts, l.invariant.worths))))

pub one_above-returns-in-Above-clause-above : goal.one_above-returns-in-Above-clause-above
one_above-returns-in-Above-clause-above t c =
    let l = c.loop-edge in
    let d : Edge = record { hi = 0; to = record { 0 = 0 } } in
    let items = c.args.edges.now in
    let order = digits (length c.args.level.now) c.args.order in
    let edge = get_or items l.edge-index d in
    let n = c.worth.new.store in
    let made = c.in_ok-found.ensures in
    let settled = subst (Settles c.args.cap) c.in-Above.is made.settles in
    let above = lower order (answer_by n (level_of n edge.to.0) edge.to.0) (c.in-Above._least + 1) (c.args.cap + 1) (omega (arith, settled)) (subst (IsWorth n order edge.to.0) c.in-Above.is made.worth) in
    (l.edge-index, edge, slice_get-get_or items l.edge-index d c.loop-edge-test.true, above)

pub parts_above-sampled-requires : goal.parts_above-sampled-requires
parts_above-sampled-requires t c =
    let r = c.requires in (omega (arith, c.decreases), (r.level, (r.apart, (r.rearranged, (r.field, (r.full, (r.nodes, (r.fronts, r.worths))))))))

pub parts_above-sampled-requires-2 : goal.parts_above-sampled-requires-2
parts_above-sampled-requires-2 t c =
    let r = c.requires in
    let told = c.in_ok-few.ensures in
    let side = c.args.field ∷ next_level c.args.level.now in
    let nodes = lead_later c.args.store.now c.sampled.new.store side c.args.edges.now told.grows (is_level side r.field) r.nodes in
    (omega (arith, c.decreases), (r.level, (r.apart, (r.rearranged, (r.field, (r.full, (nodes, (told.fronts, told.worths))))))))

pub parts_above-returns-in-None-clause-above : goal.parts_above-returns-in-None-clause-above
parts_above-returns-in-None-clause-above t c =
    above_later c.args.store.now c.sampled.new.store c.sampled-2.new.store c.args.level.now (digits (length c.args.level.now) c.args.order) c.args.field c.args.edges.now c.args.cap c.in_ok-few.ensures.grows (c.in_ok-many.ensures.above c.in-None.is)

pub parts_above-returns-in_err-many-clause-grows : goal.parts_above-returns-in_err-many-clause-grows
parts_above-returns-in_err-many-clause-grows t c = growth.twice c.args.store.now c.sampled.new.store c.sampled-2.new.store c.in_ok-few.ensures.grows c.in_err-many.ensures.grows

pub parts_above-returns-in-None-clause-grows : goal.parts_above-returns-in-None-clause-grows
parts_above-returns-in-None-clause-grows t c = growth.twice c.args.store.now c.sampled.new.store c.sampled-2.new.store c.in_ok-few.ensures.grows c.in_ok-many.ensures.grows

pub parts_above-returns-clause-grows : goal.parts_above-returns-clause-grows
parts_above-returns-clause-grows t c = growth.twice c.args.store.now c.sampled.new.store c.sampled-2.new.store c.in_ok-few.ensures.grows c.in_ok-many.ensures.grows

pub sampled-of-requires : goal.sampled-of-requires
sampled-of-requires t c = omega (arith, ap length c.as_slice.ensures, c.in_ok-samples.ensures.few)

pub sampled-weights-requires : goal.sampled-weights-requires
sampled-weights-requires t c =
    let level = c.args.level.now in
    let order = digits (length level) c.args.order in
    let old = c.args.store.now in
    let new = c.samples.new.store in
    let made = c.in_ok-samples.ensures in
    let ids = c.as_slice-nodes.ensures.keys ∙ c.in_ok-labels.ensures.children ∙ ap children_of c.as_slice.ensures in
    let fields = subst (All (λ (k : NodeId). AreFields new level order k.0)) (sym ids) (sample_fields old new level order c.args.field c.args.edges.now c.in_ok-samples.samples.items c.requires.apart c.requires.rearranged made.samples) in
    (omega (arith, c.decreases), (is_level level c.requires.level, (fields, (stays.fronts old new made.grows c.args.fronts.now c.requires.fronts, stays.worths old new made.grows c.args.worths.now c.requires.worths))))

pub sampled-returns-clause-above : goal.sampled-returns-clause-above
sampled-returns-clause-above t c = λ none.
    let order = digits (length c.args.level.now) c.args.order in
    let new = c.weights.new.store in
    let ids = c.as_slice-nodes.ensures.keys ∙ c.in_ok-labels.ensures.children ∙ ap children_of c.as_slice.ensures in record {
      first = c.args.store.now;
      made = c.samples.new.store;
      samples = c.in_ok-samples.samples.items;
      begun = growth.stays c.args.store.now;
      grows = c.in_ok-weights.ensures.grows;
      are = c.in_ok-samples.ensures.samples;
      above = subst (λ xs. AreWeights new order xs c.args.cap None) ids (subst (AreWeights new order c.as_slice-nodes.result.now c.args.cap) none c.in_ok-weights.ensures.weights);
    }

pub sampled-returns-in_err-samples-clause-fronts : goal.sampled-returns-in_err-samples-clause-fronts
sampled-returns-in_err-samples-clause-fronts t c = stays.fronts c.args.store.now c.samples.new.store c.in_err-samples.ensures.grows c.args.fronts.now c.requires.fronts

pub sampled-returns-in_err-samples-clause-worths : goal.sampled-returns-in_err-samples-clause-worths
sampled-returns-in_err-samples-clause-worths t c = stays.worths c.args.store.now c.samples.new.store c.in_err-samples.ensures.grows c.args.worths.now c.requires.worths

pub sampled-returns-in_err-labels-clause-fronts : goal.sampled-returns-in_err-labels-clause-fronts
sampled-returns-in_err-labels-clause-fronts t c = stays.fronts c.args.store.now c.samples.new.store c.in_ok-samples.ensures.grows c.args.fronts.now c.requires.fronts

pub sampled-returns-in_err-labels-clause-worths : goal.sampled-returns-in_err-labels-clause-worths
sampled-returns-in_err-labels-clause-worths t c = stays.worths c.args.store.now c.samples.new.store c.in_ok-samples.ensures.grows c.args.worths.now c.requires.worths

pub sampled-returns-in_err-weights-clause-grows : goal.sampled-returns-in_err-weights-clause-grows
sampled-returns-in_err-weights-clause-grows t c = growth.twice c.args.store.now c.samples.new.store c.weights.new.store c.in_ok-samples.ensures.grows c.in_err-weights.ensures.grows

pub sampled-returns-clause-grows : goal.sampled-returns-clause-grows
sampled-returns-clause-grows t c = growth.twice c.args.store.now c.samples.new.store c.weights.new.store c.in_ok-samples.ensures.grows c.in_ok-weights.ensures.grows

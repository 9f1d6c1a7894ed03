use Rattle.std.proofs.Common.{◌≡◌, ℕ, List, ◌+◌, ◌∷◌, ◌≤◌, ◌∙◌, ap, sym, subst, arith, get_or}
use Rattle.std.specs.Prelude.{suc}
use Rattle.std.proofs.lemmas.List.Elements.{All-push}
use Rattle.node_store.specs.declared.edge.Edge.{Edge}
use Rattle.node_store.specs.Edges.{AreFull, child_of}
use Rattle.node_store.specs.Diagram.{level_of, edges_of, answer}
use Rattle.node_store.specs.Levels.{next as next_level, top_of}
use Rattle.node_store.specs.Store.{LeadTo}
use Rattle.node_store.proofs.Canonical.{in_use, is_level}
use Rattle.node_store.proofs.Growth as growth
use Rattle.fdd_build.proofs.Fills.{full_after}
use Rattle.field_order.specs.Fronts.{ArePlaces}
use Rattle.field_order.proofs.Passed.{later, lent}
use Rattle.field_order.proofs.Rows.{answers_more, lead_later, row_full}
use Rattle.field_order.proofs.turning.joined.Goals as goal

pub fill_row-requires-clause-nodes : goal.fill_row-requires-clause-nodes
fill_row-requires-clause-nodes c = (
  c.args.level.now,
  c.requires.upper,
  lead_later c.args.store.now c.loop-filled.store (c.args.field ∷ c.args.level.now) c.args.blocks.now c.loop-filled.invariant.grows (is_level (c.args.field ∷ c.args.level.now) c.requires.upper) c.requires.nodes,
)

pub splice_row-requires-clause-full : goal.splice_row-requires-clause-full
splice_row-requires-clause-full c =
    let l = c.loop-filled in
    subst (AreFull (top_of c.args.level.now)) (sym c.as_slice.ensures) (row_full l.store l.filled c.in_ok-hi.hi (top_of c.args.level.now) c.args.blocks.now c.fill_row.new.cells.items c.requires.full c.in_ok-hi.ensures.cells)

pub splice_row-requires-clause-nodes : goal.splice_row-requires-clause-nodes
splice_row-requires-clause-nodes c =
    let l = c.loop-filled in
    let upper = c.args.field ∷ c.args.level.now in
    subst (LeadTo l.store c.args.level.now) (sym c.as_slice.ensures)
    (c.in_ok-hi.ensures.nodes c.args.level.now c.requires.upper (lead_later c.args.store.now l.store upper c.args.blocks.now l.invariant.grows (is_level upper c.requires.upper) c.requires.nodes))

pub make-requires-clause-full : goal.make-requires-clause-full
make-requires-clause-full c = subst (AreFull (top_of c.args.level.now)) (sym c.as_slice-in-loop-filled.ensures) c.in_ok-splice_row.ensures.full

pub make-requires-clause-children : goal.make-requires-clause-children
make-requires-clause-children c = subst (LeadTo c.loop-filled.store (next_level c.args.level.now)) (sym c.as_slice-in-loop-filled.ensures) c.in_ok-splice_row.ensures.nodes

pub loop-filled-preserved : goal.loop-filled-preserved
loop-filled-preserved c =
    let l = c.loop-filled in
    let first = c.args.store.now in
    let new = c.make.new.self in
    let made = c.in_ok-to.ensures in
    let level = c.args.level.now in
    let upper = c.args.field ∷ level in
    let blocks = c.args.blocks.now in
    let cells = c.fill_row.new.cells.items in
    let row = c.splice_row.new.row.items in
    let to = c.in_ok-to.to.0 in
    let e : Edge = record { hi = c.in_ok-hi.hi; to = c.in_ok-to.to } in
    let high = c.in_ok-hi.ensures.high in
    let low = c.in_ok-hi.ensures.low in
    let count : c.from-filled.result + 1 ≡ suc c.in_ok-hi.hi = omega (arith, c.from-filled.ensures) in
    let leads = subst (λ ds. (u : ℕ) → u ≤ top_of level → child_of row u ≡ child_of (edges_of l.store (child_of ds u)) u) c.as_slice.ensures c.in_ok-splice_row.ensures.leads in
    let answers = subst (λ ds. (v : ℕ) (values : List ℕ) → v ≤ top_of level → answer new to (v ∷ values) ≡ answer l.store (child_of ds v) values) c.as_slice-in-loop-filled.ensures made.answers in
    record {
      grows = growth.twice first l.store new l.invariant.grows c.make.ensures.grows;
      room = omega (arith, count, high);
      full = full_after l.filled (c.from-filled.result + 1) l.rows.items c.push.new.self.items e l.invariant.full low count c.in_ok-push.ensures.ok;
      nodes = subst (LeadTo new level) (sym c.in_ok-push.ensures.ok)
          (All-push (λ (x : Edge). level_of new x.to.0 ≡ level) l.rows.items e (lead_later l.store new level l.rows.items c.make.ensures.grows (is_level level c.requires.level) l.invariant.nodes) made.level);
      places = subst (λ ps. ArePlaces new blocks ps (c.from-filled.result + 1))
          (sym (lent _ c.fill_row.new.places _ (omega (arith, l.places.ok.0, c.in_ok-hi.ensures.places.count, l.invariant.places.count))))
          (later l.store blocks c.fill_row.new.places l.filled c.in_ok-hi.ensures.places new (c.from-filled.result + 1) (omega (arith, low, count)) c.make.ensures.grows
          (λ k d less. in_use l.store (get_or blocks k d).to.0 upper (is_level upper c.requires.upper)
          (lead_later first l.store upper blocks l.invariant.grows (is_level upper c.requires.upper) c.requires.nodes k d less)));
      answers = answers_more first l.store new level c.args.field level (λ u values. u ∷ values) blocks c.requires.level c.requires.upper c.same_answers.ensures.store c.requires.full c.requires.nodes l.invariant.grows c.make.ensures.grows
          l.filled c.in_ok-hi.hi (c.from-filled.result + 1) to l.rows.items c.push.new.self.items cells l.invariant.full l.invariant.nodes l.invariant.answers high c.in_ok-hi.ensures.cells
          (λ u values inside. answers u values inside ∙ ap (λ n. answer l.store n values) (leads u inside)) count c.in_ok-push.ensures.ok;
    }

use Rattle.std.proofs.Common.{◌≡◌, ℕ, List, ◌+◌, ◌∷◌, ◌≤◌, sym, subst, arith, get_or}
use Rattle.std.specs.Prelude.{suc}
use Rattle.std.proofs.lemmas.List.Elements.{All-push}
use Rattle.node_store.specs.declared.edge.Edge.{Edge}
use Rattle.node_store.specs.Edges.{AreFull, child_of}
use Rattle.node_store.specs.Diagram.{level_of, answer}
use Rattle.node_store.specs.Levels.{next as next_level, top_of}
use Rattle.node_store.specs.Store.{LeadTo}
use Rattle.node_store.proofs.Canonical.{in_use, is_level}
use Rattle.node_store.proofs.Growth as growth
use Rattle.fdd_build.proofs.Fills.{full_after}
use Rattle.field_order.specs.Fronts.{ArePlaces}
use Rattle.field_order.proofs.Passed.{later, lent}
use Rattle.field_order.proofs.Rows.{answers_more, lead_later, row_full}
use Rattle.field_order.proofs.turning.few_rows.Goals as goal

pub fill_row-requires-clause-nodes : goal.fill_row-requires-clause-nodes
fill_row-requires-clause-nodes c = (
  next_level c.args.level.now,
  c.requires.field,
  lead_later c.args.store.now c.loop-filled.store (c.args.field ∷ next_level c.args.level.now) c.args.edges.now c.loop-filled.invariant.grows (is_level (c.args.field ∷ next_level c.args.level.now) c.requires.field) c.requires.nodes,
)

pub loop-filled-preserved : goal.loop-filled-preserved
loop-filled-preserved c =
    let l = c.loop-filled in
    let first = c.args.store.now in
    let new = c.make.new.self in
    let made = c.in_ok-to.ensures in
    let level = c.args.level.now in
    let rest = next_level level in
    let e : Edge = record { hi = c.in_ok-hi.hi; to = c.in_ok-to.to } in
    let high = c.in_ok-hi.ensures.high in
    let low = c.in_ok-hi.ensures.low in
    let count : c.from-filled.result + 1 ≡ suc c.in_ok-hi.hi = omega (arith, c.from-filled.ensures) in
    record {
      grows = growth.twice first l.store new l.invariant.grows c.make.ensures.grows;
      room = omega (arith, count, high);
      full = full_after l.filled (c.from-filled.result + 1) l.rows.items c.push.new.self.items e l.invariant.full low count c.in_ok-push.ensures.ok;
      nodes = subst (LeadTo new level) (sym c.in_ok-push.ensures.ok)
          (All-push (λ (x : Edge). level_of new x.to.0 ≡ level) l.rows.items e (lead_later l.store new level l.rows.items c.make.ensures.grows (is_level level c.requires.level) l.invariant.nodes) made.level);
      places = subst (λ ps. ArePlaces new c.args.edges.now ps (c.from-filled.result + 1))
          (sym (lent _ c.fill_row.new.places _ (omega (arith, l.places.ok.0, c.in_ok-hi.ensures.places.count, l.invariant.places.count))))
          (later l.store c.args.edges.now c.fill_row.new.places l.filled c.in_ok-hi.ensures.places new (c.from-filled.result + 1) (omega (arith, low, count)) c.make.ensures.grows
          (λ k d less. in_use l.store (get_or c.args.edges.now k d).to.0 (c.args.field ∷ rest) (is_level (c.args.field ∷ rest) c.requires.field)
          (lead_later first l.store (c.args.field ∷ rest) c.args.edges.now l.invariant.grows (is_level (c.args.field ∷ rest) c.requires.field) c.requires.nodes k d less)));
      answers = answers_more first l.store new level c.args.field rest (λ u values. values) c.args.edges.now c.requires.level c.requires.field c.same_answers.ensures.store c.requires.full c.requires.nodes l.invariant.grows c.make.ensures.grows
          l.filled c.in_ok-hi.hi (c.from-filled.result + 1) c.in_ok-to.to.0 l.rows.items c.push.new.self.items c.fill_row.new.cells.items l.invariant.full l.invariant.nodes l.invariant.answers high c.in_ok-hi.ensures.cells
          (subst (λ ds. (v : ℕ) (values : List ℕ) → v ≤ top_of level → answer new c.in_ok-to.to.0 (v ∷ values) ≡ answer l.store (child_of ds v) values) c.as_slice.ensures made.answers) count c.in_ok-push.ensures.ok;
    }

pub make-requires-clause-full : goal.make-requires-clause-full
make-requires-clause-full c =
    let l = c.loop-filled in
    subst (AreFull (top_of c.args.level.now)) (sym c.as_slice.ensures) (row_full l.store l.filled c.in_ok-hi.hi (top_of c.args.level.now) c.args.edges.now c.fill_row.new.cells.items c.requires.full c.in_ok-hi.ensures.cells)

pub make-requires-clause-children : goal.make-requires-clause-children
make-requires-clause-children c =
    let l = c.loop-filled in
    let rest = next_level c.args.level.now in
    subst (LeadTo l.store rest) (sym c.as_slice.ensures)
    (c.in_ok-hi.ensures.nodes rest c.requires.field
    (lead_later c.args.store.now l.store (c.args.field ∷ rest) c.args.edges.now l.invariant.grows (is_level (c.args.field ∷ rest) c.requires.field) c.requires.nodes))

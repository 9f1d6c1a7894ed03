use Rattle.std.proofs.Common.{◌≡◌, ℕ, List, ◌+◌, ◌∷◌, ◌≤◌, sym, subst, arith, get_or}
use Rattle.std.specs.List.{All}
use Rattle.std.proofs.lemmas.List.Elements.{All-push, All-weaker}
use Rattle.node_store.specs.declared.edge.Edge.{Edge}
use Rattle.node_store.specs.Edges.{AreFull, child_of}
use Rattle.node_store.specs.Diagram.{answer}
use Rattle.node_store.specs.Levels.{next as next_level, top_of}
use Rattle.node_store.specs.Store.{LeadTo}
use Rattle.node_store.proofs.Canonical.{in_use, is_level}
use Rattle.node_store.proofs.Growth as growth
use Rattle.field_order.specs.Fronts.{ArePlaces, IsSample}
use Rattle.field_order.proofs.Passed.{later, lent}
use Rattle.field_order.proofs.Rows.{row_answers, sample_kept, lead_later, row_full}
use Rattle.field_order.proofs.turning.samples.Goals as goal

pub fill_row-requires-clause-nodes : goal.fill_row-requires-clause-nodes
fill_row-requires-clause-nodes c = (
  next_level c.args.level.now,
  c.requires.field,
  lead_later c.args.store.now c.loop-value.store (c.args.field ∷ next_level c.args.level.now) c.args.edges.now c.loop-value.invariant.grows (is_level (c.args.field ∷ next_level c.args.level.now) c.requires.field) c.requires.nodes,
)

pub make-requires-clause-full : goal.make-requires-clause-full
make-requires-clause-full c =
    let l = c.loop-value in
    subst (AreFull (top_of c.args.level.now)) (sym c.as_slice.ensures) (row_full l.store l.value c.in_ok-hi.hi (top_of c.args.level.now) c.args.edges.now c.fill_row.new.cells.items c.requires.full c.in_ok-hi.ensures.cells)

pub make-requires-clause-children : goal.make-requires-clause-children
make-requires-clause-children c =
    let l = c.loop-value in
    let rest = next_level c.args.level.now in
    subst (LeadTo l.store rest) (sym c.as_slice.ensures)
    (c.in_ok-hi.ensures.nodes rest c.requires.field
    (lead_later c.args.store.now l.store (c.args.field ∷ rest) c.args.edges.now l.invariant.grows (is_level (c.args.field ∷ rest) c.requires.field) c.requires.nodes))

pub loop-value-preserved : goal.loop-value-preserved
loop-value-preserved c =
    let l = c.loop-value in
    let first = c.args.store.now in
    let new = c.make.new.self in
    let made = c.in_ok-to.ensures in
    let level = c.args.level.now in
    let rest = next_level level in
    let f = c.args.field in
    let es = c.args.edges.now in
    let e : Edge = record { hi = c.in_ok-hi.hi; to = c.in_ok-to.to } in
    let high = c.in_ok-hi.ensures.high in
    let low = c.in_ok-hi.ensures.low in
    let long = c.in_ok-push.ensures.len in
    let on : l.value + 1 ≤ c.max-value.result = omega (arith, c.max-value.ensures, c.from-in-loop-value.ensures, low) in
    let sample : IsSample first new level f es e = record {
      inside = high;
      level_is = made.level;
      answers = λ u values inside. row_answers first l.store new level f rest (λ v vs. vs) es c.requires.level c.requires.field c.same_answers.ensures.store c.requires.full c.requires.nodes l.invariant.grows c.make.ensures.grows
          l.value c.in_ok-hi.hi c.in_ok-to.to.0 c.fill_row.new.cells.items high c.in_ok-hi.ensures.cells
          (subst (λ ds. (v : ℕ) (vs : List ℕ) → v ≤ top_of level → answer new c.in_ok-to.to.0 (v ∷ vs) ≡ answer l.store (child_of ds v) vs) c.as_slice.ensures made.answers)
          c.in_ok-hi.hi u values low (omega arith) inside;
    } in
    record {
      grows = growth.twice first l.store new l.invariant.grows c.make.ensures.grows;
      samples = subst (All (IsSample first new level f es)) (sym c.in_ok-push.ensures.ok)
          (All-push (IsSample first new level f es) l.samples.items e
          (All-weaker (IsSample first l.store level f es) (IsSample first new level f es) (λ x is. sample_kept first l.store new level f es x c.requires.level c.make.ensures.grows is) l.samples.items l.invariant.samples) sample);
      few = omega (arith, long, on, l.invariant.few);
      room = omega (arith, long, l.invariant.few, c.loop-value-test.true);
      places = subst (λ ps. ArePlaces new es ps c.max-value.result)
          (sym (lent _ c.fill_row.new.places _ (omega (arith, l.places.ok.0, c.in_ok-hi.ensures.places.count, l.invariant.places.count))))
          (later l.store es c.fill_row.new.places l.value c.in_ok-hi.ensures.places new c.max-value.result (omega (arith, on)) c.make.ensures.grows
          (λ k d less. in_use l.store (get_or es k d).to.0 (f ∷ rest) (is_level (f ∷ rest) c.requires.field)
          (lead_later first l.store (f ∷ rest) es l.invariant.grows (is_level (f ∷ rest) c.requires.field) c.requires.nodes k d less)));
    }

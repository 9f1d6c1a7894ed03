use Rattle.std.proofs.Common.{◌≡◌, ◌∷◌, ◌++◌, ◌+◌, List, [], drop, append_assoc, ap, sym, ◌∙◌}
use Rattle.node_store.specs.declared.edge.Edge.{Edge}
use Rattle.node_store.specs.Edges.{merged}
use Rattle.node_store.proofs.Counted.{whole}
use Rattle.node_store.proofs.merge.merge.Goals as goal
use Rattle.node_store.proofs.merge.merge.Goals.{then-stays+in_ok-push, else-stays}

moved : (kept more now rest all : List Edge) (e : Edge) → more ≡ kept ++ e ∷ [] → now ≡ e ∷ rest → kept ++ now ≡ all → more ++ rest ≡ all
moved kept more now rest all e p q h = ap (λ xs. xs ++ rest) p ∙ append_assoc kept (e ∷ []) rest ∙ ap (λ xs. kept ++ xs) (sym q) ∙ h

pub loop-place-preserved : goal.loop-place-preserved
loop-place-preserved c =
    let rest = merged (drop (c.loop-place.place + 1) c.args.edges.now) in
    elim c.if-stays.branch [
      | then-stays+in_ok-push w ↦
          moved c.loop-place.kept.items c.if-stays.kept.items (merged (drop c.loop-place.place c.args.edges.now)) rest (merged c.args.edges.now) _
          (ap (λ k. k.items) w.kept-is ∙ w.in_ok-push.ensures.ok) (w.if-stays.ensures _) c.loop-place.invariant
      | else-stays w ↦
          let none : Edge = record { hi = 0; to = record { 0 = 0 } } in
          ap (λ k. k.items ++ rest) w.kept-is ∙ ap (λ xs. c.loop-place.kept.items ++ xs) (sym (w.if-stays.ensures none)) ∙ c.loop-place.invariant
    ]

pub returns-then-count-edges : goal.returns-then-count-edges
returns-then-count-edges c = c.in_ok-all.ensures.ok ∙ sym (whole c.args.edges.now (sym c.count-count.ensures ∙ c.if-count-edges.true))

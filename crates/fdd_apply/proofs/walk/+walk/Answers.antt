use Rattle.std.proofs.Common.{◌≡◌, ◌+◌, ◌∷◌, ◌++◌, [], refl, sym, subst, arith, take}
use Rattle.std.specs.Prelude.{suc, map, slice_index_or}
use Rattle.std.specs.List.{AllZip}
use Rattle.node_store.specs.Levels.{next, top_of}
use Rattle.node_store.proofs.Canonical.{not_empty, is_next}
use Rattle.node_store.specs.declared.edge.Edge.{Edge}
use Rattle.node_store.specs.declared.split.Part.{Part}
use Rattle.node_store.specs.Diagram.{edges_of}
use Rattle.node_store.specs.Edges.{AreFull}
use Rattle.node_store.specs.Split.{IsSplit, to_left, to_right}
use Rattle.node_store.specs.Store.{LeadTo}
use Rattle.fdd_apply.specs.Applied.{IsAppliedPart}
use Rattle.node_store.proofs.Growth as growth
use Rattle.fdd_apply.proofs.Stays as stays
use Rattle.fdd_apply.proofs.AppliedParts as parts
use Rattle.fdd_apply.proofs.AppliedNodes as nodes
use Rattle.fdd_apply.proofs.walk.+walk.Goals as goal

pub edges-applied-requires : goal.edges-applied-requires
edges-applied-requires g t c κs within =
    let l = c.loop-part in
    let d : Part = record { hi = 0; left = record { 0 = 0 }; right = record { 0 = 0 } } in (
      omega (arith, c.decreases),
      (
        within,
        (
          g.met.O.Operation.lasts c.args.operation.now c.args.store.now l.store l.invariant.grows c.requires.suits,
          (
            l.invariant.results,
            (
              c.requires.level,
              parts.part_at c.args.store.now l.store c.args.level.now c.args.parts.now l.part-index d l.invariant.grows c.requires.level c.requires.left c.requires.right c.loop-part-test.true,
            ),
          ),
        ),
      ),
    )

pub edges-loop-part-preserved : goal.edges-loop-part-preserved
edges-loop-part-preserved g t c =
    let l = c.loop-part in
    let d : Part = record { hi = 0; left = record { 0 = 0 }; right = record { 0 = 0 } } in
    let one : suc l.part-index ≡ l.part-index + 1 = omega arith in
    let part = slice_index_or c.args.parts.now l.part-index d in
    let edge : Edge = record { hi = part.hi; to = c.in_ok-to.to } in
    let f = g.O.Operation.combined c.args.operation.now in
    let made = c.in_ok-to.ensures in
    let more = parts.next (IsAppliedPart f c.applied.new.store) c.args.parts.now l.edges.items l.part-index d edge c.loop-part-test.true
    (parts.stay f l.store c.applied.new.store (take l.part-index c.args.parts.now) l.edges.items made.grows l.invariant.applied) (refl, made.applied) in record {
      grows = growth.twice c.args.store.now l.store c.applied.new.store l.invariant.grows made.grows;
      earlier = λ pair kept. made.earlier pair (l.invariant.earlier pair kept);
      results = made.results;
      applied = subst (λ es. AllZip (IsAppliedPart f c.applied.new.store) (take (l.part-index + 1) c.args.parts.now) es) (sym c.in_ok-push.ensures.items)
          (subst (λ k. AllZip (IsAppliedPart f c.applied.new.store) (take k c.args.parts.now) (l.edges.items ++ edge ∷ [])) one more);
    }

pub worked_out-returns-then-is_empty-clause-results : goal.worked_out-returns-then-is_empty-clause-results
worked_out-returns-then-is_empty-clause-results g t c =
    stays.results (g.O.Operation.combined c.args.operation.now) c.args.store.now c.leaf.new.store c.args.results.now c.leaf.ensures.grows c.requires.results

pub worked_out-make-requires-clause-full : goal.worked_out-make-requires-clause-full
worked_out-make-requires-clause-full g t c =
    let f = g.O.Operation.combined c.args.operation.now in
    nodes.full f c.edges.new.store (top_of c.args.level.now) c.in_ok-parts.parts.items c.as_slice-2.result.now
    (subst (λ k. AreFull (top_of k) (map to_left c.in_ok-parts.parts.items)) c.requires.pair.left c.in_ok-parts.ensures.split.full)
    (nodes.from_slices f c.edges.new.store c.as_slice.result.now c.in_ok-parts.parts.items c.in_ok-edges.edges.items c.as_slice-2.result.now
    c.as_slice.ensures.value c.as_slice-2.ensures.value c.in_ok-edges.ensures.applied)

pub worked_out-make-requires-clause-children : goal.worked_out-make-requires-clause-children
worked_out-make-requires-clause-children g t c =
    let f = g.O.Operation.combined c.args.operation.now in
    nodes.children f c.args.store.now c.edges.new.store (next c.args.level.now) c.in_ok-parts.parts.items c.as_slice-2.result.now
    c.in_ok-edges.ensures.grows (is_next c.args.level.now (not_empty c.args.level.now c.requires.level (sym c.if-is_empty.ensures)))
    (subst (λ k. LeadTo c.args.store.now (next k) (map to_left c.in_ok-parts.parts.items)) c.requires.pair.left c.in_ok-parts.ensures.left)
    (nodes.from_slices f c.edges.new.store c.as_slice.result.now c.in_ok-parts.parts.items c.in_ok-edges.edges.items c.as_slice-2.result.now
    c.as_slice.ensures.value c.as_slice-2.ensures.value c.in_ok-edges.ensures.applied)

pub worked_out-returns-in_err-id-clause-results : goal.worked_out-returns-in_err-id-clause-results
worked_out-returns-in_err-id-clause-results g t c =
    stays.results (g.O.Operation.combined c.args.operation.now) c.edges.new.store c.make.new.self c.edges.new.results c.make.ensures.grows c.in_ok-edges.ensures.results

pub worked_out-returns-clause-applied : goal.worked_out-returns-clause-applied
worked_out-returns-clause-applied g t c =
    let f = g.O.Operation.combined c.args.operation.now in
    let old = c.args.store.now in
    let ps = c.in_ok-parts.parts.items in
    let at = c.requires.pair in
    let split = c.in_ok-parts.ensures in
    nodes.made f old c.edges.new.store c.make.new.self c.in_ok-edges.ensures.grows c.make.ensures.grows c.args.pair c.in_ok-id.id c.args.level.now
    ps c.as_slice-2.result.now (not_empty c.args.level.now c.requires.level (sym c.if-is_empty.ensures)) at
    (subst (λ k. IsSplit (top_of k) (edges_of old c.args.pair.left.0) (edges_of old c.args.pair.right.0) ps) at.left split.split)
    (subst (λ k. LeadTo old (next k) (map to_left ps)) at.left split.left)
    (subst (λ k. LeadTo old (next k) (map to_right ps)) at.left split.right)
    (nodes.from_slices f c.edges.new.store c.as_slice.result.now ps c.in_ok-edges.edges.items c.as_slice-2.result.now
    c.as_slice.ensures.value c.as_slice-2.ensures.value c.in_ok-edges.ensures.applied)
    c.in_ok-id.ensures.level c.in_ok-id.ensures.answers

pub worked_out-returns-in_err-give-clause-results : goal.worked_out-returns-in_err-give-clause-results
worked_out-returns-in_err-give-clause-results g t c =
    stays.results (g.O.Operation.combined c.args.operation.now) c.edges.new.store c.make.new.self c.edges.new.results c.make.ensures.grows c.in_ok-edges.ensures.results

pub worked_out-returns-clause-results : goal.worked_out-returns-clause-results
worked_out-returns-clause-results g t c =
    stays.results (g.O.Operation.combined c.args.operation.now) c.edges.new.store c.make.new.self c.edges.new.results c.make.ensures.grows c.in_ok-edges.ensures.results

pub recalled-returns-in-Some-clause-applied : goal.recalled-returns-in-Some-clause-applied
recalled-returns-in-Some-clause-applied g t c =
    c.in-Some.ensures.applied (g.O.Operation.combined c.args.operation.now) c.args.store.now c.requires.results

pub recalled-returns-in_err-keep-clause-results : goal.recalled-returns-in_err-keep-clause-results
recalled-returns-in_err-keep-clause-results g t c =
    c.keep.ensures.results (g.O.Operation.combined c.args.operation.now) c.worked_out.new.store c.in_ok-id.ensures.results c.in_ok-id.ensures.applied

pub recalled-returns-clause-results : goal.recalled-returns-clause-results
recalled-returns-clause-results g t c =
    c.keep.ensures.results (g.O.Operation.combined c.args.operation.now) c.worked_out.new.store c.in_ok-id.ensures.results c.in_ok-id.ensures.applied

use Rattle.std.proofs.Common.{◌≡◌, ◌∷◌, ◌++◌, ◌+◌, [], take, arith, refl, sym, subst}
use Rattle.std.specs.Prelude.{suc, slice_index_or}
use Rattle.std.specs.List.{AllZip}
use Rattle.node_store.specs.declared.edge.Edge.{Edge}
use Rattle.node_store.specs.Store.{IsInner}
use Rattle.node_store.proofs.Growth as growth
use Rattle.fdd_apply.proofs.AppliedParts.{next}
use Rattle.fdd_build.specs.Copies.{IsEdgeCopy}
use Rattle.fdd_build.proofs.Copied as copied
use Rattle.fdd_build.proofs.copying.+copying.Goals as goal

pub copy-returns-clause-copies : goal.copy-returns-clause-copies
copy-returns-clause-copies t c =
    copied.kept c.args.from.now c.made.new.store c.made.new.copies c.args.id.0 c.in_ok-made.made c.in_ok-made.ensures.copies
    (omega (arith, c.requires.number, c.in_ok-made.ensures.count)) c.in_ok-made.ensures.copy

pub made-returns-in-Some-clause-copies : goal.made-returns-in-Some-clause-copies
made-returns-in-Some-clause-copies t c = copied.all_stay c.args.from.now c.args.store.now c.leaf.new.self c.leaf.ensures.grows c.args.copies.now c.requires.copies

pub made-returns-clause-copies : goal.made-returns-clause-copies
made-returns-clause-copies t c = copied.all_stay c.args.from.now c.loop-edge.store c.make.new.self c.make.ensures.grows c.loop-edge.copies c.loop-edge.invariant.copies

pub made-loop-edge-preserved : goal.made-loop-edge-preserved
made-loop-edge-preserved t c =
    let l = c.loop-edge in
    let d : Edge = record { hi = 0; to = record { 0 = 0 } } in
    let one : suc l.edge-index ≡ l.edge-index + 1 = omega arith in
    let from = c.args.from.now in
    let edges = c.edges-edges.result.now in
    let old = slice_index_or edges l.edge-index d in
    let edge : Edge = record { hi = old.hi; to = c.in_ok-to.to } in
    let made = c.in_ok-to.ensures in
    let more = next (IsEdgeCopy from c.copy.new.store) edges l.copied.items l.edge-index d edge c.loop-edge-test.true
    (copied.edges_stay from l.store c.copy.new.store made.grows (take l.edge-index edges) l.copied.items l.invariant.edges) (refl, made.copy) in record {
      grows = growth.twice c.args.store.now l.store c.copy.new.store l.invariant.grows made.grows;
      count = made.count;
      copies = made.copies;
      edges = subst (λ es. AllZip (IsEdgeCopy from c.copy.new.store) (take (l.edge-index + 1) edges) es) (sym {b = l.copied.items ++ edge ∷ []} c.in_ok-push.ensures.items)
          (subst (λ k. AllZip (IsEdgeCopy from c.copy.new.store) (take k edges) (l.copied.items ++ edge ∷ [])) one more);
    }

pub made-make-requires : goal.made-make-requires
made-make-requires t c =
    let l = c.loop-edge in
    let from = c.args.from.now in
    let es = c.edges-edges.result.now in
    let inner = subst (λ k. IsInner from c.args.id.0 k es) (sym c.level.ensures.level) (c.edges-edges.ensures.inner (c.in_default.ensures.none.0 refl)) in
    let fit = copied.fit from l.store c.args.id.0 c.level.result.now es c.deref.result.now inner
    (copied.all_copied from l.store es c.deref.result.now l.copied.items l.edge-index l.invariant.edges c.loop-edge-test.false c.deref.ensures.value) in record { field = fit.0; full = fit.1; children = fit.2 }

pub made-returns-clause-copy : goal.made-returns-clause-copy
made-returns-clause-copy t c =
    let l = c.loop-edge in
    let from = c.args.from.now in
    let es = c.edges-edges.result.now in
    let inner = subst (λ k. IsInner from c.args.id.0 k es) (sym c.level.ensures.level) (c.edges-edges.ensures.inner (c.in_default.ensures.none.0 refl)) in
    copied.made from l.store c.make.new.self c.args.id.0 c.in_ok-made.made.0 c.level.result.now es c.deref.result.now (sym c.level.ensures.level) (sym c.edges-edges.ensures.edges) inner
    (copied.all_copied from l.store es c.deref.result.now l.copied.items l.edge-index l.invariant.edges c.loop-edge-test.false c.deref.ensures.value)
    c.in_ok-made.ensures.number c.in_ok-made.ensures.level c.in_ok-made.ensures.answers

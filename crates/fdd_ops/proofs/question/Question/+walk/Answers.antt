use Rattle.std.proofs.Common.{ℕ, arith, sym, subst, inl, map}
use Rattle.std.proofs.lemmas.Bool.{OnFalse_at, OnFalse_from, OnTrue_at, OnTrue_from}
use Rattle.std.proofs.lemmas.List.{drop_more, drop_all}
use Rattle.node_store.specs.Levels.{HasField, next, top_of}
use Rattle.node_store.proofs.Canonical.{not_empty}
use Rattle.node_store.specs.declared.split.Part.{Part}
use Rattle.node_store.specs.Diagram.{edges_of}
use Rattle.node_store.specs.Split.{IsSplit, to_left}
use Rattle.node_store.specs.Store.{LeadTo}
use Rattle.fdd_ops.specs.Agreement.{Agree, Differ}
use Rattle.fdd_ops.proofs.Meeting as meeting
use Rattle.fdd_ops.proofs.Rest as rest
use Rattle.fdd_ops.proofs.question.Question.+walk.Goals as goal

abbrev nothing : Part
nothing = record { hi = 0; left = record { 0 = 0 }; right = record { 0 = 0 } }

pub parts-part-requires : goal.parts-part-requires
parts-part-requires t c =
    let i = c.loop-part.part-index in (
      omega (arith, c.decreases),
      (
        c.loop-part.invariant.agreed,
        (
          c.requires.level,
          (
            meeting.left_at c.args.store.now c.args.level.now c.args.parts.now i nothing c.requires.left c.loop-part-test.true,
            meeting.right_at c.args.store.now c.args.level.now c.args.parts.now i nothing c.requires.right c.loop-part-test.true,
          ),
        ),
      ),
    )

pub parts-returns-then-not-branch-clause-no : goal.parts-returns-then-not-branch-clause-no
parts-returns-then-not-branch-clause-no t c = λ greatest full.
    meeting.some c.args.self.now c.args.store.now c.args.span greatest c.args.parts.now full
    (c.loop-part.invariant.no (subst (meeting.OneDiffers c.args.self.now c.args.store.now c.args.span) (sym (drop_more c.args.parts.now c.loop-part.part-index nothing c.loop-part-test.true))
    (inl (OnFalse_at c.if-not-branch.true c.in_ok-part.ensures.no))))

pub parts-returns-then-span-part-clause-yes : goal.parts-returns-then-span-part-clause-yes
parts-returns-then-span-part-clause-yes t c = λ greatest full.
    meeting.each c.args.self.now c.args.store.now c.args.span greatest c.args.parts.now full
    (c.loop-part.invariant.yes (subst (meeting.AllAgree c.args.self.now c.args.store.now c.args.span) (sym (drop_more c.args.parts.now c.loop-part.part-index nothing c.loop-part-test.true))
    (OnTrue_at c.if-not-branch.false c.in_ok-part.ensures.yes, λ less. absurd (omega (arith, less, c.if-span-part.true)))))

pub parts-returns-clause-yes : goal.parts-returns-clause-yes
parts-returns-clause-yes t c = λ greatest full.
    meeting.each c.args.self.now c.args.store.now c.args.span greatest c.args.parts.now full
    (c.loop-part.invariant.yes (subst (meeting.AllAgree c.args.self.now c.args.store.now c.args.span) (sym (drop_all c.loop-part.part-index c.args.parts.now c.loop-part-test.false)) tt))

-- the parts of the pair's field, with what the children of each value are
module _ (t : ℕ) (c : goal.worked_out-After-drop-parts-2 t) where
  field : HasField c.args.level.now
  field = not_empty c.args.level.now c.requires.level (sym c.if-is_empty.ensures)

  split : IsSplit (top_of c.args.level.now) (edges_of c.args.store.now c.args.pair.which.0) (edges_of c.args.store.now c.args.pair.answers.0) c.as_slice.result.now
  split =
      subst (λ ps. IsSplit (top_of c.args.level.now) (edges_of c.args.store.now c.args.pair.which.0) (edges_of c.args.store.now c.args.pair.answers.0) ps) (sym c.as_slice.ensures.value)
      (subst (λ k. IsSplit (top_of k) (edges_of c.args.store.now c.args.pair.which.0) (edges_of c.args.store.now c.args.pair.answers.0) c.in_ok-parts.parts.items)
      c.requires.pair.which c.in_ok-parts.ensures.split)

  lead : LeadTo c.args.store.now (next c.args.level.now) (map to_left c.as_slice.result.now)
  lead =
      subst (λ ps. LeadTo c.args.store.now (next c.args.level.now) (map to_left ps)) (sym c.as_slice.ensures.value)
      (subst (λ k. LeadTo c.args.store.now (next k) (map to_left c.in_ok-parts.parts.items)) c.requires.pair.which c.in_ok-parts.ensures.left)

pub worked_out-returns-clause-yes : goal.worked_out-returns-clause-yes
worked_out-returns-clause-yes t c =
    OnTrue_from c.in_ok-agree.agree (Agree c.args.self.now c.args.store.now c.args.pair.which.0 c.args.pair.answers.0) (λ e.
    rest.agree c.args.self.now c.args.store.now c.as_slice.result.now c.args.pair.which.0 c.args.pair.answers.0 c.args.level.now c.span-span.result
    (field t c) c.requires.pair.which (split t c) (lead t c) c.span-span.ensures (OnTrue_at e (c.in_ok-agree.ensures.yes (top_of c.args.level.now) (split t c).full)))

pub worked_out-returns-clause-no : goal.worked_out-returns-clause-no
worked_out-returns-clause-no t c =
    OnFalse_from c.in_ok-agree.agree (Differ c.args.self.now c.args.store.now c.args.pair.which.0 c.args.pair.answers.0) (λ e.
    rest.differ c.args.self.now c.args.store.now c.as_slice.result.now c.args.pair.which.0 c.args.pair.answers.0 c.args.level.now c.span-span.result
    (field t c) c.requires.pair.which (split t c) (lead t c) c.span-span.ensures (OnFalse_at e (c.in_ok-agree.ensures.no (top_of c.args.level.now) (split t c).full)))

use Rattle.std.proofs.Common.{refl, subst, List}
use Rattle.std.proofs.lemmas.Bool.{OnTrue_at}
use Rattle.ternary_words.specs.declared.word.Word.{Word}
use Rattle.word_cover.specs.Covers.{Covers}
use Rattle.table_steps.proofs.Passes.{next-apart, next-same, next-hidden, last-same, last-hidden}
use Rattle.table_steps.proofs.passing.pass.Goals as goal
use Rattle.table_steps.proofs.passing.pass.Goals.{then-entry-decision+in_ok-push, else-entry-decision+in_ok-covered+else-not-branch}

pub returns-then-not-meets : goal.returns-then-not-meets
returns-then-not-meets c = next-apart c.args.above.now.items c.args.entry.now c.args.word.now c.args.decision c.if-not-meets.ensures.apart

pub returns-then-inside : goal.returns-then-inside
returns-then-inside c =
    let above = c.args.above.now.items in
    let e = c.args.entry.now in
    elim c.if-entry-decision.branch [
      | then-entry-decision+in_ok-push w ↦ last-same above e c.args.word.now c.args.decision w.if-entry-decision.true c.if-inside.ensures.covers
      | else-entry-decision+in_ok-covered+else-not-branch w ↦ last-hidden above e c.args.word.now w.meet.result c.args.decision w.meet.ensures.holds
          (subst (λ (xs : List Word). Covers xs w.meet.result) w.as_slice.ensures.value (OnTrue_at w.if-not-branch.false w.in_ok-covered.ensures)) c.if-inside.ensures.covers
    ]

pub returns : goal.returns
returns c =
    let above = c.args.above.now.items in
    let new = c.if-entry-decision.above.items in
    let e = c.args.entry.now in
    elim c.if-entry-decision.branch [
      | then-entry-decision+in_ok-push w ↦ next-same above new e c.args.word.now c.args.decision w.if-entry-decision.true (rw w.above-is w.in_ok-push.ensures.items)
      | else-entry-decision+in_ok-covered+else-not-branch w ↦ next-hidden above new e c.args.word.now w.meet.result c.args.decision (rw w.above-is refl) w.meet.ensures.holds
          (subst (λ (xs : List Word). Covers xs w.meet.result) w.as_slice.ensures.value (OnTrue_at w.if-not-branch.false w.in_ok-covered.ensures))
    ]

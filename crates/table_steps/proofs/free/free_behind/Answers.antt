use Rattle.std.proofs.Common.{List, subst}
use Rattle.ternary_words.specs.declared.word.Word.{Word}
use Rattle.table_steps.specs.Free.{IsFree}
use Rattle.word_cover.specs.Covers.{Covers}
use Rattle.table_steps.proofs.Outcomes.{if_yes}
use Rattle.table_steps.proofs.Passes.{passed-last, passed-next, passed-all, passed-covered}
use Rattle.table_steps.proofs.free.free_behind.Goals as goal

pub returns-in-Last : goal.returns-in-Last
returns-in-Last c =
    passed-last c.args.above.now.items c.loop-entry.above.items c.args.rest.now c.args.word.now c.args.decision c.loop-entry.entry-index c.entry-item.result
    c.loop-entry-test.true c.entry-item.is (rw c.in-Last.is at c.in_ok-pass.ensures) c.loop-entry.invariant

pub loop-entry-preserved : goal.loop-entry-preserved
loop-entry-preserved c =
    passed-next c.args.above.now.items c.loop-entry.above.items c.pass.new.above.items c.args.rest.now c.args.word.now c.args.decision c.loop-entry.entry-index c.entry-item.result
    c.loop-entry-test.true c.entry-item.is (rw c.in-Next.is at c.in_ok-pass.ensures) c.loop-entry.invariant

pub returns-then-decision-eq0 : goal.returns-then-decision-eq0
returns-then-decision-eq0 c =
    passed-all c.args.above.now.items c.loop-entry.above.items c.args.rest.now c.args.word.now c.args.decision c.loop-entry.entry-index c.loop-entry-test.false c.if-decision-eq0.true c.loop-entry.invariant

pub returns : goal.returns
returns c =
    let above = c.loop-entry.above.items in
    let w = c.args.word.now in
    if_yes c.covered.result (Covers c.as_slice.result.now w) (IsFree c.args.above.now.items c.args.rest.now w c.args.decision)
    (λ covers. passed-covered c.args.above.now.items above c.args.rest.now w c.args.decision c.loop-entry.entry-index
    (subst (λ (xs : List Word). Covers xs w) c.as_slice.ensures.value covers) c.loop-entry.invariant)
    c.covered.ensures

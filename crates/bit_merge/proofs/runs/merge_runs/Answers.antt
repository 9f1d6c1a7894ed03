use Rattle.std.proofs.Common.{◌++◌, ap, sym, subst, ◌∙◌, List}
use Rattle.ternary_words.specs.declared.entry.Entry.{Entry}
use Rattle.bit_merge.proofs.Parts.{ArePartly, decision-is, run-has, partly-next}
use Rattle.bit_merge.proofs.runs.merge_runs.Goals as goal

pub run_end-end-requires-clause-decision : goal.run_end-end-requires-clause-decision
run_end-end-requires-clause-decision c =
    decision-is c.args.entries.now c.loop-start.start c.index-entries-start.result c.loop-start-test.true

pub merge_run-requires : goal.merge_run-requires
merge_run-requires c = run-has c.args.entries.now c.loop-start.start _ c.run_end-end.result c.run_end-end.ensures

pub loop-start-preserved : goal.loop-start-preserved
loop-start-preserved c =
    let l = c.loop-start in
    let items = c.in_ok-extend_from_slice.ensures.items ∙ ap (λ (es : List Entry). l.merged.items ++ es) c.as_slice.ensures.value in
    subst (λ (es : List Entry). ArePartly c.args.entries.now c.run_end-end.result es) (sym items)
    (partly-next c.args.entries.now l.start _ c.run_end-end.result l.merged.items c.in_ok-run.run'.items l.invariant c.run_end-end.ensures c.in_ok-run.ensures)

use Rattle.std.proofs.Common.{arith, sym, ◌∙◌}
use Rattle.bit_merge.proofs.Parts.{decision-is, one-more}
use Rattle.bit_merge.proofs.runs.run_end.Goals as goal

pub loop-end-preserved : goal.loop-end-preserved
loop-end-preserved c =
    let l = c.loop-end in
    let here = decision-is c.args.entries.now l.end c.index-entries-end.result c.loop-end-test.true ∙ c.if-entries-end.true in record {
      more = omega (arith, l.invariant.more);
      within = omega (arith, c.loop-end-test.true);
      one = one-more c.args.entries.now c.args.start c.args.decision l.end l.invariant.one here;
    }

pub returns-else-entries-end : goal.returns-else-entries-end
returns-else-entries-end c =
    let l = c.loop-end in
    let here = decision-is c.args.entries.now l.end c.index-entries-end.result c.loop-end-test.true in record {
      more = l.invariant.more;
      within = l.invariant.within;
      one = l.invariant.one;
      unlike = λ less e. c.if-entries-end.false (sym here ∙ e);
    }

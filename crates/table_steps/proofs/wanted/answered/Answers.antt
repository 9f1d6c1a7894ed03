use Rattle.std.proofs.Common.{sym, ◌∙◌}
use Rattle.table_steps.proofs.Passes.{answer-found, answer-next}
use Rattle.table_steps.proofs.wanted.answered.Goals as goal

pub returns-then-matches : goal.returns-then-matches
returns-then-matches c =
    answer-found c.args.entries.now c.entry-item.result c.loop-entry.entry-index c.args.header.now.values c.loop-entry-test.true c.entry-item.is
    (sym c.matches.ensures ∙ c.if-matches.true) c.loop-entry.invariant

pub loop-entry-preserved : goal.loop-entry-preserved
loop-entry-preserved c =
    answer-next c.args.entries.now c.entry-item.result c.loop-entry.entry-index c.args.header.now.values c.loop-entry-test.true c.entry-item.is
    (sym c.matches.ensures ∙ c.if-matches.false) c.loop-entry.invariant

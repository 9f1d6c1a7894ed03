use Rattle.std.proofs.Common.{◌+◌, ◌∙◌, add-one, ap, arith, length, sym, take}
use Rattle.table_text.specs.EntryViews.{line_of}
use Rattle.table_text.specs.Lines.{lines_of}
use Rattle.memory_text.specs.Reading.{writes_in}
use Rattle.memory_text.specs.Views.{draft_of, heading_view, spelled_of}
use Rattle.memory_text.proofs.Resumed.{bad_at, counted_bad, err_at, resumed, resumed-bad, resumed-more}
use Rattle.memory_text.proofs.reading.read_lines.Goals as goal

pub returns-in-Err-clause-lines : goal.returns-in-Err-clause-lines
returns-in-Err-clause-lines c =
    let h = c.args.heading.now in
    let l = c.loop-place in
    let lines = lines_of c.args.lines.now in
    let line = line_of c.in-Some.line.now c.in-Some.ended in
    counted_bad c.args.kind (heading_view h) (length lines) (writes_in c.args.kind h.slots 2 0 (take h.lines lines)) (bad_at (c.from-in-Err.result + 2) c.in-Err.reason)
    (sym l.invariant.reads
    ∙ ap (resumed c.args.kind h.slots h.lines (draft_of l.draft) l.place l.from) c.in-Some.ensures.line
    ∙ resumed-bad c.args.kind h.slots h.lines (draft_of l.draft) l.place l.from line (lines_of c.in-Some.after.now) c.in-Err.reason c.loop-place-test.true c.in-Err.ensures.write
    ∙ ap (λ n. err_at (n + 2) c.in-Err.reason) (sym c.from-in-Err.ensures))

pub loop-place-preserved : goal.loop-place-preserved
loop-place-preserved c =
    let h = c.args.heading.now in
    let l = c.loop-place in
    let line = line_of c.in-Some.line.now c.in-Some.ended in
    record {
      within = omega (arith, l.invariant.within, c.in-Some.ensures.shorter);
      many = omega (arith, l.invariant.many, c.in-Ok-with.ensures.one_more);
      slots = c.in-Ok-with.ensures.within h.slots l.invariant.slots c.in-Ok.ensures.within;
      from = omega (arith, c.in-Ok.ensures.within);
      lines = omega (arith, l.invariant.lines, ap length c.in-Some.ensures.line);
      reads = sym (resumed-more c.args.kind h.slots h.lines (draft_of l.draft) (draft_of c.in-Ok-with.draft) l.place l.from (c.in-Ok.write.slot + 1) line (lines_of c.in-Some.after.now) (spelled_of c.in-Ok.write)
          c.loop-place-test.true c.in-Ok.ensures.write c.in-Ok-with.ensures.writes (add-one c.in-Ok.write.slot))
          ∙ sym (ap (resumed c.args.kind h.slots h.lines (draft_of l.draft) l.place l.from) c.in-Some.ensures.line) ∙ l.invariant.reads;
    }

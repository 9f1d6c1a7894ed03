use Rattle.std.proofs.Common.{◌≡◌, ◌+◌, ap, sym, ◌∙◌, length, take, arith}
use Rattle.table_text.specs.Lines.{lines_of}
use Rattle.table_text.specs.EntriesViews.{entries_view}
use Rattle.table_text.specs.EntryViews.{line_of}
use Rattle.table_text.specs.HeadingViews.{heading_view}
use Rattle.table_text.specs.Reading.{entries_of, entry_of}
use Rattle.table_text.proofs.Resumed.{bad_at, err_at, resumed, resumed-more, resumed-bad, resumed-all, counted_same, counted_bad, refused}
use Rattle.table_text.proofs.reading.read_entries.Goals as goal

pub returns-in-Err : goal.returns-in-Err
returns-in-Err c =
    let h = heading_view c.args.heading.now in
    let l = c.loop-place in
    let lines = lines_of c.args.lines.now in
    let line = line_of c.in-Some.line.now c.in-Some.ended in
    refused c.in-Err.error (c.from-in-loop-place.result + 2) (entry_of h line) _ c.in-Err.ensures.read
    (λ reason is. counted_bad h (length lines) (entries_of h 2 (take h.entries lines)) (bad_at (c.from-in-loop-place.result + 2) reason)
    (sym l.invariant.reads ∙ ap (resumed h (entries_view l.entries) l.place) c.in-Some.ensures.line
    ∙ resumed-bad h (entries_view l.entries) l.place line (lines_of c.in-Some.after.now) reason c.loop-place-test.true is
    ∙ ap (λ n. err_at (n + 2) reason) (sym c.from-in-loop-place.ensures)))

pub loop-place-preserved : goal.loop-place-preserved
loop-place-preserved c =
    let h = heading_view c.args.heading.now in
    let l = c.loop-place in
    let line = line_of c.in-Some.line.now c.in-Some.ended in
    record {
      within = omega (arith, l.invariant.within, c.in-Some.ensures.shorter);
      many = omega (arith, l.invariant.many, c.in-Ok.ensures.one_more);
      lines = omega (arith, l.invariant.lines, ap length c.in-Some.ensures.line);
      reads = sym (resumed-more h (entries_view l.entries) (entries_view c.in-Ok.entries) l.place line (lines_of c.in-Some.after.now) c.loop-place-test.true c.in-Ok.ensures.read)
          ∙ sym (ap (resumed h (entries_view l.entries) l.place) c.in-Some.ensures.line) ∙ l.invariant.reads;
    }

pub returns : goal.returns
returns c =
    let h = heading_view c.args.heading.now in
    let l = c.loop-place in
    let lines = lines_of c.args.lines.now in
    let read = entries_of h 2 (take h.entries lines) in
    let place : l.place ≡ h.entries = omega arith in
    let found : length lines ≡ h.entries = omega (arith, l.invariant.lines, c.count_lines-more.ensures.lines) in
    counted_same h (length lines) read (entries_view l.entries) (sym l.invariant.reads ∙ ap (λ n. resumed h (entries_view l.entries) n (lines_of l.rest.now)) place ∙ resumed-all h (entries_view l.entries) (lines_of l.rest.now)) found

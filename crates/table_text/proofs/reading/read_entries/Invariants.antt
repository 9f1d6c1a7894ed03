use Rattle.std.proofs.Common.{◌≡◌, ◌+◌, ◌≤◌, length, take, vec_len}
use Rattle.table_text.specs.Lines.{lines_of}
use Rattle.table_text.specs.EntriesViews.{entries_view}
use Rattle.table_text.specs.HeadingViews.{heading_view}
use Rattle.table_text.specs.Reading.{entries_of}
use Rattle.table_text.proofs.Resumed.{resumed}
use Rattle.table_text.proofs.reading.read_entries.Given as goal

abbrev pub invariant-loop-place : goal.invariant-loop-place
invariant-loop-place l = record {
  within : l.place + length l.rest ≤ length l.lines;
  many : vec_len l.entries.entries ≡ l.place;
  lines : l.place + length (lines_of l.rest) ≡ length (lines_of l.lines);
  reads : resumed (heading_view l.heading) (entries_view l.entries) l.place (lines_of l.rest) ≡ entries_of (heading_view l.heading) 2 (take l.heading.entries (lines_of l.lines));
}

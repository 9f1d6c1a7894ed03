use Rattle.std.proofs.Common.{◌≡◌, ◌+◌, ◌≤◌, length, take, vec_len}
use Rattle.table_text.specs.Lines.{lines_of}
use Rattle.memory_text.specs.Kept.{AreWithin}
use Rattle.memory_text.specs.Reading.{writes_in}
use Rattle.memory_text.specs.Views.{draft_of}
use Rattle.memory_text.proofs.Resumed.{resumed}
use Rattle.memory_text.proofs.reading.read_lines.Given as goal

abbrev pub invariant-loop-place : goal.invariant-loop-place
invariant-loop-place l = record {
  within : l.place + length l.rest ≤ length l.lines;
  many : vec_len l.draft.writes ≡ l.place;
  slots : AreWithin l.heading.slots l.draft.writes.items;
  from : l.from ≤ l.heading.slots;
  lines : l.place + length (lines_of l.rest) ≡ length (lines_of l.lines);
  reads : resumed l.kind l.heading.slots l.heading.lines (draft_of l.draft) l.place l.from (lines_of l.rest) ≡ writes_in l.kind l.heading.slots 2 0 (take l.heading.lines (lines_of l.lines));
}

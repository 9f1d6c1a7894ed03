use Rattle.std.proofs.Common.{◌≡◌, ◌+◌, ◌≤◌, length}
use Rattle.text_lines.specs.Headline.Lines.{text_lines}
use Rattle.text_lines.specs.Headline.Reading.{read_from}
use Rattle.text_lines.specs.Reading.{read_text}
use Rattle.text_lines.proofs.reading.take_lines.Given as goal

abbrev pub invariant-lines : goal.invariant-lines
invariant-lines g l = record {
  sound : g.T.TakeLine.is_sound l.taker;
  given : g.T.TakeLine.given l.taker ≡ g.T.TakeLine.given l.fn.taker;
  counted : l.number + length l.rest ≤ length l.bytes;
  reads : read_from (g.T.TakeLine.step (g.T.TakeLine.given l.fn.taker)) (g.T.TakeLine.read l.taker) (l.number + 1) (text_lines l.rest) ≡ read_text (g.T.TakeLine.step (g.T.TakeLine.given l.fn.taker)) (g.T.TakeLine.read l.fn.taker) l.bytes;
}

abbrev pub decreases-lines : goal.decreases-lines
decreases-lines g l = length l.rest

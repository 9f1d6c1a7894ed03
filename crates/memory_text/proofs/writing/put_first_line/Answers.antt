use Rattle.std.proofs.Common.{append_assoc}
use Rattle.razor_base.proofs.Writing.{puts-is}
use Rattle.memory_text.proofs.writing.put_first_line.Goals as goal

pub returns : goal.returns
returns g c = puts-is c.put_parts.ensures (simp (c.word.ensures, c.lines_word.ensures, c.from.ensures, append_assoc))

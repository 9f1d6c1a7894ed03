use Rattle.std.proofs.Common.{append_assoc, append-nil}
use Rattle.razor_base.proofs.Writing.{puts-is}
use Rattle.filter_reader.proofs.port_text.put_range.Goals as goal

pub returns : goal.returns
returns g c = puts-is c.put_parts.ensures (simp (c.from.ensures, c.from-2.ensures, append_assoc, append-nil))

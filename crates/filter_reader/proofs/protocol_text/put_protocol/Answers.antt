use Rattle.std.proofs.Common.{append-nil}
use Rattle.razor_base.proofs.Writing.{puts-is}
use Rattle.filter_reader.proofs.protocol_text.put_protocol.Goals as goal

pub returns : goal.returns
returns g c = puts-is c.put_parts.ensures (simp (c.protocol_bytes-bytes.ensures, append-nil))

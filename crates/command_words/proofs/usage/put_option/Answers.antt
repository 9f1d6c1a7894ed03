use Rattle.std.proofs.Common.{append_assoc, append-nil}
use Rattle.razor_base.proofs.Writing.{puts-is}
use Rattle.command_words.proofs.usage.put_option.Goals as goal

pub returns : goal.returns
returns g c = puts-is c.put_parts.ensures (simp (c.opening.ensures, c.text.ensures, c.value_label.ensures, c.closing.ensures, append_assoc, append-nil))

use Rattle.razor_base.proofs.Writing.{puts-is, puts-then, puts-more, puts-written, puts-unwritten}
use Rattle.std.proofs.Common.{ap, flat_map}
use Rattle.command_words.specs.Usage.{usage_line}
use Rattle.command_words.proofs.usage.write_usage.Goals as goal

pub returns-in_err-put_parts : goal.returns-in_err-put_parts
returns-in_err-put_parts g c = puts-unwritten c.from_residual.ensures.0 c.new-pending.ensures (puts-more _ c.in_err-put_parts.ensures)

pub returns-in_err-put_lines : goal.returns-in_err-put_lines
returns-in_err-put_lines g c =
    puts-unwritten c.from_residual-in_err-put_lines.ensures.0 c.new-pending.ensures (puts-then c.in_ok-put_parts.ensures (puts-is c.in_err-put_lines.ensures (ap (flat_map usage_line) c.forms.ensures)))

pub returns : goal.returns
returns g c =
    puts-written c.new-pending.ensures (puts-then c.in_ok-put_parts.ensures (puts-is c.in_ok-put_lines.ensures (ap (flat_map usage_line) c.forms.ensures))) c.flush.ensures.whole

use Rattle.razor_base.proofs.Writing.{puts-then, puts-more, puts-written, puts-unwritten}
use Rattle.table_text.proofs.write.write_table.Goals as goal

pub returns-in_err-put_first_line : goal.returns-in_err-put_first_line
returns-in_err-put_first_line g c = puts-unwritten c.from_residual.ensures.0 c.new-pending.ensures (puts-more _ c.in_err-put_first_line.ensures)

pub returns-in_err-put_entries : goal.returns-in_err-put_entries
returns-in_err-put_entries g c = puts-unwritten c.from_residual-in_err-put_entries.ensures.0 c.new-pending.ensures (puts-then c.in_ok-put_first_line.ensures c.in_err-put_entries.ensures)

pub returns : goal.returns
returns g c = puts-written c.new-pending.ensures (puts-then c.in_ok-put_first_line.ensures c.in_ok-put_entries.ensures) c.flush.ensures.whole

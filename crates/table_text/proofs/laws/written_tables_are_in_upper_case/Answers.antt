use Rattle.table_text.proofs.UpperTexts.{table-upper}
use Rattle.table_text.proofs.laws.written_tables_are_in_upper_case.Goals as goal

pub returns : goal.returns
returns c = λ table named. table-upper table named

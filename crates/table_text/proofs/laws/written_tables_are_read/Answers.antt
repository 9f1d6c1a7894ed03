use Rattle.table_text.proofs.TableTexts.{table-read}
use Rattle.table_text.proofs.laws.written_tables_are_read.Goals as goal

pub returns : goal.returns
returns c = λ table named. table-read table named

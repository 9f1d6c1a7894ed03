use Rattle.table_text.proofs.TableBack.{table_back}
use Rattle.table_text.proofs.laws.upper_case_texts_are_written_as_they_were_read.Goals as goal

pub returns : goal.returns
returns c = λ text table is upper. table_back text table is upper

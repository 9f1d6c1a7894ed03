use Rattle.table_compose.proofs.FewHeaders.{few}
use Rattle.table_compose.proofs.laws.at_most_one_entry_a_header.Goals as goal

pub returns : goal.returns
returns c = λ fields R n h. few fields R n h

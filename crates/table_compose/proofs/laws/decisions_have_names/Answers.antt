use Rattle.table_compose.proofs.Naming.{named}
use Rattle.table_compose.proofs.laws.decisions_have_names.Goals as goal

pub returns : goal.returns
returns c = λ names entries header n h. named names entries header n h

use Rattle.node_store.specs.Diagram.{answer}
use Rattle.table_compose.proofs.laws.distinct_names_tell_apart.Goals as goal

pub returns : goal.returns
returns c = λ nodes fields id names distinct low a b ok okay e. distinct (answer nodes id a) (answer nodes id b) (low a ok) (low b okay) e

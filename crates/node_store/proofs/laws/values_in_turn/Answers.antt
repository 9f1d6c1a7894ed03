use Rattle.node_store.proofs.Values.{values_from, first, count}
use Rattle.node_store.proofs.laws.values_in_turn.Goals as goal

pub returns : goal.returns
returns c = record {
  first = values_from;
  within = λ level v values field h. (first level v values field h).0;
  rest = λ level v values field h. (first level v values field h).1;
  count = count;
}

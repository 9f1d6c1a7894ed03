use Rattle.redundancy_laws.proofs.Kept.{none-so-far, next-so-far, same-so-far, layer-sifted, made}
use Rattle.redundancy_laws.proofs.laws.layer_of_nodes.Goals as goal

pub returns : goal.returns
returns c = record {
  start = none-so-far;
  next = next-so-far;
  unchanged = λ nodes level span pairs lower to rows more flags inner before. same-so-far nodes level span pairs lower to rows more flags inner before before;
  end = layer-sifted;
  made = made;
}

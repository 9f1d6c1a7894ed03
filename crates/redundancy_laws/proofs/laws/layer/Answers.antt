use Rattle.redundancy_laws.proofs.Sequence.{nothing}
use Rattle.redundancy_laws.proofs.Apart.{apart-from, rows-more, rows-append, apart-longer, end-longer}
use Rattle.redundancy_laws.proofs.LayerRuns.{layer}
use Rattle.redundancy_laws.proofs.laws.layer.Goals as goal

pub returns : goal.returns
returns c = record {
  right = λ level cs runs out five. layer level cs five runs out;
  none = nothing;
  apart = λ least k runs r. apart-from least runs k r;
  more = λ k runs r. rows-more runs k r;
  parts = rows-append;
  longer = λ least runs r apart above order. (apart-longer least runs r apart above order, end-longer least runs r);
}

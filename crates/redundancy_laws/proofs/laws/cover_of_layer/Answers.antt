use Rattle.redundancy_laws.proofs.Covers.{cover-by-values, cover-within, cover-without, cover-past, apart-front, end-more}
use Rattle.redundancy_laws.proofs.laws.cover_of_layer.Goals as goal

pub returns : goal.returns
returns c = record {
  values = cover-by-values;
  within = cover-within;
  without = cover-without;
  past = cover-past;
  front = λ least k runs. apart-front least runs k;
  end = λ least k runs r. end-more least runs k r;
}

use Rattle.std.proofs.Common.{[]}
use Rattle.redundancy_laws.proofs.Passes.{part, alike, tight, one}
use Rattle.redundancy_laws.proofs.laws.one_pass.Goals as goal

pub returns : goal.returns
returns c = record {
  part = λ entries kept h. part [] entries kept h;
  alike = alike;
  tight = tight;
  one = λ entries xs ys h k. one [] entries xs ys h k;
}

use Rattle.bit_merge.proofs.Merged.{has_merged, has_one, is_closed, is_fewer, is_alike, is_tight}
use Rattle.bit_merge.proofs.laws.one_merged.Goals as goal

pub returns : goal.returns
returns c = record {
  some = has_merged;
  one = λ entries xs ys h k. has_one entries xs ys h k;
  closed = λ entries out h. is_closed entries out h;
  fewer = λ entries out h. is_fewer entries out h;
  alike = λ entries out values h. is_alike entries out values h;
  tight = λ entries out h t. is_tight entries out h t;
}

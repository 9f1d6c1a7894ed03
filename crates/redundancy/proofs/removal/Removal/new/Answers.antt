use Rattle.redundancy.proofs.removal.Removal.new.Goals as goal

pub returns : goal.returns
returns c = λ nodes plans. record {
  blocks = c.new-2.ensures c.new.result;
  known = c.new-3.ensures nodes plans c.new-2.result;
  memo = c.new-4.ensures c.new.result c.new-2.result;
}

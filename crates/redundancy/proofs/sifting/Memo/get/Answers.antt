use Rattle.redundancy.proofs.Removals.{known}
use Rattle.redundancy.proofs.sifting.Memo.get.Goals as goal

pub returns : goal.returns
returns c = λ nodes blocks all. known nodes blocks c.args.self.now c.args.asked.now c.get.result c.get.ensures.value all

use Rattle.std.specs.HashMap.{get}
use Rattle.redundancy.specs.Remembered.{same_asked}
use Rattle.redundancy.proofs.Removals.{kept}
use Rattle.redundancy.proofs.sifting.Memo.keep.Goals as goal

pub returns : goal.returns
returns c = λ nodes blocks memo here.
    kept nodes blocks (λ q. get same_asked c.args.self.now.done q) (λ q. get same_asked c.insert.new.self q) c.args.asked c.args.sifted c.in_ok-insert.ensures.updates.0 memo here

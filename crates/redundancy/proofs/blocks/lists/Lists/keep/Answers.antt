use Rattle.std.proofs.Common.{refl}
use Rattle.redundancy.proofs.ListRows.{kept}
use Rattle.redundancy.proofs.blocks.lists.Lists.keep.Goals as goal

pub returns : goal.returns
returns c = λ blocks lists within rows. kept blocks c.args.self.now _ c.args.place c.args.number lists within rows refl refl

use Rattle.slot_patch.proofs.Goodness.{may}
use Rattle.slot_patch.proofs.laws.a_patch_is_good.Goals as goal

pub returns : goal.returns
returns c = λ old plan patch grow all new_all. may old plan patch grow all new_all

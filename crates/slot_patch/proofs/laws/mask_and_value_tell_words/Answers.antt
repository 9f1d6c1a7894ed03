use Rattle.slot_patch.proofs.Telling.{tells}
use Rattle.slot_patch.proofs.laws.mask_and_value_tell_words.Goals as goal

pub returns : goal.returns
returns c = tells

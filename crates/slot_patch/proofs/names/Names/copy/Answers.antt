use Rattle.std.proofs.Common.{◌∙◌}
use Rattle.std.specs.String.{string_bytes}
use Rattle.field_boxes.proofs.FirstSeen.{same_texts}
use Rattle.slot_patch.proofs.names.Names.copy.Goals as goal

pub returns : goal.returns
returns c = same_texts string_bytes c.self.inside.names.keys c.in_ok-clone.field-0.keys c.in_ok-clone.ensures.cases ∙ c.self.view_is

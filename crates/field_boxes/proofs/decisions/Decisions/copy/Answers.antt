use Rattle.std.proofs.Common.{◌≡◌, ◌∙◌, subst, sym}
use Rattle.std.specs.Prelude.{map}
use Rattle.std.specs.String.{string_bytes}
use Rattle.field_boxes.specs.Names.{AreNames}
use Rattle.field_boxes.proofs.FirstSeen.{same_texts}
use Rattle.field_boxes.proofs.decisions.Decisions.copy.Goals as goal
use Rattle.field_boxes.proofs.decisions.Decisions.copy.Goals.{In_ok-clone}

copied : (c : In_ok-clone) → map string_bytes c.in_ok-clone.field-0.keys ≡ map string_bytes c.self.inside.names.keys
copied c = same_texts string_bytes c.self.inside.names.keys c.in_ok-clone.field-0.keys c.in_ok-clone.ensures.cases

pub invariant_of-result : goal.invariant_of-result
invariant_of-result c = subst AreNames (sym (copied c)) c.self.invariant

pub returns : goal.returns
returns c = copied c ∙ c.self.view_is

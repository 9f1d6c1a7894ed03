use Rattle.field_boxes.proofs.SameValues.{same_list_from}
use Rattle.field_boxes.proofs.laws.unions_are_values.Goals as goal

pub returns : goal.returns
returns c = λ top a b rise_a rise_b same. same_list_from 0 top a b rise_a rise_b same

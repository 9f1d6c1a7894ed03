use Rattle.field_boxes.proofs.Ordered.{ordered}
use Rattle.field_boxes.proofs.laws.headers_are_ordered.Goals as goal

pub returns : goal.returns
returns c = λ a b e. ordered a b e

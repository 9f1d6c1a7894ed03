use Rattle.prefix_min.proofs.FieldRows.{least-weight}
use Rattle.prefix_min.proofs.costing.Costing.minimum.Goals as goal

pub returns : goal.returns
returns c = least-weight c.in_ok-_label.ensures

use Rattle.field_boxes.proofs.Aligned.{high-value}
use Rattle.range_prefix.proofs.halves.halves.Goals as goal

pub overflow_add-high : goal.overflow_add-high
overflow_add-high c = high-value c.args.width c.args.prefix c.requires.fits c.requires.splits

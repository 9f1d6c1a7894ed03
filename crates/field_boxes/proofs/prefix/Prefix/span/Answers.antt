use Rattle.field_boxes.proofs.Prefixes.{top_fits}
use Rattle.field_boxes.proofs.prefix.Prefix.span.Goals as goal

pub overflow_cast-result : goal.overflow_cast-result
overflow_cast-result c = rw c.from.ensures (top_fits c.args.width c.args.self.now.len c.args.self.now.value c.requires.wide c.requires.len c.requires.small c.requires.low)

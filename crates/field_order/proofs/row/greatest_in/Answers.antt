use Rattle.std.proofs.Common.{◌∙◌, ap}
use Rattle.field_boxes.specs.Fields.{greatest_of}
use Rattle.field_order.proofs.Blocks.{top_first}
use Rattle.field_order.proofs.row.greatest_in.Goals as goal

pub returns : goal.returns
returns c = c.greatest.ensures ∙ ap greatest_of c.from.ensures ∙ top_first c.args.level.now _ c.requires

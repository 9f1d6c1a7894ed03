use Rattle.std.proofs.Common.{ap, ◌∙◌}
use Rattle.field_boxes.specs.Headline.Names.{text_of}
use Rattle.field_boxes.specs.Lists.{name_decided}
use Rattle.partition_check.specs.Agreement.{name_answered}
use Rattle.razor_core.proofs.commands.check.proof.write_valid.Goals as goal

pub returns-in-Equal : goal.returns-in-Equal
returns-in-Equal g c = rw c.in-Equal.is c.write_equal.ensures

pub returns-in-Differ : goal.returns-in-Differ
returns-in-Differ g c =
    let list = c.args.list.now in
    let table = c.args.table.now in
    let header = c.in-Differ.difference.header.values in
    let is = rw c.in-Differ.is at c.requires in
    rw c.in-Differ.is (c.write_differ.ensures (name_decided list header) (name_answered table header) (c.decision_text.ensures ∙ ap text_of is.1.left) (c.decision_text-in-Differ.ensures ∙ ap text_of is.1.right))

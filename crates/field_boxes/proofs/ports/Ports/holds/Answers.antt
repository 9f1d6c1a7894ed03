use Rattle.std.proofs.Common.{◌∙◌, ap, sym}
use Rattle.field_boxes.specs.Headline.Classifier.{interval_holds, union_holds}
use Rattle.field_boxes.specs.Spans.{interval_of}
use Rattle.field_boxes.proofs.FirstSeen.{list_any-map}
use Rattle.field_boxes.proofs.ports.Ports.holds.Goals as goal

pub returns : goal.returns
returns c = c.one_holds.ensures ∙ sym (list_any-map (interval_holds c.args.value) interval_of c.spans.result.now) ∙ ap (union_holds c.args.value) c.spans.ensures.spans

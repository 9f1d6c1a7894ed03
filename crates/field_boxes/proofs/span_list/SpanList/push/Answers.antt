use Rattle.std.proofs.Common.{◌≡◌, length, arith, sym, ap, ◌∙◌}
use Rattle.field_boxes.specs.SpanLists.{count_of}
use Rattle.field_boxes.proofs.Filled.{pushed}
use Rattle.field_boxes.proofs.span_list.SpanList.push.Goals as goal

pub invariant_of-self : goal.invariant_of-self
invariant_of-self c =
    let count : length c.args.self.now ≡ c.self.inside.count = ap length (sym c.self.view_is) ∙ count_of c.self.inside c.self.invariant in
    pushed c.self.inside c.args.span c.self.invariant (omega (arith, count, c.requires))

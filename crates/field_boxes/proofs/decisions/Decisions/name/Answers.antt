use Rattle.std.proofs.Common.{arith, sym, ◌∙◌}
use Rattle.std.specs.String.{string_bytes}
use Rattle.field_boxes.proofs.FirstSeen.{text_at}
use Rattle.field_boxes.proofs.decisions.Decisions.name.Goals as goal

pub returns : goal.returns
returns c =
    rw (← c.self.view_is) (c.as_str.ensures.value ∙ sym (text_at string_bytes c.self.inside.names.keys c.args.number c.in-Some.name.now (omega arith) (sym c.in-Some.ensures.key)))

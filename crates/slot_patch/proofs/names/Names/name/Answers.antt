use Rattle.std.proofs.Common.{arith, sym, ◌∙◌}
use Rattle.std.specs.String.{string_bytes}
use Rattle.field_boxes.proofs.FirstSeen.{text_at}
use Rattle.slot_patch.proofs.Renaming.{text-none}
use Rattle.slot_patch.proofs.names.Names.name.Goals as goal

pub returns-in-Some : goal.returns-in-Some
returns-in-Some c =
    rw (← c.self.view_is) (c.as_str.ensures.value ∙ sym (text_at string_bytes c.self.inside.names.keys c.args.number c.in-Some.name.now (omega arith) (sym c.in-Some.ensures.key)))

pub returns-in-None : goal.returns-in-None
returns-in-None c =
    rw (← c.self.view_is) (sym (text-none string_bytes c.self.inside.names.keys c.args.number c.if-number-eq0.false (sym c.in-None.ensures.key)))

use Rattle.std.proofs.Common.{sym, ◌∙◌, Some, None}
use Rattle.std.specs.String.{string_bytes}
use Rattle.field_boxes.proofs.FirstSeen.{number_by}
use Rattle.field_boxes.proofs.decisions.Decisions.number.Goals as goal

pub returns-in_err-place : goal.returns-in_err-place
returns-in_err-place c =
    rw (← c.self.view_is) (c.from_residual.ensures ∙ number_by string_bytes c.self.inside.names.keys c.args.name.now None (sym c.if-eq.ensures) c.in_err-place.ensures.index)

pub returns : goal.returns
returns c =
    rw (← c.self.view_is) (number_by string_bytes c.self.inside.names.keys c.args.name.now (Some c.in_ok-place.place) (sym c.if-eq.ensures) c.in_ok-place.ensures.index)

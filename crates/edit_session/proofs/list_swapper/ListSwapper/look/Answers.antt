use Rattle.std.proofs.Common.{ap, ◌∙◌}
use Rattle.field_boxes.specs.Headline.Names.{text_of}
use Rattle.edit_session.specs.Editing.{ListedSwap}
use Rattle.edit_session.specs.Machine.{decided}
use Rattle.edit_session.proofs.Deciding.{decided-is, header-of}
use Rattle.edit_session.proofs.list_swapper.ListSwapper.look.Goals as goal

pub returns-clause-decided : goal.returns-clause-decided
returns-clause-decided g c =
    let values = c.args.header.now.values in
    c.look.ensures.old_or_new
    ∙ ap text_of (decided-is c.self.inside.updater.state c.self.inside.lists values (header-of values c.are_five.ensures c.args.header.now.in_fields) c.self.invariant)
    ∙ ap (λ (v : ListedSwap g.row.V.Denot). text_of (decided v.state v.copies values)) c.self.view_is

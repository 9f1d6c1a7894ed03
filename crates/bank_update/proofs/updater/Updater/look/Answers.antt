use Rattle.std.proofs.Common.{◌≡◌, ℕ, List, Option, Some, None, ap, sym, ◌∙◌}
use Rattle.std.specs.Prelude.{option_and_then}
use Rattle.field_boxes.specs.Headline.Names.{text_of}
use Rattle.tcam_sim.specs.Slots.{look_up}
use Rattle.bank_update.specs.Machine.{State, held, looked, old_or_new}
use Rattle.bank_update.specs.Swapping.{Swapping}
use Rattle.bank_update.proofs.OldOrNew.{found-named, looked-answer, naming}
use Rattle.bank_update.proofs.updater.Updater.look.Goals as goal

pub name-requires : goal.name-requires
name-requires g c =
    found-named c.self.inside.progress c.args.header.now.values c.in-Some.slot c.in-Some.decision c.soundness.ensures
    (ap (λ slots. look_up slots c.args.header.now.values) (sym c.self.invariant) ∙ sym c.in-Some.ensures)

-- what was looked up, by the state
text_is : (s : State) (values : List ℕ) (found : Option (ℕ × ℕ)) → found ≡ look_up (held s) values →
    text_of (option_and_then (naming s s.pending) found) ≡ text_of (looked s values)
text_is s values found h = ap (λ o. text_of (option_and_then (naming s s.pending) o)) h

pub returns-in-Some-clause-old_or_new : goal.returns-in-Some-clause-old_or_new
returns-in-Some-clause-old_or_new g c =
    let values = c.args.header.now.values in
    c.name.ensures
    ∙ text_is c.self.inside.progress values (Some (c.in-Some.slot, c.in-Some.decision)) (c.in-Some.ensures ∙ ap (λ slots. look_up slots values) c.self.invariant)
    ∙ ap text_of (looked-answer c.self.inside.progress values c.soundness.ensures)
    ∙ ap (λ (v : Swapping g.row.V.Denot). text_of (old_or_new v.state v.state.pending values)) c.self.view_is

pub returns-in-None-clause-old_or_new : goal.returns-in-None-clause-old_or_new
returns-in-None-clause-old_or_new g c =
    let values = c.args.header.now.values in
    text_is c.self.inside.progress values None (c.in-None.ensures ∙ ap (λ slots. look_up slots values) c.self.invariant)
    ∙ ap text_of (looked-answer c.self.inside.progress values c.soundness.ensures)
    ∙ ap (λ (v : Swapping g.row.V.Denot). text_of (old_or_new v.state v.state.pending values)) c.self.view_is

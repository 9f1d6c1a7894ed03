use Rattle.std.proofs.Common.{Result, Ok, Err, ap, ◌∙◌, subst}
use Rattle.std.specs.Prelude.{OnOk}
use Rattle.bank_update.specs.Swapping.{KeepsNew, Swapping}
use Rattle.bank_update.proofs.Keeping.{keeps-new}
use Rattle.bank_update.proofs.updater.Updater.step.Goals as goal

pub returns-then-is_err-clause-idle : goal.returns-then-is_err-clause-idle
returns-then-is_err-clause-idle g c =
    (λ h. absurd (cc), λ none. absurd (c.in-Some.ensures.pending (ap (λ (v : Swapping g.row.V.Denot). v.state.pending) c.self.view_is ∙ none)))

always : {A E : Type 0} {P : Type 0} (r : Result A E) → P → OnOk r P
always (Ok a) p = p
always (Err e) p = tt

pub returns-clause-keeps : goal.returns-clause-keeps
returns-clause-keeps g c = λ values.
    always c.match-advance.result
    (subst (λ (v : Swapping g.row.V.Denot). KeepsNew v.state c.advance.new.self values) c.self.view_is
    (keeps-new c.self.inside.progress c.advance.new.self values c.soundness.ensures c.advance.ensures.state))

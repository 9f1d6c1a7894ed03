use Rattle.std.proofs.Common.{ap, ◌∙◌, sym}
use Rattle.std.specs.Map.{lookup}
use Rattle.field_order.specs.Fronts.{same_asked, IsFront}
use Rattle.field_order.proofs.Kept.{asked_is, kept}
use Rattle.field_order.proofs.fronts.Fronts.keep.Goals as goal

pub returns-in_err-insert : goal.returns-in_err-insert
returns-in_err-insert c = λ nodes fronts here asked front h.
    fronts asked front (ap (λ es. lookup (same_asked asked) es) (sym c.in_err-insert.ensures.err) ∙ h)

pub returns : goal.returns
returns c = λ nodes fronts here.
    kept same_asked asked_is (λ asked front. IsFront nodes asked.id.0 asked.field front.0) (λ k. lookup (same_asked k) c.args.self.now.made.entries) (λ k. lookup (same_asked k) c.insert.new.self.entries) c.args.asked c.args.front
    c.in_ok-insert.ensures.updates.0 fronts here

use Rattle.std.proofs.Common.{◌≡◌, ◌-◌, ◌<◌, arith, get_or, inr, length, refl, subst}
use Rattle.prefix_min.specs.Plan.{no_choice}
use Rattle.prefix_min.proofs.Planned.{replaced}
use Rattle.prefix_min.proofs.plan.choose.Goals as goal

pub returns-then-is_last_of : goal.returns-then-is_last_of
returns-then-is_last_of c = λ yes.
    let last = subst (λ cs. (c.args.below < length cs) × ((get_or cs (length cs - 1) no_choice).label ≡ c.args.gain.best)) c.deref.ensures.value (c.if-is_last_of.ensures refl) in
    inr (replaced c.args.choices.now.items (omega (arith, c.if-gain-eq0.false)) last c.if-also-end.true (omega (arith, c.len-last.ensures, c.args.choices.now.ok.0)) c.in_ok-choice.ensures)

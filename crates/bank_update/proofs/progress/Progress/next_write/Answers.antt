use Rattle.std.proofs.Common.{ap, sym, ◌∙◌, option_map, subst}
use Rattle.bank_update.specs.Kept.{update_of}
use Rattle.bank_update.specs.Machine.{State}
use Rattle.bank_update.specs.Sound.{IsSound}
use Rattle.bank_update.proofs.NextWrites.{next-forward, next-back}
use Rattle.bank_update.proofs.progress.Progress.next_write.Goals as goal

pub returns-then-update : goal.returns-then-update
returns-then-update g c =
    let kept = update_of (g.T.StandingTable.planned (g.T.StandingTable.standing c.self.inside.settled)) in
    next-back c.args.self.now (kept c.in_ok-update.update.now) c.write-write.result
    (ap (λ (v : State). v.pending) (sym c.self.view_is) ∙ ap (option_map kept) (sym c.in_ok-update.ensures.value))
    (subst IsSound c.self.view_is c.self.invariant.0) c.if-update.true c.write-write.ensures

pub returns : goal.returns
returns g c =
    let kept = update_of (g.T.StandingTable.planned (g.T.StandingTable.standing c.self.inside.settled)) in
    next-forward c.args.self.now (kept c.in_ok-update.update.now) c.write-write-2.result
    (ap (λ (v : State). v.pending) (sym c.self.view_is) ∙ ap (option_map kept) (sym c.in_ok-update.ensures.value))
    (subst IsSound c.self.view_is c.self.invariant.0) c.if-update.false c.write-write-2.ensures

use Rattle.std.proofs.Common.{◌∙◌, ap, arith}
use Rattle.prefix_min.proofs.Joined.{read-at}
use Rattle.prefix_min.proofs.Paired.{last-lowered}
use Rattle.prefix_min.proofs.savings.pairs.lower_last.Goals as goal

pub returns : goal.returns
returns c =
    let es = c.args.savings.now.items in
    c.set_cost.ensures ∙ last-lowered c.args.gain c.index.result.now.cost c.args.place es c.requires (ap (λ e. e.cost) (read-at es c.args.place (omega (arith, c.requires)) c.index.ensures)) c.if-cost-gain.false

use Rattle.prefix_min.proofs.Paired.{joined-alone-left, joined-second, pair-place}
use Rattle.prefix_min.proofs.savings.pairs.join_second.Goals as goal

pub bounds-weights-one : goal.bounds-weights-one
bounds-weights-one c = pair-place c.args.savings.now.items c.args.start c.requires.start c.requires.pair c.requires.list c.requires.one

pub returns-then-pair-gain : goal.returns-then-pair-gain
returns-then-pair-gain c =
    joined-alone-left c.args.savings.now.items c.args.start c.requires.start c.requires.pair c.requires.list c.requires.one c.requires.same c.saturating_sub.result c.saturating_sub.ensures c.if-pair-gain.true c.truncate.ensures.items
    c.in_ok-put_other.ensures

pub returns : goal.returns
returns c =
    joined-second c.args.savings.now.items c.args.start c.requires.start c.requires.pair c.requires.list c.requires.one c.requires.same c.saturating_sub.result c.saturating_sub.ensures c.if-pair-gain.false c.set_cost.ensures c.set_cost-2.ensures
    c.in_ok-put_other.ensures

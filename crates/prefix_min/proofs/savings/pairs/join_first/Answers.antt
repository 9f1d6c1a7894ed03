use Rattle.prefix_min.proofs.Paired.{first-size, joined-first, pair-place}
use Rattle.prefix_min.proofs.savings.pairs.join_first.Goals as goal

pub bounds-weights-one : goal.bounds-weights-one
bounds-weights-one c = pair-place c.args.savings.now.items c.args.start c.requires.start c.requires.pair c.requires.list c.requires.one

pub lower_last-requires : goal.lower_last-requires
lower_last-requires c = first-size c.args.savings.now.items c.args.start c.requires.start c.requires.pair c.requires.list c.requires.one _ c.set_cost.ensures

pub returns : goal.returns
returns c =
    joined-first c.args.savings.now.items c.args.start c.requires.start c.requires.pair c.requires.list c.requires.one c.requires.same c.saturating_sub.result c.saturating_sub.ensures c.set_cost.ensures c.lower_last.ensures
    c.in_ok-put_other.ensures

use Rattle.std.proofs.Common.{refl}
use Rattle.prefix_min.proofs.Joined.{joined-alone, joined-one, mid-above}
use Rattle.prefix_min.proofs.savings.merging.join_one.Goals as goal

pub settle-requires-clause-above : goal.settle-requires-clause-above
settle-requires-clause-above c = mid-above c.args.savings.now.items c.args.start c.requires.start c.requires.list c.requires.one c.in_ok-over.ensures.savings

pub returns : goal.returns
returns c =
    joined-one c.args.savings.now.items c.args.start c.requires.start c.requires.list c.requires.one c.in_ok-over.ensures.savings
    (record { gain = c.in_ok-over.over; best = c.args.one.label }) refl c.in_ok-over.ensures.gain c.in_ok-settle.ensures.savings c.in_ok-settle.ensures.also

pub returns-then-one-weight : goal.returns-then-one-weight
returns-then-one-weight c =
    joined-alone c.args.savings.now.items c.args.start c.requires.start c.requires.list c.requires.one c.deref.ensures.value (c.is_alone.ensures c.if-is_alone.true).0 c.if-one-weight.true

use Rattle.prefix_min.proofs.Joined.{settled-none}
use Rattle.prefix_min.proofs.savings.merging.settle.Goals as goal

pub returns-then-gain-eq0-clause-savings : goal.returns-then-gain-eq0-clause-savings
returns-then-gain-eq0-clause-savings c = settled-none c.args.start c.args.gain.gain c.args.savings.now.items c.if-gain-eq0.true c.requires.above

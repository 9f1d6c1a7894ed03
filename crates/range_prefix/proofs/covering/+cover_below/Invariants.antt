use Rattle.std.proofs.Common.{◌-◌}
use Rattle.range_prefix.proofs.covering.+cover_below.Given as goal

abbrev pub decreases-cover_below : goal.decreases-cover_below
decreases-cover_below l = l.width - l.prefix.len

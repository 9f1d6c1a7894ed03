use Rattle.std.proofs.Common.{◌-◌}
use Rattle.range_prefix.proofs.counting.+count_below.Given as goal

abbrev pub decreases-count_below : goal.decreases-count_below
decreases-count_below l = l.width - l.prefix.len

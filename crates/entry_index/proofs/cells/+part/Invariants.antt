use Rattle.std.proofs.Common.{◌-◌}
use Rattle.entry_index.proofs.cells.+part.Given as goal

abbrev pub decreases-part : goal.decreases-part
decreases-part l = 33 - l.depth

use Rattle.std.proofs.Common.{◌-◌, ◌^◌}
use Rattle.table_equiv.proofs.descent.+descend.Given as goal

abbrev pub decreases-descend : goal.decreases-descend
decreases-descend l = 2 ^ 104 - l.cube.now.word.mask

use Rattle.std.proofs.Common.{◌-◌, ◌^◌}
use Rattle.table_equiv.proofs.covering.+put_cover.Given as goal

abbrev pub decreases-put_cover : goal.decreases-put_cover
decreases-put_cover l = 2 ^ 104 - l.word.now.mask

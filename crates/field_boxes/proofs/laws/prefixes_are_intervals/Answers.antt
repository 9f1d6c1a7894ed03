use Rattle.std.proofs.Common.{◌-◌}
use Rattle.field_boxes.proofs.Prefixes.{interval-prefix}
use Rattle.field_boxes.proofs.laws.prefixes_are_intervals.Goals as goal

pub returns : goal.returns
returns c = λ width p fits v. interval-prefix (width - p.len) p.value v fits.low

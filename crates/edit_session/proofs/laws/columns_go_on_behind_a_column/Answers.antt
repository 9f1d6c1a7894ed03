use Rattle.std.proofs.Common.{sym}
use Rattle.edit_session.proofs.Behind.{cut}
use Rattle.edit_session.proofs.laws.columns_go_on_behind_a_column.Goals as goal

pub returns : goal.returns
returns c = λ text word more h. sym (cut text word more h).rest

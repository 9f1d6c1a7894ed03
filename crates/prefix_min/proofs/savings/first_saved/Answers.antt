use Rattle.std.proofs.Common.{sym}
use Rattle.prefix_min.proofs.Listed.{not_first}
use Rattle.prefix_min.proofs.savings.first_saved.Goals as goal

pub returns-else-first-label : goal.returns-else-first-label
returns-else-first-label c = sym (not_first c.args.label 0 c.args.left.now c.requires (λ some. c.if-first-label.false))

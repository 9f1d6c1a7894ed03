use Rattle.std.proofs.Common.{arith}
use Rattle.razor_core.proofs.DifferText.{miss_past}
use Rattle.razor_core.proofs.commands.difference.decision_text.Goals as goal

pub returns-then-number-count : goal.returns-then-number-count
returns-then-number-count c = miss_past c.args.names.now c.args.number (omega (arith, c.if-number-count.true, c.count.ensures))

use Rattle.memory_text.proofs.Texts.{plan-read}
use Rattle.memory_text.proofs.laws.written_plans_are_read.Goals as goal

pub returns : goal.returns
returns c = λ plan. plan-read plan

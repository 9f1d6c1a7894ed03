use Rattle.memory_text.proofs.Texts.{memory-read}
use Rattle.memory_text.proofs.laws.written_memories_are_read.Goals as goal

pub returns : goal.returns
returns c = λ memory. memory-read memory

use Rattle.std.proofs.Common.{None, option_map}
use Rattle.std.proofs.lemmas.List.{map-set}
use Rattle.ternary_words.specs.Views.{entry_of}
use Rattle.memory_text.proofs.memory.SlotMemory.clear.Goals as goal

pub returns-clause-cleared : goal.returns-clause-cleared
returns-clause-cleared c = map-set (option_map (entry_of c.args.self.now.names)) c.args.self.now.slots.items c.args.slot None

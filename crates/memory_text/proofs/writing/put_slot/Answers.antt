use Rattle.std.proofs.Common.{ap, option_map, sym, Option}
use Rattle.razor_base.proofs.Writing.{puts-is}
use Rattle.ternary_words.specs.declared.entry.Entry as code_entry
use Rattle.ternary_words.specs.Views.{entry_of}
use Rattle.memory_text.specs.MemoryText.{slot_line}
use Rattle.memory_text.proofs.writing.put_slot.Goals as goal

pub returns-in-Some : goal.returns-in-Some
returns-in-Some g c =
    puts-is c.put_slot_entry.ensures (ap (λ (o : Option code_entry.Entry). slot_line c.args.slot (option_map (entry_of c.args.names.now) o)) (sym c.in-Some.is))

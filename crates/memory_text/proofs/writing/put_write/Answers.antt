use Rattle.std.proofs.Common.{ap, option_map, sym, Option}
use Rattle.razor_base.proofs.Writing.{puts-then, puts-more, puts-stop, puts-is}
use Rattle.ternary_words.specs.declared.entry.Entry as code_entry
use Rattle.ternary_words.specs.Views.{entry_of}
use Rattle.memory_text.specs.MemoryText.{slot_entry, write_text}
use Rattle.memory_text.proofs.writing.put_write.Goals as goal

pub returns-in_err-put_parts-in-Some : goal.returns-in_err-put_parts-in-Some
returns-in_err-put_parts-in-Some g c =
    let w = c.args.write.now in
    puts-is (puts-stop c.from_residual.ensures.0 (puts-more (slot_entry w.slot (entry_of c.args.names.now c.in-Some.entry)) c.in_err-put_parts-in-Some.ensures))
    (ap (λ (o : Option code_entry.Entry). write_text w.slot (option_map (entry_of c.args.names.now) o)) (sym c.in-Some.is))

pub returns-in_ok-put_parts-in-Some : goal.returns-in_ok-put_parts-in-Some
returns-in_ok-put_parts-in-Some g c =
    let w = c.args.write.now in
    puts-is (puts-then c.in_ok-put_parts-in-Some.ensures c.put_slot_entry.ensures)
    (ap (λ (o : Option code_entry.Entry). write_text w.slot (option_map (entry_of c.args.names.now) o)) (sym c.in-Some.is))

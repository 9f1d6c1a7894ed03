use Rattle.std.proofs.Common.{List, [], length, refl, rules, subst, sym, ℕ, ◌∙◌, ◌∷◌, ◌≡◌, ◌≤◌}
use Rattle.std.proofs.lemmas.List.{length-map}
use Rattle.memory_text.specs.Memory.{Memory}
use Rattle.memory_text.specs.MemoryText.{memory_text}
use Rattle.memory_text.specs.Views.{memory_of}
use Rattle.memory_text.proofs.Texts.{memory-read}
use Rattle.razor_base.specs.Texts.{left_of}
use Rattle.razor_core.specs.Commands.Place.{placing, IsTextOfMemory}
use Rattle.razor_core.specs.Inputs.{table_input}
use Rattle.razor_core.specs.Outside.{seen}
use Rattle.razor_core.specs.Taking.{table_value_of}
use Rattle.razor_core.proofs.Behind.{over_ends, written_over}
use Rattle.razor_core.proofs.Ended.{IsPlain, only_turn_ends}
use Rattle.razor_core.proofs.Passing.{one_passes}
use Rattle.razor_core.specs.declared.ending.Ending.TheVariants.{Memory as refused, TooMany}
use Rattle.razor_core.proofs.SlotEnding.{room_free}
use Rattle.razor_core.proofs.Turns.{none_made}
use Rattle.razor_core.proofs.Calls.{end_writes, first_ends, one_turn, over_calls}
use Rattle.razor_core.specs.Meaning.{at_the_end}
use Rattle.razor_base.proofs.Writing.{made-none}
use Rattle.razor_core.proofs.commands.place.place_table.Goals as goal

plain : (slots : ℕ) (file : List ℕ) → IsPlain (placing slots file)
plain slots file = record { unread = λ before after file. tt; pace = λ before after. tt; whole = λ e. cc; reads = refl }

pub returns-in-Err-clause-ends : goal.returns-in-Err-clause-ends
returns-in-Err-clause-ends g c = λ texts is.
    let before = seen (left_of g.D.Desk.reads texts) g.D.Desk.faults g.K.Sink.written g.K.Sink.faults c.args.desk.now c.args.out.now in
    let after = seen (left_of g.D.Desk.reads texts) g.D.Desk.faults g.K.Sink.written g.K.Sink.faults c.take.new.desk c.args.out.now in
    only_turn_ends before after c.in-Err.ending (table_input c.args.file.now) (plain c.args.slots.count c.args.file.now) refl (none_made (g.K.Sink.written c.args.out.now)) refl (c.in-Err.ensures.turn (texts c.args.file.now) (is c.args.file.now))

pub returns-then-len-slots-clause-ends : goal.returns-then-len-slots-clause-ends
returns-then-len-slots-clause-ends g c = λ texts is.
    let before = seen (left_of g.D.Desk.reads texts) g.D.Desk.faults g.K.Sink.written g.K.Sink.faults c.args.desk.now c.args.out.now in
    let after = seen (left_of g.D.Desk.reads texts) g.D.Desk.faults g.K.Sink.written g.K.Sink.faults c.take.new.desk c.args.out.now in
    let entries = c.in-Ok.table.entries.items in
    let same : c.len-then-len-slots.result ≡ length entries = search rules in
    over_ends (one_passes before after (table_input c.args.file.now) (table_value_of c.in-Ok.table) (plain c.args.slots.count c.args.file.now) refl (c.in-Ok.ensures.turn (texts c.args.file.now) (is c.args.file.now))) (TooMany c.len-then-len-slots.result c.args.slots.count)
    ((same ∙ sym (length-map entries _), refl, search rules), (refl, search rules), none_made (g.K.Sink.written c.args.out.now))

pub returns-clause-ends : goal.returns-clause-ends
returns-clause-ends g c = λ texts is.
    let before = seen (left_of g.D.Desk.reads texts) g.D.Desk.faults g.K.Sink.written g.K.Sink.faults c.args.desk.now c.args.out.now in
    let after = seen (left_of g.D.Desk.reads texts) g.D.Desk.faults g.K.Sink.written g.K.Sink.faults c.take.new.desk c.write_memory.new.out in
    let made = memory_of c.in-Ok-spread.memory in
    let entries = c.in-Ok.table.entries.items in
    let read : IsTextOfMemory made (memory_text made) = record { written = refl; spells = memory-read c.in-Ok-spread.memory } in
    over_ends (one_passes before after (table_input c.args.file.now) (table_value_of c.in-Ok.table) (plain c.args.slots.count c.args.file.now) refl (c.in-Ok.ensures.turn (texts c.args.file.now) (is c.args.file.now))) c.written.result
    (written_over (placing c.args.slots.count c.args.file.now) (table_value_of c.in-Ok.table ∷ []) c.written.result c.write_memory.ensures (room_free c.args.slots.count c.args.file.now c.in-Ok.table (subst (λ n. n ≤ c.args.slots.count) (sym (length-map entries _)) (search rules)))
    (subst (λ (m : Memory). IsTextOfMemory m (memory_text made)) c.in-Ok-spread.ensures read, refl, refl) refl c.written.ensures)

-- the reads and the writes
pub returns-in-Err-clause-calls : goal.returns-in-Err-clause-calls
returns-in-Err-clause-calls g c = first_ends at_the_end c.args.file.now [] c.in-Err.ending (g.D.Desk.reads c.args.desk.now) (g.D.Desk.reads c.take.new.desk) (g.K.Sink.written c.args.out.now) c.in-Err.ensures.reads

pub returns-clause-calls : goal.returns-clause-calls
returns-clause-calls g c = over_calls at_the_end (c.args.file.now ∷ []) c.written.result (g.D.Desk.reads c.args.desk.now) (g.D.Desk.reads c.take.new.desk) (g.K.Sink.written c.args.out.now) (g.K.Sink.written c.write_memory.new.out) (one_turn c.args.file.now (g.D.Desk.reads c.args.desk.now) (g.D.Desk.reads c.take.new.desk) c.in-Ok.ensures.reads)
    (end_writes c.write_memory.result c.written.result (g.K.Sink.written c.args.out.now) (g.K.Sink.written c.write_memory.new.out) c.written.ensures c.write_memory.ensures.tries)

pub returns-in-Err-spread-clause-calls : goal.returns-in-Err-spread-clause-calls
returns-in-Err-spread-clause-calls g c = over_calls at_the_end (c.args.file.now ∷ []) refused (g.D.Desk.reads c.args.desk.now) (g.D.Desk.reads c.take.new.desk) (g.K.Sink.written c.args.out.now) (g.K.Sink.written c.args.out.now) (one_turn c.args.file.now (g.D.Desk.reads c.args.desk.now) (g.D.Desk.reads c.take.new.desk) c.in-Ok.ensures.reads)
    (made-none (g.K.Sink.written c.args.out.now))

pub returns-then-len-slots-clause-calls : goal.returns-then-len-slots-clause-calls
returns-then-len-slots-clause-calls g c = over_calls at_the_end (c.args.file.now ∷ []) (TooMany _ _) (g.D.Desk.reads c.args.desk.now) (g.D.Desk.reads c.take.new.desk) (g.K.Sink.written c.args.out.now) (g.K.Sink.written c.args.out.now) (one_turn c.args.file.now (g.D.Desk.reads c.args.desk.now) (g.D.Desk.reads c.take.new.desk) c.in-Ok.ensures.reads)
    (made-none (g.K.Sink.written c.args.out.now))

use Rattle.std.proofs.Common.{List, [], refl, subst, ℕ, ◌∷◌}
use Rattle.ternary_words.specs.Headline.Table.{Table}
use Rattle.table_text.specs.Headline.TableText.{table_text}
use Rattle.ternary_words.specs.Views.{table_of}
use Rattle.table_text.proofs.TableTexts.{table-read}
use Rattle.razor_base.specs.Texts.{left_of}
use Rattle.razor_core.specs.Commands.Dump.{dumping}
use Rattle.razor_core.specs.Inputs.{memory_input}
use Rattle.razor_core.specs.Outside.{seen}
use Rattle.razor_core.specs.Taking.{memory_value_of}
use Rattle.razor_core.proofs.Behind.{over_ends, written_over}
use Rattle.razor_core.proofs.Ended.{IsPlain, only_turn_ends}
use Rattle.razor_core.proofs.Passing.{one_passes}
use Rattle.razor_core.specs.Outcome.{IsTextOf}
use Rattle.razor_core.proofs.Turns.{none_made}
use Rattle.razor_core.proofs.Calls.{end_writes, first_ends, one_turn, over_calls}
use Rattle.razor_core.specs.Meaning.{at_the_end}
use Rattle.razor_base.proofs.Writing.{made-none}
use Rattle.razor_core.specs.declared.ending.Ending.TheVariants.{Memory}
use Rattle.razor_core.proofs.commands.dump.dump_memory.Goals as goal

plain : (file : List ℕ) → IsPlain (dumping file)
plain file = record { unread = λ before after file. tt; pace = λ before after. tt; whole = λ e. cc; reads = refl }

pub returns-in-Err-clause-ends : goal.returns-in-Err-clause-ends
returns-in-Err-clause-ends g c = λ texts is.
    let before = seen (left_of g.D.Desk.reads texts) g.D.Desk.faults g.K.Sink.written g.K.Sink.faults c.args.desk.now c.args.out.now in
    let after = seen (left_of g.D.Desk.reads texts) g.D.Desk.faults g.K.Sink.written g.K.Sink.faults c.take.new.desk c.args.out.now in
    only_turn_ends before after c.in-Err.ending (memory_input c.args.file.now) (plain c.args.file.now) refl (none_made (g.K.Sink.written c.args.out.now)) refl (c.in-Err.ensures.turn (texts c.args.file.now) (is c.args.file.now))

pub returns-clause-ends : goal.returns-clause-ends
returns-clause-ends g c = λ texts is.
    let before = seen (left_of g.D.Desk.reads texts) g.D.Desk.faults g.K.Sink.written g.K.Sink.faults c.args.desk.now c.args.out.now in
    let after = seen (left_of g.D.Desk.reads texts) g.D.Desk.faults g.K.Sink.written g.K.Sink.faults c.take.new.desk c.write_table.new.out in
    let made = c.in-Ok-table_in.table in
    let text : IsTextOf (table_of made) (table_text (table_of made)) = record { written = refl; spells = table-read made c.in-Ok-table_in.ensures.spelled } in
    over_ends (one_passes before after (memory_input c.args.file.now) (memory_value_of c.in-Ok.memory) (plain c.args.file.now) refl (c.in-Ok.ensures.turn (texts c.args.file.now) (is c.args.file.now))) c.written.result
    (written_over (dumping c.args.file.now) (memory_value_of c.in-Ok.memory ∷ []) c.written.result c.write_table.ensures (λ stop later. later)
    (subst (λ (t : Table). IsTextOf t (table_text (table_of made))) c.in-Ok-table_in.ensures.table text, refl, refl) refl c.written.ensures)

-- the reads and the writes
pub returns-in-Err-clause-calls : goal.returns-in-Err-clause-calls
returns-in-Err-clause-calls g c = first_ends at_the_end c.args.file.now [] c.in-Err.ending (g.D.Desk.reads c.args.desk.now) (g.D.Desk.reads c.take.new.desk) (g.K.Sink.written c.args.out.now) c.in-Err.ensures.reads

pub returns-clause-calls : goal.returns-clause-calls
returns-clause-calls g c = over_calls at_the_end (c.args.file.now ∷ []) c.written.result (g.D.Desk.reads c.args.desk.now) (g.D.Desk.reads c.take.new.desk) (g.K.Sink.written c.args.out.now) (g.K.Sink.written c.write_table.new.out) (one_turn c.args.file.now (g.D.Desk.reads c.args.desk.now) (g.D.Desk.reads c.take.new.desk) c.in-Ok.ensures.reads)
    (end_writes c.write_table.result c.written.result (g.K.Sink.written c.args.out.now) (g.K.Sink.written c.write_table.new.out) c.written.ensures c.write_table.ensures.tries)

pub returns-in-Err-table_in-clause-calls : goal.returns-in-Err-table_in-clause-calls
returns-in-Err-table_in-clause-calls g c = over_calls at_the_end (c.args.file.now ∷ []) Memory (g.D.Desk.reads c.args.desk.now) (g.D.Desk.reads c.take.new.desk) (g.K.Sink.written c.args.out.now) (g.K.Sink.written c.args.out.now) (one_turn c.args.file.now (g.D.Desk.reads c.args.desk.now) (g.D.Desk.reads c.take.new.desk) c.in-Ok.ensures.reads)
    (made-none (g.K.Sink.written c.args.out.now))

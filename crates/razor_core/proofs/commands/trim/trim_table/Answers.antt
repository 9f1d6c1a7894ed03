use Rattle.std.proofs.Common.{List, [], refl, subst, sym, ℕ, ◌∷◌}
use Rattle.ternary_words.specs.Views.{table_of}
use Rattle.table_text.proofs.TableTexts.{table-read}
use Rattle.razor_base.specs.Texts.{left_of}
use Rattle.razor_core.specs.Commands.Trim.{trimming}
use Rattle.razor_core.specs.Inputs.{table_input}
use Rattle.razor_core.specs.Outside.{seen}
use Rattle.razor_core.specs.Taking.{table_value_of}
use Rattle.razor_core.proofs.Behind.{over_ends, written_over}
use Rattle.razor_core.proofs.Ended.{IsPlain, only_turn_ends}
use Rattle.razor_core.proofs.Passing.{one_passes}
use Rattle.razor_core.specs.declared.ending.Ending.TheVariants.{BadLine, Memory}
use Rattle.razor_core.specs.declared.line_reason.LineReason.TheVariants.{NotPrefix}
use Rattle.razor_core.proofs.CertEnding.{first_other}
use Rattle.razor_core.proofs.SpelledNames.{AreSpelled}
use Rattle.razor_core.proofs.TrimEnding.{free}
use Rattle.razor_core.proofs.Turns.{none_made}
use Rattle.razor_core.proofs.Calls.{end_writes, first_ends, one_turn, over_calls}
use Rattle.razor_core.specs.Meaning.{at_the_end}
use Rattle.razor_base.proofs.Writing.{made-none}
use Rattle.razor_core.proofs.commands.trim.trim_table.Goals as goal

plain : (file : List ℕ) → IsPlain (trimming file)
plain file = record { unread = λ before after file. tt; pace = λ before after. tt; whole = λ e. cc; reads = refl }

pub returns-in-Err-clause-ends : goal.returns-in-Err-clause-ends
returns-in-Err-clause-ends g c = λ texts is.
    let before = seen (left_of g.D.Desk.reads texts) g.D.Desk.faults g.K.Sink.written g.K.Sink.faults c.args.desk.now c.args.out.now in
    let after = seen (left_of g.D.Desk.reads texts) g.D.Desk.faults g.K.Sink.written g.K.Sink.faults c.take.new.desk c.args.out.now in
    only_turn_ends before after c.in-Err.ending (table_input c.args.file.now) (plain c.args.file.now) refl (none_made (g.K.Sink.written c.args.out.now)) refl (c.in-Err.ensures.turn (texts c.args.file.now) (is c.args.file.now))

pub returns-in-Some-clause-ends : goal.returns-in-Some-clause-ends
returns-in-Some-clause-ends g c = λ texts is.
    let before = seen (left_of g.D.Desk.reads texts) g.D.Desk.faults g.K.Sink.written g.K.Sink.faults c.args.desk.now c.args.out.now in
    let after = seen (left_of g.D.Desk.reads texts) g.D.Desk.faults g.K.Sink.written g.K.Sink.faults c.take.new.desk c.args.out.now in
    over_ends (one_passes before after (table_input c.args.file.now) (table_value_of c.in-Ok.table) (plain c.args.file.now) refl (c.in-Ok.ensures.turn (texts c.args.file.now) (is c.args.file.now))) (BadLine c.args.file _ NotPrefix)
    ((refl, (c.in-Some.place, first_other c.in-Ok.table c.in-Some.place (rw c.deref.ensures.value at c.in-Some.ensures), refl)), refl, none_made (g.K.Sink.written c.args.out.now))

pub trimmed-requires : goal.trimmed-requires
trimmed-requires g c = rw c.deref.ensures.value at c.in_default.ensures

pub returns-clause-ends : goal.returns-clause-ends
returns-clause-ends g c = λ texts is.
    let before = seen (left_of g.D.Desk.reads texts) g.D.Desk.faults g.K.Sink.written g.K.Sink.faults c.args.desk.now c.args.out.now in
    let after = seen (left_of g.D.Desk.reads texts) g.D.Desk.faults g.K.Sink.written g.K.Sink.faults c.take.new.desk c.write_table.new.out in
    let made = c.in-Ok-trimmed.table in
    over_ends (one_passes before after (table_input c.args.file.now) (table_value_of c.in-Ok.table) (plain c.args.file.now) refl (c.in-Ok.ensures.turn (texts c.args.file.now) (is c.args.file.now))) c.written.result
    (written_over (trimming c.args.file.now) (table_value_of c.in-Ok.table ∷ []) c.written.result c.write_table.ensures (free c.args.file.now c.in-Ok.table (rw c.deref.ensures.value at c.in_default.ensures))
    (table_of made, c.in-Ok-trimmed.ensures.trimmed, record { written = refl; spells = table-read made (subst AreSpelled (sym c.in-Ok-trimmed.ensures.names) c.in-Ok.ensures.holds) }, refl, refl)
    refl c.written.ensures)

pub returns-in-Err-trimmed-clause-ends : goal.returns-in-Err-trimmed-clause-ends
returns-in-Err-trimmed-clause-ends g c = λ texts is.
    let before = seen (left_of g.D.Desk.reads texts) g.D.Desk.faults g.K.Sink.written g.K.Sink.faults c.args.desk.now c.args.out.now in
    let after = seen (left_of g.D.Desk.reads texts) g.D.Desk.faults g.K.Sink.written g.K.Sink.faults c.take.new.desk c.args.out.now in
    over_ends (one_passes before after (table_input c.args.file.now) (table_value_of c.in-Ok.table) (plain c.args.file.now) refl (c.in-Ok.ensures.turn (texts c.args.file.now) (is c.args.file.now))) Memory (refl, none_made (g.K.Sink.written c.args.out.now))

-- the reads and the writes
pub returns-in-Err-clause-calls : goal.returns-in-Err-clause-calls
returns-in-Err-clause-calls g c = first_ends at_the_end c.args.file.now [] c.in-Err.ending (g.D.Desk.reads c.args.desk.now) (g.D.Desk.reads c.take.new.desk) (g.K.Sink.written c.args.out.now) c.in-Err.ensures.reads

pub returns-clause-calls : goal.returns-clause-calls
returns-clause-calls g c = over_calls at_the_end (c.args.file.now ∷ []) c.written.result (g.D.Desk.reads c.args.desk.now) (g.D.Desk.reads c.take.new.desk) (g.K.Sink.written c.args.out.now) (g.K.Sink.written c.write_table.new.out) (one_turn c.args.file.now (g.D.Desk.reads c.args.desk.now) (g.D.Desk.reads c.take.new.desk) c.in-Ok.ensures.reads)
    (end_writes c.write_table.result c.written.result (g.K.Sink.written c.args.out.now) (g.K.Sink.written c.write_table.new.out) c.written.ensures c.write_table.ensures.tries)

pub returns-in-Err-trimmed-clause-calls : goal.returns-in-Err-trimmed-clause-calls
returns-in-Err-trimmed-clause-calls g c = over_calls at_the_end (c.args.file.now ∷ []) Memory (g.D.Desk.reads c.args.desk.now) (g.D.Desk.reads c.take.new.desk) (g.K.Sink.written c.args.out.now) (g.K.Sink.written c.args.out.now) (one_turn c.args.file.now (g.D.Desk.reads c.args.desk.now) (g.D.Desk.reads c.take.new.desk) c.in-Ok.ensures.reads)
    (made-none (g.K.Sink.written c.args.out.now))

pub returns-in-Some-clause-calls : goal.returns-in-Some-clause-calls
returns-in-Some-clause-calls g c = over_calls at_the_end (c.args.file.now ∷ []) (BadLine c.args.file _ NotPrefix) (g.D.Desk.reads c.args.desk.now) (g.D.Desk.reads c.take.new.desk) (g.K.Sink.written c.args.out.now) (g.K.Sink.written c.args.out.now) (one_turn c.args.file.now (g.D.Desk.reads c.args.desk.now) (g.D.Desk.reads c.take.new.desk) c.in-Ok.ensures.reads)
    (made-none (g.K.Sink.written c.args.out.now))

use Rattle.std.proofs.Common.{[], length, refl, subst, sym, true, ◌∷◌}
use Rattle.field_boxes.specs.Lists.{filter_list}
use Rattle.table_text.specs.Headline.TableText.{table_text}
use Rattle.ternary_words.specs.Views.{table_of}
use Rattle.table_text.proofs.TableTexts.{table-read}
use Rattle.command_words.specs.Commands.{method_seen}
use Rattle.command_words.specs.Settings.{sizes_of}
use Rattle.razor_base.specs.Texts.{left_of}
use Rattle.razor_core.specs.Ending.{IsDone}
use Rattle.razor_core.specs.Inputs.{list_input}
use Rattle.razor_core.specs.Commands.Make.{made_line, making}
use Rattle.razor_core.specs.Outcome.{IsTextOf, Outcome}
use Rattle.razor_core.specs.Outside.{seen}
use Rattle.razor_core.specs.Taking.{value_of}
use Rattle.razor_core.proofs.Ended.{cut_off_ends, done_goes_on, make_free, not_made_ends, or_in_turn, said_order, turn_ends}
use Rattle.razor_core.proofs.SpelledNames.{AreSpelled}
use Rattle.razor_core.proofs.Turns.{none_made}
use Rattle.razor_core.proofs.CallsOf.{not_made_writes}
use Rattle.razor_core.proofs.Calls.{first_ends, one_turn, over_calls}
use Rattle.razor_core.specs.Meaning.{at_the_end}
use Rattle.razor_core.specs.declared.ending.Ending.TheVariants.{Done, WriteFault}
use Rattle.razor_core.proofs.commands.make.make_table.Goals as goal

pub returns-in-Err-clause-ends : goal.returns-in-Err-clause-ends
returns-in-Err-clause-ends g c = λ texts is.
    let file = c.args.file.now in
    let before = seen (left_of g.D.Desk.reads texts) g.D.Desk.faults g.K.Sink.written g.K.Sink.faults c.args.desk.now c.args.out.now in
    let after = seen (left_of g.D.Desk.reads texts) g.D.Desk.faults g.K.Sink.written g.K.Sink.faults c.take.new.desk c.args.out.now in
    let still = none_made (g.K.Sink.written c.args.out.now) in
    turn_ends (making (method_seen c.args.method) (sizes_of c.args.sizes) file) before after [] [] (list_input file) [] c.in-Err.ending (record { inputs_are = refl; passed = tt; kept = tt })
    (record { keeps = still; calm = refl; unread = λ file e. tt; pace = tt }) (c.in-Err.ensures.turn (texts file) (is file))

pub returns-in-Err-make_by-clause-ends : goal.returns-in-Err-make_by-clause-ends
returns-in-Err-make_by-clause-ends g c = λ texts is.
    let file = c.args.file.now in
    let before = seen (left_of g.D.Desk.reads texts) g.D.Desk.faults g.K.Sink.written g.K.Sink.faults c.args.desk.now c.args.out.now in
    let after = seen (left_of g.D.Desk.reads texts) g.D.Desk.faults g.K.Sink.written g.K.Sink.faults c.take.new.desk c.args.out.now in
    let passed = (c.in-Ok.ensures.turn (texts file) (is file)).0 in
    not_made_ends (method_seen c.args.method) (sizes_of c.args.sizes) file before after (filter_list c.in-Ok.list) c.in-Err-make_by.ending (passed, tt) c.in-Err-make_by.ensures.made
    (none_made (g.K.Sink.written c.args.out.now)) refl

pub returns-in-Ok-write_table-clause-ends : goal.returns-in-Ok-write_table-clause-ends
returns-in-Ok-write_table-clause-ends g c = λ texts is.
    let file = c.args.file.now in
    let command = making (method_seen c.args.method) (sizes_of c.args.sizes) file in
    let before = seen (left_of g.D.Desk.reads texts) g.D.Desk.faults g.K.Sink.written g.K.Sink.faults c.args.desk.now c.args.out.now in
    let after = seen (left_of g.D.Desk.reads texts) g.D.Desk.faults g.K.Sink.written g.K.Sink.faults c.take.new.desk c.write_table.new.out in
    let taken = (c.in-Ok.ensures.turn (texts file) (is file)) in
    let value = value_of c.in-Ok.list in
    let table = table_of c.in-Ok-make_by.made.table in
    let rules = length (filter_list c.in-Ok.list).rules in
    let flagged = c.in-Ok.list.flagged in
    let order = c.in-Ok-make_by.made.order in
    let line = made_line (method_seen c.args.method) order rules flagged in
    let text : IsTextOf table (table_text table) = record { written = refl; spells = table-read c.in-Ok-make_by.made.table (subst AreSpelled (sym c.in-Ok-make_by.ensures.names) c.in-Ok.ensures.holds.spelled) } in
    let made : Outcome = record { yes = true; text = table_text table; line = line } in (
      (order, said_order (method_seen c.args.method) (filter_list c.in-Ok.list).rules order c.in-Ok-make_by.ensures.made.0, rules, flagged, c.summary.ensures),
      subst (IsDone command before after true) (sym c.summary.ensures)
          (done_goes_on command before after (value ∷ []) made true (taken.0, tt)
          (make_free (method_seen c.args.method) (sizes_of c.args.sizes) file (filter_list c.in-Ok.list) c.in-Ok-make_by.ensures.room)
          (record { order = order; is_order = c.in-Ok-make_by.ensures.made.0; table = table; meets = c.in-Ok-make_by.ensures.made.1; yes = refl; text = text; line = refl }) refl c.in-Ok-write_table.ensures.ok
          (taken.1, tt)),
    )

pub returns-clause-ends : goal.returns-clause-ends
returns-clause-ends g c = λ texts is.
    let file = c.args.file.now in
    let command = making (method_seen c.args.method) (sizes_of c.args.sizes) file in
    let before = seen (left_of g.D.Desk.reads texts) g.D.Desk.faults g.K.Sink.written g.K.Sink.faults c.args.desk.now c.args.out.now in
    let after = seen (left_of g.D.Desk.reads texts) g.D.Desk.faults g.K.Sink.written g.K.Sink.faults c.take.new.desk c.write_table.new.out in
    let value = value_of c.in-Ok.list in
    let order = c.in-Ok-make_by.made.order in
    let table = table_of c.in-Ok-make_by.made.table in
    let text : IsTextOf table (table_text table) = record { written = refl; spells = table-read c.in-Ok-make_by.made.table (subst AreSpelled (sym c.in-Ok-make_by.ensures.names) c.in-Ok.ensures.holds.spelled) } in
    let made : Outcome = record { yes = true; text = table_text table; line = made_line (method_seen c.args.method) order (length (filter_list c.in-Ok.list).rules) c.in-Ok.list.flagged } in
    cut_off_ends command before after tt (value ∷ []) made ((c.in-Ok.ensures.turn (texts file) (is file)).0, tt)
    (or_in_turn (make_free (method_seen c.args.method) (sizes_of c.args.sizes) file (filter_list c.in-Ok.list) c.in-Ok-make_by.ensures.room))
    (record { order = order; is_order = c.in-Ok-make_by.ensures.made.0; table = table; meets = c.in-Ok-make_by.ensures.made.1; yes = refl; text = text; line = refl }) c.in-Err-write_table.ensures.failed c.in-Err-write_table.ensures.err

-- the reads and the writes
pub returns-in-Err-clause-calls : goal.returns-in-Err-clause-calls
returns-in-Err-clause-calls g c = first_ends at_the_end c.args.file.now [] c.in-Err.ending (g.D.Desk.reads c.args.desk.now) (g.D.Desk.reads c.take.new.desk) (g.K.Sink.written c.args.out.now) c.in-Err.ensures.reads

pub returns-in-Err-make_by-clause-calls : goal.returns-in-Err-make_by-clause-calls
returns-in-Err-make_by-clause-calls g c = over_calls at_the_end (c.args.file.now ∷ []) c.in-Err-make_by.ending (g.D.Desk.reads c.args.desk.now) (g.D.Desk.reads c.take.new.desk) (g.K.Sink.written c.args.out.now) (g.K.Sink.written c.args.out.now) (one_turn c.args.file.now (g.D.Desk.reads c.args.desk.now) (g.D.Desk.reads c.take.new.desk) c.in-Ok.ensures.reads)
    (not_made_writes _ _ c.in-Err-make_by.ending (g.K.Sink.written c.args.out.now) c.in-Err-make_by.ensures.made)

pub returns-in-Ok-write_table-clause-calls : goal.returns-in-Ok-write_table-clause-calls
returns-in-Ok-write_table-clause-calls g c = over_calls at_the_end (c.args.file.now ∷ []) (Done _) (g.D.Desk.reads c.args.desk.now) (g.D.Desk.reads c.take.new.desk) (g.K.Sink.written c.args.out.now) (g.K.Sink.written c.write_table.new.out) (one_turn c.args.file.now (g.D.Desk.reads c.args.desk.now) (g.D.Desk.reads c.take.new.desk) c.in-Ok.ensures.reads)
    c.in-Ok-write_table.ensures.tries

pub returns-clause-calls : goal.returns-clause-calls
returns-clause-calls g c = over_calls at_the_end (c.args.file.now ∷ []) WriteFault (g.D.Desk.reads c.args.desk.now) (g.D.Desk.reads c.take.new.desk) (g.K.Sink.written c.args.out.now) (g.K.Sink.written c.write_table.new.out) (one_turn c.args.file.now (g.D.Desk.reads c.args.desk.now) (g.D.Desk.reads c.take.new.desk) c.in-Ok.ensures.reads)
    c.in-Err-write_table.ensures.tries

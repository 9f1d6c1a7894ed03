use Rattle.std.proofs.Common.{[], ◌∷◌, ◌∙◌, inl, refl, sym}
use Rattle.trace_run.specs.Answers as runs
use Rattle.bank_index.specs.IndexedBank.{indexed_slots}
use Rattle.ternary_words.specs.Views.{table_of}
use Rattle.razor_base.specs.Texts.{left_of}
use Rattle.razor_core.specs.Inputs.{table_input, trace_input}
use Rattle.razor_core.specs.Outside.{seen}
use Rattle.razor_core.specs.Taking.{table_value_of}
use Rattle.razor_core.proofs.PossibleTexts.{kept_left, still_may}
use Rattle.razor_core.proofs.TraceEnding.{Ran, loaded_answers, run_ends, unread}
use Rattle.razor_core.proofs.Ended.{turn_ends}
use Rattle.razor_core.proofs.Turns.{none_made, taken_before}
use Rattle.razor_core.proofs.Calls.{among_calls, calls_behind, first_ends, one_turn, refused_behind}
use Rattle.razor_core.proofs.CallsOf.{trace_calls}
use Rattle.razor_core.specs.Meaning.{in_turn}
use Rattle.razor_core.specs.declared.ending.Ending.TheVariants.{Memory}
use Rattle.razor_core.proofs.commands.trace.answer_trace.Goals as goal
use Rattle.razor_core.specs.Commands.Trace.{tracing}

pub returns-in-Err-clause-ends : goal.returns-in-Err-clause-ends
returns-in-Err-clause-ends g c = λ texts is.
    let table = c.args.files.first.now in
    let trace = c.args.files.second.now in
    let before = seen (left_of g.D.Desk.reads texts) g.D.Desk.faults g.K.Sink.written g.K.Sink.faults c.args.desk.now c.args.out.now in
    let after = seen (left_of g.D.Desk.reads texts) g.D.Desk.faults g.K.Sink.written g.K.Sink.faults c.take.new.desk c.args.out.now in
    let still = none_made (g.K.Sink.written c.args.out.now) in
    turn_ends (tracing table trace) before after [] [] (table_input table) (trace_input trace ∷ []) c.in-Err.ending
    (record { inputs_are = refl; passed = tt; kept = (kept_left (texts trace) (c.in-Err.ensures.others trace (λ e. c.args.files.apart (sym e))).0, tt) })
    (record {
      keeps = still;
      calm = refl;
      unread = λ file e. record { in_table = λ same. still; in_trace = λ same. absurd (c.args.files.apart (sym e ∙ same)) };
      pace = unread table trace before after still (kept_left (texts trace) (c.in-Err.ensures.others trace (λ e. c.args.files.apart (sym e))).0);
    }) (c.in-Err.ensures.turn (texts table) (is table))

pub returns-clause-ends : goal.returns-clause-ends
returns-clause-ends g c = λ texts is.
    let table = c.args.files.first.now in
    let trace = c.args.files.second.now in
    let start = left_of g.D.Desk.reads texts c.args.desk.now in
    let between = left_of g.D.Desk.reads texts c.take.new.desk in
    let end = left_of g.D.Desk.reads texts c.run-ended.new.desk in
    let before = seen (left_of g.D.Desk.reads texts) g.D.Desk.faults g.K.Sink.written g.K.Sink.faults c.args.desk.now c.args.out.now in
    let after = seen (left_of g.D.Desk.reads texts) g.D.Desk.faults g.K.Sink.written g.K.Sink.faults c.run-ended.new.desk c.run-ended.new.out in
    let code = c.in-Ok.table in
    let bank = c.in-Ok-loaded.bank in
    let ran : Ran table trace before after (table_of code) (runs.answers_text code.names (indexed_slots bank)) (between trace) (g.D.Desk.faults c.take.new.desk trace) c.run-ended.result = record {
      apart = c.args.files.apart;
      taken = taken_before (table_input table) (start table) (between table) (end table) (table_value_of code) (c.in-Ok.ensures.turn (texts table) (still_may (c.run-ended.ensures.others table c.args.files.apart) (is table))) (kept_left (texts table) (c.run-ended.ensures.others table c.args.files.apart).0);
      kept = kept_left (texts trace) (c.in-Ok.ensures.others trace (λ e. c.args.files.apart (sym e))).0;
      counts = c.in-Ok.ensures.counts trace;
      answer = loaded_answers code (indexed_slots bank) c.in-Ok-loaded.ensures.held c.loaded_entries_answer.ensures;
      outcome = c.run-ended.ensures.outcome (texts trace) (is trace);
      read_fault = c.run-ended.ensures.read_fault;
      write_fault = c.run-ended.ensures.write_fault;
      calm = c.run-ended.ensures.calm;
      near = c.run-ended.ensures.near (texts trace) (is trace);
      paced = c.run-ended.ensures.paced (texts trace) (is trace);
    } in
    run_ends table trace before after (table_of code) (runs.answers_text code.names (indexed_slots bank)) (between trace) (g.D.Desk.faults c.take.new.desk trace) c.run-ended.result c.run_ended.result ran c.run_ended.ensures

pub returns-in-Err-loaded-clause-ends : goal.returns-in-Err-loaded-clause-ends
returns-in-Err-loaded-clause-ends g c = λ texts is.
    let table = c.args.files.first.now in
    let trace = c.args.files.second.now in
    let before = seen (left_of g.D.Desk.reads texts) g.D.Desk.faults g.K.Sink.written g.K.Sink.faults c.args.desk.now c.args.out.now in
    let after = seen (left_of g.D.Desk.reads texts) g.D.Desk.faults g.K.Sink.written g.K.Sink.faults c.take.new.desk c.args.out.now in
    let still = none_made (g.K.Sink.written c.args.out.now) in
    let unmoved = kept_left (texts trace) (c.in-Ok.ensures.others trace (λ e. c.args.files.apart (sym e))).0 in
    (refl, (inl still, unread table trace before after still unmoved), inl (unmoved, tt))

-- the reads and the writes
pub returns-in-Err-clause-calls : goal.returns-in-Err-clause-calls
returns-in-Err-clause-calls g c = first_ends in_turn c.args.files.first.now (c.args.files.second.now ∷ []) c.in-Err.ending (g.D.Desk.reads c.args.desk.now) (g.D.Desk.reads c.take.new.desk) (g.K.Sink.written c.args.out.now) c.in-Err.ensures.reads

pub returns-in-Err-loaded-clause-calls : goal.returns-in-Err-loaded-clause-calls
returns-in-Err-loaded-clause-calls g c = among_calls in_turn (c.args.files.first.now ∷ c.args.files.second.now ∷ []) Memory (g.D.Desk.reads c.args.desk.now) (g.D.Desk.reads c.take.new.desk) (g.K.Sink.written c.args.out.now) (refused_behind c.args.files.first.now (c.args.files.second.now ∷ []) (g.D.Desk.reads c.args.desk.now) (g.D.Desk.reads c.take.new.desk) c.in-Ok.ensures.reads)

pub returns-clause-calls : goal.returns-clause-calls
returns-clause-calls g c = calls_behind in_turn (c.args.files.first.now ∷ []) (c.args.files.second.now ∷ []) c.run_ended.result (g.D.Desk.reads c.args.desk.now) (g.D.Desk.reads c.take.new.desk) (g.D.Desk.reads c.run-ended.new.desk) (g.K.Sink.written c.args.out.now) (g.K.Sink.written c.run-ended.new.out) (one_turn c.args.files.first.now (g.D.Desk.reads c.args.desk.now) (g.D.Desk.reads c.take.new.desk) c.in-Ok.ensures.reads)
    (trace_calls c.args.files.second.now c.run-ended.result c.run_ended.result (g.D.Desk.reads c.take.new.desk) (g.D.Desk.reads c.run-ended.new.desk) (g.K.Sink.written c.args.out.now) (g.K.Sink.written c.run-ended.new.out) c.run_ended.ensures c.run-ended.ensures.turn c.run-ended.ensures.tries)

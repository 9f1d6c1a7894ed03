use Rattle.std.proofs.Common.{[], refl, sym, ◌∷◌}
use Rattle.command_words.specs.Settings.{terms_seen}
use Rattle.razor_base.specs.Texts.{left_of}
use Rattle.razor_core.specs.Inputs.{list_input, session_input, session_value}
use Rattle.razor_core.specs.Outside.{seen}
use Rattle.razor_core.specs.Taking.{value_of}
use Rattle.razor_core.proofs.PossibleTexts.{kept_left, still_may}
use Rattle.razor_core.proofs.Ended.{ends_later, turn_ends}
use Rattle.razor_core.proofs.SessionEnding.{BothRead, session_ends}
use Rattle.razor_core.proofs.Turns.{none_made, taken_before, taken_later}
use Rattle.razor_core.proofs.Calls.{first_ends, over_calls, second_ends, two_turns}
use Rattle.razor_core.specs.Meaning.{by_lines}
use Rattle.razor_core.proofs.commands.session.run_session.Goals as goal
use Rattle.razor_core.specs.Commands.Session.{editing}

pub run_in-requires-clause-names : goal.run_in-requires-clause-names
run_in-requires-clause-names g c = c.in-Ok-take.ensures.holds.numbers

pub returns-in-Err-clause-ends : goal.returns-in-Err-clause-ends
returns-in-Err-clause-ends g c = λ texts is.
    let first = c.args.files.first.now in
    let second = c.args.files.second.now in
    let before = seen (left_of g.D.Desk.reads texts) g.D.Desk.faults g.K.Sink.written g.K.Sink.faults c.args.desk.now c.args.out.now in
    let after = seen (left_of g.D.Desk.reads texts) g.D.Desk.faults g.K.Sink.written g.K.Sink.faults c.take.new.desk c.args.out.now in
    let still = none_made (g.K.Sink.written c.args.out.now) in
    turn_ends (editing (terms_seen c.args.terms.now) first second) before after [] [] (session_input first) (list_input second ∷ []) c.in-Err.ending
    (record { inputs_are = refl; passed = tt; kept = (kept_left (texts second) (c.in-Err.ensures.others second (λ e. c.args.files.apart (sym e))).0, tt) })
    (record { keeps = still; calm = refl; unread = λ file e. tt; pace = tt }) (c.in-Err.ensures.turn (texts first) (is first))

pub returns-in-Err-take-clause-ends : goal.returns-in-Err-take-clause-ends
returns-in-Err-take-clause-ends g c = λ texts is.
    let first = c.args.files.first.now in
    let second = c.args.files.second.now in
    let before = seen (left_of g.D.Desk.reads texts) g.D.Desk.faults g.K.Sink.written g.K.Sink.faults c.args.desk.now c.args.out.now in
    let after = seen (left_of g.D.Desk.reads texts) g.D.Desk.faults g.K.Sink.written g.K.Sink.faults c.take-2.new.desk c.args.out.now in
    let between = c.take.new.desk in
    let still = none_made (g.K.Sink.written c.args.out.now) in
    let events = c.in-Ok.session in
    turn_ends (editing (terms_seen c.args.terms.now) first second) before after (session_input first ∷ []) (session_value events ∷ []) (list_input second) [] c.in-Err-take.ending
    (record { inputs_are = refl; passed = ((c.in-Ok.ensures.turn (texts first) (still_may (c.in-Err-take.ensures.others first c.args.files.apart) (is first))).0, tt); kept = tt })
    (record { keeps = still; calm = refl; unread = λ file e. tt; pace = tt })
    (ends_later (list_input second) (before.remaining second) (left_of g.D.Desk.reads texts between second) (after.remaining second) (before.read_faults second) (g.D.Desk.faults between second) (after.read_faults second) c.in-Err-take.ending
    (kept_left (texts second) (c.in-Ok.ensures.others second (λ e. c.args.files.apart (sym e))).0) (c.in-Ok.ensures.counts second) (c.in-Err-take.ensures.turn (texts second) (is second)))

pub returns-clause-ends : goal.returns-clause-ends
returns-clause-ends g c = λ texts is.
    let first = c.args.files.first.now in
    let second = c.args.files.second.now in
    let events = c.in-Ok.session in
    let list = c.in-Ok-take.list in
    let start = left_of g.D.Desk.reads texts c.args.desk.now in
    let between = left_of g.D.Desk.reads texts c.take.new.desk in
    let end = left_of g.D.Desk.reads texts c.take-2.new.desk in
    let before = seen (left_of g.D.Desk.reads texts) g.D.Desk.faults g.K.Sink.written g.K.Sink.faults c.args.desk.now c.args.out.now in
    let after = seen (left_of g.D.Desk.reads texts) g.D.Desk.faults g.K.Sink.written g.K.Sink.faults c.take-2.new.desk c.run_in.new.out in
    let reads : BothRead first second before after events list = record {
      session_taken = taken_before (session_input first) (start first) (between first) (end first) (session_value events) (c.in-Ok.ensures.turn (texts first) (still_may (c.in-Ok-take.ensures.others first c.args.files.apart) (is first))) (kept_left (texts first) (c.in-Ok-take.ensures.others first c.args.files.apart).0);
      list_taken = taken_later (list_input second) (start second) (between second) (end second) (value_of list) (kept_left (texts second) (c.in-Ok.ensures.others second (λ e. c.args.files.apart (sym e))).0) (c.in-Ok-take.ensures.turn (texts second) (is second));
    } in
    session_ends (terms_seen c.args.terms.now) first second before after events list reads c.run_in.result c.run_in.ensures.ends

-- the reads and the writes
pub returns-in-Err-clause-calls : goal.returns-in-Err-clause-calls
returns-in-Err-clause-calls g c = first_ends by_lines c.args.files.first.now (c.args.files.second.now ∷ []) c.in-Err.ending (g.D.Desk.reads c.args.desk.now) (g.D.Desk.reads c.take.new.desk) (g.K.Sink.written c.args.out.now) c.in-Err.ensures.reads

pub returns-in-Err-take-clause-calls : goal.returns-in-Err-take-clause-calls
returns-in-Err-take-clause-calls g c = second_ends by_lines c.args.files.first.now c.args.files.second.now [] c.in-Err-take.ending (g.D.Desk.reads c.args.desk.now) (g.D.Desk.reads c.take.new.desk) (g.D.Desk.reads c.take-2.new.desk) (g.K.Sink.written c.args.out.now) c.in-Ok.ensures.reads c.in-Err-take.ensures.reads

pub returns-clause-calls : goal.returns-clause-calls
returns-clause-calls g c = over_calls by_lines (c.args.files.first.now ∷ c.args.files.second.now ∷ []) c.run_in.result (g.D.Desk.reads c.args.desk.now) (g.D.Desk.reads c.take-2.new.desk) (g.K.Sink.written c.args.out.now) (g.K.Sink.written c.run_in.new.out)
    (two_turns c.args.files.first.now c.args.files.second.now (g.D.Desk.reads c.args.desk.now) (g.D.Desk.reads c.take.new.desk) (g.D.Desk.reads c.take-2.new.desk) c.in-Ok.ensures.reads c.in-Ok-take.ensures.reads)
    c.run_in.ensures.writes

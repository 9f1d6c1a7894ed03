use Rattle.std.proofs.Common.{List, [], refl, sym, ℕ, ◌∷◌}
use Rattle.razor_base.specs.Texts.{left_of}
use Rattle.razor_core.specs.Commands.Verify.{verifying}
use Rattle.razor_core.specs.Inputs.{list_input, table_input}
use Rattle.razor_core.specs.Outside.{seen}
use Rattle.razor_core.specs.Taking.{table_value_of, value_of}
use Rattle.razor_core.proofs.PossibleTexts.{kept_left, still_may}
use Rattle.razor_core.proofs.Behind.{over_ends}
use Rattle.razor_core.proofs.Ended.{IsPlain}
use Rattle.razor_core.proofs.Passing.{both_pass, first_turn_ends, second_turn_ends}
use Rattle.razor_core.proofs.Turns.{none_made}
use Rattle.razor_core.proofs.Calls.{first_ends, over_calls, second_ends, two_turns}
use Rattle.razor_core.specs.Meaning.{at_the_end}
use Rattle.razor_core.proofs.commands.verify.verify_table.Goals as goal

plain : (first second : List ℕ) → IsPlain (verifying first second)
plain first second = record { unread = λ before after file. tt; pace = λ before after. tt; whole = λ e. cc; reads = refl }

pub returns-in-Err-clause-ends : goal.returns-in-Err-clause-ends
returns-in-Err-clause-ends g c = λ texts is.
    let first = c.args.files.first.now in
    let second = c.args.files.second.now in
    let before = seen (left_of g.D.Desk.reads texts) g.D.Desk.faults g.K.Sink.written g.K.Sink.faults c.args.desk.now c.args.out.now in
    let after = seen (left_of g.D.Desk.reads texts) g.D.Desk.faults g.K.Sink.written g.K.Sink.faults c.take.new.desk c.args.out.now in
    first_turn_ends before after (list_input first) (table_input second) (plain first second) refl c.in-Err.ending (none_made before.written) refl (kept_left (texts second) (c.in-Err.ensures.others second (λ e. c.args.files.apart (sym e))).0) (c.in-Err.ensures.turn (texts first) (is first))

pub returns-in-Err-take-clause-ends : goal.returns-in-Err-take-clause-ends
returns-in-Err-take-clause-ends g c = λ texts is.
    let first = c.args.files.first.now in
    let second = c.args.files.second.now in
    let before = seen (left_of g.D.Desk.reads texts) g.D.Desk.faults g.K.Sink.written g.K.Sink.faults c.args.desk.now c.args.out.now in
    let after = seen (left_of g.D.Desk.reads texts) g.D.Desk.faults g.K.Sink.written g.K.Sink.faults c.take-2.new.desk c.args.out.now in
    second_turn_ends before after (list_input first) (table_input second) (plain first second) refl c.in-Err-take.ending (left_of g.D.Desk.reads texts c.take.new.desk) (g.D.Desk.faults c.take.new.desk) (value_of c.in-Ok.list) (none_made before.written) refl
    (c.in-Ok.ensures.turn (texts first) (still_may (c.in-Err-take.ensures.others first c.args.files.apart) (is first))) (kept_left (texts second) (c.in-Ok.ensures.others second (λ e. c.args.files.apart (sym e))).0) (c.in-Ok.ensures.counts second) (c.in-Err-take.ensures.turn (texts second) (is second))

pub returns-clause-ends : goal.returns-clause-ends
returns-clause-ends g c = λ texts is.
    let first = c.args.files.first.now in
    let second = c.args.files.second.now in
    let before = seen (left_of g.D.Desk.reads texts) g.D.Desk.faults g.K.Sink.written g.K.Sink.faults c.args.desk.now c.args.out.now in
    let after = seen (left_of g.D.Desk.reads texts) g.D.Desk.faults g.K.Sink.written g.K.Sink.faults c.take-2.new.desk c.verify.new.out in
    over_ends (both_pass before after (list_input first) (table_input second) (plain first second) refl (left_of g.D.Desk.reads texts c.take.new.desk) (value_of c.in-Ok.list) (table_value_of c.in-Ok-take.table)
    (c.in-Ok.ensures.turn (texts first) (still_may (c.in-Ok-take.ensures.others first c.args.files.apart) (is first))) (kept_left (texts first) (c.in-Ok-take.ensures.others first c.args.files.apart).0) (kept_left (texts second) (c.in-Ok.ensures.others second (λ e. c.args.files.apart (sym e))).0) (c.in-Ok-take.ensures.turn (texts second) (is second)))
    c.verify.result (c.verify.ensures.ends first second)

-- the reads and the writes
pub returns-in-Err-clause-calls : goal.returns-in-Err-clause-calls
returns-in-Err-clause-calls g c = first_ends at_the_end c.args.files.first.now (c.args.files.second.now ∷ []) c.in-Err.ending (g.D.Desk.reads c.args.desk.now) (g.D.Desk.reads c.take.new.desk) (g.K.Sink.written c.args.out.now) c.in-Err.ensures.reads

pub returns-in-Err-take-clause-calls : goal.returns-in-Err-take-clause-calls
returns-in-Err-take-clause-calls g c = second_ends at_the_end c.args.files.first.now c.args.files.second.now [] c.in-Err-take.ending (g.D.Desk.reads c.args.desk.now) (g.D.Desk.reads c.take.new.desk) (g.D.Desk.reads c.take-2.new.desk) (g.K.Sink.written c.args.out.now) c.in-Ok.ensures.reads c.in-Err-take.ensures.reads

pub returns-clause-calls : goal.returns-clause-calls
returns-clause-calls g c = over_calls at_the_end (c.args.files.first.now ∷ c.args.files.second.now ∷ []) c.verify.result (g.D.Desk.reads c.args.desk.now) (g.D.Desk.reads c.take-2.new.desk) (g.K.Sink.written c.args.out.now) (g.K.Sink.written c.verify.new.out)
    (two_turns c.args.files.first.now c.args.files.second.now (g.D.Desk.reads c.args.desk.now) (g.D.Desk.reads c.take.new.desk) (g.D.Desk.reads c.take-2.new.desk) c.in-Ok.ensures.reads c.in-Ok-take.ensures.reads)
    c.verify.ensures.writes

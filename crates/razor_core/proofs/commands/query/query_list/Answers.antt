use Rattle.std.proofs.Common.{List, [], refl, ℕ, ◌∷◌}
use Rattle.std.specs.Prelude.{Option}
use Rattle.command_words.specs.Questions.{name_in}
use Rattle.field_boxes.specs.Headline.Classifier.{Interval}
use Rattle.field_boxes.specs.Spans.{intervals_of}
use Rattle.razor_base.specs.Texts.{left_of}
use Rattle.razor_core.specs.Commands.Query.{querying}
use Rattle.razor_core.specs.Inputs.{list_input}
use Rattle.razor_core.specs.Outside.{seen}
use Rattle.razor_core.specs.Taking.{value_of}
use Rattle.razor_core.proofs.Behind.{over_ends, text_over}
use Rattle.razor_core.proofs.Ended.{IsPlain, only_turn_ends}
use Rattle.razor_core.proofs.Passing.{one_passes}
use Rattle.razor_core.proofs.Turns.{none_made}
use Rattle.razor_core.proofs.Calls.{first_ends, one_turn, over_calls}
use Rattle.razor_core.specs.Meaning.{at_the_end}
use Rattle.razor_core.proofs.commands.query.query_list.Goals as goal

plain : (file : List ℕ) (box : List Interval) (name : Option (List ℕ)) → IsPlain (querying file box name)
plain file box name = record { unread = λ before after file. tt; pace = λ before after. tt; whole = λ e. cc; reads = refl }

pub returns-in-Err-clause-ends : goal.returns-in-Err-clause-ends
returns-in-Err-clause-ends g c = λ texts is.
    let before = seen (left_of g.D.Desk.reads texts) g.D.Desk.faults g.K.Sink.written g.K.Sink.faults c.args.desk.now c.args.out.now in
    let after = seen (left_of g.D.Desk.reads texts) g.D.Desk.faults g.K.Sink.written g.K.Sink.faults c.take.new.desk c.args.out.now in
    only_turn_ends before after c.in-Err.ending (list_input c.args.question.list.now) (plain c.args.question.list.now (intervals_of c.args.question.spans) (name_in c.args.question.decision.now)) refl (none_made (g.K.Sink.written c.args.out.now)) refl (c.in-Err.ensures.turn (texts c.args.question.list.now) (is c.args.question.list.now))

pub returns-clause-ends : goal.returns-clause-ends
returns-clause-ends g c = λ texts is.
    let before = seen (left_of g.D.Desk.reads texts) g.D.Desk.faults g.K.Sink.written g.K.Sink.faults c.args.desk.now c.args.out.now in
    let after = seen (left_of g.D.Desk.reads texts) g.D.Desk.faults g.K.Sink.written g.K.Sink.faults c.take.new.desk c.answer_question.new.out in
    let asked = plain c.args.question.list.now (intervals_of c.args.question.spans) (name_in c.args.question.decision.now) in
    over_ends (one_passes before after (list_input c.args.question.list.now) (value_of c.in-Ok.list) asked refl (c.in-Ok.ensures.turn (texts c.args.question.list.now) (is c.args.question.list.now))) c.answer_question.result
    (text_over (querying c.args.question.list.now (intervals_of c.args.question.spans) (name_in c.args.question.decision.now)) (value_of c.in-Ok.list ∷ []) before.written after.written before.write_faults after.write_faults asked (λ stop later. later) refl (λ text right. record { text = right; yes = refl; line = refl }) c.answer_question.result c.answer_question.ensures.ends)

-- the reads and the writes
pub returns-in-Err-clause-calls : goal.returns-in-Err-clause-calls
returns-in-Err-clause-calls g c = first_ends at_the_end c.args.question.list.now [] c.in-Err.ending (g.D.Desk.reads c.args.desk.now) (g.D.Desk.reads c.take.new.desk) (g.K.Sink.written c.args.out.now) c.in-Err.ensures.reads

pub returns-clause-calls : goal.returns-clause-calls
returns-clause-calls g c = over_calls at_the_end (c.args.question.list.now ∷ []) c.answer_question.result (g.D.Desk.reads c.args.desk.now) (g.D.Desk.reads c.take.new.desk) (g.K.Sink.written c.args.out.now) (g.K.Sink.written c.answer_question.new.out) (one_turn c.args.question.list.now (g.D.Desk.reads c.args.desk.now) (g.D.Desk.reads c.take.new.desk) c.in-Ok.ensures.reads)
    c.answer_question.ensures.writes

use Rattle.std.proofs.Common.{List, [], refl, ℕ, ◌∷◌}
use Rattle.razor_base.specs.Texts.{left_of}
use Rattle.razor_core.specs.Commands.Audit.{auditing}
use Rattle.razor_core.specs.Inputs.{list_input}
use Rattle.razor_core.specs.Outside.{seen}
use Rattle.razor_core.specs.Taking.{value_of}
use Rattle.razor_core.proofs.Behind.{over_ends, text_over}
use Rattle.razor_core.proofs.Ended.{IsPlain, only_turn_ends}
use Rattle.razor_core.proofs.Passing.{one_passes}
use Rattle.razor_core.proofs.Turns.{none_made}
use Rattle.razor_core.proofs.Calls.{first_ends, one_turn, over_calls}
use Rattle.razor_core.specs.Meaning.{at_the_end}
use Rattle.razor_core.proofs.commands.audit.audit_list.Goals as goal

plain : (file : List ℕ) → IsPlain (auditing file)
plain file = record { unread = λ before after file. tt; pace = λ before after. tt; whole = λ e. cc; reads = refl }

pub returns-in-Err-clause-ends : goal.returns-in-Err-clause-ends
returns-in-Err-clause-ends g c = λ texts is.
    let before = seen (left_of g.D.Desk.reads texts) g.D.Desk.faults g.K.Sink.written g.K.Sink.faults c.args.desk.now c.args.out.now in
    let after = seen (left_of g.D.Desk.reads texts) g.D.Desk.faults g.K.Sink.written g.K.Sink.faults c.take.new.desk c.args.out.now in
    only_turn_ends before after c.in-Err.ending (list_input c.args.file.now) (plain c.args.file.now) refl (none_made (g.K.Sink.written c.args.out.now)) refl (c.in-Err.ensures.turn (texts c.args.file.now) (is c.args.file.now))

pub returns-clause-ends : goal.returns-clause-ends
returns-clause-ends g c = λ texts is.
    let before = seen (left_of g.D.Desk.reads texts) g.D.Desk.faults g.K.Sink.written g.K.Sink.faults c.args.desk.now c.args.out.now in
    let after = seen (left_of g.D.Desk.reads texts) g.D.Desk.faults g.K.Sink.written g.K.Sink.faults c.take.new.desk c.answer_audit.new.out in
    over_ends (one_passes before after (list_input c.args.file.now) (value_of c.in-Ok.list) (plain c.args.file.now) refl (c.in-Ok.ensures.turn (texts c.args.file.now) (is c.args.file.now))) c.answer_audit.result
    (text_over (auditing c.args.file.now) (value_of c.in-Ok.list ∷ []) before.written after.written before.write_faults after.write_faults (plain c.args.file.now) (λ stop later. later) refl (λ text right. record { text = right; yes = refl; line = refl }) c.answer_audit.result c.answer_audit.ensures.ends)

-- the reads and the writes
pub returns-in-Err-clause-calls : goal.returns-in-Err-clause-calls
returns-in-Err-clause-calls g c = first_ends at_the_end c.args.file.now [] c.in-Err.ending (g.D.Desk.reads c.args.desk.now) (g.D.Desk.reads c.take.new.desk) (g.K.Sink.written c.args.out.now) c.in-Err.ensures.reads

pub returns-clause-calls : goal.returns-clause-calls
returns-clause-calls g c = over_calls at_the_end (c.args.file.now ∷ []) c.answer_audit.result (g.D.Desk.reads c.args.desk.now) (g.D.Desk.reads c.take.new.desk) (g.K.Sink.written c.args.out.now) (g.K.Sink.written c.answer_audit.new.out) (one_turn c.args.file.now (g.D.Desk.reads c.args.desk.now) (g.D.Desk.reads c.take.new.desk) c.in-Ok.ensures.reads)
    c.answer_audit.ensures.writes

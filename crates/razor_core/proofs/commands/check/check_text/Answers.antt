use Rattle.std.proofs.Common.{◌≡◌, ◌++◌, ◌∙◌, [], append-nil, refl, sym, take}
use Rattle.std.specs.Prelude.{false, true}
use Rattle.std.proofs.lemmas.Bool.{false≢true}
use Rattle.razor_base.specs.Texts.{left_of}
use Rattle.razor_core.specs.Commands.Check.{is_proof}
use Rattle.razor_core.specs.Outside.{seen}
use Rattle.razor_core.proofs.Turns.{none_made}
use Rattle.razor_core.proofs.Calls.{first_ends}
use Rattle.razor_core.specs.Meaning.{at_the_end}
use Rattle.razor_core.specs.declared.ending.Ending.TheVariants.{ReadFault}
use Rattle.razor_core.proofs.Fronts.{begun_short, calls_behind_pieces, calls_by, front_parts, grown_behind, left_by, no_more, part_turn, right_front, whole_check}
use Rattle.razor_core.proofs.commands.check.check_text.Goals as goal

pub returns-in-Err-clause-ends : goal.returns-in-Err-clause-ends
returns-in-Err-clause-ends g c = λ texts is.
    let name = c.args.file.now in
    let old = g.D.Desk.reads c.args.desk.now in
    let mid = g.D.Desk.reads c.read_front.new.desk in
    let little = c.in-Err.ensures.failed.1 in
    let text = left_of g.D.Desk.reads texts c.args.desk.now name in
    let left = left_of g.D.Desk.reads texts c.read_front.new.desk name in
    let parts : text ≡ little.front ++ left = front_parts old mid mid name (texts name) little.front [] little.given (sym (append-nil mid)) (is name) in
    (refl, none_made (g.K.Sink.written c.args.out.now), c.in-Err.ensures.failed.0, right_front (is_proof text) c.args.list.now c.args.table.now text left little.front parts (begun_short little.front little.begun))

pub returns-then-is_proof-clause-ends : goal.returns-then-is_proof-clause-ends
returns-then-is_proof-clause-ends g c = λ texts is.
    let name = c.args.file.now in
    let old = g.D.Desk.reads c.args.desk.now in
    let mid = g.D.Desk.reads c.read_front.new.desk in
    let last = g.D.Desk.reads c.check_agreement.new.desk in
    let front = take c.in-Ok.front.read c.read_front.new.buffer in
    let more = c.check_agreement.ensures.calls.reads in
    let start = seen (left_of g.D.Desk.reads texts) g.D.Desk.faults g.K.Sink.written g.K.Sink.faults c.args.desk.now c.args.out.now in
    let between = seen (left_of g.D.Desk.reads texts) g.D.Desk.faults g.K.Sink.written g.K.Sink.faults c.read_front.new.desk c.args.out.now in
    let after = seen (left_of g.D.Desk.reads texts) g.D.Desk.faults g.K.Sink.written g.K.Sink.faults c.check_agreement.new.desk c.check_agreement.new.out in
    let proof : is_proof front ≡ true = sym c.is_proof.ensures ∙ c.if-is_proof.true in
    whole_check true false c.args.list.now c.args.table.now name (start.remaining name) front (between.remaining name) start between after c.check_agreement.result
    (front_parts old mid last name (texts name) front more.0 c.in-Ok.ensures.front more.1 (is name)) (no_more front proof) (λ t. absurd (false≢true t)) proof refl refl (c.in-Ok.ensures.counts name) (c.check_agreement.ensures.ends texts is)

pub returns-else-is_proof-clause-ends : goal.returns-else-is_proof-clause-ends
returns-else-is_proof-clause-ends g c = λ texts is.
    let name = c.args.file.now in
    let old = g.D.Desk.reads c.args.desk.now in
    let mid = g.D.Desk.reads c.read_front.new.desk in
    let last = g.D.Desk.reads c.check_rows.new.desk in
    let whole = c.in-Ok.front.whole in
    let front = take c.in-Ok.front.read c.read_front.new.buffer in
    let calls = c.check_rows.ensures.calls in
    let more = grown_behind name whole mid last (g.K.Sink.written c.args.out.now) (g.K.Sink.written c.check_rows.new.out) c.check_rows.result calls in
    let none = left_by name (texts name) whole mid last (g.K.Sink.written c.args.out.now) (g.K.Sink.written c.check_rows.new.out) c.check_rows.result calls c.in-Ok.ensures.ended (is name) in
    let start = seen (left_of g.D.Desk.reads texts) g.D.Desk.faults g.K.Sink.written g.K.Sink.faults c.args.desk.now c.args.out.now in
    let between = seen (left_of g.D.Desk.reads texts) g.D.Desk.faults g.K.Sink.written g.K.Sink.faults c.read_front.new.desk c.args.out.now in
    let after = seen (left_of g.D.Desk.reads texts) g.D.Desk.faults g.K.Sink.written g.K.Sink.faults c.check_rows.new.desk c.check_rows.new.out in
    let rows : is_proof front ≡ false = sym c.is_proof.ensures ∙ c.if-is_proof.false in
    whole_check false whole c.args.list.now c.args.table.now name (start.remaining name) front (between.remaining name) start between after c.check_rows.result
    (front_parts old mid last name (texts name) front more.0 c.in-Ok.ensures.front more.1 (is name)) c.in-Ok.ensures.kind none rows refl refl (c.in-Ok.ensures.counts name) (c.check_rows.ensures.ends texts is none)

-- the reads and the writes
pub returns-in-Err-clause-calls : goal.returns-in-Err-clause-calls
returns-in-Err-clause-calls g c = first_ends at_the_end c.args.file.now [] (ReadFault c.args.file) (g.D.Desk.reads c.args.desk.now) (g.D.Desk.reads c.read_front.new.desk) (g.K.Sink.written c.args.out.now) c.in-Err.ensures.turn

pub returns-then-is_proof-clause-calls : goal.returns-then-is_proof-clause-calls
returns-then-is_proof-clause-calls g c =
    let name = c.args.file.now in
    let old = g.D.Desk.reads c.args.desk.now in
    let mid = g.D.Desk.reads c.read_front.new.desk in
    let front = take c.in-Ok.front.read c.read_front.new.buffer in
    let proof : is_proof front ≡ true = sym c.is_proof.ensures ∙ c.if-is_proof.true in
    calls_behind_pieces name c.check_agreement.result old mid (g.D.Desk.reads c.check_agreement.new.desk) (g.K.Sink.written c.args.out.now) (g.K.Sink.written c.check_agreement.new.out)
    (part_turn name c.in-Ok.front.whole old mid (sym c.in-Ok.ensures.kind ∙ no_more front proof) c.in-Ok.ensures.turn) c.check_agreement.ensures.calls

pub returns-else-is_proof-clause-calls : goal.returns-else-is_proof-clause-calls
returns-else-is_proof-clause-calls g c =
    calls_by c.args.file.now c.in-Ok.front.whole c.check_rows.result (g.D.Desk.reads c.args.desk.now) (g.D.Desk.reads c.read_front.new.desk) (g.D.Desk.reads c.check_rows.new.desk) (g.K.Sink.written c.args.out.now) (g.K.Sink.written c.check_rows.new.out)
    c.in-Ok.ensures.turn c.check_rows.ensures.calls

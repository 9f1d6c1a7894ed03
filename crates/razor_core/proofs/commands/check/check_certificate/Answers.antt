use Rattle.std.proofs.Common.{[], ◌∷◌, ◌∙◌, arith, refl, sym}
use Rattle.razor_base.specs.Texts.{left_of}
use Rattle.razor_core.specs.Inputs.{certificate_input, list_input, table_input}
use Rattle.razor_core.specs.Outside.{seen}
use Rattle.razor_core.specs.Taking.{table_value_of, value_of}
use Rattle.razor_core.proofs.PossibleTexts.{kept_left, still_may}
use Rattle.razor_core.proofs.CheckEnding.{Checked, check_ends}
use Rattle.razor_core.proofs.Ended.{ends_later, turn_ends}
use Rattle.razor_core.proofs.Turns.{none_made, taken_before, taken_later}
use Rattle.razor_core.proofs.Calls.{calls_behind, first_ends, second_ends, two_turns}
use Rattle.razor_core.specs.Meaning.{at_the_end}
use Rattle.razor_core.proofs.commands.check.check_certificate.Goals as goal
use Rattle.razor_core.specs.Commands.Check.{checking}

pub returns-in-Err-clause-ends : goal.returns-in-Err-clause-ends
returns-in-Err-clause-ends g c = λ texts is.
    let first = c.args.files.first.now in
    let second = c.args.files.second.now in
    let third = c.args.files.third.now in
    let before = seen (left_of g.D.Desk.reads texts) g.D.Desk.faults g.K.Sink.written g.K.Sink.faults c.args.desk.now c.args.out.now in
    let after = seen (left_of g.D.Desk.reads texts) g.D.Desk.faults g.K.Sink.written g.K.Sink.faults c.take.new.desk c.args.out.now in
    let still = none_made (g.K.Sink.written c.args.out.now) in
    turn_ends (checking first second third) before after [] [] (list_input first) (table_input second ∷ certificate_input third ∷ []) c.in-Err.ending
    (record {
      inputs_are = refl;
      passed = tt;
      kept = (kept_left (texts second) (c.in-Err.ensures.others second (λ e. c.args.files.front (sym e))).0, (kept_left (texts third) (c.in-Err.ensures.others third (λ e. c.args.files.ends (sym e))).0, tt));
    })
    (record { keeps = still; calm = refl; unread = λ file e same. absurd (c.args.files.ends (sym e ∙ same)); pace = tt }) (c.in-Err.ensures.turn (texts first) (is first))

pub returns-in-Err-take-clause-ends : goal.returns-in-Err-take-clause-ends
returns-in-Err-take-clause-ends g c = λ texts is.
    let first = c.args.files.first.now in
    let second = c.args.files.second.now in
    let third = c.args.files.third.now in
    let before = seen (left_of g.D.Desk.reads texts) g.D.Desk.faults g.K.Sink.written g.K.Sink.faults c.args.desk.now c.args.out.now in
    let after = seen (left_of g.D.Desk.reads texts) g.D.Desk.faults g.K.Sink.written g.K.Sink.faults c.take-2.new.desk c.args.out.now in
    let between = c.take.new.desk in
    let list = c.in-Ok.list in
    let still = none_made (g.K.Sink.written c.args.out.now) in
    turn_ends (checking first second third) before after (list_input first ∷ []) (value_of list ∷ []) (table_input second) (certificate_input third ∷ []) c.in-Err-take.ending
    (record {
      inputs_are = refl;
      passed = ((c.in-Ok.ensures.turn (texts first) (still_may (c.in-Err-take.ensures.others first c.args.files.front) (is first))).0, tt);
      kept = ((kept_left (texts third) (c.in-Err-take.ensures.others third (λ e. c.args.files.back (sym e))).0) ∙ (kept_left (texts third) (c.in-Ok.ensures.others third (λ e. c.args.files.ends (sym e))).0), tt);
    })
    (record { keeps = still; calm = refl; unread = λ file e same. absurd (c.args.files.back (sym e ∙ same)); pace = tt })
    (ends_later (table_input second) (before.remaining second) (left_of g.D.Desk.reads texts between second) (after.remaining second) (before.read_faults second) (g.D.Desk.faults between second) (after.read_faults second) c.in-Err-take.ending
    (kept_left (texts second) (c.in-Ok.ensures.others second (λ e. c.args.files.front (sym e))).0) (c.in-Ok.ensures.counts second) (c.in-Err-take.ensures.turn (texts second) (is second)))

pub returns-clause-ends : goal.returns-clause-ends
returns-clause-ends g c = λ texts is.
    let first = c.args.files.first.now in
    let second = c.args.files.second.now in
    let third = c.args.files.third.now in
    let list = c.in-Ok.list in
    let table = c.in-Ok-take.table in
    let start = left_of g.D.Desk.reads texts c.args.desk.now in
    let one = left_of g.D.Desk.reads texts c.take.new.desk in
    let two = left_of g.D.Desk.reads texts c.take-2.new.desk in
    let end = left_of g.D.Desk.reads texts c.check_text.new.desk in
    let faults = g.D.Desk.faults c.take-2.new.desk in
    let before = seen (left_of g.D.Desk.reads texts) g.D.Desk.faults g.K.Sink.written g.K.Sink.faults c.args.desk.now c.args.out.now in
    let after = seen (left_of g.D.Desk.reads texts) g.D.Desk.faults g.K.Sink.written g.K.Sink.faults c.check_text.new.desk c.check_text.new.out in
    let counted = c.in-Ok.ensures.counts third in
    let counted_later = c.in-Ok-take.ensures.counts third in
    let checked : Checked first second third before after list table (two third) (faults third) = record {
      reads = record {
        list_taken = taken_before (list_input first) (start first) (two first) (end first) (value_of list)
            (taken_before (list_input first) (start first) (one first) (two first) (value_of list) (c.in-Ok.ensures.turn (texts first) (still_may (c.in-Ok-take.ensures.others first c.args.files.front) (still_may (c.check_text.ensures.others first c.args.files.ends) (is first)))) (kept_left (texts first) (c.in-Ok-take.ensures.others first c.args.files.front).0))
            (kept_left (texts first) (c.check_text.ensures.others first c.args.files.ends).0);
        table_taken = taken_before (table_input second) (start second) (two second) (end second) (table_value_of table)
            (taken_later (table_input second) (start second) (one second) (two second) (table_value_of table) (kept_left (texts second) (c.in-Ok.ensures.others second (λ e. c.args.files.front (sym e))).0) (c.in-Ok-take.ensures.turn (texts second) (still_may (c.check_text.ensures.others second c.args.files.back) (is second))))
            (kept_left (texts second) (c.check_text.ensures.others second c.args.files.back).0);
      };
      kept = (kept_left (texts third) (c.in-Ok-take.ensures.others third (λ e. c.args.files.back (sym e))).0) ∙ (kept_left (texts third) (c.in-Ok.ensures.others third (λ e. c.args.files.ends (sym e))).0);
      counts = omega (arith, counted, counted_later);
    } in
    check_ends first second third before after list table two faults checked c.equal_lists_have_one_verdict.ensures c.equal_lists_have_one_verdict-2.ensures c.check_text.result (c.check_text.ensures.ends texts is)

-- the reads and the writes
pub returns-in-Err-clause-calls : goal.returns-in-Err-clause-calls
returns-in-Err-clause-calls g c = first_ends at_the_end c.args.files.first.now (c.args.files.second.now ∷ c.args.files.third.now ∷ []) c.in-Err.ending (g.D.Desk.reads c.args.desk.now) (g.D.Desk.reads c.take.new.desk) (g.K.Sink.written c.args.out.now) c.in-Err.ensures.reads

pub returns-in-Err-take-clause-calls : goal.returns-in-Err-take-clause-calls
returns-in-Err-take-clause-calls g c = second_ends at_the_end c.args.files.first.now c.args.files.second.now (c.args.files.third.now ∷ []) c.in-Err-take.ending (g.D.Desk.reads c.args.desk.now) (g.D.Desk.reads c.take.new.desk) (g.D.Desk.reads c.take-2.new.desk) (g.K.Sink.written c.args.out.now) c.in-Ok.ensures.reads c.in-Err-take.ensures.reads

pub returns-clause-calls : goal.returns-clause-calls
returns-clause-calls g c = calls_behind at_the_end (c.args.files.first.now ∷ c.args.files.second.now ∷ []) (c.args.files.third.now ∷ []) c.check_text.result (g.D.Desk.reads c.args.desk.now) (g.D.Desk.reads c.take-2.new.desk) (g.D.Desk.reads c.check_text.new.desk) (g.K.Sink.written c.args.out.now) (g.K.Sink.written c.check_text.new.out)
    (two_turns c.args.files.first.now c.args.files.second.now (g.D.Desk.reads c.args.desk.now) (g.D.Desk.reads c.take.new.desk) (g.D.Desk.reads c.take-2.new.desk) c.in-Ok.ensures.reads c.in-Ok-take.ensures.reads) c.check_text.ensures.calls

use Rattle.std.proofs.Common.{◌∙◌, ◌∷◌, ◌≡◌, [], ℕ, List, None, ap, inl, length, refl, subst, sym}
use Rattle.std.specs.Prelude.{All, map, ◌++◌}
use Rattle.std.specs.Borrow.{Bor}
use Rattle.razor_base.specs.Output.{Appends}
use Rattle.std.proofs.lemmas.List.{length-map, length-replicate}
use Rattle.ternary_words.specs.declared.table.Table.{Table}
use Rattle.bank_update.specs.Driven as drives
use Rattle.bank_update.specs.Machine.{State}
use Rattle.bank_update.specs.Whole.{unsettled}
use Rattle.bank_update.specs.Runs.{IsRun}
use Rattle.bank_update.proofs.Driving.{runs-of}
use Rattle.tcam_sim.specs.Bank.{sets_of}
use Rattle.bank_update.specs.Script.{IsWithin}
use Rattle.razor_base.specs.Texts.{left_of}
use Rattle.razor_base.specs.Headline.Readings.{ended, given}
use Rattle.razor_base.proofs.Coming.{itself}
use Rattle.razor_core.specs.Inputs.{script_input, script_value, table_input}
use Rattle.razor_core.specs.Outside.{seen}
use Rattle.razor_core.specs.Taking.{EndsTurn, TakesTurn, table_value_of}
use Rattle.razor_core.proofs.DriveEnding.{Driven, drive_ends}
use Rattle.razor_core.proofs.Ended.{turn_ends}
use Rattle.razor_core.proofs.PossibleTexts.{kept_left, still_may}
use Rattle.razor_core.proofs.Tables.{all_fail_later, all_passed, all_stay, all_taken_later, among_ends, none_later, none_of_inputs, stay_kept, taken_length, texts}
use Rattle.razor_core.proofs.Turns.{none_made, pass_behind, taken_before}
use Rattle.razor_core.specs.Calls.{names_of}
use Rattle.razor_core.specs.Meaning.{by_lines}
use Rattle.razor_core.specs.declared.ending.Ending.TheVariants.{Memory}
use Rattle.razor_base.proofs.Writing.{made-none}
use Rattle.razor_core.proofs.Calls.{among_calls, calls_behind, first_ends, one_turn, over_calls, turns_more}
use Rattle.razor_core.proofs.CallsOf.{drive_writes, table_names}
use Rattle.razor_core.proofs.commands.drive.run_tables.Goals as goal
use Rattle.razor_core.specs.Commands.Drive.{swapping}

pub returns-in-Err-clause-ends : goal.returns-in-Err-clause-ends
returns-in-Err-clause-ends g c = λ holds is.
    let script = c.args.script.now in
    let files = texts c.args.files.now in
    let slots = c.args.slots.count in
    let count_is = length-map c.args.files.now (λ (word : Bor (List ℕ)). word.now) in
    let differ = c.requires.apart in
    let before = seen (left_of g.D.Desk.reads holds) g.D.Desk.faults g.K.Sink.written g.K.Sink.faults c.args.desk.now c.args.out.now in
    let after = seen (left_of g.D.Desk.reads holds) g.D.Desk.faults g.K.Sink.written g.K.Sink.faults c.take.new.desk c.args.out.now in
    let still = none_made (g.K.Sink.written c.args.out.now) in
    turn_ends (swapping slots script files) before after [] [] (script_input (length files) script) (map table_input files) c.in-Err.ending (record { inputs_are = refl; passed = tt; kept = stay_kept before after files (all_stay script files before.remaining after.remaining (none_later script files differ) (λ other apart. kept_left (holds other) (c.in-Err.ensures.others other apart).0)) })
    (record { keeps = still; calm = refl; unread = λ file e. tt; pace = tt })
    (subst (λ (n : ℕ). EndsTurn (script_input n script) (before.remaining script) (after.remaining script) (before.read_faults script) (after.read_faults script) c.in-Err.ending) (sym count_is) (c.in-Err.ensures.turn (holds script) (is script)))

pub returns-in-Err-take_tables-clause-ends : goal.returns-in-Err-take_tables-clause-ends
returns-in-Err-take_tables-clause-ends g c = λ holds is.
    let script = c.args.script.now in
    let files = texts c.args.files.now in
    let slots = c.args.slots.count in
    let count_is = length-map c.args.files.now (λ (word : Bor (List ℕ)). word.now) in
    let before = seen (left_of g.D.Desk.reads holds) g.D.Desk.faults g.K.Sink.written g.K.Sink.faults c.args.desk.now c.args.out.now in
    let differ = c.requires.apart in
    let none = none_later script files differ in
    let start = left_of g.D.Desk.reads holds c.args.desk.now in
    let between = left_of g.D.Desk.reads holds c.take.new.desk in
    let end = left_of g.D.Desk.reads holds c.take_tables.new.desk in
    let events = c.in-Ok.script in
    let taken = subst (λ (n : ℕ). TakesTurn (script_input n script) (start script) (between script) (script_value events)) (sym count_is) (c.in-Ok.ensures.turn (holds script) (still_may (c.take_tables.ensures.others script none) (is script))) in
    let after = seen (left_of g.D.Desk.reads holds) g.D.Desk.faults g.K.Sink.written g.K.Sink.faults c.take_tables.new.desk c.args.out.now in
    let still = none_made (g.K.Sink.written c.args.out.now) in
    let ending = c.in-Err-take_tables.ending in
    among_ends (swapping slots script files) before after (script_input (length files) script ∷ []) (script_value events ∷ []) files ending refl
    (taken.0, tt)
    (λ name. record { keeps = still; calm = refl; unread = λ file e. tt; pace = tt })
    (all_fail_later script files start between end (g.D.Desk.faults c.args.desk.now) (g.D.Desk.faults c.take.new.desk) (g.D.Desk.faults c.take_tables.new.desk) ending none (λ other apart. kept_left (holds other) (c.in-Ok.ensures.others other apart).0) c.in-Ok.ensures.counts
    (c.in-Err-take_tables.ensures.ended holds is))

pub returns-in-Err-take_tables-clause-others : goal.returns-in-Err-take_tables-clause-others
returns-in-Err-take_tables-clause-others g c = λ other none.
    let first = c.in-Ok.ensures.others other none.0 in
    let later = c.take_tables.ensures.others other (none_of_inputs other (texts c.args.files.now) none.1) in
    (later.0 ∙ first.0, later.1 ∙ first.1)

pub returns-in-Err-new-clause-ends : goal.returns-in-Err-new-clause-ends
returns-in-Err-new-clause-ends g c = λ holds is.
    let script = c.args.script.now in
    let files = texts c.args.files.now in
    let slots = c.args.slots.count in
    let count_is = length-map c.args.files.now (λ (word : Bor (List ℕ)). word.now) in
    let differ = c.requires.apart in
    let none = none_later script files differ in
    let start = left_of g.D.Desk.reads holds c.args.desk.now in
    let between = left_of g.D.Desk.reads holds c.take.new.desk in
    let end = left_of g.D.Desk.reads holds c.take_tables.new.desk in
    let events = c.in-Ok.script in
    let taken = subst (λ (n : ℕ). TakesTurn (script_input n script) (start script) (between script) (script_value events)) (sym count_is) (c.in-Ok.ensures.turn (holds script) (still_may (c.take_tables.ensures.others script none) (is script))) in
    let before = seen (left_of g.D.Desk.reads holds) g.D.Desk.faults g.K.Sink.written g.K.Sink.faults c.args.desk.now c.args.out.now in
    let after = seen (left_of g.D.Desk.reads holds) g.D.Desk.faults g.K.Sink.written g.K.Sink.faults c.take_tables.new.desk c.args.out.now in
    let added = c.in_default.ensures.taken holds is in
    let still = none_made (g.K.Sink.written c.args.out.now) in (
      refl,
      (inl still, tt),
      pass_behind before after (swapping slots script files).inputs (script_value events ∷ map table_value_of added.0) (
        taken.0,
        all_passed before after files added.0 (all_taken_later script files start between end added.0 none (λ other apart. kept_left (holds other) (c.in-Ok.ensures.others other apart).0) added.1),
      ),
    )

pub returns-in-Err-new-clause-others : goal.returns-in-Err-new-clause-others
returns-in-Err-new-clause-others g c = λ other none.
    let first = c.in-Ok.ensures.others other none.0 in
    let later = c.take_tables.ensures.others other (none_of_inputs other (texts c.args.files.now) none.1) in
    (later.0 ∙ first.0, later.1 ∙ first.1)

pub drive_on-ended-requires : goal.drive_on-ended-requires
drive_on-ended-requires g c =
    let rest = c.args.files.now in
    let files = texts rest in
    let last = g.D.Desk.reads c.take_tables.new.desk in
    let texts_are : List ℕ → List ℕ = given last in
    let added = c.in_default.ensures.taken texts_are (λ name. itself (given last name) (ended last name)) in
    let count = length-map rest (λ (word : Bor (List ℕ)). word.now) in
    let tables = ap length (c.deref.ensures.value ∙ added.2 ∙ ap (λ (ts : List Table). ts ++ added.0) c.new-tables.ensures.items) in
    let same : length rest ≡ length c.deref.result.now = sym count ∙ sym (taken_length files (left_of g.D.Desk.reads texts_are c.take.new.desk) (left_of g.D.Desk.reads texts_are c.take_tables.new.desk) added.0 added.1) ∙ sym tables in
    subst (λ (n : ℕ). All (IsWithin n) c.in-Ok.script) same c.in-Ok.ensures.holds

pub returns-clause-ends : goal.returns-clause-ends
returns-clause-ends g c = λ holds is.
    let script = c.args.script.now in
    let files = texts c.args.files.now in
    let slots = c.args.slots.count in
    let count_is = length-map c.args.files.now (λ (word : Bor (List ℕ)). word.now) in
    let before = seen (left_of g.D.Desk.reads holds) g.D.Desk.faults g.K.Sink.written g.K.Sink.faults c.args.desk.now c.args.out.now in
    let differ = c.requires.apart in
    let none = none_later script files differ in
    let start = left_of g.D.Desk.reads holds c.args.desk.now in
    let between = left_of g.D.Desk.reads holds c.take.new.desk in
    let end = left_of g.D.Desk.reads holds c.take_tables.new.desk in
    let events = c.in-Ok.script in
    let taken = subst (λ (n : ℕ). TakesTurn (script_input n script) (start script) (between script) (script_value events)) (sym count_is) (c.in-Ok.ensures.turn (holds script) (still_may (c.take_tables.ensures.others script none) (is script))) in
    let after = seen (left_of g.D.Desk.reads holds) g.D.Desk.faults g.K.Sink.written g.K.Sink.faults c.take_tables.new.desk c.drive_on-ended.new.out in
    let added = c.in_default.ensures.taken holds is in
    let tables_are : c.deref.result.now ≡ added.0 = c.deref.ensures.value ∙ added.2 ∙ ap (λ (ts : List Table). ts ++ added.0) c.new-tables.ensures.items in
    let last = c.drive_on-ended.new.swapper.state in
    let state_is = c.new-swapper.ensures.state ∙ ap (λ slots_held. unsettled (length slots_held)) c.in-Ok-new.ensures.empty ∙ ap unsettled (length-replicate slots None) in
    let appended = Appends (g.K.Sink.written c.args.out.now) (g.K.Sink.written c.drive_on-ended.new.out) in
    let run : Driven slots script files before after events added.0 last c.drive_on-ended.result = record {
      script_taken = taken_before (script_input (length files) script) (start script) (between script) (end script) (script_value events) taken (kept_left (holds script) (c.take_tables.ensures.others script none).0);
      tables_taken = all_taken_later script files start between end added.0 none (λ other apart. kept_left (holds other) (c.in-Ok.ensures.others other apart).0) added.1;
      outcome = subst (λ (ts : List Table). drives.Outcome (IsRun ts (unsettled slots) last 0 0) appended events c.drive_on-ended.result) tables_are
          (subst (λ (s : State). drives.Outcome (IsRun c.deref.result.now s last 0 0) appended events c.drive_on-ended.result) state_is (runs-of c.deref.result.now c.new-swapper.result.state last 0 0 (sets_of c.new-swapper.result.device) (sets_of c.drive_on-ended.new.swapper.device) appended events c.drive_on-ended.result c.drive_on-ended.ensures.outcome));
      write_fault = c.drive_on-ended.ensures.write_fault;
      calm = c.drive_on-ended.ensures.calm;
    } in
    drive_ends c.a_run_without_faults_is_the_session.ensures.lines slots script files before after events added.0 last c.drive_on-ended.result c.drive_ended.result run c.drive_ended.ensures

pub returns-clause-others : goal.returns-clause-others
returns-clause-others g c = λ other none.
    let first = c.in-Ok.ensures.others other none.0 in
    let later = c.take_tables.ensures.others other (none_of_inputs other (texts c.args.files.now) none.1) in
    (later.0 ∙ first.0, later.1 ∙ first.1)

-- the reads and the writes
named : (script : List ℕ) (files : List (List ℕ)) (slots : ℕ) → names_of (swapping slots script files) ≡ script ∷ files
named script files slots = ap (λ (names : List (List ℕ)). script ∷ names) (table_names files)

pub returns-in-Err-clause-calls : goal.returns-in-Err-clause-calls
returns-in-Err-clause-calls g c = rw (named c.args.script.now (texts c.args.files.now) c.args.slots.count) (first_ends by_lines c.args.script.now (texts c.args.files.now) c.in-Err.ending (g.D.Desk.reads c.args.desk.now) (g.D.Desk.reads c.take.new.desk) (g.K.Sink.written c.args.out.now) c.in-Err.ensures.reads)

pub returns-in-Err-take_tables-clause-calls : goal.returns-in-Err-take_tables-clause-calls
returns-in-Err-take_tables-clause-calls g c = rw (named c.args.script.now (texts c.args.files.now) c.args.slots.count) (calls_behind by_lines (c.args.script.now ∷ []) (texts c.args.files.now) c.in-Err-take_tables.ending (g.D.Desk.reads c.args.desk.now) (g.D.Desk.reads c.take.new.desk) (g.D.Desk.reads c.take_tables.new.desk) (g.K.Sink.written c.args.out.now) (g.K.Sink.written c.args.out.now) (one_turn c.args.script.now (g.D.Desk.reads c.args.desk.now) (g.D.Desk.reads c.take.new.desk) c.in-Ok.ensures.reads)
    (among_calls by_lines (texts c.args.files.now) c.in-Err-take_tables.ending (g.D.Desk.reads c.take.new.desk) (g.D.Desk.reads c.take_tables.new.desk) (g.K.Sink.written c.args.out.now) c.in-Err-take_tables.ensures.reads))

pub returns-in-Err-new-clause-calls : goal.returns-in-Err-new-clause-calls
returns-in-Err-new-clause-calls g c = rw (named c.args.script.now (texts c.args.files.now) c.args.slots.count) (over_calls by_lines (c.args.script.now ∷ (texts c.args.files.now)) Memory (g.D.Desk.reads c.args.desk.now) (g.D.Desk.reads c.take_tables.new.desk) (g.K.Sink.written c.args.out.now) (g.K.Sink.written c.args.out.now) (turns_more (c.args.script.now ∷ []) (texts c.args.files.now) (g.D.Desk.reads c.args.desk.now) (g.D.Desk.reads c.take.new.desk) (g.D.Desk.reads c.take_tables.new.desk) (one_turn c.args.script.now (g.D.Desk.reads c.args.desk.now) (g.D.Desk.reads c.take.new.desk) c.in-Ok.ensures.reads) c.in_default.ensures.reads) (made-none (g.K.Sink.written c.args.out.now)))

pub returns-clause-calls : goal.returns-clause-calls
returns-clause-calls g c = rw (named c.args.script.now (texts c.args.files.now) c.args.slots.count) (over_calls by_lines (c.args.script.now ∷ (texts c.args.files.now)) c.drive_ended.result (g.D.Desk.reads c.args.desk.now) (g.D.Desk.reads c.take_tables.new.desk) (g.K.Sink.written c.args.out.now) (g.K.Sink.written c.drive_on-ended.new.out) (turns_more (c.args.script.now ∷ []) (texts c.args.files.now) (g.D.Desk.reads c.args.desk.now) (g.D.Desk.reads c.take.new.desk) (g.D.Desk.reads c.take_tables.new.desk) (one_turn c.args.script.now (g.D.Desk.reads c.args.desk.now) (g.D.Desk.reads c.take.new.desk) c.in-Ok.ensures.reads) c.in_default.ensures.reads)
    (drive_writes c.drive_on-ended.result c.drive_ended.result (g.K.Sink.written c.args.out.now) (g.K.Sink.written c.drive_on-ended.new.out) c.drive_ended.ensures c.drive_on-ended.ensures.writes))

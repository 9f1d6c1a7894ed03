use Rattle.std.proofs.Common.{◌≡◌, ◌≢◌, ◌∙◌, ℕ, List, Some, ap, refl, sym, subst}
use Rattle.std.specs.Prelude.{Option, None}
use Rattle.razor_base.specs.Texts.{left_of}
use Rattle.razor_base.specs.Headline.Readings.{ended, given}
use Rattle.razor_base.proofs.Coming.{itself}
use Rattle.command_words.specs.Commands.{Arrange, Command, Compile, Make, Shorten, command_seen}
use Rattle.command_words.specs.Orders.{Best}
use Rattle.command_words.proofs.OneFile.{arranges, compiles, shortens}
use Rattle.command_words.specs.Spelling.{command_of}
use Rattle.razor_core.specs.Headline.Further.{IsArranged, IsShortened}
use Rattle.razor_core.specs.Headline.Tables.{IsCompiled}
use Rattle.razor_core.specs.Outside.{IsNoInput, IsUnwritten, seen}
use Rattle.razor_core.specs.Ending.{ending_line}
use Rattle.razor_core.specs.Standing.{WritesNothing}
use Rattle.razor_core.specs.CallsByStatus.{AreReads, AreWritten}
use Rattle.razor_core.specs.Promise.{KeepsPromiseOf, inputs_of, writing_of}
use Rattle.razor_core.specs.Commands.{meaning}
use Rattle.razor_core.proofs.Sound.{sound}
use Rattle.razor_core.proofs.Endings.{kept_by, unchanged_by}
use Rattle.razor_core.proofs.PossibleTexts.{kept_left}
use Rattle.razor_core.proofs.Calls.{reads_by, writes_by}
use Rattle.razor_core.proofs.FileCalls.{by_calls}
use Rattle.razor_core.proofs.FileWords.{arranged_file, compiled_file, shortened_file, usual}
use Rattle.razor_core.proofs.top.razor.Goals as goal

abbrev some_command : Command → Option Command
some_command command = Some command

pub returns-clause-promise : goal.returns-clause-promise
returns-clause-promise g c = λ texts is.
    let before = seen (left_of g.D.Desk.reads texts) g.D.Desk.faults g.K.Sink.written g.K.Sink.faults c.args.desk.now c.args.out.now in
    let after = seen (left_of g.D.Desk.reads texts) g.D.Desk.faults g.K.Sink.written g.K.Sink.faults c.run-ending.new.desk c.run-ending.new.out in
    let command = command_seen c.in-Some.command in
    let ending = c.run-ending.result in
    let ends = c.run-ending.ensures.ends texts is in
    let words : some_command command ≡ command_of c.args.words.now = c.in-Some.ensures in
    let same = sym c.status.ensures in
    record {
      line = ending_line ending;
      message = c.say_ending.ensures;
      command = subst (λ (o : Option Command). KeepsPromiseOf o before after (ending_line ending) c.status.result) words
          (subst (λ (s : ℕ). KeepsPromiseOf (some_command command) before after (ending_line ending) s) same (kept_by (meaning command) (sound command) before after ending ends));
      unchanged = subst (λ (o : Option Command). WritesNothing (writing_of o) c.status.result → c.status.result ≢ 0 → c.status.result ≢ 1 → c.status.result ≢ 6 → IsUnwritten before.written after.written) words
          (subst (λ (s : ℕ). WritesNothing (writing_of (some_command command)) s → s ≢ 0 → s ≢ 1 → s ≢ 6 → IsUnwritten before.written after.written) same (unchanged_by (meaning command) before after ending ends));
      untouched = subst (λ (o : Option Command). (name : List ℕ) → IsNoInput (inputs_of o) name → after.remaining name ≡ before.remaining name) words (λ name none. kept_left (texts name) (c.run-ending.ensures.others name none).0);
    }

pub returns-clause-reads : goal.returns-clause-reads
returns-clause-reads g c =
    let command = meaning (command_seen c.in-Some.command) in
    let made = c.run-ending.ensures.calls.reads in
    let words : some_command (command_seen c.in-Some.command) ≡ command_of c.args.words.now = c.in-Some.ensures in (
      made.0,
      made.1,
      subst (λ (o : Option Command). AreReads o c.status.result made.0) words
          (subst (λ (s : ℕ). AreReads (some_command (command_seen c.in-Some.command)) s made.0) (sym c.status.ensures) (reads_by command c.run-ending.result made.0 made.2)),
    )

pub returns-clause-writes : goal.returns-clause-writes
returns-clause-writes g c =
    let made = c.run-ending.ensures.calls.written in
    (made.0, made.1, subst (λ (s : ℕ). AreWritten s made.0) (sym c.status.ensures) (writes_by c.run-ending.result made.0 made.2))

pub returns-clause-headline : goal.returns-clause-headline
returns-clause-headline g c = λ file words done.
    let last = g.D.Desk.reads c.run-ending.new.desk in
    by_calls c.args.words.now c.status.result file (g.D.Desk.reads c.args.desk.now) last (g.K.Sink.written c.args.out.now) (g.K.Sink.written c.run-ending.new.out)
    (returns-clause-reads g c) (returns-clause-writes g c) done IsCompiled (Make Compile usual file) (ap command_of words ∙ compiles file) refl
    (compiled_file _ _ _ _ _ (returns-clause-promise g c (given last) (λ name. itself (given last name) (ended last name))) file _ done refl words)

pub returns-clause-arranged : goal.returns-clause-arranged
returns-clause-arranged g c = λ file words done.
    let last = g.D.Desk.reads c.run-ending.new.desk in
    by_calls c.args.words.now c.status.result file (g.D.Desk.reads c.args.desk.now) last (g.K.Sink.written c.args.out.now) (g.K.Sink.written c.run-ending.new.out)
    (returns-clause-reads g c) (returns-clause-writes g c) done IsArranged (Make (Arrange Best) usual file) (ap command_of words ∙ arranges file) refl
    (arranged_file _ _ _ _ _ (returns-clause-promise g c (given last) (λ name. itself (given last name) (ended last name))) file _ done refl words)

pub returns-clause-shortened : goal.returns-clause-shortened
returns-clause-shortened g c = λ file words done.
    let last = g.D.Desk.reads c.run-ending.new.desk in
    by_calls c.args.words.now c.status.result file (g.D.Desk.reads c.args.desk.now) last (g.K.Sink.written c.args.out.now) (g.K.Sink.written c.run-ending.new.out)
    (returns-clause-reads g c) (returns-clause-writes g c) done IsShortened (Make (Shorten None) usual file) (ap command_of words ∙ shortens file) refl
    (shortened_file _ _ _ _ _ (returns-clause-promise g c (given last) (λ name. itself (given last name) (ended last name))) file _ done refl words)

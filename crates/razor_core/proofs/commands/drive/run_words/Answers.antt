use Rattle.std.proofs.Common.{List, subst, sym, ℕ}
use Rattle.std.specs.Prelude.{IsTrue}
use Rattle.razor_base.specs.Texts.{left_of, StaysUnread}
use Rattle.command_words.specs.Commands.{Drive}
use Rattle.command_words.specs.Files.{all_differ, script_and_tables}
use Rattle.razor_core.specs.Commands.{meaning}
use Rattle.razor_core.specs.Ending.{Ends}
use Rattle.razor_core.specs.Outside.{seen}
use Rattle.razor_core.proofs.Tables.{NoneOf, words_parted}
use Rattle.razor_core.specs.Calls.{MakesCalls, names_of}
use Rattle.razor_core.proofs.commands.drive.run_words.Goals as goal

pub run_tables-requires-clause-apart : goal.run_tables-requires-clause-apart
run_tables-requires-clause-apart g c = subst (λ (ws : List (List ℕ)). IsTrue (all_differ ws)) (words_parted c.args.files.now c.in-len1-up.len_at_least) c.requires.apart

pub returns-clause-ends : goal.returns-clause-ends
returns-clause-ends g c = λ texts is.
    let before = seen (left_of g.D.Desk.reads texts) g.D.Desk.faults g.K.Sink.written g.K.Sink.faults c.args.desk.now c.args.out.now in
    let after = seen (left_of g.D.Desk.reads texts) g.D.Desk.faults g.K.Sink.written g.K.Sink.faults c.run_tables.new.desk c.run_tables.new.out in
    subst (λ (ws : List (List ℕ)). Ends (meaning (script_and_tables (Drive c.args.slots.count) ws)) before after c.run_tables.result) (sym (words_parted c.args.files.now c.in-len1-up.len_at_least)) (c.run_tables.ensures.ends texts is)

pub returns-clause-others : goal.returns-clause-others
returns-clause-others g c =
    subst (λ (ws : List (List ℕ)). (other : List ℕ) → NoneOf other (meaning (script_and_tables (Drive c.args.slots.count) ws)).inputs → StaysUnread (g.D.Desk.reads c.args.desk.now) (g.D.Desk.reads c.run_tables.new.desk) other)
    (sym (words_parted c.args.files.now c.in-len1-up.len_at_least)) c.run_tables.ensures.others

pub returns-clause-calls : goal.returns-clause-calls
returns-clause-calls g c =
    subst (λ (ws : List (List ℕ)). MakesCalls (meaning (script_and_tables (Drive c.args.slots.count) ws)).writes (names_of (meaning (script_and_tables (Drive c.args.slots.count) ws))) (g.D.Desk.reads c.args.desk.now) (g.D.Desk.reads c.run_tables.new.desk) (g.K.Sink.written c.args.out.now) (g.K.Sink.written c.run_tables.new.out) c.run_tables.result)
    (sym (words_parted c.args.files.now c.in-len1-up.len_at_least)) c.run_tables.ensures.calls

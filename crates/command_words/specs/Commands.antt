-- The commands: how each is spelled, and what it is over what its options come to and its other words.
use Rattle.std.specs.Prelude.{ℕ, List, [], ◌∷◌, option_map, unwrap_or, codes, Option}
use Rattle.field_boxes.specs.Headline.Classifier.{Interval}
use Rattle.field_boxes.specs.Spans.{intervals_of}
use Rattle.command_words.specs.declared.commands.Command as code_command
use Rattle.command_words.specs.declared.commands.Command.TheVariants as asked
use Rattle.command_words.specs.declared.commands.CommandName.{CommandName}
use Rattle.command_words.specs.declared.commands.CommandName.TheVariants as names
use Rattle.command_words.specs.declared.commands.Method as code_method
use Rattle.command_words.specs.declared.commands.Method.TheVariants as methods
use Rattle.command_words.specs.declared.option.TheConstants.{NO_OPTION, ORDER_AND_SIZES, SIZES, SLOTS, SESSION}
use Rattle.command_words.specs.Files.{over_one, over_script, over_three, over_two, script_and_tables}
use Rattle.command_words.specs.Forms.{Form, row}
use Rattle.command_words.specs.Numbers.{drawing}
use Rattle.command_words.specs.Orders.{Wanted, Best}
use Rattle.command_words.specs.PlainWords.{plain_seen}
use Rattle.command_words.specs.Questions.{asking, name_in}
use Rattle.command_words.specs.Sessions.{SessionTerms, making_of}
use Rattle.command_words.specs.Settings.{Settings, sizes_of, terms_seen, wanted_seen}
use Rattle.command_words.specs.Sizes.{Sizes}
use Rattle.text_lines.specs.Headline.Steps.{◌>>=◌}

-- the forms of the commands that are built, in the order of the usage text
unfoldable pub forms : List Form
forms =
    row names.Expand (codes "expand") SIZES (codes "LIST")
    ∷ row names.Compile (codes "compile") SIZES (codes "LIST")
    ∷ row names.Equiv (codes "equiv") NO_OPTION (codes "A B")
    ∷ row names.Cert (codes "cert") NO_OPTION (codes "LIST TABLE")
    ∷ row names.Check (codes "check") NO_OPTION (codes "LIST TABLE CERT")
    ∷ row names.Trace (codes "trace") NO_OPTION (codes "TABLE TRACE")
    ∷ row names.Drive (codes "drive") SLOTS (codes "SCRIPT TABLE ..")
    ∷ row names.Gen (codes "gen") NO_OPTION (codes "SEED N")
    ∷ row names.Selfrun (codes "selfrun") NO_OPTION (codes "SEED N")
    ∷ row names.Migrate (codes "migrate") NO_OPTION (codes "TABLE")
    ∷ row names.Arrange (codes "arrange") ORDER_AND_SIZES (codes "LIST")
    ∷ row names.Merge (codes "merge") NO_OPTION (codes "TABLE")
    ∷ row names.Audit (codes "audit") NO_OPTION (codes "LIST")
    ∷ row names.Query (codes "query") NO_OPTION (codes "LIST S D SP DP P DECISION")
    ∷ row names.Session (codes "session") SESSION (codes "SCRIPT LIST")
    ∷ row names.Trim (codes "trim") NO_OPTION (codes "TABLE")
    ∷ row names.Shorten (codes "shorten") ORDER_AND_SIZES (codes "LIST")
    ∷ row names.Place (codes "place") SLOTS (codes "TABLE")
    ∷ row names.Patch (codes "patch") NO_OPTION (codes "MEMORY TABLE")
    ∷ row names.Apply (codes "apply") NO_OPTION (codes "MEMORY PLAN")
    ∷ row names.Dump (codes "dump") NO_OPTION (codes "MEMORY")
    ∷ row names.Verify (codes "verify") NO_OPTION (codes "LIST TABLE")
    ∷ row names.Prove (codes "prove") NO_OPTION (codes "LIST TABLE")
    ∷ []

-- how a table is made of a list: by direct expansion, by composition of the field-by-field least cost, in the order in which
-- the fields stand or in the order that is wanted, or by a search for a short table, which may take the composition in an
-- order for comparison
pub data Method : Type 0 where
  Expand : Method
  Compile : Method
  Arrange : Wanted → Method
  Shorten : Option Wanted → Method

-- a command with its numbers and file words; one that makes a table of a list says by which method, and one that asks a list
-- in which spans, and for which decision, or for none
pub data Command : Type 0 where
  Make : Method → Sizes → List ℕ → Command
  Equiv : List ℕ → List ℕ → Command
  Cert : List ℕ → List ℕ → Command
  Check : List ℕ → List ℕ → List ℕ → Command
  Trace : List ℕ → List ℕ → Command
  Drive : ℕ → List ℕ → List (List ℕ) → Command
  Gen : ℕ → ℕ → Command
  Selfrun : ℕ → ℕ → Command
  Migrate : List ℕ → Command
  Merge : List ℕ → Command
  Audit : List ℕ → Command
  Query : List ℕ → List Interval → Option (List ℕ) → Command
  Session : SessionTerms → List ℕ → List ℕ → Command
  Trim : List ℕ → Command
  Place : ℕ → List ℕ → Command
  Patch : List ℕ → List ℕ → Command
  Apply : List ℕ → List ℕ → Command
  Dump : List ℕ → Command
  Verify : List ℕ → List ℕ → Command
  Prove : List ℕ → List ℕ → Command

-- the command of the name
abbrev pub command_named : CommandName → Settings → List (List ℕ) → Option Command
command_named names.Expand settings words = over_one (Make Expand settings.sizes) words
command_named names.Compile settings words = over_one (Make Compile settings.sizes) words
command_named names.Equiv settings words = over_two Equiv words
command_named names.Cert settings words = over_two Cert words
command_named names.Check settings words = over_three Check words
command_named names.Trace settings words = over_two Trace words
command_named names.Drive settings words = over_script (Drive settings.slots) words
command_named names.Gen settings words = drawing Gen words
command_named names.Selfrun settings words = drawing Selfrun words
command_named names.Migrate settings words = over_one Migrate words
command_named names.Arrange settings words = over_one (Make (Arrange (unwrap_or settings.order Best)) settings.sizes) words
command_named names.Merge settings words = over_one Merge words
command_named names.Audit settings words = over_one Audit words
command_named names.Query settings words = asking Query words
command_named names.Session settings words =
    making_of settings.by settings.order >>= (λ making. over_two (Session (record { slots = settings.slots; sizes = settings.sizes; making = making; swap = settings.swap })) words)
command_named names.Trim settings words = over_one Trim words
command_named names.Shorten settings words = over_one (Make (Shorten settings.order) settings.sizes) words
command_named names.Place settings words = over_one (Place settings.slots) words
command_named names.Patch settings words = over_two Patch words
command_named names.Apply settings words = over_two Apply words
command_named names.Dump settings words = over_one Dump words
command_named names.Verify settings words = over_two Verify words
command_named names.Prove settings words = over_two Prove words

-- a method and a command of the code without where their words lie
abbrev pub method_seen : code_method.Method → Method
method_seen methods.Expand = Expand
method_seen methods.Compile = Compile
method_seen (methods.Arrange wanted) = Arrange (wanted_seen wanted)
method_seen (methods.Shorten wanted) = Shorten (option_map wanted_seen wanted)

abbrev pub command_seen : code_command.Command → Command
command_seen (asked.Make method sizes list) = Make (method_seen method) (sizes_of sizes) list.now
command_seen (asked.Equiv both) = Equiv both.first.now both.second.now
command_seen (asked.Cert both) = Cert both.first.now both.second.now
command_seen (asked.Check all) = Check all.first.now all.second.now all.third.now
command_seen (asked.Trace both) = Trace both.first.now both.second.now
command_seen (asked.Drive run) = script_and_tables (Drive run.slots.count) (plain_seen run.words)
command_seen (asked.Gen drawing) = Gen drawing.seed drawing.rules
command_seen (asked.Selfrun drawing) = Selfrun drawing.seed drawing.rules
command_seen (asked.Migrate table) = Migrate table.now
command_seen (asked.Merge table) = Merge table.now
command_seen (asked.Audit list) = Audit list.now
command_seen (asked.Query question) = Query question.list.now (intervals_of question.spans) (name_in question.decision.now)
command_seen (asked.Session terms files) = Session (terms_seen terms) files.first.now files.second.now
command_seen (asked.Trim table) = Trim table.now
command_seen (asked.Place slots table) = Place slots.count table.now
command_seen (asked.Patch both) = Patch both.first.now both.second.now
command_seen (asked.Apply both) = Apply both.first.now both.second.now
command_seen (asked.Dump memory) = Dump memory.now
command_seen (asked.Verify both) = Verify both.first.now both.second.now
command_seen (asked.Prove both) = Prove both.first.now both.second.now

use Rattle.std.proofs.Common.{◌++◌, ◌∷◌, ◌∙◌, [], List, ℕ, ap, subst, sym}
use Rattle.std.specs.Prelude.{Bool, IsTrue, MatchResult, if◌then◌else◌, not}
use Rattle.command_words.specs.Files.{all_differ}
use Rattle.razor_base.specs.Texts.{left_of}
use Rattle.razor_core.specs.declared.ending.Ending.TheVariants.{Memory}
use Rattle.razor_core.specs.Tables.{AreAdded, FailsAmong, IsNone}
use Rattle.razor_core.proofs.PossibleTexts.{kept_left, still_may}
use Rattle.razor_core.proofs.Tables.{first_fails, first_text, if_err_then, later_fails, later_words, none_later, on_ok_then, one_more, texts, words_parted}
use Rattle.razor_base.specs.Headline.Outcomes.{Extends}
use Rattle.razor_base.specs.Headline.Readings.{Reading}
use Rattle.razor_base.specs.Turns.{AreWholeTurns}
use Rattle.razor_core.specs.Calls.{EndsAmong}
use Rattle.razor_core.proofs.Calls.{more_turns, refused_behind, turn_among}
use Rattle.razor_core.proofs.commands.drive.+take_tables.Goals as goal

pub returns-in-Err-clause-ended : goal.returns-in-Err-clause-ended
returns-in-Err-clause-ended g t c = λ holds is.
    let files = c.args.files.now in
    let parted = words_parted files c.in-len1-up.len_at_least in
    let differ = subst (λ (words : List (List ℕ)). IsTrue (all_differ words)) parted c.requires in
    let start = left_of g.D.Desk.reads holds c.args.desk.now in
    let end = left_of g.D.Desk.reads holds c.take.new.desk in
    let first = g.D.Desk.faults c.args.desk.now in
    let last = g.D.Desk.faults c.take.new.desk in
    subst (λ (words : List (List ℕ)). FailsAmong words start end first last c.in-Err.ending) (sym parted)
    (first_fails (first_text files) (texts (later_words files)) start end first last c.in-Err.ending differ (λ other apart. kept_left (holds other) (c.in-Err.ensures.others other apart).0) (c.in-Err.ensures.turn (holds (first_text files)) (is (first_text files))))

pub returns-then-is_err-clause-ended : goal.returns-then-is_err-clause-ended
returns-then-is_err-clause-ended g t c = λ holds is.
    let files = c.args.files.now in
    let parted = words_parted files c.in-len1-up.len_at_least in
    let differ = subst (λ (words : List (List ℕ)). IsTrue (all_differ words)) parted c.requires in
    let start = left_of g.D.Desk.reads holds c.args.desk.now in
    let end = left_of g.D.Desk.reads holds c.take.new.desk in
    let first = g.D.Desk.faults c.args.desk.now in
    let last = g.D.Desk.faults c.take.new.desk in
    subst (λ (words : List (List ℕ)). FailsAmong words start end first last Memory) (sym parted)
    (first_fails (first_text files) (texts (later_words files)) start end first last Memory differ (λ other apart. kept_left (holds other) (c.in-Ok.ensures.others other apart).0) tt)

pub returns-clause-taken : goal.returns-clause-taken
returns-clause-taken g t c = λ holds is.
    let files = c.args.files.now in
    let parted = words_parted files c.in-len1-up.len_at_least in
    let differ = subst (λ (words : List (List ℕ)). IsTrue (all_differ words)) parted c.requires in
    let start = left_of g.D.Desk.reads holds c.args.desk.now in
    let between = left_of g.D.Desk.reads holds c.take.new.desk in
    let end = left_of g.D.Desk.reads holds c.take_tables.new.desk in
    let old = c.args.tables.now.items in
    let pushed = c.push.ensures.items ∙ ap (λ (done : Bool). if done then old ++ c.in-Ok.table ∷ [] else old) (c.is_err.ensures.negation ∙ ap not c.if-is_err.false) in
    on_ok_then c.take_tables.result
    (λ added. subst (λ (words : List (List ℕ)). AreAdded words start end old c.take_tables.new.tables.items) (sym parted)
    (one_more (first_text files) (texts (later_words files)) start between end old c.push.new.self.items c.take_tables.new.tables.items c.in-Ok.table differ pushed (c.in-Ok.ensures.turn (holds (first_text files)) (still_may (c.take_tables.ensures.others (first_text files) (none_later (first_text files) (texts (later_words files)) differ)) (is (first_text files)))) (λ other apart. kept_left (holds other) (c.in-Ok.ensures.others other apart).0)
    (λ other apart. kept_left (holds other) (c.take_tables.ensures.others other apart).0) added))
    (c.take_tables.ensures.taken holds is)

pub returns-clause-ended : goal.returns-clause-ended
returns-clause-ended g t c = λ holds is.
    let files = c.args.files.now in
    let parted = words_parted files c.in-len1-up.len_at_least in
    let differ = subst (λ (words : List (List ℕ)). IsTrue (all_differ words)) parted c.requires in
    let start = left_of g.D.Desk.reads holds c.args.desk.now in
    let between = left_of g.D.Desk.reads holds c.take.new.desk in
    let end = left_of g.D.Desk.reads holds c.take_tables.new.desk in
    let first = g.D.Desk.faults c.args.desk.now in
    let second = g.D.Desk.faults c.take.new.desk in
    let last = g.D.Desk.faults c.take_tables.new.desk in
    if_err_then c.take_tables.result
    (λ ending fails. subst (λ (words : List (List ℕ)). FailsAmong words start end first last ending) (sym parted)
    (later_fails (first_text files) (texts (later_words files)) start between end (between (first_text files)) first second last ending c.in-Ok.table differ (c.in-Ok.ensures.turn (holds (first_text files)) (still_may (c.take_tables.ensures.others (first_text files) (none_later (first_text files) (texts (later_words files)) differ)) (is (first_text files)))) (λ other apart. kept_left (holds other) (c.in-Ok.ensures.others other apart).0) c.in-Ok.ensures.counts fails))
    (c.take_tables.ensures.ended holds is)

pub returns-clause-others : goal.returns-clause-others
returns-clause-others g t c = λ other none.
    let parted = words_parted c.args.files.now c.in-len1-up.len_at_least in
    let apart = subst (λ (words : List (List ℕ)). IsNone other words) parted none in
    let first = c.in-Ok.ensures.others other apart.0 in
    let later = c.take_tables.ensures.others other apart.1 in
    (later.0 ∙ first.0, later.1 ∙ first.1)

-- the reads
pub returns-in-Err-clause-reads : goal.returns-in-Err-clause-reads
returns-in-Err-clause-reads g t c =
    let files = c.args.files.now in
    let added = c.in-Err.ensures.reads in
    subst (λ (words : List (List ℕ)). Extends (g.D.Desk.reads c.args.desk.now) (g.D.Desk.reads c.take.new.desk) (EndsAmong words c.in-Err.ending)) (sym (words_parted files c.in-len1-up.len_at_least))
    (added.0, added.1, turn_among (first_text files) (texts (later_words files)) c.in-Err.ending added.0 added.2)

pub returns-then-is_err-clause-reads : goal.returns-then-is_err-clause-reads
returns-then-is_err-clause-reads g t c =
    let files = c.args.files.now in
    subst (λ (words : List (List ℕ)). Extends (g.D.Desk.reads c.args.desk.now) (g.D.Desk.reads c.take.new.desk) (EndsAmong words Memory)) (sym (words_parted files c.in-len1-up.len_at_least))
    (refused_behind (first_text files) (texts (later_words files)) (g.D.Desk.reads c.args.desk.now) (g.D.Desk.reads c.take.new.desk) c.in-Ok.ensures.reads)

pub returns-clause-reads : goal.returns-clause-reads
returns-clause-reads g t c =
    let files = c.args.files.now in
    subst (λ (words : List (List ℕ)). Extends (g.D.Desk.reads c.args.desk.now) (g.D.Desk.reads c.take_tables.new.desk) (λ (added : List Reading). MatchResult c.take_tables.result (λ none. AreWholeTurns words added) (λ ending. EndsAmong words ending added))) (sym (words_parted files c.in-len1-up.len_at_least))
    (more_turns (first_text files) (texts (later_words files)) (g.D.Desk.reads c.args.desk.now) (g.D.Desk.reads c.take.new.desk) (g.D.Desk.reads c.take_tables.new.desk) c.take_tables.result c.in-Ok.ensures.reads c.take_tables.ensures.reads)

use Rattle.std.proofs.Common.{◌∙◌, ap, sym, string_bytes}
use Rattle.command_words.specs.Items.{reading_of}
use Rattle.command_words.specs.Parts.{found_seen}
use Rattle.command_words.specs.PlainWords.{plain_seen}
use Rattle.command_words.proofs.Taking.{awaits-end, awaits-none, awaits-some, behind, ends-none, ends-some, fails, first_text, gives-none, gives-some, none_behind, stands-none, stands-some}
use Rattle.command_words.proofs.parts.Parts.take.Goals as goal

pub returns-in_err-push_all-in-Ends-clause-same : goal.returns-in_err-push_all-in-Ends-clause-same
returns-in_err-push_all-in-Ends-clause-same c =
    rw c.from_residual.ensures
    (ends-none (found_seen c.args.self.now) _ _ _ (first_text string_bytes c.args.words.now _ _ c.in-len1-up.len_at_least c.word-item.is c.as_bytes.ensures.value)
    (sym c.in-Ends.ensures) c.in_err-push_all-in-Ends.ensures)

pub returns-in_ok-push_all-in-Ends-clause-same : goal.returns-in_ok-push_all-in-Ends-clause-same
returns-in_ok-push_all-in-Ends-clause-same c =
    ends-some (found_seen c.args.self.now) _ _ _ (first_text string_bytes c.args.words.now _ _ c.in-len1-up.len_at_least c.word-item.is c.as_bytes.ensures.value)
    c.push_all.new.self (sym c.in-Ends.ensures) c.in_ok-push_all-in-Ends.ensures

pub returns-in_default-rest-clause-same : goal.returns-in_default-rest-clause-same
returns-in_default-rest-clause-same c =
    awaits-end (found_seen c.args.self.now) _ _ _ (first_text string_bytes c.args.words.now _ _ c.in-len1-up.len_at_least c.word-item.is c.as_bytes.ensures.value)
    c.in-Awaits.option (sym c.in-Awaits.ensures) (none_behind string_bytes (behind c.args.words.now) c.in_default-rest.len_below)

pub returns-in_err-give-in-Awaits-clause-same : goal.returns-in_err-give-in-Awaits-clause-same
returns-in_err-give-in-Awaits-clause-same c =
    rw c.from_residual-in_err-give-in-Awaits.ensures
    (awaits-none (found_seen c.args.self.now) _ _ _ (first_text string_bytes c.args.words.now _ _ c.in-len1-up.len_at_least c.word-item.is c.as_bytes.ensures.value)
    c.in-Awaits.option _ _
    (first_text string_bytes (behind c.args.words.now) _ _ c.in-len1-up-rest.len_at_least c.value-item.is c.as_bytes-in-Awaits.ensures.value)
    (sym c.in-Awaits.ensures) c.in_err-give-in-Awaits.ensures)

pub returns-in_ok-give-in-Awaits-clause-same : goal.returns-in_ok-give-in-Awaits-clause-same
returns-in_ok-give-in-Awaits-clause-same c =
    awaits-some (found_seen c.args.self.now) _ _ _ (first_text string_bytes c.args.words.now _ _ c.in-len1-up.len_at_least c.word-item.is c.as_bytes.ensures.value)
    c.in-Awaits.option _ _
    (first_text string_bytes (behind c.args.words.now) _ _ c.in-len1-up-rest.len_at_least c.value-item.is c.as_bytes-in-Awaits.ensures.value)
    (sym c.in-Awaits.ensures) _ c.in_ok-give-in-Awaits.ensures

pub returns-in_err-give-in-Gives-clause-same : goal.returns-in_err-give-in-Gives-clause-same
returns-in_err-give-in-Gives-clause-same c =
    rw c.from_residual-in_err-give-in-Gives.ensures
    (gives-none (found_seen c.args.self.now) _ _ _ (first_text string_bytes c.args.words.now _ _ c.in-len1-up.len_at_least c.word-item.is c.as_bytes.ensures.value)
    _ _ (sym c.in-Gives.ensures) c.in_err-give-in-Gives.ensures)

pub returns-in_ok-give-in-Gives-clause-same : goal.returns-in_ok-give-in-Gives-clause-same
returns-in_ok-give-in-Gives-clause-same c =
    gives-some (found_seen c.args.self.now) _ _ _ (first_text string_bytes c.args.words.now _ _ c.in-len1-up.len_at_least c.word-item.is c.as_bytes.ensures.value)
    _ _ _ (sym c.in-Gives.ensures) c.in_ok-give-in-Gives.ensures

pub returns-in_err-push-in-Stands-clause-same : goal.returns-in_err-push-in-Stands-clause-same
returns-in_err-push-in-Stands-clause-same c =
    rw c.from_residual-in_err-push-in-Stands.ensures
    (stands-none (found_seen c.args.self.now) _ _ _ (first_text string_bytes c.args.words.now _ _ c.in-len1-up.len_at_least c.word-item.is c.as_str.ensures.value)
    (ap reading_of (c.as_str.ensures.value ∙ sym c.as_bytes.ensures.value) ∙ sym c.in-Stands.ensures) c.in_err-push-in-Stands.ensures)

pub returns-in_ok-push-in-Stands-clause-same : goal.returns-in_ok-push-in-Stands-clause-same
returns-in_ok-push-in-Stands-clause-same c =
    stands-some (found_seen c.args.self.now) _ _ _ (first_text string_bytes c.args.words.now _ _ c.in-len1-up.len_at_least c.word-item.is c.as_str.ensures.value)
    (plain_seen c.push.new.self) (ap reading_of (c.as_str.ensures.value ∙ sym c.as_bytes.ensures.value) ∙ sym c.in-Stands.ensures) c.in_ok-push-in-Stands.ensures

pub returns-in-Fails-clause-same : goal.returns-in-Fails-clause-same
returns-in-Fails-clause-same c =
    fails (found_seen c.args.self.now) _ _ _ (first_text string_bytes c.args.words.now _ _ c.in-len1-up.len_at_least c.word-item.is c.as_bytes.ensures.value)
    (sym c.in-Fails.ensures)

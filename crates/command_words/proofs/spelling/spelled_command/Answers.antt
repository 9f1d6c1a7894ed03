use Rattle.std.proofs.Common.{◌∙◌, None, ap, sym, string_bytes}
use Rattle.command_words.specs.Spelling.{command_of}
use Rattle.command_words.specs.Forms.{form_seen}
use Rattle.command_words.proofs.Fitting.{by_form, by_parts, by_settings, no_words}
use Rattle.command_words.proofs.Taking.{first_text, none_behind}
use Rattle.command_words.proofs.spelling.spelled_command.Goals as goal

pub returns-in_default : goal.returns-in_default
returns-in_default c = sym (ap command_of (sym c.texts.ensures ∙ none_behind string_bytes c.texts.result.now c.in_default.len_below) ∙ no_words)

pub returns-in_err-form : goal.returns-in_err-form
returns-in_err-form c =
    rw c.from_residual.ensures
    (sym (by_form _ _ _ (sym c.texts.ensures ∙ first_text string_bytes c.texts.result.now _ _ c.in-len1-up.len_at_least c.name-item.is c.as_str.ensures.value) None c.in_err-form.ensures))

pub returns-in_err-parts : goal.returns-in_err-parts
returns-in_err-parts c =
    rw c.from_residual-in_err-parts.ensures
    (sym (by_parts _ _ _ (sym c.texts.ensures ∙ first_text string_bytes c.texts.result.now _ _ c.in-len1-up.len_at_least c.name-item.is c.as_str.ensures.value)
    (form_seen c.in_ok-form.form) c.in_ok-form.ensures None c.in_err-parts.ensures))

pub returns-in_err-settings : goal.returns-in_err-settings
returns-in_err-settings c =
    rw c.from_residual-in_err-settings.ensures
    (sym (by_settings _ _ _ (sym c.texts.ensures ∙ first_text string_bytes c.texts.result.now _ _ c.in-len1-up.len_at_least c.name-item.is c.as_str.ensures.value)
    (form_seen c.in_ok-form.form) c.in_ok-form.ensures _ None c.in_ok-parts.ensures c.in_err-settings.ensures))

pub returns : goal.returns
returns c =
    c.named.ensures
    ∙ sym (by_settings _ _ _ (sym c.texts.ensures ∙ first_text string_bytes c.texts.result.now _ _ c.in-len1-up.len_at_least c.name-item.is c.as_str.ensures.value)
    (form_seen c.in_ok-form.form) c.in_ok-form.ensures _ _ c.in_ok-parts.ensures c.in_ok-settings.ensures)

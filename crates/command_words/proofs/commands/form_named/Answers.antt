use Rattle.std.proofs.Common.{◌∙◌, ap, sym, find, option_map, bytes_eq}
use Rattle.command_words.specs.Forms.{form_seen}
use Rattle.command_words.proofs.Fitting.{named}
use Rattle.command_words.proofs.commands.form_named.Goals as goal

pub returns : goal.returns
returns c =
    let name = c.args.name.now in
    ap (option_map form_seen) (c.copied.ensures ∙ c.first_named.ensures) ∙ sym (named name c.forms-forms.result) ∙ ap (find (λ form. bytes_eq form.name name)) c.forms-forms.ensures

-- The form of a command: how it is spelled.
use Rattle.std.specs.Prelude.{ℕ, List}
use Rattle.command_words.specs.declared.commands.CommandName.{CommandName}
use Rattle.command_words.specs.declared.form.CommandForm.{CommandForm}
use Rattle.command_words.specs.declared.option.Taken.{Taken}

-- its name, the options that it takes in the order of the usage text, and how the usage text calls its other words
pub record Form : Type 0 where
  pub command : CommandName
  pub name : List ℕ
  pub options : List Taken
  pub label : List ℕ

abbrev pub row : CommandName → List ℕ → List Taken → List ℕ → Form
row command name options label = record { command = command; name = name; options = options; label = label }

-- a form of the code without where its words lie
abbrev pub form_seen : CommandForm → Form
form_seen form = row form.command form.name.now form.options.now form.label.now

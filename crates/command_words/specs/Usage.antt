-- The usage text, from the forms of the commands.
use Rattle.std.specs.Prelude.{ℕ, List, [], ◌∷◌, ◌++◌, codes}
use Rattle.std.specs.List.{flat_map}
use Rattle.command_words.specs.declared.option.Need.{Need}
use Rattle.command_words.specs.declared.option.Need.TheVariants.{Maybe, Always}
use Rattle.command_words.specs.declared.option.Taken.{Taken}
use Rattle.command_words.specs.Commands.{forms}
use Rattle.command_words.specs.Forms.{Form}
use Rattle.command_words.specs.Options.{option_text, value_label}

-- what stands in front of an option, and behind its value: brackets where it may be left out
abbrev pub opening : Need → List ℕ
opening Maybe = codes " ["
opening Always = codes " "

abbrev pub closing : Need → List ℕ
closing Maybe = codes "]"
closing Always = []

-- an option as a command takes it
abbrev pub option_usage : Taken → List ℕ
option_usage taken = opening taken.need ++ option_text taken.option ++ value_label taken.option ++ closing taken.need

-- the line of a command
abbrev pub usage_line : Form → List ℕ
usage_line form = codes "  " ++ form.name ++ flat_map option_usage form.options ++ codes " " ++ form.label ++ 10 ∷ []

-- the commands that are built
abbrev pub usage_text : List ℕ
usage_text = codes "usage: razor COMMAND" ++ 10 ∷ flat_map usage_line forms

-- The options: how they are written, which values they take, and which of them a command takes.
use Rattle.std.specs.Prelude.{ℕ, Bool, true, false, ◌||◌, ◌==◌, List, find, Option, Some, None, option_map, codes, if◌then◌else◌}
use Rattle.razor_limits.specs.declared.limits.TheConstants.{MOST_ENTRIES}
use Rattle.command_words.specs.declared.option.OptionName.{OptionName}
use Rattle.command_words.specs.declared.option.OptionName.TheVariants.{Limit, Slot, Slots, Order, Swap, By}
use Rattle.command_words.specs.declared.option.Need.{Need}
use Rattle.command_words.specs.declared.option.Need.TheVariants.{Always}
use Rattle.command_words.specs.declared.option.Taken.{Taken}
use Rattle.command_words.specs.Numbers.{number_between}
use Rattle.text_lines.specs.Headline.Steps.{◌>>=◌}

-- how the option is written
abbrev pub option_text : OptionName → List ℕ
option_text Limit = codes "--limit"
option_text Slot = codes "--slot"
option_text Slots = codes "--slots"
option_text Order = codes "--order"
option_text Swap = codes "--swap"
option_text By = codes "--by"

-- what stands for its value in the usage text, with a blank in front
abbrev pub value_label : OptionName → List ℕ
value_label Limit = codes " N"
value_label Slot = codes " W"
value_label Slots = codes " N"
value_label Order = codes " P"
value_label Swap = codes " S"
value_label By = codes " M"

abbrev pub same_option : OptionName → OptionName → Bool
same_option Limit Limit = true
same_option Slot Slot = true
same_option Slots Slots = true
same_option Order Order = true
same_option Swap Swap = true
same_option By By = true
same_option a b = false

-- a width of a slot, in bits
abbrev pub slot_width : ℕ → Option ℕ
slot_width n = if n == 104 || n == 144 || n == 288 then Some n else None

-- a number of entries or slots that a value of an option writes, where the option takes it
unfoldable pub size_in : List ℕ → Option ℕ
size_in value = number_between 1 MOST_ENTRIES value

-- a width of a slot that a value of the option writes, where the option takes it
unfoldable pub width_in : List ℕ → Option ℕ
width_in value = number_between 0 288 value >>= slot_width

-- whether the option has to be there, where it is one of those that a command takes
abbrev pub need_of : List Taken → OptionName → Option Need
need_of options option = option_map (λ taken. taken.need) (find (λ taken. same_option taken.option option) options)

-- the value of an option as a command takes it, or none of it where it is left out; nothing where the command doesn't take
-- the option, or it has to be there
abbrev pub given : Option Need → Option (List ℕ) → Option (Option (List ℕ))
given None (Some value) = None
given (Some Always) None = None
given need value = Some value

-- what the value comes to, or none where it is left out
abbrev pub optional : {A : Type 0} → (List ℕ → Option A) → Option (List ℕ) → Option (Option A)
optional read None = Some None
optional read (Some value) = option_map (λ x. Some x) (read value)

-- what the value comes to, or what is usual where it is left out
abbrev pub or_usual : {A : Type 0} → A → (List ℕ → Option A) → Option (List ℕ) → Option A
or_usual usual read None = Some usual
or_usual usual read (Some value) = read value

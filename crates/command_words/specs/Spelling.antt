-- The command that words spell.
use Rattle.std.specs.Prelude.{ℕ, List, [], ◌∷◌, length, nat_le, find, Option, Some, None, if◌then◌else◌}
use Rattle.std.specs.Str.{bytes_eq}
use Rattle.razor_limits.specs.declared.limits.TheConstants.{MOST_ENTRIES}
use Rattle.command_words.specs.declared.option.OptionName.TheVariants.{Limit, Slot, Slots, Order, Swap, By}
use Rattle.command_words.specs.Commands.{Command, command_named, forms}
use Rattle.command_words.specs.Forms.{Form}
use Rattle.command_words.specs.Items.{Item, items_of, plain_of, values_of}
use Rattle.command_words.specs.Options.{given, need_of, optional, or_usual, size_in, width_in}
use Rattle.command_words.specs.Orders.{order_wanted}
use Rattle.command_words.specs.Sessions.{Compiling, by_written}
use Rattle.command_words.specs.Settings.{Settings}
use Rattle.command_words.specs.Swaps.{Whole, swap_written}
use Rattle.text_lines.specs.Headline.Steps.{◌>>=◌}

-- the value of each option, where one is given, and the other words
pub record Found : Type 0 where
  pub limit : Option (List ℕ)
  pub slot : Option (List ℕ)
  pub slots : Option (List ℕ)
  pub order : Option (List ℕ)
  pub swap : Option (List ℕ)
  pub by : Option (List ℕ)
  pub plain : List (List ℕ)

-- at most one value is given to an option
abbrev pub one_value : List (List ℕ) → Option (Option (List ℕ))
one_value [] = Some None
one_value (value ∷ []) = Some (Some value)
one_value (value ∷ other ∷ values) = None

-- no command has more than nine words that are no options
abbrev pub few_words : List (List ℕ) → Option (List (List ℕ))
few_words words = if nat_le (length words) 9 then Some words else None

-- what is found among items
abbrev pub found_among : List Item → Option Found
found_among items = do
  limit ← one_value (values_of Limit items)
  slot ← one_value (values_of Slot items)
  slots ← one_value (values_of Slots items)
  order ← one_value (values_of Order items)
  swap ← one_value (values_of Swap items)
  by ← one_value (values_of By items)
  plain ← few_words (plain_of items)
  Some (record { limit = limit; slot = slot; slots = slots; order = order; swap = swap; by = by; plain = plain })

-- what the options of the form come to, each that is left out to its usual value: the greatest number, 144 bits, no
-- order, and tables that are replaced whole and compiled
abbrev pub settings_of : Form → Found → Option Settings
settings_of form found = do
  limit ← given (need_of form.options Limit) found.limit >>= or_usual MOST_ENTRIES size_in
  slot ← given (need_of form.options Slot) found.slot >>= or_usual 144 width_in
  slots ← given (need_of form.options Slots) found.slots >>= or_usual MOST_ENTRIES size_in
  order ← given (need_of form.options Order) found.order >>= optional order_wanted
  swap ← given (need_of form.options Swap) found.swap >>= or_usual Whole swap_written
  by ← given (need_of form.options By) found.by >>= or_usual Compiling by_written
  Some (record { sizes = record { limit = limit; slot = slot }; slots = slots; order = order; swap = swap; by = by })

-- the command that the words spell, or none
unfoldable pub command_of : List (List ℕ) → Option Command
command_of [] = None
command_of (name ∷ words) = do
  form ← find (λ form. bytes_eq form.name name) forms
  items ← items_of None words
  found ← found_among items
  settings ← settings_of form found
  command_named form.command settings found.plain

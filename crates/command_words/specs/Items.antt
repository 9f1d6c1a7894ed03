-- The words after a command's name, as options with their values and plain words.
use Rattle.std.specs.Prelude.{ℕ, Bool, false, ◌==◌, List, [], ◌∷◌, length, take, drop, map, Option, Some, None, option_map, unwrap_or, codes, if◌then◌else◌}
use Rattle.std.specs.Option.{option_or}
use Rattle.std.specs.Str.{bytes_eq}
use Rattle.command_words.specs.declared.option.OptionName.{OptionName}
use Rattle.command_words.specs.declared.option.OptionName.TheVariants.{Limit, Slot, Slots, Order, Swap, By}
use Rattle.command_words.specs.Options.{option_text, same_option}
use Rattle.text_lines.specs.Headline.Steps.{◌>>=◌}

-- an option and its value, or a plain word
pub data Item : Type 0 where
  Given : OptionName → List ℕ → Item
  Plain : List ℕ → Item

-- how a word reads that is no option's value: it ends the options, is an option whose value is the next
-- word, is an option with its value, is a plain word, or is none of these
pub data Reading : Type 0 where
  Ends : Reading
  Awaits : OptionName → Reading
  Gives : OptionName → List ℕ → Reading
  Stands : Reading
  Fails : Reading

-- what follows the text in front of a word
abbrev pub after : List ℕ → List ℕ → Option (List ℕ)
after front word = if bytes_eq (take (length front) word) front then Some (drop (length front) word) else None

-- an option with what follows it in its word: nothing, or '=' and its value
abbrev pub with_rest : OptionName → List ℕ → Option Reading
with_rest option [] = Some (Awaits option)
with_rest option (b ∷ value) = if b == 61 then Some (Gives option value) else None

abbrev pub as_option : OptionName → List ℕ → Option Reading
as_option option word = after (option_text option) word >>= with_rest option

abbrev pub as_some_option : List ℕ → Option Reading
as_some_option word = option_or (as_option Limit word) (option_or (as_option Slot word) (option_or (as_option Slots word) (option_or (as_option Order word) (option_or (as_option Swap word) (as_option By word)))))

-- '-' and a byte more
abbrev pub is_dashed : List ℕ → Bool
is_dashed [] = false
is_dashed (b ∷ []) = false
is_dashed (b ∷ c ∷ word) = b == 45

unfoldable pub reading_of : List ℕ → Reading
reading_of word =
    if bytes_eq word (codes "--") then Ends
    else unwrap_or (as_some_option word) (if is_dashed word then Fails else Stands)

-- the item in front of the list, where there is one
abbrev pub in_front : {A : Type 0} → A → Option (List A) → Option (List A)
in_front x xs = option_map (λ ys. x ∷ ys) xs

-- the words as items, where a value of the option is due, if any
abbrev pub items_of : Option OptionName → List (List ℕ) → Option (List Item)
items_of None [] = Some []
items_of (Some option) [] = None
items_of (Some option) (word ∷ words) = in_front (Given option word) (items_of None words)
items_of None (word ∷ words) = elim (reading_of word) [
  | Ends ↦ Some (map Plain words)
  | Awaits option ↦ items_of (Some option) words
  | Gives option value ↦ in_front (Given option value) (items_of None words)
  | Stands ↦ in_front (Plain word) (items_of None words)
  | Fails ↦ None
]

-- the values that are given to the option
abbrev pub values_of : OptionName → List Item → List (List ℕ)
values_of option [] = []
values_of option (Given other value ∷ items) = if same_option option other then value ∷ values_of option items else values_of option items
values_of option (Plain word ∷ items) = values_of option items

-- the plain words, in order
abbrev pub plain_of : List Item → List (List ℕ)
plain_of [] = []
plain_of (Given option value ∷ items) = plain_of items
plain_of (Plain word ∷ items) = word ∷ plain_of items

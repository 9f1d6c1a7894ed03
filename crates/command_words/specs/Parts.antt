-- The values of the options and the plain words among words, while they are read from left to right.
use Rattle.std.specs.Prelude.{ℕ, List, [], ◌∷◌, ◌++◌, Option, Some, None, option_map}
use Rattle.command_words.specs.declared.option.OptionName.{OptionName}
use Rattle.command_words.specs.declared.option.OptionName.TheVariants.{Limit, Slot, Slots, Order, Swap, By}
use Rattle.command_words.specs.declared.parts.Parts as code
use Rattle.command_words.specs.Items.{Item, items_of, plain_of, values_of}
use Rattle.command_words.specs.PlainWords.{plain_seen}
use Rattle.command_words.specs.Spelling.{Found, few_words, one_value}
use Rattle.text_lines.specs.Headline.Steps.{◌>>=◌}

abbrev pub found_seen : code.Parts → Found
found_seen parts = record {
  limit = option_map (λ value. value.now) parts.limit;
  slot = option_map (λ value. value.now) parts.slot;
  slots = option_map (λ value. value.now) parts.slots;
  order = option_map (λ value. value.now) parts.order;
  swap = option_map (λ value. value.now) parts.swap;
  by = option_map (λ value. value.now) parts.by;
  plain = plain_seen parts.plain;
}

abbrev pub nothing_found : Found
nothing_found = record { limit = None; slot = None; slots = None; order = None; swap = None; by = None; plain = [] }

-- one value at the most, where this one may stand already
abbrev pub one_in_all : Option (List ℕ) → List (List ℕ) → Option (Option (List ℕ))
one_in_all None values = one_value values
one_in_all (Some value) [] = Some (Some value)
one_in_all (Some value) (other ∷ values) = None

-- what was found, and further items
abbrev pub with_items : Found → List Item → Option Found
with_items found items = do
  limit ← one_in_all found.limit (values_of Limit items)
  slot ← one_in_all found.slot (values_of Slot items)
  slots ← one_in_all found.slots (values_of Slots items)
  order ← one_in_all found.order (values_of Order items)
  swap ← one_in_all found.swap (values_of Swap items)
  by ← one_in_all found.by (values_of By items)
  plain ← few_words (found.plain ++ plain_of items)
  Some (record { limit = limit; slot = slot; slots = slots; order = order; swap = swap; by = by; plain = plain })

-- what was found, and further words
unfoldable pub with_words : Found → List (List ℕ) → Option Found
with_words found words = items_of None words >>= with_items found

-- the first value of an option
abbrev pub first_value : Option (List ℕ) → List ℕ → Option (Option (List ℕ))
first_value None value = Some (Some value)
first_value (Some other) value = None

-- what was found, and a value of an option
abbrev pub with_value : Found → OptionName → List ℕ → Option Found
with_value found Limit value = option_map (λ limit. record found { limit = limit }) (first_value found.limit value)
with_value found Slot value = option_map (λ slot. record found { slot = slot }) (first_value found.slot value)
with_value found Slots value = option_map (λ slots. record found { slots = slots }) (first_value found.slots value)
with_value found Order value = option_map (λ order. record found { order = order }) (first_value found.order value)
with_value found Swap value = option_map (λ swap. record found { swap = swap }) (first_value found.swap value)
with_value found By value = option_map (λ by. record found { by = by }) (first_value found.by value)

-- what was found, and plain words
abbrev pub with_plain : Found → List (List ℕ) → Option Found
with_plain found words = option_map (λ plain. record found { plain = plain }) (few_words (found.plain ++ words))

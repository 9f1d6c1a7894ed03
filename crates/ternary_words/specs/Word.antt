-- Trits of a mask and a value, one by one, and the key of a header as a number.
use Rattle.std.specs.Prelude.{ℕ, ◌+◌, ◌*◌, ◌/◌, ◌%◌, ◌^◌, Bool, true, false, List, [], ◌∷◌, Some, None, is_some, unwrap_or, slice_index, if◌then◌else◌}
use Rattle.std.specs.Bool.{beq}
use Rattle.std.specs.Option.{option_map_or}
use Rattle.field_boxes.specs.Headline.Fields.{width}
use Rattle.ternary_words.specs.Headline.Word.{Trit}

-- the trit with a bit of the mask and a bit of the value
abbrev pub trit : Bool → Bool → Trit
trit mask value = if mask then Some value else None

-- the trits of a mask and a value, place by place
abbrev pub trits : List Bool → List Bool → List Trit
trits [] values = []
trits (m ∷ ms) [] = []
trits (m ∷ ms) (v ∷ vs) = trit m v ∷ trits ms vs

-- whether the trit is '*' or equals the bit
abbrev pub trit_agrees : Trit → Bool → Bool
trit_agrees t bit = option_map_or (λ c. beq c bit) t true

-- the bit that a trit asks for: none for '*'
abbrev pub value_bit : Trit → Bool
value_bit t = unwrap_or t false

-- whether a trit asks for a bit
abbrev pub mask_bit : Trit → Bool
mask_bit t = is_some t

-- the key of a header as a number
abbrev pub key_of : List ℕ → ℕ
key_of values = slice_index values 0 * 2 ^ 72 + slice_index values 1 * 2 ^ 40 + slice_index values 2 * 2 ^ 24 + slice_index values 3 * 2 ^ 8 + slice_index values 4

-- the place of the lowest bit of a field in a key
abbrev pub low_bit : ℕ → ℕ
low_bit field = slice_index (72 ∷ 40 ∷ 24 ∷ 8 ∷ 0 ∷ []) field

-- the bits of a field in a key, as a number
abbrev pub field_part : ℕ → ℕ → ℕ
field_part field number = number / 2 ^ low_bit field % 2 ^ width field

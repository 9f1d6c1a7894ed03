-- The word of an entry in the second version: a value and a mask for each field, in hexadecimal.
use Rattle.std.specs.Prelude.{ℕ, ◌==◌, Bool, ◌&&◌, List, [], ◌∷◌, length, Option, Some, None, bit_and, if◌then◌else◌}
use Rattle.razor_limits.specs.declared.limits.TheConstants.{GREATEST_ADDRESS, GREATEST_PORT, GREATEST_PROTOCOL}
use Rattle.ternary_words.specs.Headline.Word.{Trit, header_bits}
use Rattle.ternary_words.specs.Word.{trits}
use Rattle.text_lines.specs.Headline.Cuts.{parts_at, split_once}
use Rattle.text_lines.specs.Headline.Numbers.{number_within}
use Rattle.text_lines.specs.Headline.Steps.{◌>>=◌}

-- the five columns of a line, and the decision, where a fifth space stands before it
pub record LineColumns : Type 0 where
  pub source : List ℕ
  pub destination : List ℕ
  pub source_port : List ℕ
  pub destination_port : List ℕ
  pub protocol : List ℕ
  pub decision : Option (List ℕ)

unfoldable pub columns_of : List ℕ → Option LineColumns
columns_of line = do
  a ← split_once 32 line
  b ← split_once 32 a.1
  c ← split_once 32 b.1
  d ← split_once 32 c.1
  Some (record { source = a.0; destination = b.0; source_port = c.0; destination_port = d.0; protocol = (parts_at 32 d.1).0; decision = (parts_at 32 d.1).1 })

-- what a field must have, and where
pub record Masked : Type 0 where
  pub value : ℕ
  pub mask : ℕ

-- so many hexadecimal digits
unfoldable pub hex_number : ℕ → ℕ → List ℕ → Option ℕ
hex_number digits greatest text = if length text == digits then number_within 16 greatest text else None

-- a value, '/', and a mask
unfoldable pub masked_of : ℕ → ℕ → List ℕ → Option Masked
masked_of digits greatest text = do
  parts ← split_once 47 text
  value ← hex_number digits greatest parts.0
  mask ← hex_number digits greatest parts.1
  Some (record { value = value; mask = mask })

-- the five fields
pub record Fields : Type 0 where
  pub source : Masked
  pub destination : Masked
  pub source_port : Masked
  pub destination_port : Masked
  pub protocol : Masked

-- eight digits for an address, four for a port, two for the protocol
unfoldable pub fields_of : LineColumns → Option Fields
fields_of columns = do
  source ← masked_of 8 GREATEST_ADDRESS columns.source
  destination ← masked_of 8 GREATEST_ADDRESS columns.destination
  source_port ← masked_of 4 GREATEST_PORT columns.source_port
  destination_port ← masked_of 4 GREATEST_PORT columns.destination_port
  protocol ← masked_of 2 GREATEST_PROTOCOL columns.protocol
  Some (record { source = source; destination = destination; source_port = source_port; destination_port = destination_port; protocol = protocol })

-- the value has no bit outside the mask
abbrev pub is_within : Masked → Bool
is_within field = bit_and field.value field.mask == field.value

abbrev pub are_within : Fields → Bool
are_within fields = is_within fields.source && is_within fields.destination && is_within fields.source_port && is_within fields.destination_port && is_within fields.protocol

abbrev pub values_of : Fields → List ℕ
values_of fields = fields.source.value ∷ fields.destination.value ∷ fields.source_port.value ∷ fields.destination_port.value ∷ fields.protocol.value ∷ []

abbrev pub masks_of : Fields → List ℕ
masks_of fields = fields.source.mask ∷ fields.destination.mask ∷ fields.source_port.mask ∷ fields.destination_port.mask ∷ fields.protocol.mask ∷ []

-- the trits: those that the masks ask for have the bits of the values
abbrev pub word_of_fields : Fields → List Trit
word_of_fields fields = trits (header_bits (masks_of fields)) (header_bits (values_of fields))

-- Addresses and the sets of those that agree in their first bits.
use Rattle.std.specs.Prelude.{ℕ, ◌+◌, ◌*◌, ◌-◌, ◌/◌, ◌^◌, List, Option, Some}
use Rattle.field_boxes.specs.Headline.Classifier.{Interval}
use Rattle.text_lines.specs.Headline.Cuts.{split_once}
use Rattle.text_lines.specs.Headline.Numbers.{short_number}
use Rattle.text_lines.specs.Headline.Steps.{◌>>=◌}

-- a.b.c.d, each of one to three digits and at most 255
unfoldable pub address_of : List ℕ → Option ℕ
address_of text = do
  a ← split_once 46 text
  b ← split_once 46 a.1
  c ← split_once 46 b.1
  first ← short_number 3 10 255 a.0
  second ← short_number 3 10 255 b.0
  third ← short_number 3 10 255 c.0
  fourth ← short_number 3 10 255 c.1
  Some (first * 2 ^ 24 + second * 2 ^ 16 + third * 2 ^ 8 + fourth)

-- a length: one or two digits, at most 32
unfoldable pub length_of : Option (List ℕ) → Option ℕ
length_of written = do
  text ← written
  short_number 2 10 32 text

-- the addresses that agree with this one in the first len bits
abbrev pub agreeing : ℕ → ℕ → Interval
agreeing address len = record { lo = address / 2 ^ (32 - len) * 2 ^ (32 - len); hi = address / 2 ^ (32 - len) * 2 ^ (32 - len) + (2 ^ (32 - len) - 1) }

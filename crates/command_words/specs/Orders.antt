-- Orders of the five fields, as they are written.
use Rattle.std.specs.Prelude.{ℕ, ◌-◌, ◌&&◌, ◌==◌, List, length, map, Option, Some, None, codes, option_map, if◌then◌else◌}
use Rattle.std.specs.List.{list_all}
use Rattle.std.specs.Char.{is_ascii_digit}
use Rattle.std.specs.Str.{bytes_eq}
use Rattle.field_boxes.specs.Orders.{is_order}

-- the numbers of the digits of a word
abbrev pub digits_of : List ℕ → List ℕ
digits_of word = map (λ b. b - 48) word

-- the order that a word of its digits writes
abbrev pub order_written : List ℕ → Option (List ℕ)
order_written word = if length word == 5 && (list_all is_ascii_digit word && is_order (digits_of word)) then Some (digits_of word) else None

-- the order that is wanted: the one that costs least, or this one
pub data Wanted : Type 0 where
  Best : Wanted
  In : List ℕ → Wanted

-- the order that a value of the option writes, where the option takes it
unfoldable pub order_wanted : List ℕ → Option Wanted
order_wanted value = if bytes_eq value (codes "best") then Some Best else option_map In (order_written value)

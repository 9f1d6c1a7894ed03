use Rattle.std.proofs.Common.{◌≡◌, min, nat_lt, take}
use Rattle.std.specs.Char.{digit_value}
use Rattle.std.specs.List.{list_all}
use Rattle.text_lines.specs.Headline.Numbers.{number_of}
use Rattle.text_lines.proofs.number.number_up_to.Given as goal

abbrev pub invariant-loop-byte : goal.invariant-loop-byte
invariant-loop-byte l = (l.number ≡ min (number_of l.base (take l.byte-index l.text)) l.cap) × (l.all ≡ list_all (λ b. nat_lt (digit_value b) l.base) (take l.byte-index l.text))

-- What a prefix of a field holds, as an interval and as bits.
use Rattle.std.specs.Prelude.{ℕ, ◌+◌, ◌-◌, ◌^◌, Bool, List, take}
use Rattle.field_boxes.specs.declared.prefix.Prefix.{Prefix}
use Rattle.field_boxes.specs.Headline.Classifier.{Interval}
use Rattle.field_boxes.specs.Headline.Bits.{bits}

-- the values that the prefix holds, as an interval
abbrev pub prefix_interval : ℕ → Prefix → Interval
prefix_interval width p = record { lo = p.value; hi = p.value + (2 ^ (width - p.len) - 1) }

-- the highest len of the width bits of its value
abbrev pub prefix_bits : ℕ → Prefix → List Bool
prefix_bits width p = take p.len (bits width p.value)

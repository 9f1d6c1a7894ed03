-- The two halves of a prefix.
use Rattle.std.specs.Prelude.{ℕ, ◌+◌, ◌-◌, ◌^◌}
use Rattle.field_boxes.specs.declared.prefix.Prefix.{Prefix}

-- the values whose next bit is 0
abbrev pub low_half : Prefix → Prefix
low_half p = record { value = p.value; len = p.len + 1 }

-- the values whose next bit is 1
abbrev pub high_half : ℕ → Prefix → Prefix
high_half width p = record { value = p.value + 2 ^ (width - (p.len + 1)); len = p.len + 1 }

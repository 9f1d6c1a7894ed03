-- The bits of a key.
use Rattle.std.specs.Prelude.{◌+◌, ◌*◌, ◌^◌, Bool, List}
use Rattle.field_boxes.specs.Headline.Bits.{bits}
use Rattle.tcam_sim.specs.declared.key.Key.{Key}

-- those of both numbers, one after another
abbrev pub key_bits : Key → List Bool
key_bits key = bits 104 (key.high * 2 ^ 64 + key.low)

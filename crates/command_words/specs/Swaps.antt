-- How the tables of a session are replaced, as it is written.
use Rattle.std.specs.Prelude.{ℕ, List, Option, Some, None, codes, if◌then◌else◌}
use Rattle.std.specs.Str.{bytes_eq}

-- each whole beside the old one, or by a patch of that
pub data Swap : Type 0 where
  Whole : Swap
  InPlace : Swap

-- the way that a value of the option writes, where the option takes it
abbrev pub swap_written : List ℕ → Option Swap
swap_written value = if bytes_eq value (codes "whole") then Some Whole else (if bytes_eq value (codes "patch") then Some InPlace else None)

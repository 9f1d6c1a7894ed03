-- How a session goes, as its options ask for it.
use Rattle.std.specs.Prelude.{ℕ, List, Option, Some, None, codes, if◌then◌else◌}
use Rattle.std.specs.Str.{bytes_eq}
use Rattle.field_boxes.specs.Headline.Fields.{stated}
use Rattle.command_words.specs.Orders.{Wanted, Best, In}
use Rattle.command_words.specs.Sizes.{Sizes}
use Rattle.command_words.specs.Swaps.{Swap}

-- whether the tables of a session are compiled or shortened
pub data By : Type 0 where
  Compiling : By
  Shortening : By

-- the way that a value of the option writes, where the option takes it
abbrev pub by_written : List ℕ → Option By
by_written value = if bytes_eq value (codes "compile") then Some Compiling else (if bytes_eq value (codes "shorten") then Some Shortening else None)

-- by which method they are made: compiled with the fields in this order, or shortened
pub data Making : Type 0 where
  CompiledIn : List ℕ → Making
  Shortened : Making

-- the stated order where none is given; no order is sought, and for shortened tables none is given
abbrev pub making_of : By → Option Wanted → Option Making
making_of Compiling None = Some (CompiledIn stated)
making_of Compiling (Some (In order)) = Some (CompiledIn order)
making_of Compiling (Some Best) = None
making_of Shortening None = Some Shortened
making_of Shortening (Some wanted) = None

-- the slots of the memory, the sizes of the tables, how they are made, and how they are replaced
pub record SessionTerms : Type 0 where
  pub slots : ℕ
  pub sizes : Sizes
  pub making : Making
  pub swap : Swap

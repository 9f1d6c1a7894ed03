-- Tables that say the same under the same numbers.
use Rattle.std.specs.Prelude.{◌≡◌}
use Rattle.ternary_words.specs.declared.table.Table as code_table

-- the same widths and counts, the same entries, and the same names under the same numbers
pub record IsCopyOf (table copy : code_table.Table) : Type 0 where
  pub slot : copy.slot ≡ table.slot
  pub composed : copy.composed ≡ table.composed
  pub entries : copy.entries.items ≡ table.entries.items
  pub names : copy.names ≡ table.names

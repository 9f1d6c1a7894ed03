-- Fields that hold their values.
use Rattle.std.specs.Prelude.{ℕ, ◌≤◌}
use Rattle.razor_limits.specs.declared.limits.TheConstants.{GREATEST_ADDRESS, GREATEST_PORT, GREATEST_PROTOCOL}
use Rattle.table_text.specs.declared.columns.Masked.{Masked}
use Rattle.table_text.specs.declared.columns.Fields.{Fields}

abbrev pub IsUpTo : ℕ → Masked → Type 0
IsUpTo greatest field = (field.value ≤ greatest) × (field.mask ≤ greatest)

-- each value and mask is one of its field
pub record AreFields (fields : Fields) : Type 0 where
  pub source : IsUpTo GREATEST_ADDRESS fields.source
  pub destination : IsUpTo GREATEST_ADDRESS fields.destination
  pub source_port : IsUpTo GREATEST_PORT fields.source_port
  pub destination_port : IsUpTo GREATEST_PORT fields.destination_port
  pub protocol : IsUpTo GREATEST_PROTOCOL fields.protocol

-- The columns of the code.
use Rattle.std.specs.Prelude.{option_map}
use Rattle.table_text.specs.declared.columns.LineColumns as code_columns
use Rattle.table_text.specs.declared.columns.Masked as code_masked
use Rattle.table_text.specs.declared.columns.Fields as code_fields
use Rattle.table_text.specs.Columns.{LineColumns, Masked, Fields}

abbrev pub columns_view : code_columns.LineColumns → LineColumns
columns_view c = record { source = c.source.now; destination = c.destination.now; source_port = c.source_port.now; destination_port = c.destination_port.now; protocol = c.protocol.now; decision = option_map (λ text. text.now) c.decision }

abbrev pub masked_view : code_masked.Masked → Masked
masked_view m = record { value = m.value; mask = m.mask }

abbrev pub fields_view : code_fields.Fields → Fields
fields_view f = record { source = masked_view f.source; destination = masked_view f.destination; source_port = masked_view f.source_port; destination_port = masked_view f.destination_port; protocol = masked_view f.protocol }

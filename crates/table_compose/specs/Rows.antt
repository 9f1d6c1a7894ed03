-- Rows that lead to nodes, as rows of a prefix list whose labels are the numbers of the nodes.
use Rattle.std.specs.Prelude.{ℕ, List, [], map, slice_get}
use Rattle.std.specs.Option.{option_map_or}
use Rattle.std.specs.Global.{Vec}
use Rattle.node_store.specs.declared.edge.NodeId.{NodeId}
use Rattle.prefix_min.specs.declared.row.PrefixRow.{PrefixRow}
use Rattle.table_compose.specs.declared.row.Row.{Row}

abbrev pub row_of : Row → PrefixRow
row_of r = record { prefix = r.prefix; label = r.to.0 }

abbrev pub rows_of : List Row → List PrefixRow
rows_of rows = map row_of rows

-- the number of the child at a place
abbrev pub child_at : List NodeId → ℕ → ℕ
child_at children place = option_map_or (λ c. c.0) (slice_get children place) 0

-- the row with the child at the place that is its label
abbrev pub led : List NodeId → PrefixRow → PrefixRow
led children r = record { prefix = r.prefix; label = child_at children r.label }

-- the rows of the list at a place, none past the end
abbrev pub rows_at : List (Vec Row) → ℕ → List PrefixRow
rows_at lists id = option_map_or (λ l. rows_of l.items) (slice_get lists id) []

-- What the code gives of a column, without where the tokens behind it lie.
use Rattle.std.specs.Prelude.{ℕ, List, Result, Ok, Err}
use Rattle.std.specs.Borrow.{Bor}
use Rattle.filter_reader.specs.declared.reason.Reason.{Reason}
use Rattle.filter_reader.specs.Headline.Tokens.{tokens}

-- a column's value, seen by a view, and the tokens behind it
abbrev pub column_by : {T V : Type 0} → (T → V) → Result (T × Bor (List ℕ)) Reason → Result (V × List (List ℕ)) Reason
column_by view (Ok column) = Ok (view column.0, tokens column.1.now)
column_by view (Err reason) = Err reason

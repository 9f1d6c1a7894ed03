-- What always holds of the tables of an editing session.
use Rattle.std.specs.Prelude.{◌≡◌, ℕ, List, map, Option, Some, None}
use Rattle.field_boxes.specs.Headline.Classifier.{Rule, source}
use Rattle.field_boxes.specs.Headline.Fields.{IsHeader, stated}
use Rattle.ternary_words.specs.Headline.Table as words
use Rattle.ternary_words.specs.Views.{entry_of}
use Rattle.ternary_words.specs.declared.table.Table as code
use Rattle.bank_update.specs.Machine.{State, Update}
use Rattle.bank_update.specs.Standing.{Standing, answer}
use Rattle.edit_session.specs.Machine.{Copies}

-- the table decides every header as the list does
abbrev pub IsTableOf : List (Rule (List ℕ)) → Standing → Type 0
IsTableOf rules table = (header : List ℕ) → IsHeader header → answer table header ≡ source stated header rules

-- the same of a table of the code, wherever it stands
abbrev pub IsTableBy : List (Rule (List ℕ)) → code.Table → Type 0
IsTableBy rules table = (header : List ℕ) → IsHeader header → words.answer (map (entry_of table.names) table.entries.items) header ≡ source stated header rules

-- a list is kept exactly where a swap is pending, and the pending table is a table of it
abbrev pub IsPendingOf : Option (List (Rule (List ℕ))) → Option Update → Type 0
IsPendingOf None None = Unit {0}
IsPendingOf (Some rules) None = ⊥
IsPendingOf None (Some u) = ⊥
IsPendingOf (Some rules) (Some u) = IsTableOf rules u.plan.new

-- the settled table is a table of its list, and so is the pending one
pub record AreTablesOf (copies : Copies) (s : State) : Type 0 where
  pub settled : IsTableOf copies.settled s.settled
  pub pending : IsPendingOf copies.pending s.pending

-- The table that is made of a list is one for the list, or the list needs too much.
use Rattle.std.proofs.Common.{ℕ, List, Result}
use Rattle.std.specs.Prelude.{MatchResult}
use Rattle.field_boxes.specs.Alike.{AreAlike, source_of}
use Rattle.field_boxes.specs.Headline.Classifier.{Rule}
use Rattle.ternary_words.specs.Headline.Table.{Table, answer}
use Rattle.ternary_words.specs.declared.table.Table as code
use Rattle.ternary_words.specs.Views.{table_of}
use Rattle.edit_session.specs.Methods.{Compiled, IsMade, IsUnmade, Method, Shortened}
use Rattle.edit_session.specs.declared.refusal.CommitRefusal.{CommitRefusal}

-- what making a table of rules gives
abbrev pub Makes : Method → List (Rule (List ℕ)) → ℕ → ℕ → Result code.Table CommitRefusal → Type 0
Makes method rules limit slot r = MatchResult r (λ table. IsMade method rules limit slot (table_of table)) (IsUnmade method rules limit)

-- what is made answers as the rules decide
pub made-answers : (method : Method) (rules : List (Rule (List ℕ))) (limit slot : ℕ) (table : Table) → IsMade method rules limit slot table → AreAlike (answer table.entries) (source_of rules)
made-answers (Compiled order) rules limit slot table made = made.0.answers
made-answers Shortened rules limit slot table made = made.answers

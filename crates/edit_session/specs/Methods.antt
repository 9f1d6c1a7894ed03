-- By which method the table of a commit is made of the list.
use Rattle.std.specs.Prelude.{◌≡◌, ℕ, ◌<◌, ◌≤◌, List}
use Rattle.field_boxes.specs.Headline.Classifier.{Rule}
use Rattle.ternary_words.specs.Headline.Table.{Table}
use Rattle.rule_compilation.specs.Compiled.{IsCompiledIn}
use Rattle.rule_expansion.specs.Expansion.{expanded_count}
use Rattle.rule_shortening.specs.Shortened.{IsShortTable}
use Rattle.table_compose.specs.Headline.LeastCost.{IsLeastCost}
use Rattle.edit_session.specs.declared.maker.Maker as code_maker
use Rattle.edit_session.specs.declared.maker.Maker.TheVariants as makers
use Rattle.edit_session.specs.declared.maker.Method as code_method
use Rattle.edit_session.specs.declared.maker.Method.TheVariants as methods
use Rattle.edit_session.specs.declared.refusal.CommitRefusal.{CommitRefusal}
use Rattle.edit_session.specs.declared.refusal.CommitRefusal.TheVariants as commits

-- compiled with the fields in an order, or by a search for a short table
pub data Method : Type 0 where
  Compiled : List ℕ → Method
  Shortened : Method

-- the same of the code
abbrev pub method_seen : code_method.Method → Method
method_seen (methods.Compiled order) = Compiled order.now
method_seen methods.Shortened = Shortened

-- the method of a maker
abbrev pub method_of : code_maker.Maker → Method
method_of (makers.Compiles order) = Compiled order
method_of (makers.Shortens shortener) = Shortened

-- the table is one that the method makes of the rules, within the limit
abbrev pub IsMade : Method → List (Rule (List ℕ)) → ℕ → ℕ → Table → Type 0
IsMade (Compiled order) rules limit slot table = IsCompiledIn order rules slot table × (table.composed ≤ limit)
IsMade Shortened rules limit slot table = IsShortTable rules limit slot table

-- so many entries are what the method is refused for above a limit: the least cost in the order, or those of the direct expansion
abbrev pub IsNeeded : Method → List (Rule (List ℕ)) → ℕ → Type 0
IsNeeded (Compiled order) rules needed = IsLeastCost order rules needed
IsNeeded Shortened rules needed = needed ≡ expanded_count rules

-- why the method makes no table
abbrev pub IsUnmade : Method → List (Rule (List ℕ)) → ℕ → CommitRefusal → Type 0
IsUnmade method rules limit (commits.TooMany needed most) = IsNeeded method rules needed × (most ≡ limit) × (limit < needed)
IsUnmade method rules limit commits.Memory = Unit {0}
IsUnmade method rules limit refusal = ⊥

-- Two sides compared header by header, by the names that they give.
use Rattle.std.specs.Prelude.{◌≡◌, ◌≤◌, ℕ, List, Option, length}
use Rattle.field_boxes.specs.Names.{name_at}
use Rattle.field_boxes.specs.Alike.{AreAlike, IsFirstDifference}
use Rattle.field_boxes.specs.declared.rule_list.RuleList.{RuleList}
use Rattle.field_boxes.specs.Lists.{name_decided}
use Rattle.list_equiv.specs.declared.verdict.Verdict.{Verdict}
use Rattle.list_equiv.specs.declared.verdict.Verdict.TheVariants.{Equal, Differ}

-- the number of this name among the names, 0 for none
pub record IsNumberOf (names : List (List ℕ)) (name : Option (List ℕ)) (number : ℕ) : Type 0 where
  pub within : number ≤ length names
  pub is : name_at names number ≡ name

-- the two differ: first on this header, to which they give the names with these numbers
pub record Differs (left_names right_names : List (List ℕ)) (left right : List ℕ → Option (List ℕ)) (header : List ℕ) (first second : ℕ) : Type 0 where
  pub least : IsFirstDifference left right header
  pub left_number : IsNumberOf left_names (left header) first
  pub right_number : IsNumberOf right_names (right header) second

-- what the verdict says of two that give these names, numbered so
abbrev pub IsVerdict : List (List ℕ) → List (List ℕ) → (List ℕ → Option (List ℕ)) → (List ℕ → Option (List ℕ)) → Verdict → Type 0
IsVerdict left_names right_names left right Equal = AreAlike left right
IsVerdict left_names right_names left right (Differ header first second) = Differs left_names right_names left right header.values first second

-- what it says of two lists
abbrev pub IsListVerdict : RuleList → RuleList → Verdict → Type 0
IsListVerdict left right verdict = IsVerdict left.names right.names (name_decided left) (name_decided right) verdict

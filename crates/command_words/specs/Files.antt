-- File words: how many a command has, and that no two of them are equal.
use Rattle.std.specs.Prelude.{ℕ, Bool, true, not, ◌&&◌, List, [], ◌∷◌, length, nat_le, Option, Some, None, if◌then◌else◌}
use Rattle.std.specs.List.{list_any}
use Rattle.std.specs.Str.{bytes_eq}

-- no two of the words are equal
abbrev pub all_differ : List (List ℕ) → Bool
all_differ [] = true
all_differ (word ∷ words) = not (list_any (λ other. bytes_eq other word) words) && all_differ words

-- what is made of one file
abbrev pub over_one : {C : Type 0} → (List ℕ → C) → List (List ℕ) → Option C
over_one make (file ∷ []) = Some (make file)
over_one make words = None

-- of two files
abbrev pub over_two : {C : Type 0} → (List ℕ → List ℕ → C) → List (List ℕ) → Option C
over_two make (first ∷ second ∷ []) = if all_differ (first ∷ second ∷ []) then Some (make first second) else None
over_two make words = None

-- of three files
abbrev pub over_three : {C : Type 0} → (List ℕ → List ℕ → List ℕ → C) → List (List ℕ) → Option C
over_three make (first ∷ second ∷ third ∷ []) = if all_differ (first ∷ second ∷ third ∷ []) then Some (make first second third) else None
over_three make words = None

-- a script and one to eight tables
abbrev pub is_script_run : List (List ℕ) → Bool
is_script_run words = nat_le 2 (length words) && nat_le (length words) 9 && all_differ words

-- what is made of a script and its tables
abbrev pub script_and_tables : {C : Type 0} → (List ℕ → List (List ℕ) → C) → List (List ℕ) → C
script_and_tables make [] = make [] []
script_and_tables make (script ∷ tables) = make script tables

abbrev pub over_script : {C : Type 0} → (List ℕ → List (List ℕ) → C) → List (List ℕ) → Option C
over_script make words = if is_script_run words then Some (script_and_tables make words) else None

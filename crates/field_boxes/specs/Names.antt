-- Names of decisions by their numbers.
use Rattle.std.specs.Prelude.{◌≡◌, ◌≢◌, ℕ, zero, suc, ◌≤◌, Bool, not, ◌&&◌, List, [], ◌∷◌, ◌++◌, length, All, Option, Some, None, option_map, position, ◌+◌, slice_get, if◌then◌else◌}
use Rattle.std.specs.List.{list_any}
use Rattle.std.specs.Str.{bytes_eq}
use Rattle.field_boxes.specs.Headline.Names.{miss, has_word_form}
use Rattle.razor_limits.specs.declared.limits.TheConstants.{MOST_ENTRIES}

-- a decision word: of that form, and not the word for no decision
abbrev pub is_decision_word : List ℕ → Bool
is_decision_word text = has_word_form text && not (bytes_eq text miss)

-- the name with a number: none for 0, and from 1 the names in their order
abbrev pub name_at : List (List ℕ) → ℕ → Option (List ℕ)
name_at names zero = None
name_at names (suc k) = slice_get names k

-- the first number whose text this is: 0 for miss
abbrev pub number_of : List (List ℕ) → List ℕ → Option ℕ
number_of names text = if bytes_eq text miss then Some 0 else option_map (λ k. k + 1) (position (bytes_eq text) names)

-- whether the name is one of these
abbrev pub is_known : List (List ℕ) → List ℕ → Bool
is_known names name = list_any (bytes_eq name) names

-- the names after one is seen: a new one goes last
abbrev pub with_name : List (List ℕ) → List ℕ → List (List ℕ)
with_name names name = if is_known names name then names else names ++ name ∷ []

-- different numbers, 0 for none among them, stand for different names
abbrev pub AreDistinct : List (List ℕ) → Type 0
AreDistinct names = (i j : ℕ) → i ≤ length names → j ≤ length names → name_at names i ≡ name_at names j → i ≡ j

-- there are at most so many names, none is the word for no decision, and none stands twice
pub record AreNames (names : List (List ℕ)) : Type 0 where
  pub few : length names ≤ MOST_ENTRIES
  pub named : All (λ name. name ≢ miss) names
  pub distinct : AreDistinct names

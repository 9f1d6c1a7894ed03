-- What is asked of a list: in which spans, and where it decides what.
use Rattle.std.specs.Prelude.{ℕ, ◌+◌, ◌==◌, Bool, false, not, ◌&&◌, ◌||◌, List, [], ◌∷◌, codes, Option, Some, None, if◌then◌else◌}
use Rattle.std.specs.Option.{is_some}
use Rattle.std.specs.Str.{bytes_eq}
use Rattle.razor_limits.specs.declared.limits.TheConstants.{MOST_RULES}
use Rattle.field_boxes.specs.Headline.Classifier.{Interval}
use Rattle.field_boxes.specs.Fields.{greatest_of}
use Rattle.field_boxes.specs.Headline.Names.{miss}
use Rattle.field_boxes.specs.Names.{is_decision_word}
use Rattle.command_words.specs.Numbers.{number_between}
use Rattle.text_lines.specs.Headline.Cuts.{split_once}
use Rattle.text_lines.specs.Headline.Steps.{◌>>=◌}

abbrev pub span : ℕ → ℕ → Interval
span lo hi = record { lo = lo; hi = hi }

-- the values from one number to another, with '-' between them
unfoldable pub span_written : ℕ → List ℕ → Option Interval
span_written greatest word = do
  ends ← split_once 45 word
  lo ← number_between 0 greatest ends.0
  hi ← number_between lo greatest ends.1
  Some (span lo hi)

-- all values up to the greatest, or a span of them
unfoldable pub span_asked : ℕ → List ℕ → Option Interval
span_asked greatest word = if bytes_eq word (codes "*") then Some (span 0 greatest) else span_written greatest word

-- the spans of the fields from one on, a word each
abbrev pub spans_asked : ℕ → List (List ℕ) → Option (List Interval)
spans_asked field [] = Some []
spans_asked field (word ∷ words) = do
  span ← span_asked (greatest_of field) word
  spans ← spans_asked (field + 1) words
  Some (span ∷ spans)

-- '#' and the number of a rule, 1 to 65536, without leading zeros
abbrev pub is_own_name : List ℕ → Bool
is_own_name (hash ∷ digit ∷ digits) = hash == 35 && (not (digit == 48) && is_some (number_between 1 MOST_RULES (digit ∷ digits)))
is_own_name word = false

-- what a query may name: a decision word, the name of a rule without one, or miss
unfoldable pub is_decision : List ℕ → Bool
is_decision word = bytes_eq word miss || (is_decision_word word || is_own_name word)

-- the name that a text is of a decision: none for miss
abbrev pub name_in : List ℕ → Option (List ℕ)
name_in text = if bytes_eq text miss then None else Some text

-- the decision that a word names
abbrev pub decision_asked : List ℕ → Option (Option (List ℕ))
decision_asked word = if is_decision word then Some (name_in word) else None

-- what is made of a list, five spans and a decision
abbrev pub asking : {C : Type 0} → (List ℕ → List Interval → Option (List ℕ) → C) → List (List ℕ) → Option C
asking make (list ∷ source ∷ destination ∷ from ∷ to ∷ protocol ∷ decision ∷ []) = do
  spans ← spans_asked 0 (source ∷ destination ∷ from ∷ to ∷ protocol ∷ [])
  decision ← decision_asked decision
  Some (make list spans decision)
asking make words = None

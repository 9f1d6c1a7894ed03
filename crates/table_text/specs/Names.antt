-- The decision at the end of an entry's line.
use Rattle.std.specs.Prelude.{ℕ, ◌==◌, Bool, false, not, ◌&&◌, ◌||◌, List, [], ◌∷◌, Option, Some, None, is_some, if◌then◌else◌}
use Rattle.std.specs.Str.{bytes_eq}
use Rattle.razor_limits.specs.declared.limits.TheConstants.{MOST_RULES}
use Rattle.field_boxes.specs.Headline.Names.{miss}
use Rattle.field_boxes.specs.Names.{is_decision_word}
use Rattle.text_lines.specs.Numbers.{plain_number}

-- '#', and a number from 1 to 65,536 without leading zeros
abbrev pub is_rule_name : List ℕ → Bool
is_rule_name [] = false
is_rule_name (b ∷ digits) = b == 35 && not (bytes_eq digits (48 ∷ [])) && is_some (plain_number MOST_RULES digits)

-- a name that a table's text can spell: a decision word, or the name of a rule without one
abbrev pub is_name : List ℕ → Bool
is_name text = is_decision_word text || is_rule_name text

-- the word for no decision, a decision word, or the name of a rule without one
abbrev pub is_decision : List ℕ → Bool
is_decision text = bytes_eq text miss || is_decision_word text || is_rule_name text

-- what the text decides: none for the word for no decision
abbrev pub decided : List ℕ → Option (List ℕ)
decided text = if bytes_eq text miss then None else Some text

-- The lines of a proof, by their words.
use Rattle.std.specs.Prelude.{ℕ, ◌+◌, nat_eq, Bool, true, false, List, [], ◌∷◌, ◌++◌, Option, Some, None, option_and_then, option_map, option_to_list, codes, length, slice_get, if◌then◌else◌}
use Rattle.std.specs.List.{onto_first}
use Rattle.std.specs.Str.{bytes_eq}
use Rattle.text_lines.specs.Headline.Steps.{◌>>=◌}
use Rattle.text_lines.specs.Numbers.{plain_number}
use Rattle.agreement_check.specs.declared.pair.Pair.{Pair}
use Rattle.agreement_check.specs.declared.step.Step.{Step}
use Rattle.agreement_check.specs.declared.step.Terms.{Terms}
use Rattle.agreement_check.specs.Steps.{cover_of, place_in}

-- the words of a line: each space parts two
abbrev pub words_of : List ℕ → List (List ℕ)
words_of [] = [] ∷ []
words_of (b ∷ line) = if nat_eq b 32 then [] ∷ words_of line else onto_first b (words_of line)

-- what a word has to be, and the number that it gives, if it is one: this text, or a number up to this one
abbrev pub Due : Type 0
Due = List ℕ → Option (Option ℕ)

abbrev pub text_due : List ℕ → Due
text_due text word = if bytes_eq word text then Some None else None

abbrev pub number_due : ℕ → Due
number_due greatest word = option_map (λ n. Some n) (plain_number greatest word)

-- what the word at a place has to be
abbrev pub due_at : List Due → ℕ → Due
due_at dues place word = option_and_then (λ (due : Due). due word) (slice_get dues place)

-- the numbers in words that are, one by one, what they have to be
abbrev pub numbers_in : List Due → List (List ℕ) → Option (List ℕ)
numbers_in [] [] = Some []
numbers_in [] (word ∷ words) = None
numbers_in (due ∷ dues) [] = None
numbers_in (due ∷ dues) (word ∷ words) = do
  own ← due word
  more ← numbers_in dues words
  Some (option_to_list own ++ more)

-- the first line: the counts of rules and of entries
abbrev pub counts_due : List Due
counts_due = text_due (codes "proof") ∷ text_due (codes "1") ∷ text_due (codes "rules") ∷ number_due 4294967295 ∷ text_due (codes "entries") ∷ number_due 4294967295 ∷ []

-- and behind them a header, for a proof of a difference
abbrev pub header_due : List Due
header_due = text_due (codes "before") ∷ number_due 4294967295 ∷ number_due 4294967295 ∷ number_due 65535 ∷ number_due 65535 ∷ number_due 255 ∷ []

pub record Heading : Type 0 where
  pub rules : ℕ
  pub entries : ℕ
  pub before : Option (List ℕ)

-- two counts, or two counts and a header
abbrev pub heading_by : List ℕ → Option Heading
heading_by (n ∷ m ∷ []) = Some (record { rules = n; entries = m; before = None })
heading_by (n ∷ m ∷ a ∷ b ∷ c ∷ d ∷ e ∷ []) = Some (record { rules = n; entries = m; before = Some (a ∷ b ∷ c ∷ d ∷ e ∷ []) })
heading_by numbers = None

unfoldable pub heading_of : List (List ℕ) → Option Heading
heading_of words = do
  numbers ← numbers_in (if nat_eq (length words) 6 then counts_due else counts_due ++ header_due) words
  heading_by numbers

-- each further line: the cover of an entry, of a rule or of a pair, or the number of pairs
pub data Line : Type 0 where
  entry_line : List Step → Line
  rule_line : List Step → Line
  pair_line : Pair → List Step → Line
  last_line : ℕ → Line

abbrev pub pair_line_of : Terms → List (List ℕ) → Option Line
pair_line_of terms (i ∷ j ∷ words) = do
  rule ← place_in terms.rules i
  entry ← place_in terms.entries j
  steps ← cover_of terms words
  Some (pair_line (record { rule = rule; entry = entry }) steps)
pair_line_of terms words = None

abbrev pub last_line_of : List (List ℕ) → Option Line
last_line_of (k ∷ []) = option_map (λ n. last_line n) (plain_number 4294967295 k)
last_line_of words = None

-- the line that the words spell, for so many rules and entries, each with the open one, and a header or none that the first line states
abbrev pub terms_of : ℕ → ℕ → Bool → Bool → Terms
terms_of rules entries missed late = record { rules = rules + 1; entries = entries + 1; missed = missed; late = late }

abbrev pub line_by : ℕ → ℕ → Bool → List ℕ → List (List ℕ) → Option Line
line_by rules entries late kind words =
    if bytes_eq kind (codes "e") then option_map (λ steps. entry_line steps) (cover_of (terms_of rules entries false late) words)
    else (if bytes_eq kind (codes "r") then option_map (λ steps. rule_line steps) (cover_of (terms_of rules entries true late) words)
    else (if bytes_eq kind (codes "p") then pair_line_of (terms_of rules entries true late) words
    else (if bytes_eq kind (codes "pairs") then last_line_of words else None)))

abbrev pub line_of : ℕ → ℕ → Bool → List (List ℕ) → Option Line
line_of rules entries late [] = None
line_of rules entries late (kind ∷ words) = line_by rules entries late kind words

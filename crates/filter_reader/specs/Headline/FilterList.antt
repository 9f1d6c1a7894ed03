-- The text of a filter list: what its lines come to.
use Rattle.std.specs.Prelude.{ℕ, ◌+◌, List, [], ◌∷◌, ◌++◌, length, unwrap_or, Result, Ok, if◌then◌else◌}
use Rattle.std.specs.Fmt.{decimal}
use Rattle.field_boxes.specs.Headline.Classifier.{Rule}
use Rattle.field_boxes.specs.Headline.FilterList.{FilterList}
use Rattle.filter_reader.specs.declared.reason.Reason.{Reason}
use Rattle.text_lines.specs.Headline.Fallible.{◌>>=◌}
use Rattle.text_lines.specs.Headline.Lines.{text_lines}
use Rattle.text_lines.specs.Headline.Reading.{BadLine, read_from}
use Rattle.filter_reader.specs.Headline.RuleLine.{SpelledRule, rule_line}

-- '#' and the number of a rule: the name of its decision where its line has no word
abbrev pub own_name : ℕ → List ℕ
own_name k = 35 ∷ decimal k

-- rule k of a list
abbrev pub named : ℕ → SpelledRule → Rule (List ℕ)
named k spelled = record { sets = spelled.sets; decision = unwrap_or spelled.word (own_name k) }

-- a list with the rule of one more line, or why that is bad
abbrev pub with_line : FilterList → List ℕ → Result FilterList Reason
with_line list line = rule_line (length list.rules) line >>= (λ spelled. Ok (record { rules = list.rules ++ named (length list.rules + 1) spelled ∷ []; flagged = list.flagged + (if spelled.flagged then 1 else 0) }))

-- the list that a text spells, or its first bad line
abbrev pub list_of : List ℕ → Result FilterList (BadLine Reason)
list_of text = read_from with_line (record { rules = []; flagged = 0 }) 1 (text_lines text)

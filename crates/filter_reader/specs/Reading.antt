-- A list while it is read.
use Rattle.std.specs.Prelude.{ℕ, ◌+◌, List, [], ◌∷◌, ◌++◌, length, if◌then◌else◌}
use Rattle.field_boxes.specs.declared.rule.Rule as code
use Rattle.field_boxes.specs.NamedRules.{named_rules}
use Rattle.field_boxes.specs.Headline.FilterList.{FilterList}
use Rattle.filter_reader.specs.Headline.FilterList.{named}
use Rattle.filter_reader.specs.Headline.RuleLine.{SpelledRule}

-- the list that was read so far
abbrev pub read_so_far : List (List ℕ) → List code.Rule → ℕ → FilterList
read_so_far names rules flagged = record { rules = named_rules names rules; flagged = flagged }

-- 1 for a rule that is flagged
abbrev pub flags_of : SpelledRule → ℕ
flags_of spelled = if spelled.flagged then 1 else 0

-- a rule behind those of a list
abbrev pub with_rule : FilterList → SpelledRule → FilterList
with_rule list spelled = record { rules = list.rules ++ named (length list.rules + 1) spelled ∷ []; flagged = list.flagged + flags_of spelled }

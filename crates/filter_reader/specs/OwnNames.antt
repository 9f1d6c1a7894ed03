-- Lists in which a rule is named by a decision word or by its own number.
use Rattle.std.specs.Prelude.{ℕ, ◌+◌, ◌||◌, List, [], ◌∷◌, IsTrue}
use Rattle.std.specs.Str.{bytes_eq}
use Rattle.field_boxes.specs.Headline.Classifier.{Rule}
use Rattle.field_boxes.specs.Names.{is_decision_word}
use Rattle.filter_reader.specs.Headline.FilterList.{own_name}

-- a decision word, or '#' and this number
abbrev pub IsNameOf : ℕ → List ℕ → Type 0
IsNameOf k name = IsTrue (is_decision_word name || bytes_eq name (own_name k))

-- the rules from rule k on are named so
abbrev pub HaveNames : ℕ → List (Rule (List ℕ)) → Type 0
HaveNames k [] = Unit {0}
HaveNames k (rule ∷ rules) = IsNameOf k rule.decision × HaveNames (k + 1) rules

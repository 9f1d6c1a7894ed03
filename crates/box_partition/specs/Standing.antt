-- Rules that stand for what is tested on headers: for the rules of a list, or for the entries of a table.
use Rattle.std.specs.Prelude.{◌≡◌, ℕ, ◌+◌, Bool, List, length, Some, slice_get, slice_index_or}
use Rattle.field_boxes.specs.declared.rule.Rule.{Rule}
use Rattle.field_boxes.specs.Headline.Fields.{stated, IsHeader}
use Rattle.field_boxes.specs.Headline.Classifier.{matches}
use Rattle.field_boxes.specs.Rules.{rule_of}
use Rattle.ternary_words.specs.declared.entry.Entry.{Entry}

-- the rule matches the headers that pass the test
abbrev pub Matches : (List ℕ → Bool) → Rule → Type 0
Matches test r = (header : List ℕ) → IsHeader header → matches stated header (rule_of r) ≡ test header

-- place by place, the rules match as the items do, and decide the items' numbers
pub record StandFor {X : Type 0} (test : List ℕ → X → Bool) (number : ℕ → X → ℕ) (items : List X) (rules : List Rule) : Type 0 where
  pub count : length rules ≡ length items
  pub matched : (k : ℕ) (x : X) (d : Rule) → slice_get items k ≡ Some x → Matches (λ header. test header x) (slice_index_or rules k d)
  pub decided : (k : ℕ) (x : X) (d : Rule) → slice_get items k ≡ Some x → (slice_index_or rules k d).decision ≡ number k x

-- the number of a place, counted from 1
abbrev pub counted : {X : Type 0} → ℕ → X → ℕ
counted k x = k + 1

-- the number that an entry decides, wherever it stands
abbrev pub own_number : ℕ → Entry → ℕ
own_number k e = e.decision

-- Entries that stand for rules while their table is made.
use Rattle.std.specs.Prelude.{◌≡◌, ◌≤◌, ℕ, List, length, map, drop}
use Rattle.field_boxes.specs.declared.rule.Rule as code
use Rattle.field_boxes.specs.Alike.{AreAlike, IsTight}
use Rattle.field_boxes.specs.Rules.{rule_of}
use Rattle.ternary_words.specs.declared.entry.Entry.{Entry}
use Rattle.ternary_words.specs.Entries.{answer, ArePrefixes}
use Rattle.ternary_words.specs.Limits.{AreNumbered}
use Rattle.rule_expansion.specs.Entries.{decided_of}
use Rattle.rule_expansion.specs.Expansion.{decided_words}
use Rattle.rule_shortening.specs.declared.draft.Draft.{Draft}

-- the new entries answer as the old ones do, and are at most as many; where the words of the old ones are prefixes in each field,
-- and their decisions numbers of so many names, so are theirs
pub record AreAsShort (count : ℕ) (old new : List Entry) : Type 0 where
  pub alike : AreAlike (answer new) (answer old)
  pub fewer : length new ≤ length old
  pub prefixes : ArePrefixes old → ArePrefixes new
  pub numbered : AreNumbered count old → AreNumbered count new

-- the entries answer as the direct expansion of the rules does, and are at most as many; their words are prefixes in each field,
-- and their decisions numbers of so many names
pub record AreFor (count : ℕ) (rules : List code.Rule) (entries : List Entry) : Type 0 where
  pub all : List Entry
  pub spelled : map decided_of all ≡ decided_words (map rule_of rules)
  pub alike : AreAlike (answer entries) (answer all)
  pub fewer : length entries ≤ length all
  pub prefixes : ArePrefixes entries
  pub numbered : AreNumbered count entries

-- and none of them can go
pub record AreShortFor (count : ℕ) (rules : List code.Rule) (entries : List Entry) : Type 0 where
  pub for_rules : AreFor count rules entries
  pub tight : IsTight answer entries

-- the draft's entries stand for the rules from one of them on
pub record IsDraftOf (count : ℕ) (rules : List code.Rule) (draft : Draft) : Type 0 where
  pub within : draft.first ≤ length rules
  pub entries : AreFor count (drop draft.first rules) draft.entries.items

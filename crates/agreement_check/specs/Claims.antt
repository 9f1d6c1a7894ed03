-- What the lines of a proof claim, what is taken of them, and the open pairs that are left then.
use Rattle.std.specs.Prelude.{◌≡◌, ℕ, ◌+◌, ◌-◌, ◌^◌, ◌<◌, true, List, [], Contains, Option, Some, length, slice_get, slice_index}
use Rattle.std.specs.Option.{option_map_or}
use Rattle.field_boxes.specs.Names.{name_at}
use Rattle.field_boxes.specs.declared.rule.Rule.{Rule}
use Rattle.field_boxes.specs.declared.rule_list.RuleList.{RuleList}
use Rattle.ternary_words.specs.declared.entry.Entry.{Entry}
use Rattle.ternary_words.specs.declared.table.Table.{Table}
use Rattle.ternary_words.specs.Word.{key_of}
use Rattle.agreement_check.specs.declared.pair.Pair.{Pair}
use Rattle.word_cover.specs.Cubes.{Meet, meet_of}
use Rattle.agreement_check.specs.Covers.{Sides, Claim, MeetsRuleAt, rule_word, entry_word}
use Rattle.agreement_check.specs.Pairs.{comes_before}

-- the entry at a place is covered by rules and by the entries before it
abbrev pub entry_claim : Sides → ℕ → Claim
entry_claim s j = record { cube = entry_word s.table.entries.items j; of = length s.list.rules.items; rules = length s.list.rules.items + 1; entries = j }

-- the rule at a place by the rules before it and by entries
abbrev pub rule_claim : Sides → ℕ → Claim
rule_claim s i = record { cube = rule_word s.list.rules.items i; of = i; rules = i; entries = length s.table.entries.items + 1 }

-- what both have by the rules and the entries before them
abbrev pub pair_claim : Sides → Pair → Claim
pair_claim s p = record { cube = meet_of (rule_word s.list.rules.items p.rule) (entry_word s.table.entries.items p.entry); of = p.rule; rules = p.rule; entries = p.entry }

-- what is taken of a proof: the header that its first line states, for each entry how many of the first rules its cover reaches, for each
-- rule how many of the first entries, and the pairs that have a line
pub record Taken : Type 0 where
  pub before : Option (List ℕ)
  pub entries : List ℕ
  pub rules : List ℕ
  pub pairs : List Pair

abbrev pub begun : Option (List ℕ) → Taken
begun before = record { before = before; entries = []; rules = []; pairs = [] }

-- the key below which list and table are compared
abbrev pub bound_of : Option (List ℕ) → ℕ
bound_of before = option_map_or key_of before (2 ^ 104)

abbrev pub sides_of : RuleList → Table → Taken → Sides
sides_of list table t = record { list = list; table = table; bound = bound_of t.before }

-- what the rule at a place decides, and the entry; 0, which is no decision, where the open one stands
abbrev pub rule_decides : List Rule → ℕ → ℕ
rule_decides rules i = option_map_or (λ (r : Rule). r.decision) (slice_get rules i) 0

abbrev pub entry_decides : List Entry → ℕ → ℕ
entry_decides entries j = option_map_or (λ (e : Entry). e.decision) (slice_get entries j) 0

-- both decide one name, or none
abbrev pub DecideAlike : Sides → Pair → Type 0
DecideAlike s p = name_at s.list.names (rule_decides s.list.rules.items p.rule) ≡ name_at s.table.names (entry_decides s.table.entries.items p.entry)

-- neither cover keeps rule and entry from coming first on one header, they decide by other names, their words meet, and the box of the entry's word
-- has a header that matches the rule
pub record IsOpenPair (s : Sides) (t : Taken) (p : Pair) : Type 0 where
  pub rule_reached : p.rule < slice_index t.entries p.entry
  pub entry_reached : p.entry < slice_index t.rules p.rule
  pub apart : ¬ DecideAlike s p
  pub words : Meet (rule_word s.list.rules.items p.rule) (entry_word s.table.entries.items p.entry)
  pub boxes : MeetsRuleAt s.list.rules.items p.rule (entry_word s.table.entries.items p.entry)

-- each open pair has a line
abbrev pub EachHasLine : Sides → Taken → Type 0
EachHasLine s t = (p : Pair) → IsOpenPair s t p → Contains t.pairs p

-- the pair is open and has no line
pub record IsMissing (s : Sides) (t : Taken) (p : Pair) : Type 0 where
  pub open_pair : IsOpenPair s t p
  pub without : ¬ Contains t.pairs p

-- and it is the first such pair
pub record IsFirstMissing (s : Sides) (t : Taken) (p : Pair) : Type 0 where
  pub missing : IsMissing s t p
  pub first : (q : Pair) → IsMissing s t q → comes_before q p ≡ true → ⊥

-- the last of the pairs comes before this one
abbrev pub ComesNext : List Pair → Pair → Type 0
ComesNext pairs p = (q : Pair) → slice_get pairs (length pairs - 1) ≡ Some q → comes_before q p ≡ true

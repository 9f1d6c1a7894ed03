-- The entries of an expansion with the numbers of their decisions, and how they come one after another.
use Rattle.std.specs.Prelude.{◌≡◌, ℕ, List, [], ◌∷◌, ◌++◌, length, map, All, Vec}
use Rattle.field_boxes.specs.declared.rule.Rule as code
use Rattle.field_boxes.specs.NamedRules.{named_rules}
use Rattle.field_boxes.specs.Rules.{rule_of}
use Rattle.ternary_words.specs.Limits.{AreNumbered}
use Rattle.rule_expansion.specs.Expansion.{expansion, expanded_count}
use Rattle.field_boxes.specs.declared.prefix.Prefix.{Prefix}
use Rattle.field_boxes.specs.Headline.Fields.{width, stated}
use Rattle.field_boxes.specs.Headline.Prefix.{FitsWidth}
use Rattle.ternary_words.specs.declared.entry.Entry.{Entry}
use Rattle.ternary_words.specs.Prefixes.{fields_trits}
use Rattle.ternary_words.specs.Views.{word_of, entry_of}
use Rattle.ternary_words.specs.Headline.Word.{Trit}

-- an entry's word, and the number of its decision
abbrev pub decided_of : Entry → List Trit × ℕ
decided_of e = (word_of e.word, e.decision)

-- the covers of the code as lists
abbrev pub prefixes_of : {A : Type 0} → List (Vec Prefix A) → List (List Prefix)
prefixes_of covers = map (λ cover. cover.items) covers

-- each prefix of each cover fits the cover's field
abbrev pub FitCovers : List ℕ → List (List Prefix) → Type 0
FitCovers [] covers = Unit {0}
FitCovers (field ∷ fields) [] = Unit {0}
FitCovers (field ∷ fields) (cover ∷ covers) = All (FitsWidth (width field)) cover × FitCovers fields covers

-- the words of five prefixes, the first of which are these, with a decision
abbrev pub with_words : ℕ → List Prefix → List (List Prefix) → List (List Trit × ℕ)
with_words decision front chosen = map (λ prefixes. (fields_trits stated (front ++ prefixes), decision)) chosen

-- the entries are those of the rules, by the names of their decisions, and as many as are counted
pub record AreEntriesOf (names : List (List ℕ)) (rules : List code.Rule) (entries : List Entry) : Type 0 where
  pub named : map (entry_of names) entries ≡ expansion (named_rules names rules)
  pub numbered : AreNumbered (length names) entries
  pub many : length entries ≡ expanded_count (map rule_of rules)
  pub counted : expanded_count (map rule_of rules) ≡ expanded_count (named_rules names rules)

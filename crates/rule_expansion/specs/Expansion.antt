-- The direct expansion of rules into entries of a ternary memory, as the Razor papers (Meiners, Liu, Torng 2007 and
-- 2010) describe it: the set of each field becomes prefixes, and each combination of prefixes becomes an entry.
use Rattle.std.specs.Prelude.{ℕ, ◌*◌, List, [], ◌∷◌, Some, map, length}
use Rattle.std.specs.List.{flat_map, sum_by}
use Rattle.field_boxes.specs.declared.prefix.Prefix.{Prefix}
use Rattle.field_boxes.specs.Headline.Fields.{width, stated}
use Rattle.field_boxes.specs.Headline.Classifier.{Rule, set_holds}
use Rattle.range_prefix.specs.Shortest.{shortest_cover}
use Rattle.ternary_words.specs.Prefixes.{fields_trits}
use Rattle.ternary_words.specs.Headline.Table.{Entry}
use Rattle.ternary_words.specs.Headline.Word.{Trit}

-- the lists of one item of each of these lists, like the readings of an odometer: the first item changes slowest
abbrev pub combinations : {A : Type 0} → List (List A) → List (List A)
combinations [] = [] ∷ []
combinations (items ∷ others) = flat_map (λ item. map (λ chosen. item ∷ chosen) (combinations others)) items

-- the shortest covers of a rule's sets of these fields, each rising
abbrev pub covers : {A : Type 0} → List ℕ → Rule A → List (List Prefix)
covers [] rule = []
covers (field ∷ fields) rule = shortest_cover (width field) (λ v. set_holds field v rule) ∷ covers fields rule

-- a word for each combination of prefixes of a rule's five covers
abbrev pub rule_words : {A : Type 0} → Rule A → List (List Trit)
rule_words rule = map (fields_trits stated) (combinations (covers stated rule))

-- an entry for each of these words
abbrev pub rule_entries : Rule (List ℕ) → List Entry
rule_entries rule = map (λ word. record { word = word; decision = Some rule.decision }) (rule_words rule)

-- the entries of the rules, rule by rule
abbrev pub expansion : List (Rule (List ℕ)) → List Entry
expansion rules = flat_map rule_entries rules

-- the product of the lengths
abbrev pub product_of_lengths : {A : Type 0} → List (List A) → ℕ
product_of_lengths [] = 1
product_of_lengths (items ∷ others) = length items * product_of_lengths others

-- how many entries the rules come to: for each rule the product of the lengths of its five covers
abbrev pub expanded_count : {A : Type 0} → List (Rule A) → ℕ
expanded_count rules = sum_by (λ rule. product_of_lengths (covers stated rule)) rules

-- the words of the rules, rule by rule, each with what its rule decides
abbrev pub decided_words : {A : Type 0} → List (Rule A) → List (List Trit × A)
decided_words rules = flat_map (λ rule. map (λ word. (word, rule.decision)) (rule_words rule)) rules

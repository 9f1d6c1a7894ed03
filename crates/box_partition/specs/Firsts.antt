-- What is claimed of a header: its first rule and its first entry.
use Rattle.std.specs.Prelude.{ℕ, zero, suc, ◌+◌, List, Option, Some, None, option_map}
use Rattle.field_boxes.specs.declared.rule.Rule.{Rule}
use Rattle.field_boxes.specs.Rules as rules
use Rattle.ternary_words.specs.declared.entry.Entry.{Entry}
use Rattle.ternary_words.specs.Views as words
use Rattle.node_store.specs.Diagram.{Node, answer}
use Rattle.box_partition.specs.Coarsest.{Claims}

-- a place as a number, counted from 1
abbrev pub number_of_place : Option ℕ → Option ℕ
number_of_place place = option_map (λ k. k + 1) place

-- the numbers of the first rule and of the first entry that match
abbrev pub first_claims : List Rule → List Entry → List ℕ → Claims
first_claims list entries header = (number_of_place (rules.first_match header list), number_of_place (words.first_match header entries))

-- the answer 0 is none
abbrev pub number_answered : ℕ → Option ℕ
number_answered zero = None
number_answered (suc n) = Some (suc n)

-- what the answers of two nodes claim
abbrev pub node_claims : List Node → ℕ → ℕ → List ℕ → Claims
node_claims nodes a b values = (number_answered (answer nodes a values), number_answered (answer nodes b values))

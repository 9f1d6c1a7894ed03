-- Covers of cubes by the rules of a list and the entries of a table. Behind the last of each stands an open one, in which every
-- cube lies. Places count from 0.
use Rattle.std.specs.Prelude.{ℕ, suc, ◌≤◌, ◌<◌, max, List, [], ◌∷◌, slice_get, MatchOption}
use Rattle.std.specs.Option.{option_map_or}
use Rattle.field_boxes.specs.declared.rule.Rule.{Rule}
use Rattle.field_boxes.specs.declared.rule_list.RuleList.{RuleList}
use Rattle.ternary_words.specs.declared.entry.Entry.{Entry}
use Rattle.ternary_words.specs.declared.table.Table.{Table}
use Rattle.agreement_check.specs.declared.step.Step.{Step}
use Rattle.agreement_check.specs.declared.step.Step.TheVariants.{InRule, InEntry, Missed, Late, Halved}
use Rattle.word_cover.specs.Cubes.{Cube, cube_of, all_headers, HasBitsOf, IsOpen, zero_half, one_half}
use Rattle.agreement_check.specs.Cubes.{LiesInRule, MeetsRule, MissesRule}
use Rattle.agreement_check.specs.RuleWords.{word_of_rule}

-- a list and a table, and the key below which they are compared: 2 ^ 104 for all headers
pub record Sides : Type 0 where
  pub list : RuleList
  pub table : Table
  pub bound : ℕ

-- the word of the rule at a place, and that of the entry
abbrev pub rule_word : List Rule → ℕ → Cube
rule_word rules k = option_map_or word_of_rule (slice_get rules k) all_headers

abbrev pub entry_word : List Entry → ℕ → Cube
entry_word entries k = option_map_or (λ (e : Entry). cube_of e.word) (slice_get entries k) all_headers

-- how a cube lies to the rule at a place
abbrev pub LiesInRuleAt : List Rule → ℕ → Cube → Type 0
LiesInRuleAt rules k cube = MatchOption (slice_get rules k) (Unit {0}) (λ r. LiesInRule r cube)

abbrev pub MeetsRuleAt : List Rule → ℕ → Cube → Type 0
MeetsRuleAt rules k cube = MatchOption (slice_get rules k) (Unit {0}) (λ r. MeetsRule r cube)

abbrev pub MissesRuleAt : List Rule → ℕ → Cube → Type 0
MissesRuleAt rules k cube = MatchOption (slice_get rules k) ⊥ (λ r. MissesRule r cube)

-- what a cover shows: each header of the cube that the rule at a place has, one of the first rules or of the first entries has, of so many
pub record Claim : Type 0 where
  pub cube : Cube
  pub of : ℕ
  pub rules : ℕ
  pub entries : ℕ

-- the step says alone why the cube is covered
abbrev pub Shows : Sides → Claim → Cube → Step → Type 0
Shows s c cube (InRule k) = (k < c.rules) × LiesInRuleAt s.list.rules.items k cube
Shows s c cube (InEntry k) = (k < c.entries) × HasBitsOf cube (entry_word s.table.entries.items k)
Shows s c cube Missed = MissesRuleAt s.list.rules.items c.of cube
Shows s c cube Late = s.bound ≤ cube.value
Shows s c cube (Halved bit) = ⊥

-- the steps cover the cubes, one after another
abbrev pub AreCovered : Sides → Claim → List Cube → List Step → Type 0
AreCovered s c [] [] = Unit {0}
AreCovered s c [] (step ∷ steps) = ⊥
AreCovered s c (cube ∷ cubes) [] = ⊥
AreCovered s c (cube ∷ cubes) (Halved bit ∷ steps) = IsOpen cube bit × AreCovered s c (zero_half cube bit ∷ one_half cube bit ∷ cubes) steps
AreCovered s c (cube ∷ cubes) (step ∷ steps) = Shows s c cube step × AreCovered s c cubes steps

-- the steps are a cover of what is claimed
abbrev pub IsCover : Sides → Claim → List Step → Type 0
IsCover s c steps = AreCovered s c (c.cube ∷ []) steps

-- how many of the first rules have all that are named among them, and how many of the first entries
abbrev pub rules_named : List Step → ℕ
rules_named [] = 0
rules_named (InRule k ∷ steps) = max (suc k) (rules_named steps)
rules_named (step ∷ steps) = rules_named steps

abbrev pub entries_named : List Step → ℕ
entries_named [] = 0
entries_named (InEntry k ∷ steps) = max (suc k) (entries_named steps)
entries_named (step ∷ steps) = entries_named steps

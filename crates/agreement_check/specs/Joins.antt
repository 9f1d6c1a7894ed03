-- The search for an open pair without a line.
use Rattle.std.specs.Prelude.{◌≡◌, ℕ, false, List, Contains, Option, Some, None, IfSome, slice_get}
use Rattle.field_boxes.specs.declared.rule.Rule.{Rule}
use Rattle.ternary_words.specs.declared.word.Word.{Word}
use Rattle.agreement_check.specs.declared.pair.Pair.{Pair}
use Rattle.word_cover.specs.Cubes.{Meet, cube_of}
use Rattle.agreement_check.specs.Covers.{Sides, MeetsRuleAt, entry_word, rule_word}
use Rattle.agreement_check.specs.Claims.{Taken, DecideAlike, IsMissing}
use Rattle.agreement_check.specs.Pairs.{comes_before}

-- rule and entry decide by other names, their words meet, and the box of the entry's word has a header that matches the rule
pub record AreApart (s : Sides) (p : Pair) : Type 0 where
  pub apart : ¬ DecideAlike s p
  pub words : Meet (rule_word s.list.rules.items p.rule) (entry_word s.table.entries.items p.entry)
  pub boxes : MeetsRuleAt s.list.rules.items p.rule (entry_word s.table.entries.items p.entry)

-- each word is that of its rule
abbrev pub AreRuleWords : List Rule → List Word → Type 0
AreRuleWords rules words = (k : ℕ) (w : Word) → slice_get words k ≡ Some w → cube_of w ≡ rule_word rules k

-- what was found comes no later than the pair
abbrev pub IsNoLater : Option Pair → Pair → Type 0
IsNoLater None p = ⊥
IsNoLater (Some q) p = comes_before p q ≡ false

-- what was found is missing, if it is a pair, and comes no later than any missing pair of which this holds
pub record IsFirstOf (s : Sides) (t : Taken) (Is : Pair → Type 0) (found : Option Pair) : Type 0 where
  pub missing : IfSome found (IsMissing s t)
  pub first : (p : Pair) → Is p → IsMissing s t p → IsNoLater found p

-- the pair is one of these rules with one of these entries
abbrev pub IsOf : List ℕ → List ℕ → Pair → Type 0
IsOf rules entries p = Contains rules p.rule × Contains entries p.entry

-- A rule that is drawn, and its name among the names before it.
use Rattle.std.specs.Prelude.{◌≡◌, ℕ, ◌<◌, ◌≤◌, ◌++◌, ◌∷◌, [], List, length, Some}
use Rattle.field_boxes.specs.Names.{name_at, with_name}
use Rattle.field_boxes.specs.Rules.{sets_of}
use Rattle.field_boxes.specs.declared.rule.Rule as code
use Rattle.field_boxes.specs.FilterRules.{IsFilterRule}
use Rattle.list_generator.specs.Draws.{state_after}
use Rattle.list_generator.specs.DrawnRules.{drawn_rule}

-- the rule that is drawn from the first state on; its name is numbered among the others, which keep their numbers
pub record IsDrawn (before : ℕ) (names : List (List ℕ)) (after : ℕ) (more : List (List ℕ)) (rule : code.Rule) : Type 0 where
  pub sets : sets_of rule ≡ (drawn_rule before).sets
  pub spelled : IsFilterRule rule
  pub turned : after ≡ state_after 6 before
  pub seen : more ≡ with_name names (drawn_rule before).decision
  pub number : name_at more rule.decision ≡ Some (drawn_rule before).decision
  pub within : (0 < rule.decision) × (rule.decision ≤ length more)
  pub kept : (k : ℕ) → k ≤ length names → name_at more k ≡ name_at names k

-- such a rule stands behind the others
abbrev pub AddsDrawn : ℕ → List (List ℕ) → List code.Rule → ℕ → List (List ℕ) → List code.Rule → Type 0
AddsDrawn before names rules after more longer = (rule : code.Rule) × IsDrawn before names after more rule × (longer ≡ rules ++ rule ∷ [])

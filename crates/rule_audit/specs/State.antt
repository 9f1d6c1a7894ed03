-- The states of the rules of a list: live, droppable, or never first.
use Rattle.std.specs.Prelude.{◌≡◌, ◌≢◌, ℕ, ◌<◌, List, length, position, Some, slice_index_or}
use Rattle.std.specs.List.{remove}
use Rattle.field_boxes.specs.Headline.Classifier.{Rule, matches, source}
use Rattle.field_boxes.specs.Headline.Fields.{stated, IsHeader}
use Rattle.field_boxes.specs.Fields.{ComesBefore}
use Rattle.rule_audit.specs.declared.state.RuleState.{RuleState}
use Rattle.rule_audit.specs.declared.state.RuleState.TheVariants.{Live, Droppable, Never}

-- the rule at k is the first that matches the header
abbrev pub IsFirst : List (Rule (List ℕ)) → ℕ → List ℕ → Type 0
IsFirst rules k header = position (matches stated header) rules ≡ Some k

-- leaving out the rule at k alone changes what the list decides of the header
abbrev pub IsChanged : List (Rule (List ℕ)) → ℕ → List ℕ → Type 0
IsChanged rules k header = source stated header (remove rules k) ≢ source stated header rules

-- the least header of which this holds
pub record IsLeast (P : List ℕ → Type 0) (header : List ℕ) : Type 0 where
  pub in_fields : IsHeader header
  pub holds : P header
  pub least : (values : List ℕ) → IsHeader values → ComesBefore values header → P values → ⊥

-- this holds of no header
abbrev pub HoldsNowhere : (List ℕ → Type 0) → Type 0
HoldsNowhere P = (header : List ℕ) → IsHeader header → P header → ⊥

-- the state of the rule at k
abbrev pub IsState : List (Rule (List ℕ)) → ℕ → RuleState → Type 0
IsState rules k (Live header) = IsLeast (IsChanged rules k) header.values
IsState rules k (Droppable header) = HoldsNowhere (IsChanged rules k) × IsLeast (IsFirst rules k) header.values
IsState rules k Never = HoldsNowhere (IsFirst rules k)

-- a state for each rule, in order
pub record AreStates (rules : List (Rule (List ℕ))) (states : List RuleState) : Type 0 where
  pub count : length states ≡ length rules
  pub each : (k : ℕ) (d : RuleState) → k < length rules → IsState rules k (slice_index_or states k d)

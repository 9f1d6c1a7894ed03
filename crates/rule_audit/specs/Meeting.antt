-- What the headers that were met tell of the states of rules.
use Rattle.std.specs.Prelude.{◌≡◌, ◌⊎◌, ℕ, zero, suc, ◌<◌, List, [], ◌∷◌, ◌++◌, length, nat_eq, Option, Some, None, slice_get, slice_index_or, Bool, true, if◌then◌else◌}
use Rattle.field_boxes.specs.declared.header.Header.{Header}
use Rattle.field_boxes.specs.declared.rule.Rule as code
use Rattle.field_boxes.specs.Headline.Classifier.{matches}
use Rattle.field_boxes.specs.Headline.Fields.{stated, IsHeader, AreValues}
use Rattle.field_boxes.specs.Fields.{ComesBefore}
use Rattle.field_boxes.specs.Rules.{rule_of}
use Rattle.fdd_build.specs.Rules.{decided}
use Rattle.node_store.specs.Diagram.{Node, level_of, answer}
use Rattle.rule_audit.specs.declared.label.Label.{Label}
use Rattle.rule_audit.specs.declared.label.Next.{Next}
use Rattle.rule_audit.specs.declared.label.Next.TheVariants.{Nothing, Alike, Otherwise}
use Rattle.rule_audit.specs.declared.state.RuleState.{RuleState}
use Rattle.rule_audit.specs.declared.state.RuleState.TheVariants.{Live, Droppable, Never}
use Rattle.rule_audit.specs.Labels.{label_at, next_of}

-- what a label shows of the rule at the place, if it is that rule's
abbrev pub next_shown : ℕ → Option Label → Option Next
next_shown place None = None
next_shown place (Some label) = if nat_eq label.place place then Some label.next else None

-- how the next rule decides that matches a header which the rule at k is the first to match
abbrev pub next_behind : List code.Rule → ℕ → List ℕ → Option Next
next_behind [] k header = None
next_behind (rule ∷ rules) zero header = if matches stated header (rule_of rule) then Some (next_of rule.decision (decided stated rules header)) else None
next_behind (rule ∷ rules) (suc k) header = if matches stated header (rule_of rule) then None else next_behind rules k header

-- the rule is needed: it is the first that matches, and the next one decides otherwise or there is none
abbrev pub IsNeeded : Option Next → Type 0
IsNeeded None = ⊥
IsNeeded (Some Nothing) = Unit {0}
IsNeeded (Some Alike) = ⊥
IsNeeded (Some Otherwise) = Unit {0}

-- the state of a rule, by what the headers that were met show of it
abbrev pub IsStateSoFar : (List ℕ → Type 0) → (List ℕ → Option Next) → RuleState → Type 0
IsStateSoFar Met shown (Live header) =
    Met header.values × IsNeeded (shown header.values) × ((h : List ℕ) → Met h → ComesBefore h header.values → IsNeeded (shown h) → ⊥)
IsStateSoFar Met shown (Droppable header) =
    ((h : List ℕ) → Met h → IsNeeded (shown h) → ⊥) × Met header.values × (shown header.values ≡ Some Alike)
    × ((h : List ℕ) → Met h → ComesBefore h header.values → shown h ≡ Some Alike → ⊥)
IsStateSoFar Met shown Never = (h : List ℕ) → Met h → shown h ≡ None

-- the state once a header more shows this
abbrev pub state_with : RuleState → Next → Header → RuleState
state_with (Live earlier) next header = Live earlier
state_with (Droppable earlier) Nothing header = Live header
state_with (Droppable earlier) Alike header = Droppable earlier
state_with (Droppable earlier) Otherwise header = Live header
state_with Never Nothing header = Live header
state_with Never Alike header = Droppable header
state_with Never Otherwise header = Live header

abbrev pub state_after : Option Next → Header → RuleState → RuleState
state_after None header state = state
state_after (Some next) header state = state_with state next header

-- what the label that a diagram answers shows of the rule at the place
abbrev pub shown_by : ℕ → List Node → ℕ → ℕ → List ℕ → Option Next
shown_by first nodes root place header = next_shown place (label_at first (answer nodes root header))

abbrev pub IsMarked : List Bool → ℕ → Type 0
IsMarked marks id = slice_get marks id ≡ Some true

-- the states are right for the headers that were met, and each answer of a node that was seen was met
pub record AreMet (first : ℕ) (nodes : List Node) (root : ℕ) (Met : List ℕ → Type 0) (seen : List Bool) (states : List RuleState) : Type 0 where
  pub each : (k : ℕ) (d : RuleState) → k < length states → IsStateSoFar Met (shown_by first nodes root k) (slice_index_or states k d)
  pub again : (id : ℕ) (values : List ℕ) → IsMarked seen id → AreValues (level_of nodes id) values →
      (h : List ℕ) × Met h × (answer nodes root h ≡ answer nodes id values)

-- the headers before all that begin with these values
abbrev pub Before : List ℕ → List ℕ → Type 0
Before front header = IsHeader header × ComesBefore header front

-- these, and those that begin so
abbrev pub UpTo : List ℕ → List ℕ → Type 0
UpTo front header = IsHeader header × (ComesBefore header front ⊎ ((rest : List ℕ) × (header ≡ front ++ rest)))

-- the values lead from the root to the node
abbrev pub LeadsTo : List Node → ℕ → List ℕ → ℕ → Type 0
LeadsTo nodes root front id = (rest : List ℕ) → answer nodes root (front ++ rest) ≡ answer nodes id rest

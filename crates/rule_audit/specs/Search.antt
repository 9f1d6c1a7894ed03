-- The short search: the diagrams around a rule, the least header at which it is needed, and the states that are told.
use Rattle.std.specs.Prelude.{◌≡◌, ◌≢◌, ℕ, nat_eq, List, [], ◌∷◌, All, Option, Some, None, if◌then◌else◌, Bool, true, false, take, drop, ◌≤◌, suc, ◌<◌, ◌++◌, length, IfSome, slice_index_or}
use Rattle.node_store.specs.declared.edge.NodeId.{NodeId}
use Rattle.node_store.specs.Diagram.{Node, level_of, answer}
use Rattle.rule_audit.specs.declared.search.around.Around.{Around}
use Rattle.rule_audit.specs.declared.label.Next.{Next}
use Rattle.rule_audit.specs.Labels.{next_of}
use Rattle.rule_audit.specs.Parts.{over, Shows}
use Rattle.field_boxes.specs.Headline.Fields.{stated, AreValues, IsHeader}
use Rattle.field_boxes.specs.Fields.{ComesBefore, greatest_of}
use Rattle.rule_audit.specs.declared.search.least.Found.{Found}
use Rattle.rule_audit.specs.declared.search.least.Found.TheVariants.{At, Nowhere, GaveUp}
use Rattle.rule_audit.specs.declared.search.branch.Branch.{Branch}
use Rattle.field_boxes.specs.declared.rule.Rule as code
use Rattle.fdd_build.specs.Rules.{decided}
use Rattle.rule_audit.specs.declared.state.RuleState.{RuleState}
use Rattle.rule_audit.specs.Meeting.{IsStateSoFar, next_behind}

-- the first answer of the nodes that isn't 0
abbrev pub first_answer : List Node → List NodeId → List ℕ → ℕ
first_answer nodes [] values = 0
first_answer nodes (id ∷ ids) values = over (answer nodes id.0 values) (first_answer nodes ids values)

-- all of them stand at the level
abbrev pub StandAtLevel : List Node → List ℕ → List NodeId → Type 0
StandAtLevel nodes place ids = All (λ (id : NodeId). level_of nodes id.0 ≡ place) ids

pub record AreAround (nodes : List Node) (place : List ℕ) (around : Around) : Type 0 where
  pub here : level_of nodes around.here.0 ≡ place
  pub before : StandAtLevel nodes place around.before.items
  pub behind : StandAtLevel nodes place around.behind.items

-- the rule matches, none before it does, and the rules behind it decide otherwise or nothing
pub record IsWanted (nodes : List Node) (around : Around) (values : List ℕ) : Type 0 where
  pub matched : answer nodes around.here.0 values ≢ 0
  pub first : first_answer nodes around.before.items values ≡ 0
  pub otherwise : first_answer nodes around.behind.items values ≢ answer nodes around.here.0 values

-- how the next rule decides that matches a header which this one is the first to match
abbrev pub shown_around : List Node → Around → List ℕ → Option Next
shown_around nodes around values =
    if nat_eq (first_answer nodes around.before.items values) 0 then
    (if nat_eq (answer nodes around.here.0 values) 0 then None else Some (next_of (answer nodes around.here.0 values) (first_answer nodes around.behind.items values)))
    else None

-- whether the search went through all values in vain
abbrev pub is_nowhere : Found → Bool
is_nowhere (At header) = false
is_nowhere Nowhere = true
is_nowhere GaveUp = false

-- the least of the level's values that are wanted
pub record IsLeastWanted (nodes : List Node) (place : List ℕ) (around : Around) (values : List ℕ) : Type 0 where
  pub in_fields : AreValues place values
  pub wanted : IsWanted nodes around values
  pub least : (others : List ℕ) → AreValues place others → IsWanted nodes around others → ComesBefore others values → ⊥

abbrev pub NoneIsWanted : List Node → List ℕ → Around → Type 0
NoneIsWanted nodes place around = (values : List ℕ) → AreValues place values → IsWanted nodes around values → ⊥

-- a header that goes on from the first of these values with the least that are wanted, or none; nothing where the search gave up
abbrev pub IsFound : List Node → ℕ → Around → List ℕ → Found → Type 0
IsFound nodes depth around values (At header) =
    (take depth header.values ≡ take depth values) × IsLeastWanted nodes (drop depth stated) around (drop depth header.values)
IsFound nodes depth around values Nowhere = NoneIsWanted nodes (drop depth stated) around
IsFound nodes depth around values GaveUp = Unit {0}

-- one node more is counted among the children
pub record GainsChild (nodes : List Node) (old new : List NodeId) (id : ℕ) : Type 0 where
  pub stand : (place : List ℕ) → level_of nodes id ≡ place → StandAtLevel nodes place old → StandAtLevel nodes place new
  pub answers : (values : List ℕ) → AreValues (level_of nodes id) values → first_answer nodes new values ≡ over (first_answer nodes old values) (answer nodes id values)

-- the values of the field from lo to hi lead from the nodes to the children, as far as these answer anything
pub record AreChildren (nodes : List Node) (depth : ℕ) (ids : List NodeId) (lo hi : ℕ) (children : List NodeId) : Type 0 where
  pub low : lo ≤ hi
  pub high : hi ≤ greatest_of depth
  pub stand : StandAtLevel nodes (drop (suc depth) stated) children
  pub answers : (v : ℕ) (values : List ℕ) → lo ≤ v → v ≤ hi → AreValues (drop (suc depth) stated) values → first_answer nodes ids (v ∷ values) ≡ first_answer nodes children values

-- what is wanted of the values from lo on is wanted of the step's diagrams
pub record IsBranch (nodes : List Node) (depth : ℕ) (around : Around) (lo : ℕ) (step : Branch) : Type 0 where
  pub low : lo ≤ step.hi
  pub high : step.hi ≤ greatest_of depth
  pub stand : AreAround nodes (drop (suc depth) stated) step.around
  pub onward : (v : ℕ) (values : List ℕ) → lo ≤ v → v ≤ step.hi → AreValues (drop (suc depth) stated) values → IsWanted nodes around (v ∷ values) → IsWanted nodes step.around values
  pub back : (v : ℕ) (values : List ℕ) → lo ≤ v → v ≤ step.hi → AreValues (drop (suc depth) stated) values → IsWanted nodes step.around values → IsWanted nodes around (v ∷ values)

-- the state of the rule at k is right, where it is told
abbrev pub IsTold : List code.Rule → ℕ → Option RuleState → Type 0
IsTold rules k told = IfSome told (λ state. IsStateSoFar IsHeader (next_behind rules k) state)

-- so are those of the first rules
abbrev pub AreTold : List code.Rule → List (Option RuleState) → Type 0
AreTold rules states = (k : ℕ) (d : Option RuleState) → k < length states → IsTold rules k (slice_index_or states k d)

-- the rules stand at the place of the list, and the diagrams show them, those before them and those behind them
pub record StandBetween (nodes : List Node) (all rules : List code.Rule) (place : ℕ) (around : Around) : Type 0 where
  pub front : List code.Rule
  pub back : List code.Rule
  pub is : all ≡ front ++ (rules ++ back)
  pub count : length front ≡ place
  pub here : Shows nodes rules around.here
  pub before : StandAtLevel nodes stated around.before.items
  pub behind : StandAtLevel nodes stated around.behind.items
  pub decided_before : (values : List ℕ) → IsHeader values → first_answer nodes around.before.items values ≡ decided stated front values
  pub decided_behind : (values : List ℕ) → IsHeader values → first_answer nodes around.behind.items values ≡ decided stated back values

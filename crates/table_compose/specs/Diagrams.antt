-- What it takes to answer as a diagram: the least cost of the rule lists that do.
use Rattle.std.specs.Prelude.{◌≡◌, ℕ, List, Option}
use Rattle.field_boxes.specs.Headline.Fields.{AreValues}
use Rattle.field_boxes.specs.Headline.Classifier.{Rule, source}
use Rattle.node_store.specs.Diagram.{Node, answer}
use Rattle.table_compose.specs.Headline.LeastCost.{IsLeastCost}

-- the rules decide at all values of these fields what the node answers, by name
abbrev pub DecideAs : List Node → List ℕ → ℕ → (ℕ → Option (List ℕ)) → List (Rule (List ℕ)) → Type 0
DecideAs nodes fields id name R = (values : List ℕ) → AreValues fields values → source fields values R ≡ name (answer nodes id values)

-- different answers of the node have different names, of which none is one
abbrev pub NamesApart : List Node → List ℕ → ℕ → (ℕ → Option (List ℕ)) → Type 0
NamesApart nodes fields id name = (a b : List ℕ) → AreValues fields a → AreValues fields b → name (answer nodes id a) ≡ name (answer nodes id b) → answer nodes id a ≡ answer nodes id b

-- n is the least cost over these fields of every rule list that decides as the node answers
abbrev pub IsCostOf : List Node → List ℕ → ℕ → ℕ → Type 0
IsCostOf nodes fields id n = (name : ℕ → Option (List ℕ)) (R : List (Rule (List ℕ))) → NamesApart nodes fields id name → DecideAs nodes fields id name R → IsLeastCost fields R n

-- The boxes of a node: those of the values at which it answers 1.
use Rattle.std.specs.Prelude.{◌≡◌, ◌⊎◌, ℕ, suc, nat_eq, List, [], ◌∷◌, ◌++◌, map, if◌then◌else◌}
use Rattle.std.specs.List.{flat_map}
use Rattle.field_boxes.specs.Headline.Classifier.{Interval}
use Rattle.field_boxes.specs.Headline.Fields.{AreValues}
use Rattle.node_store.specs.declared.edge.Edge.{Edge}
use Rattle.node_store.specs.Diagram.{Node, edges_of, answer}
use Rattle.box_query.specs.Boxes.{put_first}
use Rattle.box_query.specs.BoxText.{box_line}

-- an interval of a field's values, and the node to which they lead
pub record Branch : Type 0 where
  pub first : Interval
  pub to : ℕ

abbrev pub branch : ℕ → Edge → Branch
branch lo e = record { first = record { lo = lo; hi = e.hi }; to = e.to.0 }

-- the edges as branches, of which the first begins at lo
abbrev pub branches : ℕ → List Edge → List Branch
branches lo [] = []
branches lo (e ∷ edges) = branch lo e ∷ branches (suc e.hi) edges

-- the boxes of a branch: those of its node, with its interval in front
abbrev pub branch_boxes : (ℕ → List (List Interval)) → Branch → List (List Interval)
branch_boxes boxes b = map (put_first b.first) (boxes b.to)

-- the boxes of a node over the fields of its level
unfoldable pub node_boxes : List Node → List ℕ → ℕ → List (List Interval)
node_boxes nodes [] id = if nat_eq (answer nodes id []) 1 then [] ∷ [] else []
node_boxes nodes (f ∷ level) id = flat_map (branch_boxes (node_boxes nodes level)) (branches 0 (edges_of nodes id))

-- the lines of boxes behind a front
abbrev pub front_text : List ℕ → List (List Interval) → List ℕ
front_text front boxes = flat_map (λ box. front ++ box_line box) boxes

-- the node answers 1 or 2 on all values of the level's fields
abbrev pub AnswersTwo : List Node → List ℕ → ℕ → Type 0
AnswersTwo nodes level id = (values : List ℕ) → AreValues level values → (answer nodes id values ≡ 1) ⊎ (answer nodes id values ≡ 2)

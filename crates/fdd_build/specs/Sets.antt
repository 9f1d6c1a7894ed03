-- Sets of values that are given as slices of spans, and edges that lead elsewhere in a set.
use Rattle.std.specs.Prelude.{◌≡◌, ℕ, zero, suc, List, [], map}
use Rattle.field_boxes.specs.declared.span.Span.{Span}
use Rattle.field_boxes.specs.Headline.Classifier.{Interval, Rule}
use Rattle.field_boxes.specs.Spans.{intervals_of}
use Rattle.node_store.specs.declared.edge.Edge.{Edge}
use Rattle.node_store.specs.Edges.{AreFull}
use Rattle.std.specs.Borrow.{Bor}

-- the sets of a box, one slice of spans for each field
abbrev pub sets_seen : List (Bor (List Span)) → List (List Interval)
sets_seen sets = map (λ s. intervals_of s.now) sets

-- a box as a rule
abbrev pub box_rule : List (List Interval) → Rule ℕ
box_rule box = record { sets = box; decision = 0 }

-- the edges fill the values below this one
abbrev pub FillBelow : ℕ → List Edge → Type 0
FillBelow zero edges = edges ≡ []
FillBelow (suc top) edges = AreFull top edges

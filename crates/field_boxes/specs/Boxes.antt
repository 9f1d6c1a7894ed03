-- Boxes: a set of values for each field.
use Rattle.std.specs.Prelude.{ℕ, ◌≤◌, ◌<◌, Bool, IsTrue, List, [], ◌∷◌, map, slice_index_or}
use Rattle.field_boxes.specs.declared.span.Span.{Span}
use Rattle.field_boxes.specs.Headline.Fields.{stated, IsHeader}
use Rattle.field_boxes.specs.Fields.{greatest_of}
use Rattle.field_boxes.specs.Headline.Classifier.{Interval, Rule, interval_holds, matches}
use Rattle.field_boxes.specs.Spans.{interval_of}
use Rattle.field_boxes.specs.Unions.{RiseApart}

-- each set lies inside its field, and between two of its intervals a value is missing
abbrev pub AreSets : List (List Interval) → Type 0
AreSets sets = (k : ℕ) → k < 5 → RiseApart 0 (greatest_of k) (slice_index_or sets k [])

-- the box of one span for each field
abbrev pub box_of : List Span → List (List Interval)
box_of spans = map (λ s. interval_of s ∷ []) spans

-- whether each value of the header lies in the box's set of its field
abbrev pub box_holds : List (List Interval) → List ℕ → Bool
box_holds box header = let rule : Rule ℕ = record { sets = box; decision = 0 } in matches stated header rule

-- what holds of each header in the box
abbrev pub EachHeader : List (List Interval) → (List ℕ → Type 0) → Type 0
EachHeader box P = (header : List ℕ) → IsHeader header → IsTrue (box_holds box header) → P header

-- what holds of some header in the box
abbrev pub SomeHeader : List (List Interval) → (List ℕ → Type 0) → Type 0
SomeHeader box P = (header : List ℕ) × IsHeader header × IsTrue (box_holds box header) × P header

-- what holds of each value of the span up to the greatest
abbrev pub EachValue : ℕ → Span → (ℕ → Type 0) → Type 0
EachValue greatest span P = (v : ℕ) → v ≤ greatest → IsTrue (interval_holds v (interval_of span)) → P v

-- what holds of some value of the span up to the greatest
abbrev pub SomeValue : ℕ → Span → (ℕ → Type 0) → Type 0
SomeValue greatest span P = (v : ℕ) × (v ≤ greatest) × IsTrue (interval_holds v (interval_of span)) × P v

-- the values lie in the box of one interval for each field
abbrev pub LiesIn : List Interval → List ℕ → Type 0
LiesIn [] [] = Unit {0}
LiesIn [] (v ∷ vs) = ⊥
LiesIn (i ∷ box) [] = ⊥
LiesIn (i ∷ box) (v ∷ vs) = (i.lo ≤ v) × (v ≤ i.hi) × LiesIn box vs

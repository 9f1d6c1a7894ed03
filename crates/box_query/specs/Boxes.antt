-- The boxes in which a list decides as asked: inside a given box, by a given name.
use Rattle.std.specs.Prelude.{◌≡◌, ◌≢◌, ◌↔◌, ◌⊎◌, ℕ, suc, ◌≤◌, ◌<◌, List, [], ◌∷◌, length, map, Option}
use Rattle.std.specs.List.{Any, flat_map}
use Rattle.field_boxes.specs.Boxes.{LiesIn}
use Rattle.field_boxes.specs.Headline.Classifier.{Interval, Rule, source}
use Rattle.field_boxes.specs.Headline.Fields.{stated, IsHeader}
use Rattle.field_boxes.specs.Fields.{greatest_of}

-- boxes with one interval in the first field: that interval, and the boxes without it
pub record Group : Type 0 where
  pub first : Interval
  pub rest : List (List Interval)

abbrev pub put_first : Interval → List Interval → List Interval
put_first i box = i ∷ box

-- the boxes of the groups, one group after another
abbrev pub boxes_of : List Group → List (List Interval)
boxes_of groups = flat_map (λ group. map (put_first group.first) group.rest) groups

-- groups that aren't empty, whose intervals rise from lo up to at most hi, gaps allowed, and of which each has the property without its interval
abbrev pub AreRising : (List (List Interval) → Type 0) → ℕ → ℕ → List Group → Type 0
AreRising P lo hi [] = Unit {0}
AreRising P lo hi (group ∷ groups) =
    (0 < length group.rest) × (lo ≤ group.first.lo) × (group.first.lo ≤ group.first.hi) × (group.first.hi ≤ hi) × P group.rest
    × AreRising P (suc group.first.hi) hi groups

-- neighbours without a gap between them differ in what follows
abbrev pub Differ : List Group → Type 0
Differ [] = Unit {0}
Differ (x ∷ []) = Unit {0}
Differ (x ∷ y ∷ groups) = (y.first.lo ≡ suc x.first.hi → x.rest ≢ y.rest) × Differ (y ∷ groups)

-- boxes over these fields, grouped field by field: over no field one box or none, else groups in rising order, of which each is so grouped over the fields that follow
abbrev pub AreGrouped : List ℕ → List (List Interval) → Type 0
AreGrouped [] boxes = (boxes ≡ []) ⊎ (boxes ≡ [] ∷ [])
AreGrouped (f ∷ fields) boxes = (groups : List Group) × (boxes ≡ boxes_of groups) × AreRising (AreGrouped fields) 0 (greatest_of f) groups × Differ groups

-- the boxes of rules, a box and a name, or none: grouped over the five fields, and they hold exactly the headers of the box that the rules decide so
pub record AreBoxesOf (rules : List (Rule (List ℕ))) (box : List Interval) (name : Option (List ℕ)) (boxes : List (List Interval)) : Type 0 where
  pub grouped : AreGrouped stated boxes
  pub exact : (header : List ℕ) → IsHeader header → Any (λ b. LiesIn b header) boxes ↔ (LiesIn box header × (source stated header rules ≡ name))

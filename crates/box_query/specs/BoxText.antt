-- The lines of boxes.
use Rattle.std.specs.Prelude.{ℕ, List, [], ◌∷◌, ◌++◌, map}
use Rattle.std.specs.List.{flat_map, join_with_byte}
use Rattle.std.specs.Fmt.{decimal}
use Rattle.field_boxes.specs.Headline.Classifier.{Interval}

-- the least and the greatest value, and '-' between them
abbrev pub interval_text : Interval → List ℕ
interval_text i = decimal i.lo ++ 45 ∷ decimal i.hi

-- the intervals of a box, parted by single spaces, and a line feed
abbrev pub box_line : List Interval → List ℕ
box_line box = join_with_byte 32 (map interval_text box) ++ 10 ∷ []

-- a line for each box
abbrev pub boxes_text : List (List Interval) → List ℕ
boxes_text boxes = flat_map box_line boxes

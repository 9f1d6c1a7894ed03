-- Cubes and rules: the box of a cube, and how a cube lies to a rule.
use Rattle.std.specs.Prelude.{ℕ, ◌+◌, ◌-◌, List, map, IsTrue, IsFalse}
use Rattle.field_boxes.specs.declared.rule.Rule.{Rule}
use Rattle.field_boxes.specs.Fields.{greatest_of}
use Rattle.field_boxes.specs.Headline.Classifier.{Interval}
use Rattle.field_boxes.specs.Headline.Fields.{stated}
use Rattle.word_cover.specs.Cubes.{Cube}
use Rattle.ternary_words.specs.Word.{field_part}
use Rattle.partition_check.specs.Boxes.{EachIn, SomeIn}
use Rattle.partition_check.specs.Claims.{rule_matches}

-- the values of a field from the least to the greatest one of the cube's headers: each open bit is 0, or 1
abbrev pub values_in : Cube → ℕ → Interval
values_in cube field = record { lo = field_part field cube.value; hi = field_part field cube.value + (greatest_of field - field_part field cube.mask) }

-- the box of the cube: these values in each field
abbrev pub box : Cube → List Interval
box cube = map (values_in cube) stated

-- the cube lies in a rule that every header of its box matches; it meets one that some header matches, and misses one that none does
abbrev pub LiesInRule : Rule → Cube → Type 0
LiesInRule r cube = EachIn (box cube) (λ header. IsTrue (rule_matches header r))

abbrev pub MeetsRule : Rule → Cube → Type 0
MeetsRule r cube = SomeIn (box cube) (λ header. IsTrue (rule_matches header r))

abbrev pub MissesRule : Rule → Cube → Type 0
MissesRule r cube = EachIn (box cube) (λ header. IsFalse (rule_matches header r))

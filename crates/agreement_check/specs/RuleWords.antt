-- The word of a rule: in each field the longest prefix that holds all values of the rule there.
use Rattle.std.specs.Prelude.{ℕ, zero, suc, ◌-◌, ◌*◌, ◌/◌, ◌^◌, nat_eq, List, [], map, length, slice_index_or, if◌then◌else◌}
use Rattle.field_boxes.specs.declared.prefix.Prefix.{Prefix}
use Rattle.field_boxes.specs.declared.rule.Rule.{Rule}
use Rattle.field_boxes.specs.Headline.Classifier.{Interval}
use Rattle.field_boxes.specs.Headline.Fields.{stated, width}
use Rattle.field_boxes.specs.Rules.{sets_of}
use Rattle.ternary_words.specs.Prefixes.{masks_of}
use Rattle.ternary_words.specs.Word.{key_of}
use Rattle.word_cover.specs.Cubes.{Cube}

-- how many of the lowest bits, of so many, have to be left out so that both values are the same
unfoldable pub bits_apart : ℕ → ℕ → ℕ → ℕ
bits_apart zero a b = 0
bits_apart (suc n) a b = if nat_eq (a / 2 ^ n) (b / 2 ^ n) then bits_apart n a b else suc n

-- the longest prefix of a field of this width that holds both values
abbrev pub prefix_round : ℕ → ℕ → ℕ → Prefix
prefix_round width lo hi = record { value = lo / 2 ^ bits_apart width lo hi * 2 ^ bits_apart width lo hi; len = width - bits_apart width lo hi }

-- the least value of a set of intervals that rise, and the greatest
abbrev pub least_in_set : List Interval → ℕ
least_in_set set = (slice_index_or set 0 (record { lo = 0; hi = 0 })).lo

abbrev pub greatest_in_set : List Interval → ℕ
greatest_in_set set = (slice_index_or set (length set - 1) (record { lo = 0; hi = 0 })).hi

abbrev pub prefix_of_set : ℕ → List Interval → Prefix
prefix_of_set width set = prefix_round width (least_in_set set) (greatest_in_set set)

abbrev pub prefixes_of : List ℕ → List (List Interval) → List Prefix
prefixes_of fields sets = map (λ field. prefix_of_set (width field) (slice_index_or sets field [])) fields

abbrev pub word_of_rule : Rule → Cube
word_of_rule r =
    let prefixes = prefixes_of stated (sets_of r) in
    record { value = key_of (map (λ p. p.value) prefixes); mask = key_of (masks_of stated prefixes) }

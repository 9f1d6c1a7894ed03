-- The ranges of a port column, one after another.
use Rattle.std.specs.Prelude.{◌≡◌, ℕ, ◌≤◌, nat_lt, min, max, Bool, ◌||◌, List, [], ◌∷◌, length, map, take, Option, Some, None, option_map, if◌then◌else◌}
use Rattle.std.specs.List.{list_any}
use Rattle.std.specs.Str.{bytes_eq}
use Rattle.std.specs.Borrow.{Bor}
use Rattle.razor_limits.specs.declared.limits.TheConstants.{GREATEST_PORT}
use Rattle.field_boxes.specs.Headline.Classifier.{Interval}
use Rattle.field_boxes.specs.Spans.{interval_of}
use Rattle.filter_reader.specs.declared.range.Range.{Range}
use Rattle.filter_reader.specs.declared.ranges.Ranges.{Ranges}
use Rattle.text_lines.specs.Headline.Steps.{◌>>=◌}
use Rattle.filter_reader.specs.Headline.Tokens.{first_token, tokens}
use Rattle.filter_reader.specs.Headline.Ports.{range_of}

-- a range in front of more ranges
abbrev pub range_before : Interval → Option (List Interval × List (List ℕ)) → Option (List Interval × List (List ℕ))
range_before range o = option_map (λ column. (range ∷ column.0, column.1)) o

-- a number of the range is no port
abbrev pub is_above : Interval → Bool
is_above range = nat_lt GREATEST_PORT range.lo || nat_lt GREATEST_PORT range.hi

-- the range begins above its end
abbrev pub is_reversed : Interval → Bool
is_reversed range = nat_lt range.hi range.lo

-- the range that the tokens begin with, and the tokens behind it
unfoldable pub first_range : List (List ℕ) → Option (Interval × List (List ℕ))
first_range tokens = do
  lo ← first_token tokens
  mark ← first_token lo.1
  hi ← first_token mark.1
  range ← range_of lo.0 mark.0 hi.0
  Some (range, hi.1)

-- what stands behind a ','
abbrev pub behind_comma : List (List ℕ) → Option (List (List ℕ))
behind_comma [] = None
behind_comma (token ∷ tokens) = if bytes_eq token (44 ∷ []) then Some tokens else None

-- a range with each number that is no port as 65536
abbrev pub capped_range : Interval → Interval
capped_range range = record { lo = min range.lo 65536; hi = min range.hi 65536 }

abbrev pub range_view : Range → Interval
range_view range = record { lo = range.lo; hi = range.hi }

-- the range that the code gives, without where the tokens behind it lie
abbrev pub seen_range : Option (Range × Bor (List ℕ)) → Option (Interval × List (List ℕ))
seen_range None = None
seen_range (Some parts) = Some (range_view parts.0, tokens parts.1.now)

-- the range that the tokens begin with, capped
abbrev pub capped_first : Option (Interval × List (List ℕ)) → Option (Interval × List (List ℕ))
capped_first None = None
capped_first (Some parts) = Some (capped_range parts.0, parts.1)

-- a range with its lesser number first
abbrev pub ordered_range : Interval → Interval
ordered_range range = record { lo = min range.lo range.hi; hi = max range.lo range.hi }

-- what is kept of these ranges
pub record SumsUp (ranges : List Interval) (kept : Ranges) : Type 0 where
  pub count : kept.count ≡ min (length ranges) 17
  pub reversed : kept.reversed ≡ list_any (λ range. is_reversed (capped_range range)) ranges
  pub spans : length ranges ≤ 16 → map interval_of (take kept.count kept.spans) ≡ map (λ range. ordered_range (capped_range range)) ranges

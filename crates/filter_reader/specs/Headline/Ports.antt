-- The ranges of a port column, and the set of ports that they come to.
use Rattle.std.specs.Prelude.{ℕ, ◌+◌, nat_lt, min, max, ◌&&◌, ◌||◌, List, [], ◌∷◌, length, Option, Some, None, option_map, Result, Ok, Err, if◌then◌else◌}
use Rattle.std.specs.List.{list_any}
use Rattle.std.specs.Str.{bytes_eq}
use Rattle.razor_limits.specs.declared.limits.TheConstants.{GREATEST_PORT, MOST_RANGES}
use Rattle.field_boxes.specs.Headline.Classifier.{Interval}
use Rattle.filter_reader.specs.declared.reason.Reason.{Reason}
use Rattle.filter_reader.specs.declared.reason.Reason.TheVariants.{PortOrder, PortRange, TooManyRanges}
use Rattle.text_lines.specs.Headline.Numbers.{is_number, number_of}
use Rattle.text_lines.specs.Headline.Steps.{◌>>=◌}

-- digits, ':' and digits
unfoldable pub range_of : List ℕ → List ℕ → List ℕ → Option Interval
range_of lo mark hi = if is_number 10 lo && bytes_eq mark (58 ∷ []) && is_number 10 hi then Some (record { lo = number_of 10 lo; hi = number_of 10 hi }) else None

-- the ranges that the tokens begin with, and the tokens behind them; a ',' behind a range goes on to the next one
abbrev pub ranges_of : List (List ℕ) → Option (List Interval × List (List ℕ))
ranges_of [] = None
ranges_of (lo ∷ []) = None
ranges_of (lo ∷ mark ∷ []) = None
ranges_of (lo ∷ mark ∷ hi ∷ []) = option_map (λ range. (range ∷ [], [])) (range_of lo mark hi)
ranges_of (lo ∷ mark ∷ hi ∷ next ∷ tokens) = do
  range ← range_of lo mark hi
  if bytes_eq next (44 ∷ []) then option_map (λ column. (range ∷ column.0, column.1)) (ranges_of tokens) else Some (range ∷ [], next ∷ tokens)

-- an interval among others that rise with gaps: those that it touches are joined with it
abbrev pub with_interval : Interval → List Interval → List Interval
with_interval i [] = i ∷ []
with_interval i (j ∷ js) =
    if nat_lt (i.hi + 1) j.lo then i ∷ j ∷ js
    else (if nat_lt (j.hi + 1) i.lo then j ∷ with_interval i js
    else with_interval (record { lo = min i.lo j.lo; hi = max i.hi j.hi }) js)

-- the values of the intervals, as intervals that rise with gaps
abbrev pub union_of : List Interval → List Interval
union_of [] = []
union_of (i ∷ is) = with_interval i (union_of is)

-- the ports that the ranges come to: they are few, their numbers are ports, and none begins above its end
unfoldable pub ports_of : List Interval → Result (List Interval) Reason
ports_of ranges =
    if nat_lt MOST_RANGES (length ranges) then Err TooManyRanges
    else (if list_any (λ range. nat_lt GREATEST_PORT range.lo || nat_lt GREATEST_PORT range.hi) ranges then Err PortRange
    else (if list_any (λ range. nat_lt range.hi range.lo) ranges then Err PortOrder
    else Ok (union_of ranges)))

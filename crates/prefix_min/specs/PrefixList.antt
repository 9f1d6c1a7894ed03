-- First-match prefix lists of one field.
-- The weighted one-field problem of the Razor papers (Meiners, Liu, Torng 2007 and 2010).
use Rattle.std.specs.Prelude.{◌≡◌, ℕ, ◌^◌, ◌<◌, ◌≤◌, List, find, length, Option, Some, option_map, sum_by, slice_index}
use Rattle.std.specs.List.{All}
use Rattle.field_boxes.specs.Headline.Prefix.{FitsWidth, prefix_holds}
use Rattle.prefix_min.specs.declared.row.PrefixRow.{PrefixRow}

-- the label of the first row that holds the value
abbrev pub front : ℕ → List PrefixRow → ℕ → Option ℕ
front width rows v = option_map (λ r. r.label) (find (λ r. prefix_holds width r.prefix v) rows)

-- the list gives each value of the field the label that f gives it
pub record IsRight (width : ℕ) (f : ℕ → ℕ) (rows : List PrefixRow) : Type 0 where
  pub fits : All (λ r. FitsWidth width r.prefix) rows
  pub answers : (v : ℕ) → v < 2 ^ width → front width rows v ≡ Some (f v)

-- the weights of the rows' labels, added up
abbrev pub weight : List ℕ → List PrefixRow → ℕ
weight weights rows = sum_by (λ r. slice_index weights r.label) rows

-- a right list weighs so much, and none weighs less
pub record IsLeastWeight (weights : List ℕ) (width : ℕ) (f : ℕ → ℕ) (least_weight : ℕ) : Type 0 where
  pub rows : List PrefixRow
  pub right : IsRight width f rows
  pub labels : All (λ r. r.label < length weights) rows
  pub weighs : weight weights rows ≡ least_weight
  pub least : (others : List PrefixRow) → IsRight width f others → least_weight ≤ weight weights others

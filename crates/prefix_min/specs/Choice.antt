-- Which of the cheapest lists is chosen.
use Rattle.std.specs.Prelude.{◌≡◌, ℕ, ◌+◌, ◌^◌, ◌<◌, Bool, true, not, ◌&&◌, List, ◌∷◌, ◌++◌, filter, nat_le, unwrap_or, slice_index}
use Rattle.std.specs.List.{All}
use Rattle.field_boxes.specs.Headline.Prefix.{FitsWidth, prefix_holds}
use Rattle.prefix_min.specs.declared.row.PrefixRow.{PrefixRow}
use Rattle.prefix_min.specs.PrefixList.{IsRight, front, weight}

-- whether the second row's values all lie in the first row's prefix
abbrev pub lies_in : ℕ → PrefixRow → PrefixRow → Bool
lies_in width r s = nat_le r.prefix.len s.prefix.len && prefix_holds width r.prefix s.prefix.value

-- the rows in the row's prefix, itself among them, and the rows beside
abbrev pub within : ℕ → PrefixRow → List PrefixRow → List PrefixRow
within width r rows = filter (λ s. lies_in width r s) rows

abbrev pub beside : ℕ → PrefixRow → List PrefixRow → List PrefixRow
beside width r rows = filter (λ s. not (lies_in width r s)) rows

-- the row with another label
abbrev pub relabelled : PrefixRow → ℕ → PrefixRow
relabelled r label = record { prefix = r.prefix; label = label }

-- the row is longer than this length
abbrev pub IsLonger : ℕ → PrefixRow → Type 0
IsLonger len s = len < s.prefix.len

-- whatever longer rows stand for a row and for what lies in its prefix, a right list weighs more: without
-- the row, and with a lesser one of the labels that f gives
pub record IsChosen (weights : List ℕ) (f : ℕ → ℕ) (width : ℕ) (rows : List PrefixRow) (r : PrefixRow) : Type 0 where
  pub saves : 0 < r.prefix.len → (others : List PrefixRow) → All (IsLonger r.prefix.len) others →
      IsRight width f (others ++ beside width r rows) → weight weights rows < weight weights (others ++ beside width r rows)
  pub least : (v : ℕ) → v < 2 ^ width → f v < r.label → (others : List PrefixRow) → All (IsLonger r.prefix.len) others →
      IsRight width f (others ++ relabelled r (f v) ∷ beside width r rows) → weight weights rows < weight weights (others ++ relabelled r (f v) ∷ beside width r rows)

-- longer rows that answer as f in a row's prefix, where the others answer for the values that they don't hold
pub record AnswerIn (f : ℕ → ℕ) (width : ℕ) (r : PrefixRow) (inherited : ℕ → ℕ) (others : List PrefixRow) : Type 0 where
  pub fits : All (λ s. FitsWidth width s.prefix) others
  pub longer : All (IsLonger r.prefix.len) others
  pub answers : (v : ℕ) → v < 2 ^ width → prefix_holds width r.prefix v ≡ true → unwrap_or (front width others v) (inherited v) ≡ f v

-- such rows weigh more than this
pub record IsWorth (weights : List ℕ) (f : ℕ → ℕ) (width : ℕ) (r : PrefixRow) (cost : ℕ) (inherited : ℕ → ℕ) : Type 0 where
  pub saves : 0 < r.prefix.len → (others : List PrefixRow) → AnswerIn f width r inherited others → cost < weight weights others
  pub least : (v : ℕ) → v < 2 ^ width → f v < r.label → (others : List PrefixRow) → AnswerIn f width r (λ x. f v) others → cost < weight weights others + slice_index weights (f v)

-- what is in the row's prefix weighs less than such rows, where d answers for the values that no row holds
abbrev pub IsWorthIn : List ℕ → (ℕ → ℕ) → ℕ → ℕ → List PrefixRow → PrefixRow → Type 0
IsWorthIn weights f width d rows r =
    0 < slice_index weights r.label → IsWorth weights f width r (weight weights (within width r rows)) (λ v. unwrap_or (front width (beside width r rows) v) d)

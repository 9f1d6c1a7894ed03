-- The rows of a part of the field.
use Rattle.std.specs.Prelude.{◌≡◌, ℕ, ◌+◌, ◌-◌, ◌%◌, ◌^◌, ◌<◌, ◌≤◌, true, List, [], ◌∷◌, unwrap_or, length}
use Rattle.std.specs.List.{AllByRecursion, Contains}
use Rattle.field_boxes.specs.Headline.Prefix.{FitsWidth, prefix_holds}
use Rattle.prefix_min.specs.declared.row.PrefixRow.{PrefixRow}
use Rattle.prefix_min.specs.PrefixList.{front, weight}
use Rattle.prefix_min.specs.Choice.{IsWorthIn}

-- a part of so many bits from low on is the values of a prefix
pub record IsPart (width bits low : ℕ) : Type 0 where
  pub wide : width ≤ 32
  pub len : bits ≤ width
  pub within : low + 2 ^ bits ≤ 2 ^ width
  pub aligned : low % 2 ^ bits ≡ 0

-- the row of all values of a part
abbrev pub row_of : ℕ → ℕ → ℕ → ℕ → PrefixRow
row_of width bits low label = record { prefix = record { value = low; len = width - bits }; label = label }

-- the row's values lie in the part
pub record IsInside (width bits low : ℕ) (r : PrefixRow) : Type 0 where
  pub fits : FitsWidth width r.prefix
  pub len : width ≤ bits + r.prefix.len
  pub from : low ≤ r.prefix.value
  pub below : r.prefix.value + 2 ^ (width - r.prefix.len) ≤ low + 2 ^ bits

-- where both rows hold a value, the later one is shorter
abbrev pub Nests : ℕ → PrefixRow → PrefixRow → Type 0
Nests width r s = (v : ℕ) → prefix_holds width r.prefix v ≡ true → prefix_holds width s.prefix v ≡ true → s.prefix.len < r.prefix.len

-- of the rows that hold a value each is shorter than those before it
abbrev pub AreNested : ℕ → List PrefixRow → Type 0
AreNested width [] = Unit {0}
AreNested width (r ∷ rows) = AllByRecursion (Nests width r) rows × AreNested width rows

-- rows of a part that answer as f where d is inherited, each worth its weight, and weigh so much
pub record ArePartRows (weights : List ℕ) (f : ℕ → ℕ) (width bits low d cost : ℕ) (rows : List PrefixRow) : Type 0 where
  pub inside : AllByRecursion (IsInside width bits low) rows
  pub nested : AreNested width rows
  pub labels : AllByRecursion (λ r. r.label < length weights) rows
  pub weighs : weight weights rows ≡ cost
  pub worth : AllByRecursion (IsWorthIn weights f width d rows) rows
  pub answers : (v : ℕ) → low ≤ v → v < low + 2 ^ bits → unwrap_or (front width rows v) d ≡ f v

-- rows of the field, with one of the field itself
pub record AreFieldRows (weights : List ℕ) (f : ℕ → ℕ) (width cost : ℕ) (rows : List PrefixRow) : Type 0 where
  pub part : (d : ℕ) → ArePartRows weights f width width 0 d cost rows
  pub label : ℕ
  pub whole : Contains rows (row_of width width 0 label)

-- Covers of a set of values by prefixes.
use Rattle.std.specs.Prelude.{◌≡◌, ℕ, ◌<◌, ◌≤◌, ◌^◌, Bool, true, false, List, length, All, AllPairs}
use Rattle.std.specs.List.{list_any}
use Rattle.field_boxes.specs.declared.prefix.Prefix.{Prefix}
use Rattle.field_boxes.specs.Headline.Prefix.{FitsWidth, prefix_holds}

-- each prefix fits the width, and together they hold exactly the set's values of that width
pub record HoldExactly (width : ℕ) (set : ℕ → Bool) (prefixes : List Prefix) : Type 0 where
  pub fit : All (FitsWidth width) prefixes
  pub exact : (v : ℕ) → v < 2 ^ width → list_any (λ p. prefix_holds width p v) prefixes ≡ set v

-- no value is held by both prefixes
abbrev pub IsApart : ℕ → Prefix → Prefix → Type 0
IsApart width p q = (v : ℕ) → prefix_holds width p v ≡ true → prefix_holds width q v ≡ false

-- the prefixes hold exactly the set's values, and no value twice
pub record IsCover (width : ℕ) (set : ℕ → Bool) (prefixes : List Prefix) : Type 0 where
  pub exact : HoldExactly width set prefixes
  pub apart : AllPairs (IsApart width) prefixes

-- no list of fewer prefixes holds exactly the set's values, whether it holds values twice or not
abbrev pub IsLeast : ℕ → (ℕ → Bool) → ℕ → Type 0
IsLeast width set count = (prefixes : List Prefix) → HoldExactly width set prefixes → count ≤ length prefixes

-- a cover in rising order that no other is shorter than
pub record IsShortestCover (width : ℕ) (set : ℕ → Bool) (prefixes : List Prefix) : Type 0 where
  pub cover : IsCover width set prefixes
  pub rising : AllPairs (λ p q. p.value < q.value) prefixes
  pub least : IsLeast width set (length prefixes)

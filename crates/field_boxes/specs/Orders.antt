-- Orders of the five fields.
use Rattle.std.specs.Prelude.{◌≡◌, ◌≢◌, ◌⊎◌, ℕ, ◌<◌, Bool, true, not, ◌&&◌, nat_eq, nat_lt, List, [], ◌∷◌, All, length, map, slice_index}
use Rattle.std.specs.List.{list_any, list_all}

-- the header's values of these fields, in their order
abbrev pub picked : List ℕ → List ℕ → List ℕ
picked level header = map (λ f. slice_index header f) level

-- the field is one of the level's
abbrev pub Has : ℕ → List ℕ → Type 0
Has f [] = ⊥
Has f (g ∷ level) = (g ≡ f) ⊎ Has f level

-- it isn't
abbrev pub IsMissing : ℕ → List ℕ → Type 0
IsMissing f [] = Unit {0}
IsMissing f (g ∷ level) = (g ≢ f) × IsMissing f level

-- no field stands twice
abbrev pub AreDistinct : List ℕ → Type 0
AreDistinct [] = Unit {0}
AreDistinct (f ∷ level) = IsMissing f level × AreDistinct level

-- five fields, of which no two are the same
pub record IsOrder (order : List ℕ) : Type 0 where
  pub five : length order ≡ 5
  pub fields : All (λ f. f < 5) order
  pub distinct : AreDistinct order

-- the tests of this
abbrev pub are_fields : List ℕ → Bool
are_fields order = list_all (λ f. nat_lt f 5) order

abbrev pub are_distinct : List ℕ → Bool
are_distinct [] = true
are_distinct (f ∷ order) = not (list_any (nat_eq f) order) && are_distinct order

abbrev pub is_order : List ℕ → Bool
is_order order = are_fields order && are_distinct order

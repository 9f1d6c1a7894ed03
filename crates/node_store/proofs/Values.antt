-- The values of a level's fields, one at a time.
use Rattle.std.proofs.Common.{◌≡◌, ◌∷◌, ℕ, List, [], ◌-◌, ◌≤◌, ◌<◌, ◌^◌, ◌∙◌, length, take, drop, refl, ap, arith}
use Rattle.std.specs.Prelude.{suc}
use Rattle.std.proofs.lemmas.Nat.{pow_pos}
use Rattle.field_boxes.specs.Headline.Fields.{width, AreValues}
use Rattle.field_boxes.specs.Fields.{greatest_of}
use Rattle.node_store.specs.Levels.{HasField, next, top_of}

take_all : (xs : List ℕ) → take (length xs) xs ≡ xs
take_all [] = refl
take_all (x ∷ xs) = ap (λ ys. x ∷ ys) (take_all xs)

-- what `&level[1..]` is
pub rest_is : (level : List ℕ) → take (length level - 1) (drop 1 level) ≡ next level
rest_is [] = refl
rest_is (f ∷ level) = ap (λ n. take n level) (omega arith) ∙ take_all level

pub in_width : (field v : ℕ) → v ≤ greatest_of field → v < 2 ^ width field
in_width field v h = let p = pow_pos (width field) in omega (arith, h, p)

within : (field v : ℕ) → v < 2 ^ width field → v ≤ greatest_of field
within field v h = omega (arith, h)

pub values_from : (level : List ℕ) (v : ℕ) (values : List ℕ) → HasField level → v ≤ top_of level → AreValues (next level) values → AreValues level (v ∷ values)
values_from [] v values field h r = absurd field
values_from (f ∷ level) v values field h r = (in_width f v h, r)

pub first : (level : List ℕ) (v : ℕ) (values : List ℕ) → HasField level → AreValues level (v ∷ values) → (v ≤ top_of level) × AreValues (next level) values
first [] v values field h = absurd field
first (f ∷ level) v values field h = (within f v h.0, h.1)

pub count : (level values : List ℕ) → AreValues level values → length values ≡ length level
count [] [] h = refl
count [] (v ∷ values) h = absurd h
count (f ∷ level) [] h = absurd h
count (f ∷ level) (v ∷ values) h = ap suc (count level values h.1)

-- what holds of each value of the field before values of the fields after it holds of all values
pub each : (P : List ℕ → Type 0) (level : List ℕ) → HasField level →
    ((v : ℕ) (rest : List ℕ) → v ≤ top_of level → AreValues (next level) rest → P (v ∷ rest)) →
    (values : List ℕ) → AreValues level values → P values
each P [] field by values h = absurd field
each P (f ∷ level) field by [] h = absurd h
each P (f ∷ level) field by (v ∷ rest) h = by v rest (within f v h.0) h.1

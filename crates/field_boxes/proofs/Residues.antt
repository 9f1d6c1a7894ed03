-- The first match and the residues.
use Rattle.std.proofs.Common.{◌≡◌, ◌∷◌, ℕ, List, Bool, true, false, [], ap, refl}
use Rattle.std.specs.Prelude.{cond, ◌&&◌, find, option_map, Option, Some}
use Rattle.field_boxes.specs.Headline.Classifier.{Rule, source, residue, matches, set_holds}

-- one rule, by whether its set of the field holds the value
step : {A : Type 0} (b : Bool) (fields values : List ℕ) (r : Rule A) (rest : Option (Rule A)) (kept : List (Rule A)) →
    rest ≡ find (matches fields values) kept →
    cond (b && matches fields values r) (Some r) rest ≡ find (matches fields values) (cond b (r ∷ kept) kept)
step true fields values r rest kept h = ap (cond (matches fields values r) (Some r)) h
step false fields values r rest kept h = h

found : {A : Type 0} (f v : ℕ) (fields values : List ℕ) (rules : List (Rule A)) →
    find (matches (f ∷ fields) (v ∷ values)) rules ≡ find (matches fields values) (residue f v rules)
found f v fields values [] = refl
found f v fields values (r ∷ rules) =
    step (set_holds f v r) fields values r (find (matches (f ∷ fields) (v ∷ values)) rules) (residue f v rules) (found f v fields values rules)

-- the first match over a field and more fields is the first match over those in the residue at the field's value
pub source-residue : {A : Type 0} (f v : ℕ) (fields values : List ℕ) (rules : List (Rule A)) →
    source (f ∷ fields) (v ∷ values) rules ≡ source fields values (residue f v rules)
source-residue f v fields values rules = ap (option_map (λ r. r.decision)) (found f v fields values rules)

-- What holds of all neighbours in a list, one element at a time.
use Rattle.std.proofs.Common.{◌≡◌, ◌∷◌, List, ◌-◌, length, get_or, arith, add-one, refl}
use Rattle.std.specs.Prelude.{suc, zero}
use Rattle.std.specs.List.{AllAdjacentBelow}

pub tail : {X : Type 0} (R : X → X → Type 0) (x : X) (xs : List X) →
    AllAdjacentBelow R (x ∷ xs) (length (x ∷ xs)) → AllAdjacentBelow R xs (length xs)
tail R x xs h k d less = let r = h (suc k) d (omega arith) in rw (add-one k) (rw (add-one (suc k)) at r)

pub head : {X : Type 0} (R : X → X → Type 0) (x y : X) (xs : List X) →
    AllAdjacentBelow R (x ∷ y ∷ xs) (length (x ∷ y ∷ xs)) → R x y
head R x y xs h = h 0 x (omega arith)

pub cons : {X : Type 0} (R : X → X → Type 0) (x y : X) (xs : List X) →
    R x y → AllAdjacentBelow R (y ∷ xs) (length (y ∷ xs)) → AllAdjacentBelow R (x ∷ y ∷ xs) (length (x ∷ y ∷ xs))
cons R x y xs r h zero d less = r
cons R x y xs r h (suc k) d less = let q = h k d (omega arith) in rw (add-one (suc k)) (rw (add-one k) at q)

-- the last element is that of the tail
pub last : {X : Type 0} (x y : X) (xs : List X) (d : X) →
    get_or (x ∷ y ∷ xs) (length (x ∷ y ∷ xs) - 1) d ≡ get_or (y ∷ xs) (length (y ∷ xs) - 1) d
last x y xs d = let q : length (x ∷ y ∷ xs) - 1 ≡ suc (length (y ∷ xs) - 1) = omega arith in rw q refl

-- The first items of a list.
use Rattle.std.specs.Prelude.{◌≡◌, ◌++◌, List}

-- the items are the first ones of the list
abbrev pub IsFront : {A : Type 0} → List A → List A → Type 0
IsFront {A} front items = (rest : List A) × (items ≡ front ++ rest)

-- the first ones of the items were added
abbrev pub AddsFront : {A : Type 0} → List A → List A → List A → Type 0
AddsFront {A} old new items = (front : List A) × (new ≡ old ++ front) × IsFront front items

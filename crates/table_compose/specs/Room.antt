-- Lists that grew.
use Rattle.std.specs.Prelude.{◌≡◌, ℕ, ◌++◌, List, replicate}

-- items of one kind were added behind
abbrev pub IsPadded : {X : Type 0} → X → List X → List X → Type 0
IsPadded x old new = (count : ℕ) × (new ≡ old ++ replicate count x)

-- items were added behind
abbrev pub IsLonger : {X : Type 0} → List X → List X → Type 0
IsLonger {X} old new = (more : List X) × (new ≡ old ++ more)

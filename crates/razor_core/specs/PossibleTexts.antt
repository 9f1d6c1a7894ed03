-- The texts that inputs may have, by what was read of them.
use Rattle.std.specs.Prelude.{ℕ, List}
use Rattle.razor_base.specs.Headline.Readings.{Reading}
use Rattle.razor_base.specs.Texts.{MayHold}

-- after these reads each input may have its text
abbrev pub MayBeTexts : List Reading → (List ℕ → List ℕ) → Type 0
MayBeTexts reads texts = (name : List ℕ) → MayHold reads name (texts name)

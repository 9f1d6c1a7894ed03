-- What calls that move bytes come to: reads of inputs, and writes.
use Rattle.std.specs.Prelude.{◌≡◌, ℕ, List, [], ◌∷◌, ◌++◌, Result, Ok, Err, take}

-- a call moves a piece of bytes, meets the end of an input, or fails
pub data CallOutcome : Type 0 where
  Piece : List ℕ → CallOutcome
  End : CallOutcome
  Failure : CallOutcome

-- a call that moves no bytes meets the end
abbrev pub outcome_of : List ℕ → CallOutcome
outcome_of [] = End
outcome_of (byte ∷ bytes) = Piece (byte ∷ bytes)

-- what a call came to, by its answer and the piece of which it moved the front
abbrev pub outcome_by : {E : Type 0} → Result ℕ E → List ℕ → CallOutcome
outcome_by (Ok n) piece = outcome_of (take n piece)
outcome_by (Err error) piece = Failure

-- the bytes that a call moved
abbrev pub bytes_in : CallOutcome → List ℕ
bytes_in (Piece bytes) = bytes
bytes_in End = []
bytes_in Failure = []

-- the bytes that writes took, joined
unfoldable pub taken : List CallOutcome → List ℕ
taken [] = []
taken (outcome ∷ outcomes) = bytes_in outcome ++ taken outcomes

-- a list got longer at its end, by items of which this holds
abbrev pub Extends : {A : Type 0} → List A → List A → (List A → Type 0) → Type 0
Extends {A = A} before after Are = (added : List A) × (after ≡ before ++ added) × Are added

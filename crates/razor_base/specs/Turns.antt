-- Which reads a call makes: of one input after the other, each to its end.
use Rattle.std.specs.Prelude.{◌≡◌, ◌≢◌, ℕ, true, List, [], ◌∷◌, ◌++◌, map, length, drop, ◌⊎◌, Result, Ok, Err}
use Rattle.std.specs.List.{AllByRecursion}
use Rattle.razor_base.specs.Headline.Outcomes.{End, Failure, Piece}
use Rattle.razor_base.specs.Headline.Readings.{Reading, ended, given, reading}
use Rattle.razor_base.specs.declared.read.ReadError.{ReadError}
use Rattle.razor_base.specs.declared.read.ReadError.TheVariants.{Fault, TooLong, Memory}

-- pieces, joined
abbrev pub joined : List (List ℕ) → List ℕ
joined [] = []
joined (piece ∷ pieces) = piece ++ joined pieces

-- reads of a name that gave these pieces
abbrev pub pieces_under : List ℕ → List (List ℕ) → List Reading
pieces_under name pieces = map (λ piece. reading name (Piece piece)) pieces

-- a turn that goes on: pieces of the name alone
pub record ArePieces (name : List ℕ) (added : List Reading) : Type 0 where
  pub pieces : List (List ℕ)
  pub are : added ≡ pieces_under name pieces

-- a whole turn: pieces and then the end
pub record IsWholeTurn (name : List ℕ) (added : List Reading) : Type 0 where
  pub pieces : List (List ℕ)
  pub are : added ≡ pieces_under name pieces ++ reading name End ∷ []

-- a turn that failed: pieces and then a failure
pub record IsFailedTurn (name : List ℕ) (added : List Reading) : Type 0 where
  pub pieces : List (List ℕ)
  pub are : added ≡ pieces_under name pieces ++ reading name Failure ∷ []

-- a turn in which no read failed: a whole one, or one that broke off for another cause
abbrev pub IsUnfailed : List ℕ → List Reading → Type 0
IsUnfailed name added = IsWholeTurn name added ⊎ ArePieces name added

-- a turn that broke off before its end, or wasn't begun
abbrev pub BreaksOff : List ℕ → List Reading → Type 0
BreaksOff name added = ArePieces name added ⊎ IsFailedTurn name added

-- the turn of an input that was read whole, by how that ended
abbrev pub IsTurnOf : {T : Type 0} → List ℕ → Result T ReadError → List Reading → Type 0
IsTurnOf name (Ok value) added = IsWholeTurn name added
IsTurnOf name (Err Fault) added = IsFailedTurn name added
IsTurnOf name (Err TooLong) added = ArePieces name added
IsTurnOf name (Err Memory) added = ArePieces name added

-- a turn, and then what follows it
pub record IsPassed (name : List ℕ) (Later : List Reading → Type 0) (added : List Reading) : Type 0 where
  pub turn : List Reading
  pub later : List Reading
  pub parts : added ≡ turn ++ later
  pub whole : IsWholeTurn name turn
  pub rest : Later later

-- a whole turn of each of the names
abbrev pub AreWholeTurns : List (List ℕ) → List Reading → Type 0
AreWholeTurns [] added = added ≡ []
AreWholeTurns (name ∷ names) added = IsPassed name (λ later. AreWholeTurns names later) added

-- the names in their turns, of which the last one that was begun may have broken off
abbrev pub AreTurns : List (List ℕ) → List Reading → Type 0
AreTurns [] added = added ≡ []
AreTurns (name ∷ names) added = BreaksOff name added ⊎ IsPassed name (λ later. AreTurns names later) added

-- a whole turn of each of the names is such turns
abbrev pub WholeTurnsAreTurns : Type 0
WholeTurnsAreTurns = (names : List (List ℕ)) (added : List Reading) → AreWholeTurns names added → AreTurns names added

-- turns join behind whole ones
abbrev pub TurnsJoin : Type 0
TurnsJoin = (names later : List (List ℕ)) (whole rest : List Reading) → AreWholeTurns names whole → AreTurns later rest → AreTurns (names ++ later) (whole ++ rest)

abbrev pub WholeTurnsJoin : Type 0
WholeTurnsJoin = (names later : List (List ℕ)) (whole rest : List Reading) → AreWholeTurns names whole → AreWholeTurns later rest → AreWholeTurns (names ++ later) (whole ++ rest)

-- so one whole turn more may stand behind them, and one that broke off is the last that was begun
abbrev pub OneMoreTurn : Type 0
OneMoreTurn = (names : List (List ℕ)) (name : List ℕ) (whole turn : List Reading) → AreWholeTurns names whole → IsWholeTurn name turn → AreWholeTurns (names ++ name ∷ []) (whole ++ turn)

abbrev pub LastTurn : Type 0
LastTurn = (names : List (List ℕ)) (name : List ℕ) (later : List (List ℕ)) (whole turn : List Reading) → AreWholeTurns names whole → BreaksOff name turn → AreTurns (names ++ name ∷ later) (whole ++ turn)

-- a failure is the last read
abbrev pub FailureIsLast : Type 0
FailureIsLast = (names : List (List ℕ)) (added before after : List Reading) (name : List ℕ) → AreTurns names added → added ≡ before ++ reading name Failure ∷ after → after ≡ []

-- none of these reads failed
abbrev pub NoneFails : List Reading → Type 0
NoneFails added = AllByRecursion (λ read. read.outcome ≢ Failure) added

-- a whole turn has no failure
abbrev pub WholeTurnsDoNotFail : Type 0
WholeTurnsDoNotFail = (names : List (List ℕ)) (added : List Reading) → AreWholeTurns names added → NoneFails added

-- the last of these reads failed
abbrev pub FailsLast : List Reading → Type 0
FailsLast added = (before : List Reading) × (name : List ℕ) × (added ≡ before ++ reading name Failure ∷ [])

-- what a whole turn gave are its pieces, joined, and it met the end
abbrev pub WholeTurnGives : Type 0
WholeTurnGives = (name : List ℕ) (turn : List Reading) → (is : IsWholeTurn name turn) → (given turn name ≡ joined is.pieces) × (ended turn name ≡ true)

-- names that have no turn are not read
abbrev pub IsNoneOf : List ℕ → List (List ℕ) → Type 0
IsNoneOf other [] = Unit {0}
IsNoneOf other (name ∷ names) = (other ≢ name) × IsNoneOf other names

abbrev pub OthersAreUnread : Type 0
OthersAreUnread = (names : List (List ℕ)) (added : List Reading) (other : List ℕ) → AreTurns names added → IsNoneOf other names → given added other ≡ []

-- what a call was given of a name is what stands in the reads that it added; and an end in it is the end after it
abbrev pub CallGives : Type 0
CallGives = (before after added : List Reading) (name : List ℕ) → after ≡ before ++ added
    → (drop (length (given before name)) (given after name) ≡ given added name) × (ended added name ≡ true → ended after name ≡ true)

-- The front of a text that is checked, which tells of which kind it is.
use Rattle.std.specs.Prelude.{◌≡◌, ℕ, ◌&&◌, nat_eq, nat_lt, Bool, true, false, List, [], ◌∷◌, ◌++◌, Result, Ok, Err, codes, length}
use Rattle.std.specs.List.{starts_with}
use Rattle.razor_base.specs.Headline.Outcomes.{CallOutcome, Extends}
use Rattle.razor_base.specs.Headline.Readings.{Reading}
use Rattle.razor_base.specs.Turns.{ArePieces, IsFailedTurn, IsWholeTurn}
use Rattle.razor_core.specs.Calls.{MakesCalls, WritesBehind}
use Rattle.razor_core.specs.Meaning.{at_the_end}
use Rattle.razor_core.specs.declared.commands.check.front.Front.{Front}
use Rattle.razor_core.specs.declared.ending.Ending.{Ending}

-- a proof begins so, and more of it has to be seen
abbrev pub is_begun : List ℕ → Bool
is_begun front = nat_lt (length front) 6 && starts_with nat_eq (codes "proof ") front

-- fewer bytes were given than tell of which kind a text is, and a proof begins with them
pub record HasLittle (before after : List ℕ) : Type 0 where
  pub front : List ℕ
  pub given : after ≡ before ++ front
  pub begun : is_begun front ≡ true

-- the reads of a front: pieces, and the end where it was met
abbrev pub IsPartTurn : List ℕ → Bool → List Reading → Type 0
IsPartTurn name true added = IsWholeTurn name added
IsPartTurn name false added = ArePieces name added

-- or a failure
abbrev pub IsFrontTurn : {E : Type 0} → List ℕ → Result Front E → List Reading → Type 0
IsFrontTurn name (Ok front) added = IsPartTurn name front.whole added
IsFrontTurn name (Err error) added = IsFailedTurn name added

-- the reads and writes of a check behind a front: no more reads where the end was met
abbrev pub EndsBehind : List ℕ → Bool → List Reading → List Reading → List CallOutcome → List CallOutcome → Ending → Type 0
EndsBehind name true before after old new ending = (after ≡ before) × Extends old new (WritesBehind ending)
EndsBehind name false before after old new ending = MakesCalls at_the_end (name ∷ []) before after old new ending

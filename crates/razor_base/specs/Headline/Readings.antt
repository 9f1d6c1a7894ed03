-- The reads of named inputs, and what they gave.
use Rattle.std.specs.Prelude.{ℕ, List, [], ◌∷◌, ◌++◌, Bool, true, false, if◌then◌else◌}
use Rattle.std.specs.Str.{bytes_eq}
use Rattle.razor_base.specs.Headline.Outcomes.{CallOutcome, End, Failure, Piece, bytes_in}

-- one read: the name that was read, and what came of it
pub record Reading : Type 0 where
  pub name : List ℕ
  pub outcome : CallOutcome

abbrev pub reading : List ℕ → CallOutcome → Reading
reading name outcome = record { name = name; outcome = outcome }

-- the pieces that reads of a name gave, joined
unfoldable pub given : List Reading → List ℕ → List ℕ
given [] name = []
given (r ∷ reads) name = (if bytes_eq name r.name then bytes_in r.outcome else []) ++ given reads name

-- whether the last read that didn't fail met the end, by one read more
abbrev pub end_by : Bool → CallOutcome → Bool
end_by before (Piece bytes) = false
end_by before End = true
end_by before Failure = before

-- whether the last read of a name that didn't fail met the end, where it had done so before or not
unfoldable pub ended_from : Bool → List Reading → List ℕ → Bool
ended_from before [] name = before
ended_from before (r ∷ reads) name = ended_from (if bytes_eq name r.name then end_by before r.outcome else before) reads name

-- and where it was not read before
abbrev pub ended : List Reading → List ℕ → Bool
ended reads name = ended_from false reads name

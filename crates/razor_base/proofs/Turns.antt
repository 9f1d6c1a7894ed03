-- Turns of inputs, read by read and one after the other.
use Rattle.std.proofs.Common.{◌≡◌, ◌<◌, ◌≤◌, ◌∷◌, ◌++◌, ℕ, List, [], Result, Ok, Err, length, take, refl, sym, ap, ◌∙◌, zero, suc, arith, append-nil, append_assoc}
use Rattle.std.specs.Result.{IsErrAnd, IsErrOf}
use Rattle.razor_base.specs.Headline.Outcomes.{CallOutcome, End, Failure, Piece, outcome_of, Extends}
use Rattle.razor_base.specs.Headline.Readings.{Reading, reading}
use Rattle.razor_base.specs.Turns.{ArePieces, IsFailedTurn, IsTurnOf, IsWholeTurn, pieces_under}
use Rattle.razor_base.specs.declared.read.ReadError.{ReadError}
use Rattle.razor_base.specs.declared.read.ReadError.TheVariants.{Fault, TooLong, Memory}

pub pieces-append : (name : List ℕ) (a b : List (List ℕ)) → pieces_under name (a ++ b) ≡ pieces_under name a ++ pieces_under name b
pieces-append name [] b = refl
pieces-append name (piece ∷ a) b = ap (λ (reads : List Reading). reading name (Piece piece) ∷ reads) (pieces-append name a b)

-- nothing was read yet
pub begun : (name : List ℕ) (reads : List Reading) → Extends reads reads (ArePieces name)
begun name reads = ([], sym (append-nil reads), record { pieces = []; are = refl })

came_some : (count : ℕ) (piece : List ℕ) → 0 < count → count ≤ length piece → outcome_of (take count piece) ≡ Piece (take count piece)
came_some zero piece some fits = absurd (omega (arith, some))
came_some (suc n) [] some fits = absurd (omega (arith, fits))
came_some (suc n) (byte ∷ bytes) some fits = refl

module _ (name : List ℕ) (old before after : List Reading) (came : CallOutcome) (turn : Extends old before (ArePieces name)) (added : after ≡ before ++ reading name came ∷ []) where
  more : after ≡ old ++ (turn.0 ++ reading name came ∷ [])
  more = added ∙ ap (λ (reads : List Reading). reads ++ reading name came ∷ []) turn.1 ∙ append_assoc old turn.0 (reading name came ∷ [])

  last_is : turn.0 ++ reading name came ∷ [] ≡ pieces_under name turn.2.pieces ++ reading name came ∷ []
  last_is = ap (λ (reads : List Reading). reads ++ reading name came ∷ []) turn.2.are

  -- one piece more
  pub goes_on : (piece : List ℕ) → came ≡ Piece piece → Extends old after (ArePieces name)
  goes_on piece e = (
    turn.0 ++ reading name came ∷ [],
    more,
    record {
      pieces = turn.2.pieces ++ piece ∷ [];
      are = last_is ∙ ap (λ (c : CallOutcome). pieces_under name turn.2.pieces ++ reading name c ∷ []) e ∙ sym (pieces-append name turn.2.pieces (piece ∷ []));
    },
  )

  -- and then the end
  pub ends : came ≡ End → Extends old after (IsWholeTurn name)
  ends e = (
    turn.0 ++ reading name came ∷ [],
    more,
    record {
      pieces = turn.2.pieces;
      are = last_is ∙ ap (λ (c : CallOutcome). pieces_under name turn.2.pieces ++ reading name c ∷ []) e;
    },
  )

  -- or a failure
  pub fails : came ≡ Failure → Extends old after (IsFailedTurn name)
  fails e = (
    turn.0 ++ reading name came ∷ [],
    more,
    record {
      pieces = turn.2.pieces;
      are = last_is ∙ ap (λ (c : CallOutcome). pieces_under name turn.2.pieces ++ reading name c ∷ []) e;
    },
  )

-- a piece of some bytes
pub gives_piece : (name : List ℕ) (old before after : List Reading) (count : ℕ) (piece : List ℕ) → Extends old before (ArePieces name)
    → after ≡ before ++ reading name (outcome_of (take count piece)) ∷ [] → 0 < count → count ≤ length piece → Extends old after (ArePieces name)
gives_piece name old before after count piece turn added some fits = goes_on name old before after (outcome_of (take count piece)) turn added (take count piece) (came_some count piece some fits)

-- what broke off for another cause than a failed read
pub breaks_off : (T : Type 0) (name : List ℕ) (old after : List Reading) (error : ReadError) (result : Result T ReadError) → IsErrAnd result (λ e. e ≡ error) → (IsErrOf {T = T} (Err error) Fault → ⊥) → Extends old after (ArePieces name)
    → Extends old after (λ added. IsTurnOf name result added)
breaks_off T name old after error (Ok value) is fault turn = absurd is
breaks_off T name old after error (Err Fault) is fault turn = absurd (fault (ap (λ (e : ReadError). let r : Result T ReadError = Err e in r) (sym is)))
breaks_off T name old after error (Err TooLong) is fault turn = turn
breaks_off T name old after error (Err Memory) is fault turn = turn

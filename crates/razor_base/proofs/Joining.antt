-- Turns of inputs, one after the other.
use Rattle.std.proofs.Common.{◌≡◌, ◌≢◌, ◌∷◌, ◌++◌, ℕ, List, [], Bool, true, false, if◌then◌else◌, inl, inr, refl, sym, ap, ◌∙◌, subst, append-nil, append_assoc}
use Rattle.razor_base.specs.Headline.Outcomes.{CallOutcome, End, Failure, Piece}
use Rattle.razor_base.specs.Headline.Readings.{Reading, end_by, ended, ended_from, given, reading}
use Rattle.razor_base.specs.Turns.{AreTurns, AreWholeTurns, BreaksOff, CallGives, FailureIsLast, IsWholeTurn, LastTurn, NoneFails, OneMoreTurn, OthersAreUnread, TurnsJoin, WholeTurnGives, WholeTurnsAreTurns, WholeTurnsDoNotFail, WholeTurnsJoin, joined, pieces_under}
use Rattle.std.specs.Str.{bytes_eq}
use Rattle.razor_base.proofs.Coming.{left_behind}
use Rattle.razor_base.proofs.Telling.{ended-append, given-append, none_given, one_ended, one_given, none_read}

pub whole_are_turns : WholeTurnsAreTurns
whole_are_turns [] added h = h
whole_are_turns (name ∷ names) added h = inr (record { turn = h.turn; later = h.later; parts = h.parts; whole = h.whole; rest = whole_are_turns names h.later h.rest })

pub turns_join : TurnsJoin
turns_join [] later whole rest h t = subst (AreTurns later) (sym (ap (λ (reads : List Reading). reads ++ rest) h)) t
turns_join (name ∷ names) later whole rest h t = inr (record {
  turn = h.turn;
  later = h.later ++ rest;
  parts = ap (λ (reads : List Reading). reads ++ rest) h.parts ∙ append_assoc h.turn h.later rest;
  whole = h.whole;
  rest = turns_join names later h.later rest h.rest t;
})

pub whole_turns_join : WholeTurnsJoin
whole_turns_join [] later whole rest h t = subst (AreWholeTurns later) (sym (ap (λ (reads : List Reading). reads ++ rest) h)) t
whole_turns_join (name ∷ names) later whole rest h t = record {
  turn = h.turn;
  later = h.later ++ rest;
  parts = ap (λ (reads : List Reading). reads ++ rest) h.parts ∙ append_assoc h.turn h.later rest;
  whole = h.whole;
  rest = whole_turns_join names later h.later rest h.rest t;
}

pub one_whole : (name : List ℕ) (turn : List Reading) → IsWholeTurn name turn → AreWholeTurns (name ∷ []) turn
one_whole name turn h = record { turn = turn; later = []; parts = sym (append-nil turn); whole = h; rest = refl }

pub one_more : OneMoreTurn
one_more names name whole turn h t = whole_turns_join names (name ∷ []) whole turn h (one_whole name turn t)

pub last_turn : LastTurn
last_turn names name later whole turn h t = turns_join names (name ∷ later) whole turn h (inl t)

-- a piece and the end are no failures
piece_not_failed : (bytes : List ℕ) → Piece bytes ≢ Failure
piece_not_failed bytes e = cc

end_not_failed : End ≢ Failure
end_not_failed e = cc

abbrev tail : List Reading → List Reading
tail [] = []
tail (r ∷ reads) = reads

abbrev some : List Reading → Bool
some [] = false
some (r ∷ reads) = true

abbrev first_outcome : List Reading → CallOutcome
first_outcome [] = End
first_outcome (r ∷ reads) = r.outcome

not_none : (before after : List Reading) (r : Reading) → [] ≡ before ++ r ∷ after → ⊥
not_none [] after r e = let no : false ≡ true = ap some e in absurd cc
not_none (b ∷ before) after r e = let no : false ≡ true = ap some e in absurd cc

-- a failure stands behind reads that are none
past : (turn later before after : List Reading) (name : List ℕ) → NoneFails turn → turn ++ later ≡ before ++ reading name Failure ∷ after → (rest : List Reading) × (later ≡ rest ++ reading name Failure ∷ after)
past [] later before after name none e = (before, e)
past (r ∷ turn) later [] after name none e = absurd (none.0 (ap first_outcome e))
past (r ∷ turn) later (b ∷ before) after name none e = past turn later before after name none.1 (ap tail e)

pub pieces_none : (name : List ℕ) (pieces : List (List ℕ)) → NoneFails (pieces_under name pieces)
pieces_none name [] = tt
pieces_none name (piece ∷ pieces) = (piece_not_failed piece, pieces_none name pieces)

whole_none : (name : List ℕ) (pieces : List (List ℕ)) → NoneFails (pieces_under name pieces ++ reading name End ∷ [])
whole_none name [] = (end_not_failed, tt)
whole_none name (piece ∷ pieces) = (piece_not_failed piece, whole_none name pieces)

pub none_fails-append : (a b : List Reading) → NoneFails a → NoneFails b → NoneFails (a ++ b)
none_fails-append [] b none later = later
none_fails-append (r ∷ a) b none later = (none.0, none_fails-append a b none.1 later)

pub whole_do_not_fail : WholeTurnsDoNotFail
whole_do_not_fail [] added h = subst NoneFails (sym h) tt
whole_do_not_fail (name ∷ names) added h =
    let turn = subst NoneFails (sym h.whole.are) (whole_none name h.whole.pieces) in
    subst NoneFails (sym h.parts) (none_fails-append h.turn h.later turn (whole_do_not_fail names h.later h.rest))

last_alone : (before after : List Reading) (name other : List ℕ) → reading name Failure ∷ [] ≡ before ++ reading other Failure ∷ after → after ≡ []
last_alone [] after name other e = sym (ap tail e)
last_alone (b ∷ before) after name other e = absurd (not_none before after (reading other Failure) (ap tail e))

broken_last : (name : List ℕ) (added before after : List Reading) (other : List ℕ) → BreaksOff name added → added ≡ before ++ reading other Failure ∷ after → after ≡ []
broken_last name added before after other (inl h) e =
    let found = past (pieces_under name h.pieces) [] before after other (pieces_none name h.pieces) (append-nil (pieces_under name h.pieces) ∙ sym h.are ∙ e) in
    absurd (not_none found.0 after (reading other Failure) found.1)
broken_last name added before after other (inr h) e =
    let found = past (pieces_under name h.pieces) (reading name Failure ∷ []) before after other (pieces_none name h.pieces) (sym h.are ∙ e) in
    last_alone found.0 after name other found.1

pub failure_is_last : FailureIsLast
failure_is_last [] added before after name h e = absurd (not_none before after (reading name Failure) (sym h ∙ e))
failure_is_last (n ∷ names) added before after name (inl h) e = broken_last n added before after name h e
failure_is_last (n ∷ names) added before after name (inr h) e =
    let turn = pieces_under n h.whole.pieces ++ reading n End ∷ [] in
    let found = past turn h.later before after name (whole_none n h.whole.pieces) (ap (λ (reads : List Reading). reads ++ h.later) (sym h.whole.are) ∙ sym h.parts ∙ e) in
    failure_is_last names h.later found.0 after name h.rest found.1

-- what pieces give
pieces_give : (name : List ℕ) (pieces : List (List ℕ)) → given (pieces_under name pieces) name ≡ joined pieces
pieces_give name [] = none_read name
pieces_give name (piece ∷ pieces) =
    given-append (reading name (Piece piece) ∷ []) (pieces_under name pieces) name
    ∙ ap (λ (bytes : List ℕ). bytes ++ given (pieces_under name pieces) name) (one_given name (Piece piece))
    ∙ ap (λ (bytes : List ℕ). piece ++ bytes) (pieces_give name pieces)

pub whole_turn_gives : WholeTurnGives
whole_turn_gives name turn is =
    let pieces = pieces_under name is.pieces in
    let end = reading name End ∷ [] in (
      ap (λ (reads : List Reading). given reads name) is.are ∙ given-append pieces end name ∙ ap (λ (bytes : List ℕ). given pieces name ++ bytes) (one_given name End) ∙ append-nil (given pieces name) ∙ pieces_give name is.pieces,
      ap (λ (reads : List Reading). ended reads name) is.are ∙ ended-append false pieces end name ∙ one_ended (ended pieces name) name End,
    )

pieces_give_none : (name other : List ℕ) (pieces : List (List ℕ)) → other ≢ name → given (pieces_under name pieces) other ≡ []
pieces_give_none name other [] h = none_read other
pieces_give_none name other (piece ∷ pieces) h =
    given-append (reading name (Piece piece) ∷ []) (pieces_under name pieces) other
    ∙ ap (λ (bytes : List ℕ). bytes ++ given (pieces_under name pieces) other) (none_given other name (Piece piece) h)
    ∙ pieces_give_none name other pieces h

turn_gives_none : (name other : List ℕ) (pieces : List (List ℕ)) (came : CallOutcome) → other ≢ name → given (pieces_under name pieces ++ reading name came ∷ []) other ≡ []
turn_gives_none name other pieces came h =
    given-append (pieces_under name pieces) (reading name came ∷ []) other
    ∙ ap (λ (bytes : List ℕ). bytes ++ given (reading name came ∷ []) other) (pieces_give_none name other pieces h)
    ∙ none_given other name came h

pub others_unread : OthersAreUnread
others_unread [] added other h none = ap (λ (reads : List Reading). given reads other) h ∙ none_read other
others_unread (name ∷ names) added other (inl (inl h)) none = ap (λ (reads : List Reading). given reads other) h.are ∙ pieces_give_none name other h.pieces none.0
others_unread (name ∷ names) added other (inl (inr h)) none = ap (λ (reads : List Reading). given reads other) h.are ∙ turn_gives_none name other h.pieces Failure none.0
others_unread (name ∷ names) added other (inr h) none =
    ap (λ (reads : List Reading). given reads other) h.parts ∙ given-append h.turn h.later other
    ∙ ap (λ (bytes : List ℕ). bytes ++ given h.later other) (ap (λ (reads : List Reading). given reads other) h.whole.are ∙ turn_gives_none name other h.whole.pieces End none.0)
    ∙ others_unread names h.later other h.rest none.1

one_step : (mine a b : Bool) (came : CallOutcome) → (a ≡ true → b ≡ true) → (if mine then end_by a came else a) ≡ true → (if mine then end_by b came else b) ≡ true
one_step false a b came le e = le e
one_step true a b (Piece bytes) le e = e
one_step true a b End le e = e
one_step true a b Failure le e = le e

-- an end that is told without what came before is told with it
ends_anyway : (reads : List Reading) (name : List ℕ) (a b : Bool) → (a ≡ true → b ≡ true) → ended_from a reads name ≡ true → ended_from b reads name ≡ true
unfolding ended_from
ends_anyway [] name a b le e = le e
ends_anyway (r ∷ reads) name a b le e =
    ends_anyway reads name (if bytes_eq name r.name then end_by a r.outcome else a) (if bytes_eq name r.name then end_by b r.outcome else b) (one_step (bytes_eq name r.name) a b r.outcome le) e

pub call_gives : CallGives
call_gives before after added name e = (
  left_behind (given before name) (given added name) (given after name) (ap (λ (reads : List Reading). given reads name) e ∙ given-append before added name),
  λ end. ap (λ (reads : List Reading). ended reads name) e ∙ ended-append false before added name ∙ ends_anyway added name false (ended before name) (λ no. absurd cc) end,
)

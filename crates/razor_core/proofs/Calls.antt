-- The reads and writes of commands.
use Rattle.std.proofs.Common.{◌≡◌, ◌≢◌, ◌⊎◌, ℕ, List, [], ◌∷◌, ◌++◌, Result, Ok, Err, inl, inr, refl, sym, ap, subst, ◌∙◌, append-nil, append_assoc, arith}
use Rattle.std.specs.Prelude.{MatchResult}
use Rattle.razor_base.specs.Headline.Outcomes.{CallOutcome, Extends, Failure}
use Rattle.razor_base.specs.Headline.Readings.{Reading, reading}
use Rattle.razor_base.specs.Output.{AreTaken, AreWrites}
use Rattle.razor_base.specs.Turns.{ArePieces, AreTurns, AreWholeTurns, FailsLast, IsFailedTurn, IsUnfailed, IsWholeTurn, NoneFails, pieces_under}
use Rattle.razor_limits.specs.declared.failure.Failed.{Failed}
use Rattle.razor_base.proofs.Joining.{none_fails-append, one_whole, pieces_none, turns_join, whole_are_turns, whole_do_not_fail, whole_turns_join}
use Rattle.razor_base.proofs.Writing.{made-none}
use Rattle.razor_core.specs.Behind.{IsEndOfWrite}
use Rattle.razor_core.specs.Calls.{AreUnfailedTurns, EndsAmong, EndsCut, EndsReads, EndsTurnReads, EndsWrites, MakesCalls, WritesBehind, names_of}
use Rattle.razor_core.specs.CallsByStatus.{AreWritten, ReadsOf}
use Rattle.razor_core.specs.Ending.{status_of}
use Rattle.razor_core.specs.Meaning.{Meaning, Writing, at_the_end, by_lines, in_turn}
use Rattle.razor_core.specs.declared.ending.Ending.{Ending}
use Rattle.razor_core.specs.declared.ending.Ending.TheVariants.{Done, No, BadLine as Bad, TooLong, TooMany, ReadFault, WriteFault, Memory}

-- nothing of some names was read
pub none_begun : (names : List (List ℕ)) → AreTurns names []
none_begun [] = refl
none_begun (name ∷ names) = inl (inl (record { pieces = []; are = refl }))

-- what was added by two calls
joined : {A : Type 0} (old mid after first second : List A) → mid ≡ old ++ first → after ≡ mid ++ second → after ≡ old ++ (first ++ second)
joined old mid after first second p q = q ∙ ap (λ xs. xs ++ second) p ∙ append_assoc old first second

-- the turn of one name
pub one_turn : (name : List ℕ) (old after : List Reading) → Extends old after (IsWholeTurn name) → Extends old after (AreWholeTurns (name ∷ []))
one_turn name old after turn = (turn.0, turn.1, one_whole name turn.0 turn.2)

-- and of more behind others
pub turns_more : (names later : List (List ℕ)) (old mid after : List Reading) → Extends old mid (AreWholeTurns names) → Extends mid after (AreWholeTurns later) → Extends old after (AreWholeTurns (names ++ later))
turns_more names later old mid after p q = (p.0 ++ q.0, joined old mid after p.0 q.0 p.1 q.1, whole_turns_join names later p.0 q.0 p.2 q.2)

pub two_turns : (one two : List ℕ) (old mid after : List Reading) → Extends old mid (IsWholeTurn one) → Extends mid after (IsWholeTurn two) → Extends old after (AreWholeTurns (one ∷ two ∷ []))
two_turns one two old mid after p q = turns_more (one ∷ []) (two ∷ []) old mid after (one_turn one old mid p) (one_turn two mid after q)

-- one turn that is whole, where others were not begun
one_of : (name : List ℕ) (later : List (List ℕ)) (added : List Reading) → IsWholeTurn name added → AreTurns (name ∷ later) added
one_of name later added whole = inr (record { turn = added; later = []; parts = sym (append-nil added); whole = whole; rest = none_begun later })

whole_unfailed : (name : List ℕ) (added : List Reading) → IsWholeTurn name added → NoneFails added
whole_unfailed name added whole = whole_do_not_fail (name ∷ []) added (one_whole name added whole)

pieces_unfailed : (name : List ℕ) (added : List Reading) → ArePieces name added → NoneFails added
pieces_unfailed name added h = subst NoneFails (sym h.are) (pieces_none name h.pieces)

pub unfailed_turn : (name : List ℕ) (later : List (List ℕ)) (added : List Reading) → IsUnfailed name added → AreUnfailedTurns (name ∷ later) added
unfailed_turn name later added (inl whole) = (one_of name later added whole, whole_unfailed name added whole)
unfailed_turn name later added (inr pieces) = (inl (inl pieces), pieces_unfailed name added pieces)

pub failed_last : (name : List ℕ) (added : List Reading) → IsFailedTurn name added → FailsLast added
failed_last name added h = (pieces_under name h.pieces, name, h.are)

-- a turn that ends the command is the first one
pub turn_among : (name : List ℕ) (later : List (List ℕ)) (ending : Ending) (added : List Reading) → EndsTurnReads name ending added → EndsAmong (name ∷ later) ending added
turn_among name later (Done summary) added t = absurd t
turn_among name later No added t = absurd t
turn_among name later (Bad file line reason) added t = unfailed_turn name later added (inl t)
turn_among name later (TooLong file limit) added t = unfailed_turn name later added (inr t)
turn_among name later (TooMany needed limit) added t = absurd t
turn_among name later (ReadFault file) added t = (inl (inr t), failed_last name added t)
turn_among name later WriteFault added t = absurd t
turn_among name later Memory added t = unfailed_turn name later added t

among_reads : (kind : Writing) (names : List (List ℕ)) (ending : Ending) (added : List Reading) → EndsAmong names ending added → EndsReads kind names ending added
among_reads kind names (Done summary) added t = absurd t
among_reads kind names No added t = absurd t
among_reads kind names (Bad file line reason) added t = t
among_reads kind names (TooLong file limit) added t = t
among_reads kind names (TooMany needed limit) added t = absurd t
among_reads kind names (ReadFault file) added t = t
among_reads kind names WriteFault added t = absurd t
among_reads kind names Memory added t = t

-- and leaves nothing written
among_writes : (names : List (List ℕ)) (ending : Ending) (added : List Reading) (writes : List CallOutcome) → EndsAmong names ending added → Extends writes writes (EndsWrites ending)
among_writes names (Done summary) added writes t = absurd t
among_writes names No added writes t = absurd t
among_writes names (Bad file line reason) added writes t = made-none writes
among_writes names (TooLong file limit) added writes t = made-none writes
among_writes names (TooMany needed limit) added writes t = absurd t
among_writes names (ReadFault file) added writes t = made-none writes
among_writes names WriteFault added writes t = absurd t
among_writes names Memory added writes t = made-none writes

-- a command is ended by the turn of an input
pub among_calls : (kind : Writing) (names : List (List ℕ)) (ending : Ending) (old after : List Reading) (writes : List CallOutcome) → Extends old after (EndsAmong names ending) → MakesCalls kind names old after writes writes ending
among_calls kind names ending old after writes t = record { reads = (t.0, t.1, among_reads kind names ending t.0 t.2); written = among_writes names ending t.0 writes t.2 }

-- of its first input
pub first_ends : (kind : Writing) (name : List ℕ) (later : List (List ℕ)) (ending : Ending) (old after : List Reading) (writes : List CallOutcome) → Extends old after (EndsTurnReads name ending) → MakesCalls kind (name ∷ later) old after writes writes ending
first_ends kind name later ending old after writes t = among_calls kind (name ∷ later) ending old after writes (t.0, t.1, turn_among name later ending t.0 t.2)

unfailed_behind : (names later : List (List ℕ)) (whole added : List Reading) → AreWholeTurns names whole → AreUnfailedTurns later added → AreUnfailedTurns (names ++ later) (whole ++ added)
unfailed_behind names later whole added h t = (turns_join names later whole added h t.0, none_fails-append whole added (whole_do_not_fail names whole h) t.1)

failed_behind : (names later : List (List ℕ)) (whole added : List Reading) → AreWholeTurns names whole → AreTurns later added × FailsLast added → AreTurns (names ++ later) (whole ++ added) × FailsLast (whole ++ added)
failed_behind names later whole added h t =
    (turns_join names later whole added h t.0, (whole ++ t.1.0, t.1.1, ap (λ (reads : List Reading). whole ++ reads) t.1.2 ∙ sym (append_assoc whole t.1.0 (reading t.1.1 Failure ∷ []))))

cut_behind : (kind : Writing) (names later : List (List ℕ)) (whole added : List Reading) → AreWholeTurns names whole → EndsCut kind later added → EndsCut kind (names ++ later) (whole ++ added)
cut_behind at_the_end names later whole added h t = unfailed_behind names later whole added h t
cut_behind by_lines names later whole added h t = unfailed_behind names later whole added h t
cut_behind in_turn names later whole added h t = turns_join names later whole added h t

reads_behind : (kind : Writing) (names later : List (List ℕ)) (ending : Ending) (whole added : List Reading) → AreWholeTurns names whole → EndsReads kind later ending added → EndsReads kind (names ++ later) ending (whole ++ added)
reads_behind kind names later (Done summary) whole added h t = whole_turns_join names later whole added h t
reads_behind kind names later No whole added h t = unfailed_behind names later whole added h t
reads_behind kind names later (Bad file line reason) whole added h t = unfailed_behind names later whole added h t
reads_behind kind names later (TooLong file limit) whole added h t = unfailed_behind names later whole added h t
reads_behind kind names later (TooMany needed limit) whole added h t = unfailed_behind names later whole added h t
reads_behind kind names later (ReadFault file) whole added h t = failed_behind names later whole added h t
reads_behind kind names later WriteFault whole added h t = cut_behind kind names later whole added h t
reads_behind kind names later Memory whole added h t = unfailed_behind names later whole added h t

-- the same of inputs behind others
among_behind : (names later : List (List ℕ)) (ending : Ending) (whole added : List Reading) → AreWholeTurns names whole → EndsAmong later ending added → EndsAmong (names ++ later) ending (whole ++ added)
among_behind names later (Done summary) whole added h t = absurd t
among_behind names later No whole added h t = absurd t
among_behind names later (Bad file line reason) whole added h t = unfailed_behind names later whole added h t
among_behind names later (TooLong file limit) whole added h t = unfailed_behind names later whole added h t
among_behind names later (TooMany needed limit) whole added h t = absurd t
among_behind names later (ReadFault file) whole added h t = failed_behind names later whole added h t
among_behind names later WriteFault whole added h t = absurd t
among_behind names later Memory whole added h t = unfailed_behind names later whole added h t

-- the turn of one more input, and what the others come to
pub more_turns : {T : Type 0} (name : List ℕ) (later : List (List ℕ)) (old mid after : List Reading) (result : Result T Ending) → Extends old mid (IsWholeTurn name) →
    Extends mid after (λ added. MatchResult result (λ none. AreWholeTurns later added) (λ ending. EndsAmong later ending added)) →
    Extends old after (λ added. MatchResult result (λ none. AreWholeTurns (name ∷ later) added) (λ ending. EndsAmong (name ∷ later) ending added))
more_turns name later old mid after (Ok none) p q = turns_more (name ∷ []) later old mid after (one_turn name old mid p) q
more_turns name later old mid after (Err ending) p q =
    let one = one_turn name old mid p in (one.0 ++ q.0, joined old mid after one.0 q.0 one.1 q.1, among_behind (name ∷ []) later ending one.0 q.0 one.2 q.2)

-- memory was refused behind the turn of an input
pub refused_behind : (name : List ℕ) (later : List (List ℕ)) (old after : List Reading) → Extends old after (IsWholeTurn name) → Extends old after (EndsAmong (name ∷ later) Memory)
refused_behind name later old after t = (t.0, t.1, unfailed_turn name later t.0 (inl t.2))

-- what a command makes of its later inputs, behind whole turns of the first ones
pub calls_behind : (kind : Writing) (names later : List (List ℕ)) (ending : Ending) (old mid after : List Reading) (first last : List CallOutcome) →
    Extends old mid (AreWholeTurns names) → MakesCalls kind later mid after first last ending → MakesCalls kind (names ++ later) old after first last ending
calls_behind kind names later ending old mid after first last h t = record {
  reads = (h.0 ++ t.reads.0, joined old mid after h.0 t.reads.0 h.1 t.reads.1, reads_behind kind names later ending h.0 t.reads.0 h.2 t.reads.2);
  written = t.written;
}

-- a command is ended by the turn of its second input
pub second_ends : (kind : Writing) (one two : List ℕ) (later : List (List ℕ)) (ending : Ending) (old mid after : List Reading) (writes : List CallOutcome) →
    Extends old mid (IsWholeTurn one) → Extends mid after (EndsTurnReads two ending) → MakesCalls kind (one ∷ two ∷ later) old after writes writes ending
second_ends kind one two later ending old mid after writes p q =
    calls_behind kind (one ∷ []) (two ∷ later) ending old mid after writes writes (one_turn one old mid p) (first_ends kind two later ending mid after writes q)

unfailed : (names : List (List ℕ)) (added : List Reading) → AreWholeTurns names added → AreUnfailedTurns names added
unfailed names added h = (whole_are_turns names added h, whole_do_not_fail names added h)

cut_there : (kind : Writing) (names : List (List ℕ)) (added : List Reading) → AreWholeTurns names added → EndsCut kind names added
cut_there at_the_end names added h = unfailed names added h
cut_there by_lines names added h = unfailed names added h
cut_there in_turn names added h = whole_are_turns names added h

-- how a command ends behind all its inputs
pub over_calls : (kind : Writing) (names : List (List ℕ)) (ending : Ending) (old after : List Reading) (first last : List CallOutcome) →
    Extends old after (AreWholeTurns names) → Extends first last (WritesBehind ending) → MakesCalls kind names old after first last ending
over_calls kind names (Done summary) old after first last h w = record { reads = h; written = w }
over_calls kind names No old after first last h w = record { reads = (h.0, h.1, unfailed names h.0 h.2); written = w }
over_calls kind names (Bad file line reason) old after first last h w = record { reads = (h.0, h.1, unfailed names h.0 h.2); written = w }
over_calls kind names (TooLong file limit) old after first last h w = absurd w.2
over_calls kind names (TooMany needed limit) old after first last h w = record { reads = (h.0, h.1, unfailed names h.0 h.2); written = w }
over_calls kind names (ReadFault file) old after first last h w = absurd w.2
over_calls kind names WriteFault old after first last h w = record { reads = (h.0, h.1, cut_there kind names h.0 h.2); written = w }
over_calls kind names Memory old after first last h w = record { reads = (h.0, h.1, unfailed names h.0 h.2); written = w }

-- nothing was read, of no inputs
pub no_turns : (reads : List Reading) → Extends reads reads (AreWholeTurns [])
no_turns reads = ([], sym (append-nil reads), refl)

-- a command that says nothing ended by a write
pub end_writes : (wrote : Result (Unit {0}) Failed) (ending : Ending) (first last : List CallOutcome) → IsEndOfWrite wrote ending → Extends first last (AreWrites wrote) → Extends first last (WritesBehind ending)
end_writes (Ok done) ending first last is tries = subst (λ (e : Ending). Extends first last (WritesBehind e)) (sym is) tries
end_writes (Err failed) ending first last is tries = subst (λ (e : Ending). Extends first last (WritesBehind e)) (sym is) tries

-- the calls by the status
no_other : (writes : Writing) → (◌≢◌ {A = ℕ} 6 6) ⊎ (writes ≢ writes) → ⊥
no_other writes (inl h) = h refl
no_other writes (inr h) = h refl

cut_unfailed : (writes : Writing) (names : List (List ℕ)) (added : List Reading) → EndsCut writes names added → (◌≢◌ {A = ℕ} 6 6) ⊎ (writes ≢ in_turn) → NoneFails added
cut_unfailed at_the_end names added t h = t.1
cut_unfailed by_lines names added t h = t.1
cut_unfailed in_turn names added t h = absurd (no_other in_turn h)

cut_turns : (writes : Writing) (names : List (List ℕ)) (added : List Reading) → EndsCut writes names added → AreTurns names added
cut_turns at_the_end names added t = t.0
cut_turns by_lines names added t = t.0
cut_turns in_turn names added t = t

by_unfailed : (command : Meaning) (status : ℕ) (added : List Reading) → AreUnfailedTurns (names_of command) added → status ≢ 0 → status ≢ 5 → ReadsOf command status added
by_unfailed command status added t not_done not_unread = record { turns = t.0; whole = λ is. absurd (not_done is); failed = λ is. absurd (not_unread is); unfailed = λ is other. t.1 }

pub reads_by : (command : Meaning) (ending : Ending) (added : List Reading) → EndsReads command.writes (names_of command) ending added → ReadsOf command (status_of ending) added
reads_by command (Done summary) added t =
    record { turns = whole_are_turns (names_of command) added t; whole = λ is. t; failed = λ is. absurd (omega (arith, is)); unfailed = λ is other. whole_do_not_fail (names_of command) added t }
reads_by command No added t = by_unfailed command 1 added t (λ is. omega (arith, is)) (λ is. omega (arith, is))
reads_by command (Bad file line reason) added t = by_unfailed command 3 added t (λ is. omega (arith, is)) (λ is. omega (arith, is))
reads_by command (TooLong file limit) added t = by_unfailed command 4 added t (λ is. omega (arith, is)) (λ is. omega (arith, is))
reads_by command (TooMany needed limit) added t = by_unfailed command 4 added t (λ is. omega (arith, is)) (λ is. omega (arith, is))
reads_by command (ReadFault file) added t = record { turns = t.0; whole = λ is. absurd (omega (arith, is)); failed = λ is. t.1; unfailed = λ is other. absurd (is refl) }
reads_by command WriteFault added t = record {
  turns = cut_turns command.writes (names_of command) added t;
  whole = λ is. absurd (omega (arith, is));
  failed = λ is. absurd (omega (arith, is));
  unfailed = λ is other. cut_unfailed command.writes (names_of command) added t other;
}
reads_by command Memory added t = by_unfailed command 7 added t (λ is. omega (arith, is)) (λ is. omega (arith, is))

by_taken : (status : ℕ) (added : List CallOutcome) → AreTaken added → status ≢ 6 → AreWritten status added
by_taken status added t other = record { taken = λ is. t; refused = λ is. absurd (other is) }

pub writes_by : (ending : Ending) (added : List CallOutcome) → EndsWrites ending added → AreWritten (status_of ending) added
writes_by (Done summary) added t = by_taken 0 added t (λ is. omega (arith, is))
writes_by No added t = by_taken 1 added t (λ is. omega (arith, is))
writes_by (Bad file line reason) added t = by_taken 3 added t (λ is. omega (arith, is))
writes_by (TooLong file limit) added t = by_taken 4 added t (λ is. omega (arith, is))
writes_by (TooMany needed limit) added t = by_taken 4 added t (λ is. omega (arith, is))
writes_by (ReadFault file) added t = by_taken 5 added t (λ is. omega (arith, is))
writes_by WriteFault added t = record { taken = λ is. absurd (is refl); refused = λ is. t }
writes_by Memory added t = by_taken 7 added t (λ is. omega (arith, is))

-- The front of a text that is checked: what it tells, and the reads behind it.
use Rattle.std.proofs.Common.{◌≡◌, ◌∷◌, ◌++◌, ℕ, zero, suc, ◌+◌, ◌<◌, ◌≤◌, List, [], Bool, true, false, length, take, drop, nat_eq, ap, refl, sym, subst, ◌∙◌, arith, inl, inr, append_assoc, append-nil, eq-eqb, eqb-true, length-take}
use Rattle.std.specs.Prelude.{◌&&◌, Err, IsErr, IsTrue, Ok, OnErr, Result, codes, if◌then◌else◌, nat_lt}
use Rattle.std.specs.Cmp.Lexicographic.{pointwise}
use Rattle.std.specs.List.{starts_with}
use Rattle.std.specs.Str.{bytes_eq}
use Rattle.std.proofs.lemmas.Bool.{and_parts, false≢true, le-ltb, lt-ltb, ltb-false, ltb-true}
use Rattle.std.proofs.Math.Seq.{take-add}
use Rattle.std.proofs.lemmas.Slice.Eq.{bytes_eq-Decides}
use Rattle.razor_base.specs.Headline.Outcomes.{CallOutcome, End, Extends, Failure, bytes_in}
use Rattle.razor_base.specs.Headline.Readings.{Reading, ended, given, reading}
use Rattle.razor_base.specs.Texts.{MayHave, MayHold, left_in}
use Rattle.razor_base.specs.Turns.{ArePieces, AreTurns, AreWholeTurns, FailsLast, IsFailedTurn, IsWholeTurn, NoneFails, pieces_under}
use Rattle.razor_base.proofs.Coming.{at_end, before, consumes}
use Rattle.razor_base.proofs.Turns.{pieces-append}
use Rattle.razor_base.proofs.Joining.{none_fails-append, pieces_none}
use Rattle.razor_base.proofs.Writing.{rose-later}
use Rattle.field_boxes.specs.declared.rule_list.RuleList.{RuleList}
use Rattle.ternary_words.specs.declared.table.Table.{Table}
use Rattle.partition_check.specs.CertificateText.{lines_of}
use Rattle.partition_check.specs.Checking.{begun}
use Rattle.partition_check.specs.Streams as rows
use Rattle.partition_check.specs.Verdict as rowwise
use Rattle.agreement_check.specs.Streams as proofs
use Rattle.agreement_check.specs.Verdict as linewise
use Rattle.razor_core.specs.Calls.{AreUnfailedTurns, EndsReads, MakesCalls}
use Rattle.razor_core.specs.Commands.Check.{IsEndBy, IsRightUpToBy, is_proof}
use Rattle.razor_core.specs.Front.{EndsBehind, IsPartTurn, is_begun}
use Rattle.razor_core.specs.Meaning.{at_the_end}
use Rattle.razor_core.specs.Outside.{Outside}
use Rattle.razor_core.specs.declared.ending.Ending.{Ending}
use Rattle.razor_core.specs.declared.ending.Ending.TheVariants.{Done, No, BadLine as Bad, TooLong, TooMany, ReadFault, WriteFault, Memory}
use Rattle.razor_core.proofs.Calls.{one_turn, over_calls}

-- Of which kind a text is.

less_by : (a b : ℕ) (t : Bool) → nat_lt a b ≡ t → nat_lt (suc a) (suc b) ≡ t
less_by a b true e = let less : a < b = ltb-true a b e in lt-ltb (suc a) (suc b) (omega (arith, less))
less_by a b false e = let more : b ≤ a = ltb-false a b e in le-ltb (suc a) (suc b) (omega (arith, more))

known_step : (x y : ℕ) (p front : List ℕ) (a b t : Bool) → nat_eq x y ≡ t → (nat_lt (length front) (length p) && (nat_eq y x && pointwise nat_eq front (take (length front) p))) ≡ false →
    ((nat_lt (length front) (length p) && pointwise nat_eq front (take (length front) p)) ≡ false → a ≡ b) → (t && a) ≡ (t && b)
known_step x y p front a b false is h each = refl
known_step x y p front a b true is h each =
    let same : nat_eq y x ≡ true = eq-eqb y x (sym (eqb-true x y is)) in
    each (subst (λ (t : Bool). (nat_lt (length front) (length p) && (t && pointwise nat_eq front (take (length front) p))) ≡ false) same h)

known : (p front rest : List ℕ) → (nat_lt (length front) (length p) && pointwise nat_eq front (take (length front) p)) ≡ false →
    pointwise nat_eq p (take (length p) (front ++ rest)) ≡ pointwise nat_eq p (take (length p) front)
known [] front rest h = refl
known (x ∷ p) [] rest h =
    let some : nat_lt 0 (suc (length p)) ≡ true = lt-ltb 0 (suc (length p)) (omega arith) in
    absurd (false≢true (sym (subst (λ (t : Bool). (t && true) ≡ false) some h)))
known (x ∷ p) (y ∷ front) rest h =
    let less = less_by (length front) (length p) (nat_lt (length front) (length p)) refl in
    let later = subst (λ (t : Bool). (t && (nat_eq y x && pointwise nat_eq front (take (length front) p))) ≡ false) less h in
    known_step x y p front (pointwise nat_eq p (take (length p) (front ++ rest))) (pointwise nat_eq p (take (length p) front)) (nat_eq x y) refl later (λ e. known p front rest e)

-- a front that is no front of the first word of a proof, or all of it, tells
pub kind_known : (front rest : List ℕ) → is_begun front ≡ false → is_proof (front ++ rest) ≡ is_proof front
kind_known front rest h = known (codes "proof ") front rest h

-- No line ends in a front that doesn't tell.

no_lines : (n : ℕ) → n < 6 → (lines_of (take n (codes "proof "))).whole ≡ []
no_lines zero h = refl
no_lines (suc zero) h = refl
no_lines (suc (suc zero)) h = refl
no_lines (suc (suc (suc zero))) h = refl
no_lines (suc (suc (suc (suc zero)))) h = refl
no_lines (suc (suc (suc (suc (suc zero))))) h = refl
no_lines (suc (suc (suc (suc (suc (suc n)))))) h = absurd (omega (arith, h))

-- so it is short, and has no line
pub record IsShort (front : List ℕ) : Type 0 where
  pub few : length front < 6
  pub lines : (lines_of front).whole ≡ []

pub begun_short : (front : List ℕ) → is_begun front ≡ true → IsShort front
begun_short front h =
    let parts = and_parts (nat_lt (length front) 6) (starts_with nat_eq (codes "proof ") front) h in
    let few : length front < 6 = ltb-true (length front) 6 parts.0 in
    let same : front ≡ take (length front) (codes "proof ") = (bytes_eq-Decides front (take (length front) (codes "proof "))).0 parts.1 in
    record { few = few; lines = subst (λ (t : List ℕ). (lines_of t).whole ≡ []) (sym same) (no_lines (length front) few) }

-- no line of it is wrong
pub right_front : (kind : Bool) (list : RuleList) (table : Table) (text left front : List ℕ) → text ≡ front ++ left → IsShort front → IsRightUpToBy kind list table text left
right_front false list table text left front parts h =
    let few = h.few in
    record { front = front; parts = parts; within = omega (arith, few); right = (rowwise.started (begun list table), subst (λ (lines : List (List ℕ)). rowwise.TakesAll (rowwise.started (begun list table)) lines (rowwise.started (begun list table))) (sym h.lines) refl) }
right_front true list table text left front parts h =
    let few = h.few in
    record { front = front; parts = parts; within = omega (arith, few); right = (linewise.started, subst (λ (lines : List (List ℕ)). linewise.TakesAll list table linewise.started lines linewise.started) (sym h.lines) refl) }

-- What is left of a text behind its front, and in the end.

-- what reads give is what the former and the latter give
given-append : (a b : List Reading) (name : List ℕ) → given (a ++ b) name ≡ given a name ++ given b name
unfolding given
given-append [] b name = refl
given-append (r ∷ a) b name =
    let piece : List ℕ = if bytes_eq name r.name then bytes_in r.outcome else [] in
    ap (λ (bytes : List ℕ). piece ++ bytes) (given-append a b name) ∙ sym (append_assoc piece (given a name) (given b name))

pub may_before : (first last : List Reading) (name text : List ℕ) (added : List Reading) → last ≡ first ++ added → MayHold last name text → MayHave (given first name) false text
may_before first last name text added grown is = before is (given first name) (given added name) (ap (λ (reads : List Reading). given reads name) grown ∙ given-append first added name)

pub front_parts : (old mid last : List Reading) (name text front : List ℕ) (added : List Reading) → given mid name ≡ given old name ++ front → last ≡ mid ++ added → MayHold last name text →
    left_in text (given old name) ≡ front ++ left_in text (given mid name)
front_parts old mid last name text front added fronts grown is = consumes (may_before mid last name text added grown is) (given old name) front fronts

pub none_left : (mid last : List Reading) (name text : List ℕ) → last ≡ mid → ended mid name ≡ true → MayHold last name text → left_in text (given mid name) ≡ []
none_left mid last name text same met is = at_end (subst (λ (reads : List Reading). MayHold reads name text) same is) met

-- more of a text stands in the buffer behind what was read of it
pub front_longer : (old mid new : List ℕ) (read n : ℕ) (buffer after : List ℕ) → mid ≡ old ++ take read buffer → new ≡ mid ++ take n (drop read after) → take read after ≡ take read buffer → new ≡ old ++ take (read + n) after
front_longer old mid new read n buffer after h more kept =
    more ∙ ap (λ (bytes : List ℕ). bytes ++ take n (drop read after)) h ∙ append_assoc old (take read buffer) (take n (drop read after))
    ∙ ap (λ (front : List ℕ). old ++ (front ++ take n (drop read after))) (sym kept) ∙ ap (λ (front : List ℕ). old ++ front) (sym (take-add read n after))

-- or nothing more
pub front_kept : (old mid new : List ℕ) (read : ℕ) (buffer after : List ℕ) → mid ≡ old ++ take read buffer → new ≡ mid → take read after ≡ take read buffer → new ≡ old ++ take read after
front_kept old mid new read buffer after h same kept = same ∙ h ∙ ap (λ (front : List ℕ). old ++ front) (sym kept)

-- what holds where a call failed
pub failed_so : {T E : Type 0} {P : Type 0} (result : Result T E) → IsErr result → P → OnErr result P
failed_so (Ok value) is h = absurd cc
failed_so (Err error) is h = h

-- Reads behind pieces.

joined_pieces : (name : List ℕ) (old mid after : List Reading) (p q : List Reading) → mid ≡ old ++ p → after ≡ mid ++ q → after ≡ old ++ (p ++ q)
joined_pieces name old mid after p q e f = f ∙ ap (λ (reads : List Reading). reads ++ q) e ∙ append_assoc old p q

whole_behind : (name : List ℕ) (p q : List Reading) → ArePieces name p → IsWholeTurn name q → IsWholeTurn name (p ++ q)
whole_behind name p q h t = record {
  pieces = h.pieces ++ t.pieces;
  are = ap (λ (reads : List Reading). reads ++ q) h.are ∙ ap (λ (reads : List Reading). pieces_under name h.pieces ++ reads) t.are
      ∙ sym (append_assoc (pieces_under name h.pieces) (pieces_under name t.pieces) (reading name End ∷ []))
      ∙ ap (λ (reads : List Reading). reads ++ reading name End ∷ []) (sym (pieces-append name h.pieces t.pieces));
}

failed_behind : (name : List ℕ) (p q : List Reading) → ArePieces name p → IsFailedTurn name q → IsFailedTurn name (p ++ q)
failed_behind name p q h t = record {
  pieces = h.pieces ++ t.pieces;
  are = ap (λ (reads : List Reading). reads ++ q) h.are ∙ ap (λ (reads : List Reading). pieces_under name h.pieces ++ reads) t.are
      ∙ sym (append_assoc (pieces_under name h.pieces) (pieces_under name t.pieces) (reading name Failure ∷ []))
      ∙ ap (λ (reads : List Reading). reads ++ reading name Failure ∷ []) (sym (pieces-append name h.pieces t.pieces));
}

pieces_behind : (name : List ℕ) (p q : List Reading) → ArePieces name p → ArePieces name q → ArePieces name (p ++ q)
pieces_behind name p q h t = record {
  pieces = h.pieces ++ t.pieces;
  are = ap (λ (reads : List Reading). reads ++ q) h.are ∙ ap (λ (reads : List Reading). pieces_under name h.pieces ++ reads) t.are ∙ sym (pieces-append name h.pieces t.pieces);
}

turns_behind : (name : List ℕ) (p q : List Reading) → ArePieces name p → AreTurns (name ∷ []) q → AreTurns (name ∷ []) (p ++ q)
turns_behind name p q h (inl (inl t)) = inl (inl (pieces_behind name p q h t))
turns_behind name p q h (inl (inr t)) = inl (inr (failed_behind name p q h t))
turns_behind name p q h (inr t) = inr (record {
  turn = p ++ t.turn;
  later = t.later;
  parts = ap (λ (reads : List Reading). p ++ reads) t.parts ∙ sym (append_assoc p t.turn t.later);
  whole = whole_behind name p t.turn h t.whole;
  rest = t.rest;
})

whole_turns_behind : (name : List ℕ) (p q : List Reading) → ArePieces name p → AreWholeTurns (name ∷ []) q → AreWholeTurns (name ∷ []) (p ++ q)
whole_turns_behind name p q h t = record {
  turn = p ++ t.turn;
  later = t.later;
  parts = ap (λ (reads : List Reading). p ++ reads) t.parts ∙ sym (append_assoc p t.turn t.later);
  whole = whole_behind name p t.turn h t.whole;
  rest = t.rest;
}

unfailed_behind : (name : List ℕ) (p q : List Reading) → ArePieces name p → AreUnfailedTurns (name ∷ []) q → AreUnfailedTurns (name ∷ []) (p ++ q)
unfailed_behind name p q h t = (turns_behind name p q h t.0, none_fails-append p q (subst NoneFails (sym h.are) (pieces_none name h.pieces)) t.1)

fails_behind : (p q : List Reading) → FailsLast q → FailsLast (p ++ q)
fails_behind p q t = (p ++ t.0, t.1, ap (λ (reads : List Reading). p ++ reads) t.2 ∙ sym (append_assoc p t.0 (reading t.1 Failure ∷ [])))

reads_behind : (name : List ℕ) (ending : Ending) (p q : List Reading) → ArePieces name p → EndsReads at_the_end (name ∷ []) ending q → EndsReads at_the_end (name ∷ []) ending (p ++ q)
reads_behind name (Done summary) p q h t = whole_turns_behind name p q h t
reads_behind name No p q h t = unfailed_behind name p q h t
reads_behind name (Bad file line reason) p q h t = unfailed_behind name p q h t
reads_behind name (TooLong file limit) p q h t = unfailed_behind name p q h t
reads_behind name (TooMany needed limit) p q h t = unfailed_behind name p q h t
reads_behind name (ReadFault file) p q h t = (turns_behind name p q h t.0, fails_behind p q t.1)
reads_behind name WriteFault p q h t = unfailed_behind name p q h t
reads_behind name Memory p q h t = unfailed_behind name p q h t

-- what a check makes of the rest of a text, behind pieces of it
pub calls_behind_pieces : (name : List ℕ) (ending : Ending) (old mid after : List Reading) (first last : List CallOutcome) → Extends old mid (ArePieces name) →
    MakesCalls at_the_end (name ∷ []) mid after first last ending → MakesCalls at_the_end (name ∷ []) old after first last ending
calls_behind_pieces name ending old mid after first last h t = record {
  reads = (h.0 ++ t.reads.0, joined_pieces name old mid after h.0 t.reads.0 h.1 t.reads.1, reads_behind name ending h.0 t.reads.0 h.2 t.reads.2);
  written = t.written;
}

-- The end of a check that began behind a front is that of one of the whole text.

pub from_front : (kind : Bool) (list : RuleList) (table : Table) (name text : List ℕ) (start mid after : Outside) (ending : Ending) →
    mid.written ≡ start.written → mid.write_faults ≡ start.write_faults → start.read_faults name ≤ mid.read_faults name →
    IsEndBy kind list table name text mid after ending → IsEndBy kind list table name text start after ending
from_front kind list table name text start mid after (Done summary) w f le h = rw w at h
from_front kind list table name text start mid after No w f le h = rw w at h
from_front kind list table name text start mid after (Bad file line reason) w f le h = h
from_front kind list table name text start mid after (TooLong file limit) w f le h = rw w at h
from_front kind list table name text start mid after (TooMany needed limit) w f le h = h
from_front kind list table name text start mid after (ReadFault file) w f le h = (h.0, rw w at h.1, rose-later (start.read_faults name) (mid.read_faults name) (after.read_faults name) le h.2, h.3)
from_front kind list table name text start mid after WriteFault w f le h = rw (w, f) at h
from_front kind list table name text start mid after Memory w f le h = rw (w, f) at h

-- A whole front of a text.

not_few : (n : ℕ) (t : Bool) → nat_lt n 6 ≡ t → 6 ≤ n → t ≡ false
not_few n true e h = let less : n < 6 = ltb-true n 6 e in absurd (omega (arith, less, h))
not_few n false e h = refl

-- a text whose first word is that of a proof needn't be seen any more
pub no_more : (front : List ℕ) → is_proof front ≡ true → is_begun front ≡ false
no_more front h =
    let same : codes "proof " ≡ take 6 front = (bytes_eq-Decides (codes "proof ") (take 6 front)).0 h in
    let long : 6 ≡ length (take 6 front) = ap (λ (t : List ℕ). length t) same in
    let enough : 6 ≤ length front = omega (arith, long, length-take 6 front) in
    ap (λ (t : Bool). t && starts_with nat_eq (codes "proof ") front) (not_few (length front) (nat_lt (length front) 6) refl enough)

pub grown_behind : (name : List ℕ) (whole : Bool) (mid after : List Reading) (first last : List CallOutcome) (ending : Ending) → EndsBehind name whole mid after first last ending → (added : List Reading) × (after ≡ mid ++ added)
grown_behind name true mid after first last ending h = ([], h.0 ∙ sym (append-nil mid))
grown_behind name false mid after first last ending h = (h.reads.0, h.reads.1)

pub left_by : (name text : List ℕ) (whole : Bool) (mid after : List Reading) (first last : List CallOutcome) (ending : Ending) → EndsBehind name whole mid after first last ending →
    (whole ≡ true → ended mid name ≡ true) → MayHold after name text → IsTrue whole → left_in text (given mid name) ≡ []
left_by name text true mid after first last ending h met is t = none_left mid after name text h.0 (met refl) is
left_by name text false mid after first last ending h met is t = absurd (false≢true t)

kind_by : (whole : Bool) (front left : List ℕ) → is_begun front ≡ whole → (IsTrue whole → left ≡ []) → is_proof (front ++ left) ≡ is_proof front
kind_by true front left is none = ap (λ (rest : List ℕ). is_proof (front ++ rest)) (none refl) ∙ ap (λ (t : List ℕ). is_proof t) (append-nil front)
kind_by false front left is none = kind_known front left is

pub calls_by : (name : List ℕ) (whole : Bool) (ending : Ending) (old mid after : List Reading) (first last : List CallOutcome) → Extends old mid (IsPartTurn name whole) → EndsBehind name whole mid after first last ending →
    MakesCalls at_the_end (name ∷ []) old after first last ending
calls_by name true ending old mid after first last t h =
    over_calls at_the_end (name ∷ []) ending old after first last (subst (λ (reads : List Reading). Extends old reads (AreWholeTurns (name ∷ []))) (sym h.0) (one_turn name old mid t)) h.1
calls_by name false ending old mid after first last t h = calls_behind_pieces name ending old mid after first last t h

-- the turn of a front behind which more is read
pub part_turn : (name : List ℕ) (whole : Bool) (old mid : List Reading) → whole ≡ false → Extends old mid (IsPartTurn name whole) → Extends old mid (ArePieces name)
part_turn name whole old mid is t = (t.0, t.1, subst (λ (b : Bool). IsPartTurn name b t.0) is t.2)

-- the end of a check of a front and what was left is that of one of the text
pub whole_check : (kind whole : Bool) (list : RuleList) (table : Table) (name text front left : List ℕ) (start mid after : Outside) (ending : Ending) → text ≡ front ++ left →
    is_begun front ≡ whole → (IsTrue whole → left ≡ []) → is_proof front ≡ kind →
    mid.written ≡ start.written → mid.write_faults ≡ start.write_faults → start.read_faults name ≤ mid.read_faults name →
    IsEndBy kind list table name (front ++ left) mid after ending → IsEndBy (is_proof text) list table name text start after ending
whole_check kind whole list table name text front left start mid after ending parts begun none is w f le h =
    let same : is_proof text ≡ kind = ap (λ (t : List ℕ). is_proof t) parts ∙ kind_by whole front left begun none ∙ is in
    subst (λ (k : Bool). IsEndBy k list table name text start after ending) (sym same)
    (from_front kind list table name text start mid after ending w f le (subst (λ (t : List ℕ). IsEndBy kind list table name t mid after ending) (sym parts) h))

-- One read more, and what it gave.
use Rattle.std.proofs.Common.{◌≡◌, ◌≢◌, ◌≤◌, ◌∷◌, ◌++◌, ◌==◌, ℕ, List, [], Bool, true, false, if◌then◌else◌, Result, Ok, Err, length, take, refl, sym, ap, ◌∙◌, zero, suc, arith, append-nil, append_assoc, ◌⊎◌, inl, inr, length-take-le}
use Rattle.std.specs.Prelude.{IfOk}
use Rattle.std.proofs.lemmas.Slice.Eq.{bytes_eq-Decides}
use Rattle.std.specs.Str.{bytes_eq}
use Rattle.razor_base.specs.Headline.Outcomes.{CallOutcome, Failure, bytes_in, outcome_of, outcome_by}
use Rattle.razor_base.specs.Headline.Readings.{Reading, end_by, ended, ended_from, given, reading}
use Rattle.razor_base.specs.Texts.{Gives}

-- what reads give is what the former and the latter give
pub given-append : (a b : List Reading) (name : List ℕ) → given (a ++ b) name ≡ given a name ++ given b name
unfolding given
given-append [] b name = refl
given-append (r ∷ a) b name =
    let piece : List ℕ = if bytes_eq name r.name then bytes_in r.outcome else [] in
    ap (λ (bytes : List ℕ). piece ++ bytes) (given-append a b name) ∙ sym (append_assoc piece (given a name) (given b name))

-- and the end is told by the latter, where they tell it
pub ended-append : (before : Bool) (a b : List Reading) (name : List ℕ) → ended_from before (a ++ b) name ≡ ended_from (ended_from before a name) b name
unfolding ended_from
ended-append before [] b name = refl
ended-append before (r ∷ a) b name = ended-append (if bytes_eq name r.name then end_by before r.outcome else before) a b name

same : (name : List ℕ) → bytes_eq name name ≡ true
same name = (bytes_eq-Decides name name).1 refl

not_both : true ≡ false → ⊥
not_both e = absurd cc

not_same : (other name : List ℕ) (b : Bool) → bytes_eq other name ≡ b → other ≢ name → bytes_eq other name ≡ false
not_same other name true e h = absurd (h ((bytes_eq-Decides other name).0 e))
not_same other name false e h = e

apart : (other name : List ℕ) → other ≢ name → bytes_eq other name ≡ false
apart other name h = not_same other name (bytes_eq other name) refl h

same_or_not : (other name : List ℕ) (b : Bool) → bytes_eq other name ≡ b → (other ≡ name) ⊎ (other ≢ name)
same_or_not other name true e = inl ((bytes_eq-Decides other name).0 e)
same_or_not other name false e = inr (λ is. not_both (sym ((bytes_eq-Decides other name).1 is) ∙ e))

-- two names are one or two
pub one_or_two : (other name : List ℕ) → (other ≡ name) ⊎ (other ≢ name)
one_or_two other name = same_or_not other name (bytes_eq other name) refl

pub none_read : (name : List ℕ) → given [] name ≡ []
unfolding given
none_read name = refl

pub none_at_end : (name : List ℕ) → ended [] name ≡ false
unfolding ended_from
none_at_end name = refl

pub one_given : (name : List ℕ) (came : CallOutcome) → given (reading name came ∷ []) name ≡ bytes_in came
unfolding given
one_given name came = ap (λ (b : Bool). (if b then bytes_in came else []) ++ []) (same name) ∙ append-nil (bytes_in came)

pub none_given : (other name : List ℕ) (came : CallOutcome) → other ≢ name → given (reading name came ∷ []) other ≡ []
unfolding given
none_given other name came h = ap (λ (b : Bool). (if b then bytes_in came else []) ++ []) (apart other name h)

pub one_ended : (before : Bool) (name : List ℕ) (came : CallOutcome) → ended_from before (reading name came ∷ []) name ≡ end_by before came
unfolding ended_from
one_ended before name came = ap (λ (b : Bool). if b then end_by before came else before) (same name)

none_ended : (before : Bool) (other name : List ℕ) (came : CallOutcome) → other ≢ name → ended_from before (reading name came ∷ []) other ≡ before
unfolding ended_from
none_ended before other name came h = ap (λ (b : Bool). if b then end_by before came else before) (apart other name h)

module _ (before after : List Reading) (name : List ℕ) (came : CallOutcome) (added : after ≡ before ++ reading name came ∷ []) where
  pub given_on : given after name ≡ given before name ++ bytes_in came
  given_on = ap (λ (reads : List Reading). given reads name) added ∙ given-append before (reading name came ∷ []) name ∙ ap (λ (bytes : List ℕ). given before name ++ bytes) (one_given name came)

  pub ended_on : ended after name ≡ end_by (ended before name) came
  ended_on = ap (λ (reads : List Reading). ended reads name) added ∙ ended-append false before (reading name came ∷ []) name ∙ one_ended (ended before name) name came

  pub given_other : (other : List ℕ) → other ≢ name → given after other ≡ given before other
  given_other other h = ap (λ (reads : List Reading). given reads other) added ∙ given-append before (reading name came ∷ []) other ∙ ap (λ (bytes : List ℕ). given before other ++ bytes) (none_given other name came h) ∙ append-nil (given before other)

  pub ended_other : (other : List ℕ) → other ≢ name → ended after other ≡ ended before other
  ended_other other h = ap (λ (reads : List Reading). ended reads other) added ∙ ended-append false before (reading name came ∷ []) other ∙ none_ended (ended before other) other name came h

pub bytes_of_came : (bytes : List ℕ) → bytes_in (outcome_of bytes) ≡ bytes
bytes_of_came [] = refl
bytes_of_came (byte ∷ bytes) = refl

pub end_of_came : (before : Bool) (bytes : List ℕ) (n : ℕ) → length bytes ≡ n → end_by before (outcome_of bytes) ≡ (n == 0)
end_of_came before [] zero e = refl
end_of_came before [] (suc n) e = absurd (omega (arith, e))
end_of_came before (byte ∷ bytes) zero e = absurd (omega (arith, e))
end_of_came before (byte ∷ bytes) (suc n) e = grind (arith)

length_taken : (n : ℕ) (piece : List ℕ) → n ≤ length piece → length (take n piece) ≡ n
length_taken n piece h = length-take-le n piece h

-- what a read gave
pub gives : {E : Type 0} (result : Result ℕ E) (before after : List Reading) (name piece : List ℕ)
    → IfOk result (λ n. n ≤ length piece)
    → after ≡ before ++ reading name (outcome_by result piece) ∷ []
    → Gives (given before name) (given after name) (ended before name) (ended after name) result piece
gives (Ok n) before after name piece fits h = (
  given_on before after name (outcome_of (take n piece)) h ∙ ap (λ (bytes : List ℕ). given before name ++ bytes) (bytes_of_came (take n piece)),
  ended_on before after name (outcome_of (take n piece)) h ∙ end_of_came (ended before name) (take n piece) n (length_taken n piece fits),
)
gives (Err error) before after name piece fits h = (
  given_on before after name Failure h ∙ append-nil (given before name),
  ended_on before after name Failure h,
)

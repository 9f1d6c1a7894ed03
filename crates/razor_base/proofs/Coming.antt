-- What a text that an input may have comes to, by what was given of it.
use Rattle.std.proofs.Common.{◌≡◌, ◌<◌, ◌≤◌, ◌++◌, ℕ, List, [], Bool, true, false, length, take, drop, refl, sym, ap, ◌∙◌, subst, append-nil, append_assoc, arith, length-append}
use Rattle.std.proofs.Math.Seq.{drop-append_seam}
use Rattle.std.proofs.lemmas.List.{take-append-le}
use Rattle.razor_base.specs.Texts.{MayHave, left_in}
use Rattle.razor_base.specs.Input.{PassesLimit, ReadsFront, ReadsWhole, TakesFront, TakesAtMost}

-- what was given is a text that it may have
pub itself : (given : List ℕ) (ended : Bool) → MayHave given ended given
itself given ended = record { rest = []; parts = sym (append-nil given); whole = λ e. refl }

-- and where no end was reported it may go on
pub goes_on : (given rest : List ℕ) → MayHave given false (given ++ rest)
goes_on given rest = record { rest = rest; parts = refl; whole = λ e. absurd cc }

-- what follows is left
pub left_behind : (given rest : List ℕ) (text : List ℕ) → text ≡ given ++ rest → drop (length given) text ≡ rest
left_behind given rest text e = ap (drop (length given)) e ∙ drop-append_seam given rest

module _ {new text : List ℕ} {ended : Bool} (is : MayHave new ended text) where
  pub is_left : drop (length new) text ≡ is.rest
  is_left = left_behind new is.rest text is.parts

  -- where the end was reported nothing is left
  pub at_end : ended ≡ true → left_in text new ≡ []
  at_end e = is_left ∙ is.whole e

  module _ (old more : List ℕ) (grown : new ≡ old ++ more) where
    parts_before : text ≡ old ++ (more ++ is.rest)
    parts_before = is.parts ∙ ap (λ bytes. bytes ++ is.rest) grown ∙ append_assoc old more is.rest

    was_left : drop (length old) text ≡ more ++ is.rest
    was_left = left_behind old (more ++ is.rest) text parts_before

    -- before that it may have had it too, its end aside
    pub before : MayHave old false text
    before = record { rest = more ++ is.rest; parts = parts_before; whole = λ e. absurd cc }

    -- what was given between is consumed
    pub consumes : TakesFront (left_in text old) (left_in text new) more
    consumes = was_left ∙ ap (λ rest. more ++ rest) (sym is_left)

    pub reads_whole : ended ≡ true → ReadsWhole (left_in text old) (left_in text new) more
    reads_whole e = (sym (was_left ∙ ap (λ rest. more ++ rest) (is.whole e) ∙ append-nil more), at_end e)

    pub takes : (most : ℕ) → length more ≤ most → TakesAtMost (left_in text old) (left_in text new) most
    takes most short = (more, consumes, short)

    pub reads_front : (bytes rest : List ℕ) → more ≡ bytes ++ rest → ReadsFront (left_in text old) bytes
    reads_front bytes rest e = (rest ++ is.rest, was_left ∙ ap (λ m. m ++ is.rest) e ∙ append_assoc bytes rest is.rest)

    pub passes : (limit : ℕ) → limit < length more → (bytes : List ℕ) → bytes ≡ take limit more → PassesLimit (left_in text old) limit bytes
    passes limit long bytes e =
        let longer : limit < length (more ++ is.rest) = omega (arith, long, length-append more is.rest) in (
          subst (λ (m : List ℕ). limit < length m) (sym was_left) longer,
          e ∙ sym (take-append-le limit more is.rest (omega (arith, long))) ∙ ap (take limit) (sym was_left),
        )

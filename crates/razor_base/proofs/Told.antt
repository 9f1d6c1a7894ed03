-- What the reads of a desk in memory tell of its inputs.
use Rattle.std.proofs.Common.{◌≡◌, ◌≢◌, ◌<◌, ◌≤◌, ◌+◌, ◌-◌, ◌∷◌, ◌++◌, ℕ, List, [], Bool, true, false, Result, Ok, Err, length, take, min, refl, sym, ap, ◌∙◌, subst, arith, append-nil, ◌⊎◌, inl, inr, le-leb, length-drop}
use Rattle.std.specs.Prelude.{OnOk, OnErr, Option, None, Some}
use Rattle.std.proofs.lemmas.Bool.{eqb-true}
use Rattle.std.proofs.lemmas.Grind.{common_steps}
use Rattle.razor_base.specs.Headline.Outcomes.{CallOutcome, End, Failure, bytes_in, outcome_of}
use Rattle.razor_base.specs.Headline.Readings.{Reading, end_by, ended, given, reading}
use Rattle.razor_base.specs.Standing.{AreTold, Standing, given_at, given_in, left_over, over_at, stands_so}
use Rattle.razor_base.proofs.Telling.{bytes_of_came, end_of_came, ended_on, ended_other, given_on, given_other, none_at_end, none_read, one_or_two}

abbrev pub Inputs : Type 0
Inputs = List ℕ → Option Standing

-- all that was read is told of all inputs
abbrev pub AllTold : Bool → Inputs → List Reading → Type 0
AllTold missing inputs made = (name : List ℕ) → AreTold missing (inputs name) (given made name) (ended made name)

none_over : (missing : Bool) (o : Option Standing) (e : false ≡ true) → over_at missing o ≡ true
none_over missing o e = absurd cc

-- nothing was read, and nothing is there
pub none_told : (missing : Bool) (inputs : Inputs) (made : List Reading) → ((name : List ℕ) → inputs name ≡ None) → made ≡ [] → AllTold missing inputs made
none_told missing inputs made none e = λ name. (
  ap (λ (reads : List Reading). given reads name) e ∙ none_read name ∙ sym (ap given_at (none name)),
  λ over. none_over missing (inputs name) (sym (ap (λ (reads : List Reading). ended reads name) e ∙ none_at_end name) ∙ over),
)

module _ (missing : Bool) (before after : List Reading) (name : List ℕ) (came : CallOutcome) (added : after ≡ before ++ reading name came ∷ []) (old new : Inputs) (told : AllTold missing old before) (others : (n : List ℕ) → n ≢ name → new n ≡ old n) where
  told_other : (n : List ℕ) → n ≢ name → AreTold missing (new n) (given after n) (ended after n)
  told_other n h = (
    given_other before after name came added n h ∙ (told n).0 ∙ sym (ap given_at (others n h)),
    λ e. ap (over_at missing) (others n h) ∙ (told n).1 (sym (ended_other before after name came added n h) ∙ e),
  )

  told_here : AreTold missing (new name) (given before name ++ bytes_in came) (end_by (ended before name) came) → AreTold missing (new name) (given after name) (ended after name)
  told_here here = (given_on before after name came added ∙ here.0, λ e. here.1 (sym (ended_on before after name came added) ∙ e))

  told_at : (n : List ℕ) → (n ≡ name) ⊎ (n ≢ name) → AreTold missing (new name) (given before name ++ bytes_in came) (end_by (ended before name) came) → AreTold missing (new n) (given after n) (ended after n)
  told_at n (inl e) here = subst (λ (m : List ℕ). AreTold missing (new m) (given after m) (ended after m)) (sym e) (told_here here)
  told_at n (inr h) here = told_other n h

  told_on : AreTold missing (new name) (given before name ++ bytes_in came) (end_by (ended before name) came) → AllTold missing new after
  told_on here = λ n. told_at n (one_or_two n name) here

-- one read failed
pub told_fail : (missing : Bool) (before after : List Reading) (name : List ℕ) → after ≡ before ++ reading name Failure ∷ [] → (old new : Inputs) → AllTold missing old before → ((n : List ℕ) → new n ≡ old n)
    → AllTold missing new after
told_fail missing before after name added old new told same = told_on missing before after name Failure added old new told (λ n h. same n) (
  append-nil (given before name) ∙ (told name).0 ∙ sym (ap given_at (same name)),
  λ e. ap (over_at missing) (same name) ∙ (told name).1 e,
)

none_left : (count room most left : ℕ) → count ≡ min (min room most) left → 0 < room → 0 < most → count ≡ 0 → left ≡ 0
none_left count room most left e some able none = grind (arith, common_steps)

-- one read moved the next bytes of an input
pub told_read : (missing : Bool) (before after : List Reading) (name piece : List ℕ) (count most : ℕ) → after ≡ before ++ reading name (outcome_of (take count piece)) ∷ [] → (old new : Inputs) → AllTold missing old before
    → ((n : List ℕ) → n ≢ name → new n ≡ old n) → (was is : Standing) → old name ≡ Some was → new name ≡ Some is
    → is.all ≡ was.all → given_in is ≡ given_in was ++ take count piece → is.start ≡ was.start + count → length (take count piece) ≡ count
    → count ≡ min (min (length piece) most) (length (left_over was)) → 0 < length piece → 0 < most
    → AllTold missing new after
told_read missing before after name piece count most added old new told others was is e_old e_new all moved place whole counted some able =
    told_on missing before after name (outcome_of (take count piece)) added old new told others (
      ap (λ (bytes : List ℕ). given before name ++ bytes) (bytes_of_came (take count piece)) ∙ ap (λ (bytes : List ℕ). bytes ++ take count piece) ((told name).0 ∙ ap given_at e_old) ∙ sym moved ∙ sym (ap given_at e_new),
      λ e.
          let zero : count ≡ 0 = eqb-true count 0 (sym (end_of_came (ended before name) (take count piece) count whole) ∙ e) in
          let left : length (left_over was) ≡ 0 = none_left count (length piece) most (length (left_over was)) counted some able zero in
          let size : length (left_over was) ≡ length was.all - was.start = length-drop was.start was.all in
          let same : length is.all ≡ length was.all = ap length all in
          let over : length is.all ≤ is.start = omega (arith, left, size, same, place) in
          ap (over_at missing) e_new ∙ le-leb (length is.all) is.start over,
    )

-- a name that isn't there reads as empty
pub told_none : (before after : List Reading) (name : List ℕ) → after ≡ before ++ reading name End ∷ [] → (old new : Inputs) → AllTold true old before → ((n : List ℕ) → new n ≡ old n) → old name ≡ None
    → AllTold true new after
told_none before after name added old new told same none = told_on true before after name End added old new told (λ n h. same n) (
  append-nil (given before name) ∙ (told name).0 ∙ sym (ap given_at (same name)),
  λ e. ap (over_at true) (same name ∙ none),
)

not_ended : (o : Option Standing) (end : Bool) → o ≡ None → (end ≡ true → over_at false o ≡ true) → end ≡ false
not_ended o false none h = refl
not_ended o true none h = absurd (let e : false ≡ true = sym (ap (over_at false) none) ∙ h refl in cc)

-- where absent names tell no end
pub no_end : (inputs : Inputs) (made : List Reading) (name : List ℕ) → AllTold false inputs made → inputs name ≡ None → ended made name ≡ false
no_end inputs made name told none = not_ended (inputs name) (ended made name) none (told name).1

pub no_reads : (made : List Reading) (name : List ℕ) → made ≡ [] → ended made name ≡ false
no_reads made name e = ap (λ (reads : List Reading). ended reads name) e ∙ none_at_end name

module _ (missing : Bool) (made : List Reading) (name bytes : List ℕ) (old new : Inputs) (told : AllTold missing old made) (others : (n : List ℕ) → n ≢ name → new n ≡ old n) where
  kept_other : (n : List ℕ) → n ≢ name → AreTold missing (new n) (given made n) (ended made n)
  kept_other n h = ((told n).0 ∙ sym (ap given_at (others n h)), λ e. ap (over_at missing) (others n h) ∙ (told n).1 e)

  kept_at : (n : List ℕ) → (n ≡ name) ⊎ (n ≢ name) → AreTold missing (new name) (given made name) (ended made name) → AreTold missing (new n) (given made n) (ended made n)
  kept_at n (inl e) here = subst (λ (m : List ℕ). AreTold missing (new m) (given made m) (ended made m)) (sym e) here
  kept_at n (inr h) here = kept_other n h

  -- an input was put under a name that wasn't there, or memory was refused
  pub told_put : {A E : Type 0} (result : Result A E) → OnOk result (new name ≡ Some (stands_so bytes 0)) → OnErr result (new name ≡ old name) → old name ≡ None → ended made name ≡ false → AllTold missing new made
  told_put (Ok value) ok err none unended = λ n. kept_at n (one_or_two n name) (
    (told name).0 ∙ ap given_at none ∙ sym (ap given_at ok),
    λ e. none_over missing (new name) (sym unended ∙ e),
  )
  told_put (Err error) ok err none unended = λ n. kept_at n (one_or_two n name) (
    (told name).0 ∙ sym (ap given_at err),
    λ e. ap (over_at missing) err ∙ (told name).1 e,
  )

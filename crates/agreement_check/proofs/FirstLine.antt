-- The words of a first line, one by one.
use Rattle.std.proofs.Common.{◌≡◌, ◌∷◌, ◌++◌, ℕ, zero, suc, ◌+◌, ◌<◌, ◌≤◌, List, [], Bool, true, false, Option, Some, None, if◌then◌else◌, option_and_then, option_to_list, length, take, nat_eq, slice_get, ap, refl, sym, subst, ◌∙◌, arith, append_assoc, append-nil, eqb-true}
use Rattle.std.proofs.lemmas.List.{length-append}
use Rattle.std.proofs.lemmas.Option.{same_Some, slice_get_within}
use Rattle.text_lines.specs.Headline.Steps.{◌>>=◌}
use Rattle.agreement_check.specs.Standing.{IsHeadingFront}
use Rattle.agreement_check.specs.Texts.{Due, counts_due, due_at, header_due, heading_by, heading_of, numbers_in}

abbrev all_due : List Due
all_due = counts_due ++ header_due

-- what a word gives, in front of what the others give
abbrev in_front : Option (Option ℕ) → Option (List ℕ) → Option (List ℕ)
in_front own rest = own >>= (λ o. rest >>= (λ more. Some (option_to_list o ++ more)))

-- A word that isn't what is due.

first_none : (own : Option (Option ℕ)) (rest : Option (List ℕ)) → own ≡ None → in_front own rest ≡ None
first_none None rest e = refl
first_none (Some o) rest e = absurd (cc e)

later_none : (own : Option (Option ℕ)) (rest : Option (List ℕ)) → rest ≡ None → in_front own rest ≡ None
later_none None rest e = refl
later_none (Some o) None e = refl
later_none (Some o) (Some more) e = absurd (cc e)

numbers_none : (dues : List Due) (words : List (List ℕ)) (word : List ℕ) (more : List (List ℕ)) → due_at dues (length words) word ≡ None → numbers_in dues (words ++ word ∷ more) ≡ None
numbers_none [] [] word more e = refl
numbers_none [] (w ∷ words) word more e = refl
numbers_none (due ∷ dues) [] word more e = first_none (due word) (numbers_in dues more) e
numbers_none (due ∷ dues) (w ∷ words) word more e = later_none (due w) (numbers_in dues (words ++ word ∷ more)) (numbers_none dues words word more e)

get_front : {X : Type 0} (xs ys : List X) (k : ℕ) → k < length xs → slice_get (xs ++ ys) k ≡ slice_get xs k
get_front [] ys k h = absurd (omega (arith, h))
get_front (x ∷ xs) ys zero h = refl
get_front (x ∷ xs) ys (suc k) h = get_front xs ys k (omega (arith, h))

counts_none : (place : ℕ) (word : List ℕ) → place < length counts_due → due_at all_due place word ≡ None → due_at counts_due place word ≡ None
counts_none place word less e = ap (λ (o : Option Due). option_and_then (λ (due : Due). due word) o) (sym (get_front counts_due header_due place less)) ∙ e

heading_none : (words : List (List ℕ)) (t : Bool) → (t ≡ true → numbers_in counts_due words ≡ None) → numbers_in all_due words ≡ None → (numbers_in (if t then counts_due else all_due) words >>= heading_by) ≡ None
heading_none words true f e = ap (λ (o : Option (List ℕ)). o >>= heading_by) (f refl)
heading_none words false f e = ap (λ (o : Option (List ℕ)). o >>= heading_by) e

fewer : (words : List (List ℕ)) (word : List ℕ) (more : List (List ℕ)) → nat_eq (length (words ++ word ∷ more)) 6 ≡ true → length words < length counts_due
fewer words word more e =
    let six = eqb-true (length (words ++ word ∷ more)) 6 e in
    let long = length-append words (word ∷ more) in
    omega (arith, six, long)

pub no-heading : (words : List (List ℕ)) (word : List ℕ) (more : List (List ℕ)) → due_at (counts_due ++ header_due) (length words) word ≡ None → heading_of (words ++ word ∷ more) ≡ None
unfolding heading_of
no-heading words word more e =
    heading_none (words ++ word ∷ more) (nat_eq (length (words ++ word ∷ more)) 6)
    (λ six. numbers_none counts_due words word more (counts_none (length words) word (fewer words word more six) e)) (numbers_none all_due words word more e)

-- A word that is.

first_more : (own : Option (Option ℕ)) (numbers : List ℕ) (o : Option ℕ) → own ≡ Some o → (let none : Option (List ℕ) = Some [] in none) ≡ Some numbers → in_front own (Some []) ≡ Some (numbers ++ option_to_list o)
first_more None numbers o e f = absurd (cc e)
first_more (Some p) numbers o e f =
    ap (λ (ns : List ℕ). Some ns) (append-nil (option_to_list p))
    ∙ ap (λ (x : Option ℕ). Some (option_to_list x)) (same_Some p o e)
    ∙ ap (λ (ns : List ℕ). Some (ns ++ option_to_list o)) (same_Some [] numbers f)

later_more : (own : Option (Option ℕ)) (rest longer : Option (List ℕ)) (numbers : List ℕ) (o : Option ℕ) → ((more : List ℕ) → rest ≡ Some more → longer ≡ Some (more ++ option_to_list o)) →
    in_front own rest ≡ Some numbers → in_front own longer ≡ Some (numbers ++ option_to_list o)
later_more None rest longer numbers o f e = absurd (cc e)
later_more (Some p) None longer numbers o f e = absurd (cc e)
later_more (Some p) (Some more) longer numbers o f e =
    let l : longer ≡ Some (more ++ option_to_list o) = f more refl in
    let is : option_to_list p ++ more ≡ numbers = same_Some (option_to_list p ++ more) numbers e in
    ap (λ (x : Option (List ℕ)). x >>= (λ m. Some (option_to_list p ++ m))) l
    ∙ ap (λ (ns : List ℕ). Some ns) (sym (append_assoc (option_to_list p) more (option_to_list o)) ∙ ap (λ (ns : List ℕ). ns ++ option_to_list o) is)

numbers_more : (dues : List Due) (words : List (List ℕ)) (word : List ℕ) (numbers : List ℕ) (o : Option ℕ) → numbers_in (take (length words) dues) words ≡ Some numbers → due_at dues (length words) word ≡ Some o →
    numbers_in (take (suc (length words)) dues) (words ++ word ∷ []) ≡ Some (numbers ++ option_to_list o)
numbers_more [] [] word numbers o e f = absurd (cc f)
numbers_more [] (w ∷ words) word numbers o e f = absurd (cc e)
numbers_more (due ∷ dues) [] word numbers o e f = first_more (due word) numbers o f e
numbers_more (due ∷ dues) (w ∷ words) word numbers o e f =
    later_more (due w) (numbers_in (take (length words) dues) words) (numbers_in (take (suc (length words)) dues) (words ++ word ∷ [])) numbers o (λ more is. numbers_more dues words word more o is f) e

due_within : (dues : List Due) (place : ℕ) (word : List ℕ) (o : Option ℕ) (due : Option Due) → slice_get dues place ≡ due → option_and_then (λ (d : Due). d word) due ≡ Some o → place < length dues
due_within dues place word o None e f = absurd (cc f)
due_within dues place word o (Some due) e f = slice_get_within dues place due e

pub heading-within : (place : ℕ) (word : List ℕ) (o : Option ℕ) → due_at (counts_due ++ header_due) place word ≡ Some o → place < 12
heading-within place word o e = due_within all_due place word o (slice_get all_due place) refl e

pub heading-more : (place : ℕ) (numbers next : List ℕ) (words : List (List ℕ)) (word : List ℕ) (o : Option ℕ) → IsHeadingFront place numbers words → due_at (counts_due ++ header_due) place word ≡ Some o →
    next ≡ numbers ++ option_to_list o → IsHeadingFront (place + 1) next (words ++ word ∷ [])
heading-more place numbers next words word o h e same =
    let within = heading-within place word o e in
    let before : numbers_in (take (length words) all_due) words ≡ Some numbers = subst (λ n. numbers_in (take n all_due) words ≡ Some numbers) (sym h.count) h.numbers_are in
    let here : due_at all_due (length words) word ≡ Some o = subst (λ n. due_at all_due n word ≡ Some o) (sym h.count) e in
    let one : suc (length words) ≡ place + 1 = omega (arith, h.count) in
    record {
      count = omega (arith, h.count, length-append words (word ∷ []));
      few = omega (arith, within);
      numbers_are = subst (λ n. numbers_in (take n all_due) (words ++ word ∷ []) ≡ Some next) one (numbers_more all_due words word numbers o before here ∙ ap (λ (ns : List ℕ). Some ns) (sym same));
    }

pub heading-start : IsHeadingFront 0 [] []
heading-start = record { count = refl; few = omega arith; numbers_are = refl }

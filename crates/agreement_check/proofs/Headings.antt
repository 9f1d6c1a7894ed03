-- The header that a first line states is a header.
use Rattle.std.proofs.Common.{◌≡◌, ◌∷◌, ◌++◌, ℕ, ◌^◌, ◌<◌, ◌≤◌, List, [], Bool, true, false, Option, Some, None, if◌then◌else◌, option_to_list, option_map, length, nat_eq, ap, refl, sym, subst, ◌∙◌, arith}
use Rattle.std.specs.Str.{bytes_eq}
use Rattle.std.proofs.lemmas.Option.{same_Some}
use Rattle.text_lines.specs.Headline.Steps.{◌>>=◌}
use Rattle.text_lines.specs.Numbers.{plain_number}
use Rattle.text_lines.proofs.NumberBack.{plain_told}
use Rattle.agreement_check.specs.Standing.{StatesHeader}
use Rattle.agreement_check.specs.Texts.{Due, counts_due, header_due, heading_by, heading_of, number_due, numbers_in, text_due}

-- what a word gives: no number, or one up to this
abbrev IsDueOf : Option ℕ → Due → Type 0
IsDueOf None due = (word : List ℕ) (o : Option ℕ) → due word ≡ Some o → o ≡ None
IsDueOf (Some g) due = (word : List ℕ) (o : Option ℕ) → due word ≡ Some o → (n : ℕ) × (o ≡ Some n) × (n ≤ g)

text_by : (t : Bool) (o : Option ℕ) → (let r : Option (Option ℕ) = if t then Some None else None in r) ≡ Some o → o ≡ None
text_by true o e = sym (same_Some None o e)
text_by false o e = absurd (cc e)

a_text : (t : List ℕ) → IsDueOf None (text_due t)
a_text t word o e = text_by (bytes_eq word t) o e

number_by : (g : ℕ) (word : List ℕ) (m : Option ℕ) (o : Option ℕ) → g < 2 ^ 64 → plain_number g word ≡ m → option_map (λ n. Some n) m ≡ Some o → (n : ℕ) × (o ≡ Some n) × (n ≤ g)
number_by g word None o small e f = absurd (cc f)
number_by g word (Some n) o small e f = (n, sym (same_Some (Some n) o f), (plain_told g word n small e).1)

a_number : (g : ℕ) → g < 2 ^ 64 → IsDueOf (Some g) (number_due g)
a_number g small word o e = number_by g word (plain_number g word) o small refl e

abbrev AreDuesOf : List (Option ℕ) → List Due → Type 0
AreDuesOf [] [] = Unit {0}
AreDuesOf [] (due ∷ dues) = ⊥
AreDuesOf (kind ∷ kinds) [] = ⊥
AreDuesOf (kind ∷ kinds) (due ∷ dues) = IsDueOf kind due × AreDuesOf kinds dues

-- the numbers that words of these kinds give
abbrev Fit : List (Option ℕ) → List ℕ → Type 0
Fit [] ns = ns ≡ []
Fit (None ∷ kinds) ns = Fit kinds ns
Fit (Some g ∷ kinds) ns = (n : ℕ) × (more : List ℕ) × (ns ≡ n ∷ more) × (n ≤ g) × Fit kinds more

fit_step : (kind : Option ℕ) (kinds : List (Option ℕ)) (due : Due) (word : List ℕ) (own : Option (Option ℕ)) (rest : Option (List ℕ)) (ns : List ℕ) → IsDueOf kind due → due word ≡ own →
    ((more : List ℕ) → rest ≡ Some more → Fit kinds more) → (own >>= (λ o. rest >>= (λ more. Some (option_to_list o ++ more)))) ≡ Some ns → Fit (kind ∷ kinds) ns
fit_step kind kinds due word None rest ns is e each f = absurd (cc f)
fit_step kind kinds due word (Some o) None ns is e each f = absurd (cc f)
fit_step None kinds due word (Some o) (Some more) ns is e each f =
    let none = is word o e in
    subst (Fit kinds) (ap (λ x. option_to_list x ++ more) (sym none) ∙ same_Some (option_to_list o ++ more) ns f) (each more refl)
fit_step (Some g) kinds due word (Some o) (Some more) ns is e each f =
    let some = is word o e in
    (some.0, more, sym (same_Some (option_to_list o ++ more) ns f) ∙ ap (λ x. option_to_list x ++ more) some.1, some.2, each more refl)

fit : (kinds : List (Option ℕ)) (dues : List Due) (words : List (List ℕ)) (ns : List ℕ) → AreDuesOf kinds dues → numbers_in dues words ≡ Some ns → Fit kinds ns
fit [] [] [] ns are e = sym (same_Some [] ns e)
fit [] [] (word ∷ words) ns are e = absurd (cc e)
fit [] (due ∷ dues) words ns are e = absurd are
fit (kind ∷ kinds) [] words ns are e = absurd are
fit (kind ∷ kinds) (due ∷ dues) [] ns are e = absurd (cc e)
fit (kind ∷ kinds) (due ∷ dues) (word ∷ words) ns are e =
    fit_step kind kinds due word (due word) (numbers_in dues words) ns are.0 refl (λ more f. fit kinds dues words more are.1 f) e

abbrev count_kinds : List (Option ℕ)
count_kinds = None ∷ None ∷ None ∷ Some 4294967295 ∷ None ∷ Some 4294967295 ∷ []

abbrev header_kinds : List (Option ℕ)
header_kinds = None ∷ Some 4294967295 ∷ Some 4294967295 ∷ Some 65535 ∷ Some 65535 ∷ Some 255 ∷ []

long : IsDueOf (Some 4294967295) (number_due 4294967295)
long = a_number 4294967295 (omega arith)

port : IsDueOf (Some 65535) (number_due 65535)
port = a_number 65535 (omega arith)

counts : AreDuesOf count_kinds counts_due
counts = (a_text _, (a_text _, (a_text _, (long, (a_text _, (long, tt))))))

both : AreDuesOf (count_kinds ++ header_kinds) (counts_due ++ header_due)
both = (a_text _, (a_text _, (a_text _, (long, (a_text _, (long, (a_text _, (long, (long, (port, (port, (a_number 255 (omega arith), tt))))))))))))

states_none : (ns : List ℕ) → Fit count_kinds ns → StatesHeader (heading_by ns)
states_none ns (n, more, e, le, (m, rest, f, lf, g)) = rw (e, f, g) tt

states_header : (ns : List ℕ) → Fit (count_kinds ++ header_kinds) ns → StatesHeader (heading_by ns)
states_header ns (n, n_, en, ln, (m, m_, em, lm, (a, a_, ea, la, (b, b_, eb, lb, (c, c_, ec, lc, (d, d_, ed, ld, (p, p_, ep, lp, last))))))) =
    rw (en, em, ea, eb, ec, ed, ep, last) (omega (arith, la), (omega (arith, lb), (omega (arith, lc), (omega (arith, ld), (omega (arith, lp), tt)))))

states_by : (dues : List Due) (words : List (List ℕ)) (o : Option (List ℕ)) → numbers_in dues words ≡ o → ((ns : List ℕ) → numbers_in dues words ≡ Some ns → StatesHeader (heading_by ns)) →
    StatesHeader (o >>= heading_by)
states_by dues words None e each = tt
states_by dues words (Some ns) e each = each ns e

states_of : (words : List (List ℕ)) (t : Bool) → StatesHeader (numbers_in (if t then counts_due else counts_due ++ header_due) words >>= heading_by)
states_of words true = states_by counts_due words (numbers_in counts_due words) refl (λ ns e. states_none ns (fit count_kinds counts_due words ns counts e))
states_of words false = states_by (counts_due ++ header_due) words (numbers_in (counts_due ++ header_due) words) refl
    (λ ns e. states_header ns (fit (count_kinds ++ header_kinds) (counts_due ++ header_due) words ns both e))

pub states-header : (words : List (List ℕ)) → StatesHeader (heading_of words)
unfolding heading_of
states-header words = states_of words (nat_eq (length words) 6)

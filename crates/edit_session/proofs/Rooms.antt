-- The tokens of a text need room in it.
use Rattle.std.proofs.Common.{◌≡◌, ◌∷◌, ℕ, ◌+◌, ◌≤◌, List, Bool, true, false, cond, [], ap, refl, sym, subst, ◌∙◌, arith, length}
use Rattle.std.specs.Prelude.{not, nat_eq, nat_lt, if◌then◌else◌}
use Rattle.std.specs.List.{onto_first, list_all}
use Rattle.std.specs.Char.{digit_value}
use Rattle.std.proofs.lemmas.Bool.{and_parts, eqb-true, false≢true, not-true}
use Rattle.text_lines.specs.Headline.Lines.{is_blank}
use Rattle.text_lines.specs.Headline.Numbers.{is_number}
use Rattle.filter_reader.specs.Headline.Tokens.{tokens, is_mark, goes_on}

-- the bytes of a token and what parts it from the next; a mark takes none, since it parts others
abbrev pub weight : List ℕ → ℕ
weight [] = 0
weight (b ∷ []) = if is_mark b then 0 else 2
weight (b ∷ c ∷ word) = length word + 3

-- those of all tokens
abbrev pub room : List (List ℕ) → ℕ
room [] = 0
room (token ∷ tokens) = weight token + room tokens

-- 1 where it is so
abbrev one_if : Bool → ℕ
one_if on = if on then 1 else 0

one_if_le : (on : Bool) → one_if on ≤ 1
one_if_le true = omega arith
one_if_le false = omega arith

-- tokens of which the first begins with this byte
abbrev Begins : ℕ → List (List ℕ) → Type 0
Begins c ts = (word : List ℕ) × ((rest : List (List ℕ)) × (ts ≡ (c ∷ word) ∷ rest))

first_onto : (c : ℕ) (ts : List (List ℕ)) → Begins c (onto_first c ts)
first_onto c [] = ([], ([], refl))
first_onto c (t ∷ ts) = (t, (ts, refl))

first_step : (c : ℕ) (text : List ℕ) (on : Bool) → Begins c (cond on (onto_first c (tokens text)) ((c ∷ []) ∷ tokens text))
first_step c text true = first_onto c (tokens text)
first_step c text false = ([], (tokens text, refl))

-- a text that goes on begins with a byte of a token
abbrev GoesOn : List (List ℕ) → Type 0
GoesOn ts = (c : ℕ) × ((is_mark c ≡ false) × Begins c ts)

goes_on_begins : (text : List ℕ) → goes_on text ≡ true → GoesOn (tokens text)
goes_on_begins [] h = absurd (false≢true h)
goes_on_begins (c ∷ text) h =
    let parts = and_parts (not (is_blank c)) (not (is_mark c)) h in
    (c, (not-true (is_mark c) parts.1, rw (not-true (is_blank c) parts.0, not-true (is_mark c) parts.1) (first_step c text (goes_on text))))

onto_weight : (b c : ℕ) (word : List ℕ) → is_mark c ≡ false → weight (b ∷ c ∷ word) ≡ weight (c ∷ word) + 1
onto_weight b c [] h = rw h refl
onto_weight b c (d ∷ word) h = omega arith

onto_room : (b c : ℕ) (ts : List (List ℕ)) (word : List ℕ) (rest : List (List ℕ)) → is_mark c ≡ false → ts ≡ (c ∷ word) ∷ rest → room (onto_first b ts) ≡ room ts + 1
onto_room b c ts word rest h e = subst (λ (us : List (List ℕ)). room (onto_first b us) ≡ room us + 1) (sym e) (omega (arith, onto_weight b c word h))

longer : (b : ℕ) (ts : List (List ℕ)) → GoesOn ts → room (onto_first b ts) ≡ room ts + 1
longer b ts h = onto_room b h.0 ts h.1.1.0 h.1.1.1.0 h.1.0 h.1.1.1.1

room_step : (b : ℕ) (text : List ℕ) (blank mark on : Bool) → is_blank b ≡ blank → is_mark b ≡ mark → goes_on text ≡ on → room (tokens text) ≤ length text + one_if on → room (tokens (b ∷ text)) ≤ length (b ∷ text) + one_if (goes_on (b ∷ text))
room_step b text true mark on p m e h = let one = one_if_le on in rw p (omega (arith, h, one))
room_step b text false true on p m e h = let one = one_if_le on in rw (p, m, m) (omega (arith, h, one))
room_step b text false false true p m e h = let more = longer b (tokens text) (goes_on_begins text e) in rw (p, m, e) (omega (arith, h, more))
room_step b text false false false p m e h = rw (p, m, e, m) (omega (arith, h))

room_fits : (text : List ℕ) → room (tokens text) ≤ length text + one_if (goes_on text)
room_fits [] = omega arith
room_fits (b ∷ text) = room_step b text (is_blank b) (is_mark b) (goes_on text) refl refl refl (room_fits text)

pub tokens_fit : (text : List ℕ) → room (tokens text) ≤ length text + 1
tokens_fit text = let fits = room_fits text in let one = one_if_le (goes_on text) in omega (arith, fits, one)

no_digit : (b k : ℕ) (t : Bool) → nat_eq b k ≡ t → nat_lt (digit_value k) 10 ≡ false → nat_lt (digit_value b) 10 ≡ true → t ≡ false
no_digit b k true e other digit = absurd (false≢true (sym other ∙ ap (λ n. nat_lt (digit_value n) 10) (sym (eqb-true b k e)) ∙ digit))
no_digit b k false e other digit = refl

-- a digit is no mark
digit_no_mark : (b : ℕ) → nat_lt (digit_value b) 10 ≡ true → is_mark b ≡ false
digit_no_mark b h = rw (no_digit b 58 (nat_eq b 58) refl refl h, no_digit b 44 (nat_eq b 44) refl refl h) refl

pub number_weight : (text : List ℕ) → is_number 10 text ≡ true → 2 ≤ weight text
number_weight [] h = absurd (false≢true h)
number_weight (b ∷ []) h =
    let digits = and_parts (nat_lt 0 1) (list_all (λ c. nat_lt (digit_value c) 10) (b ∷ [])) h in
    let digit = and_parts (nat_lt (digit_value b) 10) true digits.1 in
    rw (digit_no_mark b digit.0) (omega arith)
number_weight (b ∷ c ∷ word) h = omega arith

pub long_weight : (text : List ℕ) → 2 ≤ length text → length text + 1 ≤ weight text
long_weight [] h = absurd (omega (arith, h))
long_weight (b ∷ []) h = absurd (omega (arith, h))
long_weight (b ∷ c ∷ word) h = omega arith

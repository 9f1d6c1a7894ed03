-- Names are read as they are written.
use Rattle.std.proofs.Common.{◌≡◌, ◌∷◌, ℕ, zero, suc, ◌<◌, ◌≤◌, List, Bool, true, false, cond, [], refl, sym, ◌∙◌, arith, length, inl, inr, Some, None, All, IsTrue, ◌&&◌, ◌||◌, not, ◌==◌, is_some, nat_le, nat_lt, slice_get, bytes_eq}
use Rattle.std.specs.List.{AllByRecursion, list_all}
use Rattle.std.proofs.lemmas.List.Elements.{recursion_from_All}
use Rattle.std.proofs.lemmas.Bool.{agree_below_at, and_parts, eqb-true, false≢true, not-true, not_from_true, or_cases}
use Rattle.std.proofs.lemmas.Bool.Decides.{nat_tests}
use Rattle.field_boxes.specs.Headline.Names.{has_word_form, is_word_byte, miss}
use Rattle.field_boxes.specs.Names.{is_decision_word, name_at}
use Rattle.table_text.specs.Names.{is_name, is_rule_name}
use Rattle.text_lines.specs.Headline.Numbers.{is_number, number_of, number_within}
use Rattle.text_lines.specs.Numbers.{has_leading_zero, plain_number}
use Rattle.text_lines.proofs.Decimals.{digit_other, is_digit}
use Rattle.text_lines.proofs.Joins.{all_wider, is_other}
use Rattle.table_text.proofs.EntryTexts.{IsSpelled}

-- a byte of a word is of ASCII
word_low : (b : ℕ) → is_word_byte b ≡ true → b < 128
word_low b h = grind (arith, nat_tests)

word_no_line : (b : ℕ) → is_word_byte b ≡ true → is_other 10 b ≡ true
word_no_line b h =
    elim (or_cases (not (is_word_byte b)) (is_other 10 b) (agree_below_at (λ d. not (is_word_byte d) || is_other 10 d) (λ d. true) 128 b refl (word_low b h))) [
      | inl none ↦ absurd (false≢true (sym (not_from_true (is_word_byte b) h) ∙ none))
      | inr some ↦ some
    ]

-- what a name that can be spelled is
record IsName (name : List ℕ) : Type 0 where
  other : bytes_eq name miss ≡ false
  line : list_all (is_other 10) name ≡ true

word_name : (name : List ℕ) → is_decision_word name ≡ true → IsName name
word_name name h =
    let parts = and_parts (has_word_form name) (not (bytes_eq name miss)) h in
    let form = and_parts (nat_le 1 (length name) && nat_le (length name) 32) (list_all is_word_byte name) parts.0 in
    record { other = not-true (bytes_eq name miss) parts.1; line = all_wider is_word_byte (is_other 10) word_no_line name form.1 }

some_within : (text : List ℕ) (t : Bool) → is_number 10 text && nat_le (number_of 10 text) 65536 ≡ t → is_some (cond t (Some (number_of 10 text)) None) ≡ true → list_all is_digit text ≡ true
some_within text true e h = let parts = and_parts (is_number 10 text) (nat_le (number_of 10 text) 65536) e in (and_parts (nat_lt 0 (length text)) (list_all is_digit text) parts.0).1
some_within text false e h = absurd (false≢true h)

some_plain : (text : List ℕ) (t : Bool) → is_some (cond t None (number_within 10 65536 text)) ≡ true → list_all is_digit text ≡ true
unfolding number_within
some_plain text true h = absurd (false≢true h)
some_plain text false h = some_within text (is_number 10 text && nat_le (number_of 10 text) 65536) refl h

digits_of_number : (text : List ℕ) → is_some (plain_number 65536 text) ≡ true → list_all is_digit text ≡ true
unfolding plain_number
digits_of_number text h = some_plain text (has_leading_zero text) h

rule_first : (b : ℕ) (digits : List ℕ) → b ≡ 35 → bytes_eq (b ∷ digits) miss ≡ false
rule_first b digits e = rw e refl

rule_name : (name : List ℕ) → is_rule_name name ≡ true → IsName name
rule_name [] h = absurd (false≢true h)
rule_name (b ∷ digits) h =
    let outer = and_parts (b == 35 && not (bytes_eq digits (48 ∷ []))) (is_some (plain_number 65536 digits)) h in
    let first = eqb-true b 35 (and_parts (b == 35) (not (bytes_eq digits (48 ∷ []))) outer.0).0 in
    let line : list_all (is_other 10) digits ≡ true = all_wider is_digit (is_other 10) (digit_other 10 (omega arith)) digits (digits_of_number digits outer.1) in
    record { other = rule_first b digits first; line = rw first line }

name_of : (name : List ℕ) → is_name name ≡ true → IsName name
name_of name h = elim (or_cases (is_decision_word name) (is_rule_name name) h) [ inl word ↦ word_name name word | inr rule ↦ rule_name name rule ]

any_decision : (a b c : Bool) → b || c ≡ true → a || b || c ≡ true
any_decision true b c h = refl
any_decision false b c h = h

some_spelled : (name : List ℕ) → is_name name ≡ true → IsSpelled (Some name)
some_spelled name h =
    let is = name_of name h in
    record {
      decision = any_decision (bytes_eq name miss) (is_decision_word name) (is_rule_name name) h;
      same = rw is.other refl;
      line = is.line;
    }

none_spelled : IsSpelled None
none_spelled = record { decision = refl; same = refl; line = refl }

member_spelled : (names : List (List ℕ)) → AllByRecursion (λ name. IsTrue (is_name name)) names → (k : ℕ) → k < length names → IsSpelled (slice_get names k)
member_spelled [] all k lt = absurd (omega arith)
member_spelled (name ∷ names) all zero lt = some_spelled name all.0
member_spelled (name ∷ names) all (suc k) lt = member_spelled names all.1 k (omega arith)

-- the name with a number, or none
pub numbered_spelled : (names : List (List ℕ)) → All (λ name. IsTrue (is_name name)) names → (n : ℕ) → n ≤ length names → IsSpelled (name_at names n)
numbered_spelled names all zero le = none_spelled
numbered_spelled names all (suc k) le = member_spelled names (recursion_from_All (λ name. IsTrue (is_name name)) names all) k (omega arith)

-- What stands behind a rule's columns is read as it is written: a decision word or nothing.
use Rattle.std.proofs.Common.{◌≡◌, ◌∷◌, ℕ, ◌<◌, List, Bool, true, false, [], ap, refl, sym, ◌∙◌, arith, append-nil, length, Some, None, inl, inr, Option, ◌&&◌, ◌||◌, not, Ok, ◌==◌, nat_le, bytes_eq}
use Rattle.std.specs.List.{list_all, list_any}
use Rattle.std.proofs.lemmas.Bool.{agree_below_at, and_parts, or_cases, or_from, not-true, not_from_true, leb-true, false≢true}
use Rattle.std.proofs.lemmas.Bool.Decides.{nat_tests}
use Rattle.field_boxes.specs.Headline.Names.{is_word_byte, has_word_form, miss}
use Rattle.field_boxes.specs.Names.{is_decision_word}
use Rattle.filter_reader.specs.Headline.Columns.{flags_column, decision_column, decision_of}
use Rattle.filter_reader.specs.Headline.Tokens.{tokens, goes_on}
use Rattle.filter_reader.proofs.Bytes.{is_line_byte}
use Rattle.text_lines.proofs.Joins.{all_wider, is_other}
use Rattle.filter_reader.proofs.Spelling.{is_plain, tokens-text}

-- a byte of a word is of ASCII
word_low : (b : ℕ) → is_word_byte b ≡ true → b < 128
word_low b h = grind (arith, nat_tests)

-- what a table says of each byte of a word
word_all : (q : ℕ → Bool) → ((b : ℕ) → b < 128 → (not (is_word_byte b) || q b) ≡ true) → (b : ℕ) → is_word_byte b ≡ true → q b ≡ true
word_all q table b h =
    elim (or_cases (not (is_word_byte b)) (q b) (table b (word_low b h))) [
      | inl none ↦ absurd (false≢true (sym (not_from_true (is_word_byte b) h) ∙ none))
      | inr some ↦ some
    ]

word_plain : (b : ℕ) → is_word_byte b ≡ true → is_plain b ≡ true
word_plain b h = word_all is_plain (λ c. agree_below_at (λ d. not (is_word_byte d) || is_plain d) (λ d. true) 128 c refl) b h

word_no_slash : (b : ℕ) → is_word_byte b ≡ true → is_other 47 b ≡ true
word_no_slash b h = word_all (is_other 47) (λ c. agree_below_at (λ d. not (is_word_byte d) || is_other 47 d) (λ d. true) 128 c refl) b h

word_line : (b : ℕ) → is_word_byte b ≡ true → is_line_byte b ≡ true
word_line b h = word_all is_line_byte (λ c. agree_below_at (λ d. not (is_word_byte d) || is_line_byte d) (λ d. true) 128 c refl) b h

none_equal : (c : ℕ) (text : List ℕ) → list_all (is_other c) text ≡ true → list_any (λ b. b == c) text ≡ false
none_equal c [] h = refl
none_equal c (b ∷ text) h =
    let parts = and_parts (is_other c b) (list_all (is_other c) text) h in
    or_from (b == c) (list_any (λ d. d == c) text) (not-true (b == c) parts.0) (none_equal c text parts.1)

-- a decision word has bytes of words alone, and some
word_form : (name : List ℕ) → has_word_form name ≡ true → (0 < length name) × (list_all is_word_byte name ≡ true)
word_form name h =
    let outer = and_parts (nat_le 1 (length name) && nat_le (length name) 32) (list_all is_word_byte name) h in
    (leb-true 1 (length name) (and_parts (nat_le 1 (length name)) (nat_le (length name) 32) outer.0).0, outer.1)

-- what stands behind the columns, with a decision word or none
pub record IsTail (tail : List ℕ) (word : Option (List ℕ)) : Type 0 where
  pub ends : goes_on tail ≡ false
  pub flags : flags_column (tokens tail) ≡ Ok (false, tokens tail)
  pub decision : decision_column (tokens tail) ≡ Ok (word, [])
  pub bytes : list_all is_line_byte tail ≡ true

pub tail_none : IsTail [] None
unfolding flags_column decision_column
tail_none = record { ends = refl; flags = refl; decision = refl; bytes = refl }

word_flags : (name : List ℕ) → list_any (λ b. b == 47) name ≡ false → flags_column (name ∷ []) ≡ Ok (false, name ∷ [])
unfolding flags_column
word_flags name h = rw h refl

word_decision : (name : List ℕ) → has_word_form name ≡ true → bytes_eq name miss ≡ false → decision_column (name ∷ []) ≡ Ok (Some name, [])
unfolding decision_column decision_of
word_decision name h e = rw (h, e) refl

pub tail_word : (name : List ℕ) → is_decision_word name ≡ true → IsTail (9 ∷ name) (Some name)
tail_word name h =
    let parts = and_parts (has_word_form name) (not (bytes_eq name miss)) h in
    let form = word_form name parts.0 in
    let token : tokens name ≡ name ∷ [] = ap tokens (sym (append-nil name)) ∙ tokens-text name [] form.0 (all_wider is_word_byte is_plain word_plain name form.1) refl in
    record {
      ends = refl;
      flags = rw token (word_flags name (none_equal 47 name (all_wider is_word_byte (is_other 47) word_no_slash name form.1)));
      decision = rw token (word_decision name parts.0 (not-true (bytes_eq name miss) parts.1));
      bytes = all_wider is_word_byte is_line_byte word_line name form.1;
    }

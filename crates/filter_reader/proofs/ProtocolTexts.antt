-- Protocols are read as they are written.
use Rattle.std.proofs.Common.{◌≡◌, ◌∷◌, ◌++◌, ℕ, ◌/◌, ◌%◌, ◌<◌, ◌≤◌, List, true, [], refl, sym, subst, arith, length, Some, inl, inr, ◌&&◌, Ok, codes, nat_le, ◌==◌, ◌⊎◌}
use Rattle.std.specs.List.{list_all}
use Rattle.std.specs.Char.{digit_value}
use Rattle.std.specs.Fmt.{digit_glyph}
use Rattle.std.proofs.lemmas.Bool.{agree_below_at, eqb-true, leb-true, lt-ltb, le-leb, and_parts, or_cases, eq-eqb}
use Rattle.field_boxes.specs.Headline.Classifier.{Interval}
use Rattle.filter_reader.specs.Headline.Columns.{under_mask}
use Rattle.filter_reader.specs.ListText.{protocol_text}
use Rattle.field_boxes.specs.Protocols.{is_protocol}
use Rattle.filter_reader.specs.Headline.Masks.{hex_number, value_and_mask}
use Rattle.text_lines.specs.Headline.Numbers.{is_number, number_of, number_within, short_number}
use Rattle.text_lines.proofs.Joins.{split_once-joined, is_other}
use Rattle.filter_reader.proofs.Bytes.{is_line_byte}
use Rattle.filter_reader.proofs.Spelling.{is_plain}

abbrev glyph : ℕ → ℕ
glyph d = digit_glyph true d

-- of the sixteen digits
glyph_value : (d : ℕ) → d < 16 → digit_value (glyph d) ≡ d
glyph_value d h = eqb-true (digit_value (glyph d)) d (agree_below_at (λ n. digit_value (glyph n) == n) (λ n. true) 16 d refl h)

glyph_other : (d : ℕ) → d < 16 → is_other 47 (glyph d) ≡ true
glyph_other d h = agree_below_at (λ n. is_other 47 (glyph n)) (λ n. true) 16 d refl h

pub glyph_plain : (d : ℕ) → d < 16 → is_plain (glyph d) ≡ true
glyph_plain d h = agree_below_at (λ n. is_plain (glyph n)) (λ n. true) 16 d refl h

pub glyph_line : (d : ℕ) → d < 16 → is_line_byte (glyph d) ≡ true
glyph_line d h = agree_below_at (λ n. is_line_byte (glyph n)) (λ n. true) 16 d refl h

abbrev byte_text : ℕ → List ℕ
byte_text n = 48 ∷ 120 ∷ glyph (n / 16) ∷ glyph (n % 16) ∷ []

byte_other : (n : ℕ) → n < 256 → list_all (is_other 47) (byte_text n) ≡ true
byte_other n h = rw (glyph_other (n / 16) (omega arith), glyph_other (n % 16) (omega arith)) refl

byte_digits : (n : ℕ) → n < 256 → is_number 16 (glyph (n / 16) ∷ glyph (n % 16) ∷ []) ≡ true
byte_digits n h = rw (glyph_value (n / 16) (omega arith), glyph_value (n % 16) (omega arith), lt-ltb (n / 16) 16 (omega arith), lt-ltb (n % 16) 16 (omega arith)) refl

byte_value : (n : ℕ) → n < 256 → number_of 16 (glyph (n / 16) ∷ glyph (n % 16) ∷ []) ≡ n
byte_value n h = rw (glyph_value (n / 16) (omega arith), glyph_value (n % 16) (omega arith)) (omega arith)

byte_read : (n : ℕ) → n < 256 → hex_number 2 255 (byte_text n) ≡ Some n
unfolding hex_number short_number number_within
byte_read n h = rw (byte_digits n h, byte_value n h, le-leb n 255 (omega arith)) refl

one_protocol : (n : ℕ) → n < 256 → value_and_mask 2 255 (byte_text n ++ codes "/0xFF") ≡ Some (n, 255)
unfolding value_and_mask hex_number short_number number_within
one_protocol n h = rw (split_once-joined 47 (byte_text n) (codes "0xFF") (byte_other n h), byte_read n h) refl

every_protocol : value_and_mask 2 255 (codes "0x00/0x00") ≡ Some (0, 0)
unfolding value_and_mask hex_number short_number number_within
every_protocol = refl

-- how a protocol column is read: as a value and a mask that leaves this set
abbrev pub IsMaskedAs : Interval → ℕ × ℕ → Type 0
IsMaskedAs i masked = (value_and_mask 2 255 (protocol_text i) ≡ Some masked) × (under_mask masked.0 masked.1 ≡ Ok i)

one_masked : (n : ℕ) → n < 256 → (masked : ℕ × ℕ) × IsMaskedAs (record { lo = n; hi = n }) masked
one_masked n h = ((n, 255), (rw (eq-eqb n n refl) (one_protocol n h), refl))

every_masked : (masked : ℕ × ℕ) × IsMaskedAs (record { lo = 0; hi = 255 }) masked
every_masked = ((0, 0), (every_protocol, refl))

-- what holds of one protocol and of all of them holds of each set that a list can name
by_ends : (P : Interval → Type 0) → ((n : ℕ) → n < 256 → P (record { lo = n; hi = n })) → P (record { lo = 0; hi = 255 }) →
    (lo hi : ℕ) → (lo ≡ hi) × (hi ≤ 255) ⊎ (lo ≡ 0) × (hi ≡ 255) → P (record { lo = lo; hi = hi })
by_ends P one every lo hi (inl (same, within)) = subst (λ n. P (record { lo = lo; hi = n })) same (one lo (omega arith))
by_ends P one every lo hi (inr (none, all)) = subst (λ n. P (record { lo = n; hi = hi })) (sym none) (subst (λ n. P (record { lo = 0; hi = n })) (sym all) every)

by_protocol : (P : Interval → Type 0) → ((n : ℕ) → n < 256 → P (record { lo = n; hi = n })) → P (record { lo = 0; hi = 255 }) → (i : Interval) → is_protocol i ≡ true → P i
by_protocol P one every i h = by_ends P one every i.lo i.hi (
    elim (or_cases (i.lo == i.hi && nat_le i.hi 255) (i.lo == 0 && i.hi == 255) h) [
      | inl same ↦ let parts = and_parts (i.lo == i.hi) (nat_le i.hi 255) same in inl (eqb-true i.lo i.hi parts.0, leb-true i.hi 255 parts.1)
      | inr all ↦ let parts = and_parts (i.lo == 0) (i.hi == 255) all in inr (eqb-true i.lo 0 parts.0, eqb-true i.hi 255 parts.1)
    ])

pub masked_as : (i : Interval) → is_protocol i ≡ true → (masked : ℕ × ℕ) × IsMaskedAs i masked
masked_as = by_protocol (λ i. (masked : ℕ × ℕ) × IsMaskedAs i masked) one_masked every_masked

-- of which bytes a protocol's text is
one_plain : (n : ℕ) → n < 256 → list_all is_plain (protocol_text (record { lo = n; hi = n })) ≡ true
one_plain n h = rw (eq-eqb n n refl, glyph_plain (n / 16) (omega arith), glyph_plain (n % 16) (omega arith)) refl

pub protocol_plain : (i : Interval) → is_protocol i ≡ true → list_all is_plain (protocol_text i) ≡ true
protocol_plain = by_protocol (λ i. list_all is_plain (protocol_text i) ≡ true) one_plain refl

one_line : (n : ℕ) → n < 256 → list_all is_line_byte (protocol_text (record { lo = n; hi = n })) ≡ true
one_line n h = rw (eq-eqb n n refl, glyph_line (n / 16) (omega arith), glyph_line (n % 16) (omega arith)) refl

pub protocol_line : (i : Interval) → is_protocol i ≡ true → list_all is_line_byte (protocol_text i) ≡ true
protocol_line = by_protocol (λ i. list_all is_line_byte (protocol_text i) ≡ true) one_line refl

one_some : (n : ℕ) → n < 256 → 0 < length (protocol_text (record { lo = n; hi = n }))
one_some n h = rw (eq-eqb n n refl) (omega arith)

pub protocol_some : (i : Interval) → is_protocol i ≡ true → 0 < length (protocol_text i)
protocol_some = by_protocol (λ i. 0 < length (protocol_text i)) one_some (omega arith)

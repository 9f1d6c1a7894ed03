-- Addresses and their lengths are read as they are written.
use Rattle.std.proofs.Common.{◌≡◌, ◌∷◌, ◌++◌, ℕ, ◌+◌, ◌-◌, ◌*◌, ◌/◌, ◌%◌, ◌^◌, ◌<◌, ◌≤◌, List, Bool, true, ap, refl, sym, subst, ◌∙◌, arith, append_assoc, Some, Ok, decimal, pow_pos}
use Rattle.std.specs.List.{list_all}
use Rattle.std.specs.Int.{leading_zeros, w32}
use Rattle.std.specs.Int.Count.{leading_unique}
use Rattle.std.specs.Coded.{le_prop}
use Rattle.std.proofs.Math.Nat.{ℕ_set}
use Rattle.std.proofs.lemmas.Bool.{and_from}
use Rattle.field_boxes.specs.declared.prefix.Prefix.{Prefix}
use Rattle.field_boxes.specs.declared.span.Span.{Span}
use Rattle.field_boxes.specs.Headline.Classifier.{Interval}
use Rattle.field_boxes.specs.Spans.{interval_of}
use Rattle.field_boxes.specs.Prefixes.{IsPrefix}
use Rattle.std.proofs.Math.Logic.{∥∥₁_elim}
use Rattle.field_boxes.specs.Headline.Prefix.{FitsWidth}
use Rattle.field_boxes.specs.Prefix.{prefix_interval}
use Rattle.filter_reader.specs.Headline.Addresses.{address_of, length_of, agreeing}
use Rattle.filter_reader.specs.Headline.Columns.{prefix_set}
use Rattle.filter_reader.specs.ListText.{address_text, prefix_text}
use Rattle.text_lines.specs.Headline.Cuts.{parts_at}
use Rattle.text_lines.proofs.Decimals.{decimal-all, decimal-other, digit_other, is_digit, short_number-decimal, digit_number, is_number_byte}
use Rattle.text_lines.proofs.Joins.{all_joined, split_once-joined, is_other}

in_parts : (a b c d : List ℕ) → a ++ 46 ∷ b ++ 46 ∷ c ++ 46 ∷ d ≡ a ++ 46 ∷ (b ++ 46 ∷ (c ++ 46 ∷ d))
in_parts a b c d = simp append_assoc

-- four numbers parted by dots
numbers_read : (a b c d : ℕ) → a < 256 → b < 256 → c < 256 → d < 256 → address_of (decimal a ++ 46 ∷ (decimal b ++ 46 ∷ (decimal c ++ 46 ∷ decimal d))) ≡ Some (a * 2 ^ 24 + b * 2 ^ 16 + c * 2 ^ 8 + d)
unfolding address_of
numbers_read a b c d p q r s =
    rw (
      split_once-joined 46 (decimal a) (decimal b ++ 46 ∷ (decimal c ++ 46 ∷ decimal d)) (decimal-other 46 a (omega arith) (omega arith)),
      split_once-joined 46 (decimal b) (decimal c ++ 46 ∷ decimal d) (decimal-other 46 b (omega arith) (omega arith)),
      split_once-joined 46 (decimal c) (decimal d) (decimal-other 46 c (omega arith) (omega arith)),
      short_number-decimal 3 255 a (omega arith) (omega arith) (omega arith) (omega arith),
      short_number-decimal 3 255 b (omega arith) (omega arith) (omega arith) (omega arith),
      short_number-decimal 3 255 c (omega arith) (omega arith) (omega arith) (omega arith),
      short_number-decimal 3 255 d (omega arith) (omega arith) (omega arith) (omega arith),
    ) refl

value_joined : (v : ℕ) → v / 2 ^ 24 * 2 ^ 24 + v / 2 ^ 16 % 256 * 2 ^ 16 + v / 2 ^ 8 % 256 * 2 ^ 8 + v % 256 ≡ v
value_joined v = omega arith

pub address_of-text : (v : ℕ) → v < 2 ^ 32 → address_of (address_text v) ≡ Some v
address_of-text v h =
    ap address_of (in_parts (decimal (v / 2 ^ 24)) (decimal (v / 2 ^ 16 % 256)) (decimal (v / 2 ^ 8 % 256)) (decimal (v % 256)))
    ∙ numbers_read (v / 2 ^ 24) (v / 2 ^ 16 % 256) (v / 2 ^ 8 % 256) (v % 256) (omega arith) (omega arith) (omega arith) (omega arith)
    ∙ ap Some (value_joined v)

-- of which bytes an address is
pub address_all : (p : ℕ → Bool) → ((b : ℕ) → is_digit b ≡ true → p b ≡ true) → p 46 ≡ true → (v : ℕ) → v < 2 ^ 32 → list_all p (address_text v) ≡ true
address_all p digits dot v h =
    let a = decimal-all p digits (v / 2 ^ 24) (omega arith) in
    let b = decimal-all p digits (v / 2 ^ 16 % 256) (omega arith) in
    let c = decimal-all p digits (v / 2 ^ 8 % 256) (omega arith) in
    let d = decimal-all p digits (v % 256) (omega arith) in
    let after = λ (text : List ℕ) (e : list_all p text ≡ true). and_from (p 46) (list_all p text) dot e in
    all_joined p (decimal (v / 2 ^ 24) ++ 46 ∷ decimal (v / 2 ^ 16 % 256) ++ 46 ∷ decimal (v / 2 ^ 8 % 256)) (46 ∷ decimal (v % 256))
    (all_joined p (decimal (v / 2 ^ 24) ++ 46 ∷ decimal (v / 2 ^ 16 % 256)) (46 ∷ decimal (v / 2 ^ 8 % 256))
    (all_joined p (decimal (v / 2 ^ 24)) (46 ∷ decimal (v / 2 ^ 16 % 256)) a (after (decimal (v / 2 ^ 16 % 256)) b))
    (after (decimal (v / 2 ^ 8 % 256)) c)) (after (decimal (v % 256)) d)

-- the free bits of a prefix are those in which its ends differ
length_seen : (v len : ℕ) → len ≤ 32 → leading_zeros w32 (v + (2 ^ (32 - len) - 1) - v) ≡ len
length_seen v len h =
    let some = pow_pos (32 - len) in
    let free : v + (2 ^ (32 - len) - 1) - v ≡ 2 ^ (32 - len) - 1 = omega arith in
    rw free (sym (leading_unique 32 (2 ^ (32 - len) - 1) len (32 - len) (omega arith) (omega arith) (omega arith)))

prefix_parts : (v len : ℕ) → v < 2 ^ 32 → parts_at 47 (address_text v ++ 47 ∷ decimal len) ≡ (address_text v, Some (decimal len))
prefix_parts v len h = rw (split_once-joined 47 (address_text v) (decimal len) (address_all (is_other 47) (digit_other 47 (omega arith)) refl v h)) refl

length_read : (len : ℕ) → len ≤ 32 → length_of (Some (decimal len)) ≡ Some len
unfolding length_of
length_read len h = short_number-decimal 2 32 len (omega arith) (omega arith) (omega arith) h

aligned : (v size : ℕ) → v % size ≡ 0 → v / size * size ≡ v
aligned v size h = omega (arith, h)

agreeing_same : (v len : ℕ) → v % 2 ^ (32 - len) ≡ 0 → agreeing v len ≡ record { lo = v; hi = v + (2 ^ (32 - len) - 1) }
agreeing_same v len h = rw (aligned v (2 ^ (32 - len)) h) refl

prefix_read : (v len : ℕ) → v < 2 ^ 32 → len ≤ 32 → v % 2 ^ (32 - len) ≡ 0 → prefix_set (address_text v ++ 47 ∷ decimal len) ≡ Ok (record { lo = v; hi = v + (2 ^ (32 - len) - 1) })
unfolding prefix_set
prefix_read v len h k low = rw (prefix_parts v len h, address_of-text v h, length_read len k) (ap Ok (agreeing_same v len low))

-- the addresses of a prefix
pub prefix_set-text : (p : Prefix) → FitsWidth 32 p → prefix_set (prefix_text (prefix_interval 32 p)) ≡ Ok (prefix_interval 32 p)
prefix_set-text p fits = rw (length_seen p.value p.len fits.len) (prefix_read p.value p.len fits.small fits.len fits.low)

prefix_bytes : (p : Prefix) → FitsWidth 32 p → list_all is_number_byte (prefix_text (prefix_interval 32 p)) ≡ true
prefix_bytes p fits =
    all_joined is_number_byte (address_text p.value) (47 ∷ decimal (leading_zeros w32 (p.value + (2 ^ (32 - p.len) - 1) - p.value)))
    (address_all is_number_byte digit_number refl p.value fits.small)
    (rw (length_seen p.value p.len fits.len) (decimal-all is_number_byte digit_number p.len (let le = fits.len in omega arith)))

-- the length of a span's prefix
abbrev span_len : Span → ℕ
span_len s = leading_zeros w32 (s.hi - s.lo)

record IsSeen (s : Span) : Type 0 where
  small : s.lo < 2 ^ 32
  short : span_len s ≤ 32
  low : s.lo % 2 ^ (32 - span_len s) ≡ 0
  end : s.hi ≡ s.lo + (2 ^ (32 - span_len s) - 1)

IsSeen_prop : (s : Span) → IsProp (IsSeen s)
IsSeen_prop s = hlevel (le_prop, ℕ_set)

seen_by : (s : Span) (p : Prefix) → FitsWidth 32 p → interval_of s ≡ prefix_interval 32 p → IsSeen s
seen_by s p fits same =
    let lo : s.lo ≡ p.value = ap (λ (i : Interval). i.lo) same in
    let hi : s.hi ≡ p.value + (2 ^ (32 - p.len) - 1) = ap (λ (i : Interval). i.hi) same in
    let small = fits.small in
    let short = fits.len in
    let len : span_len s ≡ p.len = rw (lo, hi) (length_seen p.value p.len fits.len) in
    record { small = omega arith; short = omega arith; low = rw (len, lo) fits.low; end = rw (len, lo, hi) refl }

seen : (s : Span) → IsPrefix 32 s → IsSeen s
seen s h = ∥∥₁_elim h (IsSeen_prop s) (λ (p, fits, same). seen_by s p fits same)

-- the addresses of a span are read as they are written, and their text has bytes of numbers alone
pub record ArePrefixTexts (i : Interval) : Type 0 where
  pub read : prefix_set (prefix_text i) ≡ Ok i
  pub bytes : list_all is_number_byte (prefix_text i) ≡ true

pub prefix_texts : (s : Span) → IsPrefix 32 s → ArePrefixTexts (interval_of s)
prefix_texts s h =
    let facts = seen s h in
    let p : Prefix = record { value = s.lo; len = span_len s } in
    let fits : FitsWidth 32 p = record { wide = omega arith; len = facts.short; small = facts.small; low = facts.low } in
    let same : interval_of s ≡ prefix_interval 32 p = ap (λ hi. let i : Interval = record { lo = s.lo; hi = hi } in i) facts.end in
    subst ArePrefixTexts (sym same) (record { read = prefix_set-text p fits; bytes = prefix_bytes p fits })

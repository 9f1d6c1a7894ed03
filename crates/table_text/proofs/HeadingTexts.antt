-- The first line of a table is read as it is written.
use Rattle.std.proofs.Common.{◌≡◌, ◌∷◌, ◌++◌, ℕ, ◌+◌, ◌*◌, ◌/◌, ◌%◌, ◌^◌, ◌<◌, ◌≤◌, List, Bool, true, false, [], ap, refl, sym, ◌∙◌, arith, append_assoc, length, inl, inr, Some, ◌||◌, ◌==◌, codes, decimal}
use Rattle.std.specs.List.{list_all}
use Rattle.std.proofs.Math.Logic.{∥∥₁_elim}
use Rattle.std.proofs.lemmas.Bool.{eqb-true, or_cases}
use Rattle.std.proofs.lemmas.Fmt.{decimal_digit, decimal_step}
use Rattle.std.proofs.Math.Nat.{ℕ_set}
use Rattle.table_text.specs.Headline.Hexadecimal.{bit_number}
use Rattle.ternary_words.specs.Limits.{IsSlotWidth}
use Rattle.ternary_words.specs.Headline.Table.{Table}
use Rattle.table_text.specs.Headline.TableText.{first_line}
use Rattle.table_text.specs.declared.heading.Version.TheVariants.{Columns}
use Rattle.table_text.specs.Heading.{HeadingWords, heading_of, slot_of, words_of}
use Rattle.table_text.proofs.EntryTexts.{front_all}
use Rattle.text_lines.specs.Numbers.{plain_number}
use Rattle.text_lines.proofs.Decimals.{decimal-other, plain_number-decimal}
use Rattle.text_lines.proofs.Joins.{is_other, split_once-joined}

-- the eight words with a space between them
abbrev pub first_text : List ℕ → List ℕ → List ℕ → List ℕ
first_text slot composed entries = codes "table" ++ 32 ∷ (codes "2" ++ 32 ∷ (codes "slot" ++ 32 ∷ (slot ++ 32 ∷ (codes "composed" ++ 32 ∷ (composed ++ 32 ∷ (codes "entries" ++ 32 ∷ entries))))))

abbrev words : List ℕ → List ℕ → List ℕ → HeadingWords
words slot composed entries = record { table = codes "table"; version = codes "2"; slot = codes "slot"; slot_number = slot; composed = codes "composed"; composed_number = composed; entries = codes "entries"; entries_number = entries }

words-cut : (slot composed entries : List ℕ) → list_all (is_other 32) slot ≡ true → list_all (is_other 32) composed ≡ true → words_of (first_text slot composed entries) ≡ Some (words slot composed entries)
unfolding words_of
words-cut slot composed entries hs hc =
    rw (
      split_once-joined 32 (codes "table") (codes "2" ++ 32 ∷ (codes "slot" ++ 32 ∷ (slot ++ 32 ∷ (codes "composed" ++ 32 ∷ (composed ++ 32 ∷ (codes "entries" ++ 32 ∷ entries)))))) refl,
      split_once-joined 32 (codes "2") (codes "slot" ++ 32 ∷ (slot ++ 32 ∷ (codes "composed" ++ 32 ∷ (composed ++ 32 ∷ (codes "entries" ++ 32 ∷ entries))))) refl,
      split_once-joined 32 (codes "slot") (slot ++ 32 ∷ (codes "composed" ++ 32 ∷ (composed ++ 32 ∷ (codes "entries" ++ 32 ∷ entries)))) refl,
      split_once-joined 32 slot (codes "composed" ++ 32 ∷ (composed ++ 32 ∷ (codes "entries" ++ 32 ∷ entries))) hs,
      split_once-joined 32 (codes "composed") (composed ++ 32 ∷ (codes "entries" ++ 32 ∷ entries)) refl,
      split_once-joined 32 composed (codes "entries" ++ 32 ∷ entries) hc,
      split_once-joined 32 (codes "entries") entries refl,
    )
    refl

heading-cut : (slot composed entries : List ℕ) (s c e : ℕ) → words_of (first_text slot composed entries) ≡ Some (words slot composed entries) → slot_of slot ≡ Some s → plain_number 262144 composed ≡ Some c → plain_number 262144 entries ≡ Some e →
    heading_of (first_text slot composed entries) ≡ Some (record { version = Columns; slot = s; composed = c; entries = e })
unfolding heading_of
heading-cut slot composed entries s c e cut hs hc he = rw (cut, hs, hc, he) refl

pub three_digits : (n a b c : ℕ) → n ≡ a * 100 + b * 10 + c → 0 < a → a < 10 → b < 10 → c < 10 → decimal n ≡ (48 + a) ∷ (48 + b) ∷ (48 + c) ∷ []
three_digits n a b c e some ha hb hc =
    let tens : n / 10 ≡ a * 10 + b = omega arith in
    let last : n % 10 ≡ c = omega arith in
    let front : (a * 10 + b) / 10 ≡ a = omega arith in
    let middle : (a * 10 + b) % 10 ≡ b = omega arith in
    decimal_step n (omega arith) (omega arith)
    ∙ ap (λ k. decimal k ++ (48 + n % 10) ∷ []) tens ∙ ap (λ k. decimal (a * 10 + b) ++ (48 + k) ∷ []) last
    ∙ ap (λ t. t ++ (48 + c) ∷ []) (decimal_step (a * 10 + b) (omega arith) (omega arith) ∙ ap (λ k. decimal k ++ (48 + (a * 10 + b) % 10) ∷ []) front ∙ ap (λ k. decimal a ++ (48 + k) ∷ []) middle ∙ ap (λ t. t ++ (48 + b) ∷ []) (decimal_digit a ha))

pub width_is : (slot : ℕ) → IsSlotWidth slot → slot_of (decimal slot) ≡ Some slot
width_is slot (inl e) = ap (λ n. slot_of (decimal n)) e ∙ ap slot_of (three_digits 104 1 0 4 refl (omega arith) (omega arith) (omega arith) (omega arith)) ∙ ap (λ n. Some n) (sym e)
width_is slot (inr (inl e)) = ap (λ n. slot_of (decimal n)) e ∙ ap slot_of (three_digits 144 1 4 4 refl (omega arith) (omega arith) (omega arith) (omega arith)) ∙ ap (λ n. Some n) (sym e)
width_is slot (inr (inr e)) = ap (λ n. slot_of (decimal n)) e ∙ ap slot_of (three_digits 288 2 8 8 refl (omega arith) (omega arith) (omega arith) (omega arith)) ∙ ap (λ n. Some n) (sym e)

-- 104, 144 or 288, as a test
abbrev is_width : ℕ → Bool
is_width slot = slot == 104 || slot == 144 || slot == 288

test_width : (slot : ℕ) → IsSlotWidth slot → is_width slot ≡ true
test_width slot (inl e) = rw e refl
test_width slot (inr (inl e)) = rw e refl
test_width slot (inr (inr e)) = rw e refl

test_prop : (b : Bool) → IsProp (bit_number b ≡ 1)
test_prop b = hlevel ℕ_set

test_true : (b : Bool) → bit_number b ≡ 1 → b ≡ true
test_true true h = refl
test_true false h = absurd (omega (arith, h))

tested : (slot : ℕ) → is_width slot ≡ true → IsSlotWidth slot
tested slot h =
    elim (or_cases (slot == 104 || slot == 144) (slot == 288) h) [
      | inl front ↦ elim (or_cases (slot == 104) (slot == 144) front) [ inl a ↦ inl (eqb-true slot 104 a) | inr b ↦ inr (inl (eqb-true slot 144 b)) ]
      | inr c ↦ inr (inr (eqb-true slot 288 c))
    ]

pub width_of : (slot : ℕ) → ∥ IsSlotWidth slot ∥₁ → IsSlotWidth slot
width_of slot h = tested slot (test_true (is_width slot) (∥∥₁_elim h (test_prop (is_width slot)) (λ w. ap bit_number (test_width slot w))))

pub small_width : (slot : ℕ) → IsSlotWidth slot → slot < 2 ^ 64
small_width slot (inl e) = omega arith
small_width slot (inr (inl e)) = omega arith
small_width slot (inr (inr e)) = omega arith

-- the first line, with a slot of one of the widths
pub heading-read : (slot composed entries : ℕ) → ∥ IsSlotWidth slot ∥₁ → composed ≤ 262144 → entries ≤ 262144 →
    heading_of (first_text (decimal slot) (decimal composed) (decimal entries)) ≡ Some (record { version = Columns; slot = slot; composed = composed; entries = entries })
heading-read slot composed entries h hc he =
    let is = width_of slot h in
    heading-cut (decimal slot) (decimal composed) (decimal entries) slot composed entries
    (words-cut (decimal slot) (decimal composed) (decimal entries) (decimal-other 32 slot (omega arith) (small_width slot is)) (decimal-other 32 composed (omega arith) (omega arith)))
    (width_is slot is) (plain_number-decimal 262144 composed (omega arith) hc) (plain_number-decimal 262144 entries (omega arith) he)

in_words : (slot composed entries rest : List ℕ) →
    codes "table 2 slot " ++ slot ++ codes " composed " ++ composed ++ codes " entries " ++ entries ++ 10 ∷ [] ++ rest ≡ first_text slot composed entries ++ 10 ∷ rest
in_words slot composed entries rest = simp append_assoc

-- the first line as it is written
pub heading-written : (t : Table) (rest : List ℕ) → first_line t ++ rest ≡ first_text (decimal t.slot) (decimal t.composed) (decimal (length t.entries)) ++ 10 ∷ rest
heading-written t rest = in_words (decimal t.slot) (decimal t.composed) (decimal (length t.entries)) rest

-- no byte of the first line ends it
pub heading-line : (slot composed entries : ℕ) → ∥ IsSlotWidth slot ∥₁ → composed < 2 ^ 64 → entries < 2 ^ 64 → list_all (is_other 10) (first_text (decimal slot) (decimal composed) (decimal entries)) ≡ true
heading-line slot composed entries h hc he =
    let hs = small_width slot (width_of slot h) in
    front_all (is_other 10) (decimal slot) (codes "composed" ++ 32 ∷ (decimal composed ++ 32 ∷ (codes "entries" ++ 32 ∷ decimal entries))) (decimal-other 10 slot (omega arith) hs) refl
    (front_all (is_other 10) (decimal composed) (codes "entries" ++ 32 ∷ decimal entries) (decimal-other 10 composed (omega arith) hc) refl (decimal-other 10 entries (omega arith) he))

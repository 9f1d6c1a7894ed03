-- The first line of a memory's text or of a plan's is read as it is written.
use Rattle.std.proofs.Common.{◌≡◌, ◌∷◌, ◌++◌, ℕ, ◌^◌, ◌<◌, ◌≤◌, List, true, [], refl, arith, append_assoc, Some, codes, decimal}
use Rattle.std.specs.List.{list_all}
use Rattle.std.proofs.lemmas.Bool.{ne_eqb}
use Rattle.ternary_words.specs.Limits.{IsSlotWidth}
use Rattle.text_lines.specs.Numbers.{plain_number}
use Rattle.text_lines.proofs.Decimals.{decimal-other, plain_number-decimal}
use Rattle.text_lines.proofs.Joins.{is_other, split_once-joined}
use Rattle.table_text.specs.Heading.{HeadingWords, slot_of, words_of}
use Rattle.table_text.proofs.EntryTexts.{front_all}
use Rattle.table_text.proofs.HeadingTexts.{small_width, width_is, width_of}
use Rattle.memory_text.specs.declared.kind.TextKind.{TextKind}
use Rattle.memory_text.specs.declared.kind.TextKind.TheVariants as kinds
use Rattle.memory_text.specs.Heading.{heading_of, most_lines, number_from_one}
use Rattle.memory_text.specs.MemoryText.{first_line, kind_word, lines_word}

-- the eight words with a space between them
abbrev pub first_text : TextKind → List ℕ → List ℕ → List ℕ → List ℕ
first_text kind slots width lines = kind_word kind ++ 32 ∷ (codes "1" ++ 32 ∷ (codes "slots" ++ 32 ∷ (slots ++ 32 ∷ (codes "width" ++ 32 ∷ (width ++ 32 ∷ (lines_word kind ++ 32 ∷ lines))))))

abbrev words : TextKind → List ℕ → List ℕ → List ℕ → HeadingWords
words kind slots width lines = record { table = kind_word kind; version = codes "1"; slot = codes "slots"; slot_number = slots; composed = codes "width"; composed_number = width; entries = lines_word kind; entries_number = lines }

-- neither a space nor the end of a line
abbrev IsPlain : List ℕ → Type 0
IsPlain text = (list_all (is_other 32) text ≡ true) × (list_all (is_other 10) text ≡ true)

plain : (kind : TextKind) → IsPlain (kind_word kind) × IsPlain (lines_word kind)
plain kinds.Memory = ((refl, refl), (refl, refl))
plain kinds.Plan = ((refl, refl), (refl, refl))

words-cut : (kind : TextKind) (slots width lines : List ℕ) → list_all (is_other 32) slots ≡ true → list_all (is_other 32) width ≡ true → words_of (first_text kind slots width lines) ≡ Some (words kind slots width lines)
unfolding words_of
words-cut kind slots width lines hs hw =
    rw (
      split_once-joined 32 (kind_word kind) (codes "1" ++ 32 ∷ (codes "slots" ++ 32 ∷ (slots ++ 32 ∷ (codes "width" ++ 32 ∷ (width ++ 32 ∷ (lines_word kind ++ 32 ∷ lines)))))) (plain kind).0.0,
      split_once-joined 32 (codes "1") (codes "slots" ++ 32 ∷ (slots ++ 32 ∷ (codes "width" ++ 32 ∷ (width ++ 32 ∷ (lines_word kind ++ 32 ∷ lines))))) refl,
      split_once-joined 32 (codes "slots") (slots ++ 32 ∷ (codes "width" ++ 32 ∷ (width ++ 32 ∷ (lines_word kind ++ 32 ∷ lines)))) refl,
      split_once-joined 32 slots (codes "width" ++ 32 ∷ (width ++ 32 ∷ (lines_word kind ++ 32 ∷ lines))) hs,
      split_once-joined 32 (codes "width") (width ++ 32 ∷ (lines_word kind ++ 32 ∷ lines)) refl,
      split_once-joined 32 width (lines_word kind ++ 32 ∷ lines) hw,
      split_once-joined 32 (lines_word kind) lines (plain kind).1.0,
    )
    refl

heading-cut : (kind : TextKind) (slots width lines : List ℕ) (s w l : ℕ) → words_of (first_text kind slots width lines) ≡ Some (words kind slots width lines) → number_from_one 262144 slots ≡ Some s → slot_of width ≡ Some w →
    plain_number (most_lines kind s) lines ≡ Some l → heading_of kind (first_text kind slots width lines) ≡ Some (record { slots = s; width = w; lines = l })
unfolding heading_of
heading-cut kinds.Memory slots width lines s w l cut hs hw hl = rw (cut, hs, hw, hl) refl
heading-cut kinds.Plan slots width lines s w l cut hs hw hl = rw (cut, hs, hw, hl) refl

-- a number from 1 on
pub from_one : (greatest n : ℕ) → n < 2 ^ 64 → 0 < n → n ≤ greatest → number_from_one greatest (decimal n) ≡ Some n
unfolding number_from_one
from_one greatest n small some le = rw (plain_number-decimal greatest n small le, ne_eqb n 0 (λ e. omega (arith, e, some))) refl

-- the first line, with slots of one of the widths
pub heading-read : (kind : TextKind) (slots width lines : ℕ) → 0 < slots → slots ≤ 262144 → ∥ IsSlotWidth width ∥₁ → lines < 2 ^ 64 → lines ≤ most_lines kind slots →
    heading_of kind (first_text kind (decimal slots) (decimal width) (decimal lines)) ≡ Some (record { slots = slots; width = width; lines = lines })
heading-read kind slots width lines some few h small le =
    let is = width_of width h in
    heading-cut kind (decimal slots) (decimal width) (decimal lines) slots width lines
    (words-cut kind (decimal slots) (decimal width) (decimal lines) (decimal-other 32 slots (omega arith) (omega (arith, few))) (decimal-other 32 width (omega arith) (small_width width is)))
    (from_one 262144 slots (omega (arith, few)) some few) (width_is width is) (plain_number-decimal (most_lines kind slots) lines small le)

in_words : (kind : TextKind) (slots width lines rest : List ℕ) →
    kind_word kind ++ codes " 1 slots " ++ slots ++ codes " width " ++ width ++ codes " " ++ lines_word kind ++ codes " " ++ lines ++ 10 ∷ [] ++ rest ≡ first_text kind slots width lines ++ 10 ∷ rest
in_words kind slots width lines rest = simp append_assoc

-- the first line as it is written
pub heading-written : (kind : TextKind) (slots width lines : ℕ) (rest : List ℕ) → first_line kind slots width lines ++ rest ≡ first_text kind (decimal slots) (decimal width) (decimal lines) ++ 10 ∷ rest
heading-written kind slots width lines rest = in_words kind (decimal slots) (decimal width) (decimal lines) rest

-- no byte of the first line ends it
pub heading-line : (kind : TextKind) (slots width lines : ℕ) → slots ≤ 262144 → ∥ IsSlotWidth width ∥₁ → lines < 2 ^ 64 → list_all (is_other 10) (first_text kind (decimal slots) (decimal width) (decimal lines)) ≡ true
heading-line kind slots width lines few h small =
    let p = is_other 10 in
    let end = front_all p (lines_word kind) (decimal lines) (plain kind).1.1 refl (decimal-other 10 lines (omega arith) small) in
    let middle = front_all p (decimal width) (lines_word kind ++ 32 ∷ decimal lines) (decimal-other 10 width (omega arith) (small_width width (width_of width h))) refl end in
    let wide = front_all p (codes "width") (decimal width ++ 32 ∷ (lines_word kind ++ 32 ∷ decimal lines)) refl refl middle in
    let many = front_all p (decimal slots) (codes "width" ++ 32 ∷ (decimal width ++ 32 ∷ (lines_word kind ++ 32 ∷ decimal lines))) (decimal-other 10 slots (omega arith) (omega (arith, few))) refl wide in
    let named = front_all p (codes "slots") (decimal slots ++ 32 ∷ (codes "width" ++ 32 ∷ (decimal width ++ 32 ∷ (lines_word kind ++ 32 ∷ decimal lines)))) refl refl many in
    let version = front_all p (codes "1") (codes "slots" ++ 32 ∷ (decimal slots ++ 32 ∷ (codes "width" ++ 32 ∷ (decimal width ++ 32 ∷ (lines_word kind ++ 32 ∷ decimal lines))))) refl refl named in
    front_all p (kind_word kind) (codes "1" ++ 32 ∷ (codes "slots" ++ 32 ∷ (decimal slots ++ 32 ∷ (codes "width" ++ 32 ∷ (decimal width ++ 32 ∷ (lines_word kind ++ 32 ∷ decimal lines)))))) (plain kind).0.1 refl version

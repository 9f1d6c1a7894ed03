-- The line of an entry is read as it is written.
use Rattle.std.proofs.Common.{◌≡◌, ◌∷◌, ◌++◌, ℕ, ◌*◌, ◌/◌, ◌%◌, ◌^◌, List, Bool, true, [], ap, refl, sym, ◌∙◌, arith, append_assoc, Some, Option, Ok, ◌&&◌, bit_and}
use Rattle.std.specs.List.{list_all}
use Rattle.std.proofs.lemmas.Bool.{and_from, eq-eqb}
use Rattle.field_boxes.specs.Headline.Bits.{bits}
use Rattle.field_boxes.specs.Headline.Fields.{stated}
use Rattle.field_boxes.specs.Headline.Names.{text_of}
use Rattle.ternary_words.specs.declared.word.Word as code_word
use Rattle.table_text.specs.Headline.Hexadecimal.{hex_digits}
use Rattle.table_text.specs.Headline.TableText.{columns_text}
use Rattle.ternary_words.specs.Views.{word_of}
use Rattle.table_text.proofs.ColumnTexts.{column_of, columns-wide, hex_of, hex-number}
use Rattle.ternary_words.proofs.Parted.{part_within, word-parts}
use Rattle.table_text.specs.Columns.{Fields, LineColumns, Masked, are_within, columns_of, fields_of, is_within, masked_of}
use Rattle.table_text.specs.Names.{decided, is_decision}
use Rattle.table_text.specs.Reading.{columns_entry}
use Rattle.table_text.proofs.Cuts.{whole_line}
use Rattle.table_text.proofs.HexTexts.{hex_all, masked-read}
use Rattle.text_lines.proofs.Joins.{all_joined, is_other, split_once-joined}
use Rattle.table_text.proofs.SpelledLines.{columns-is, decided-ok}

-- five columns, and then what stands behind them
abbrev pub before : List ℕ → List ℕ → List ℕ → List ℕ → List ℕ → List ℕ → List ℕ
before a b c d e rest = a ++ 32 ∷ (b ++ 32 ∷ (c ++ 32 ∷ (d ++ 32 ∷ (e ++ 32 ∷ rest))))

columns-cut : (a b c d e rest : List ℕ) → list_all (is_other 32) a ≡ true → list_all (is_other 32) b ≡ true → list_all (is_other 32) c ≡ true → list_all (is_other 32) d ≡ true → list_all (is_other 32) e ≡ true →
    columns_of (before a b c d e rest) ≡ Some (record { source = a; destination = b; source_port = c; destination_port = d; protocol = e; decision = Some rest })
unfolding columns_of
columns-cut a b c d e rest ha hb hc hd he =
    rw (split_once-joined 32 a (b ++ 32 ∷ (c ++ 32 ∷ (d ++ 32 ∷ (e ++ 32 ∷ rest)))) ha, split_once-joined 32 b (c ++ 32 ∷ (d ++ 32 ∷ (e ++ 32 ∷ rest))) hb, split_once-joined 32 c (d ++ 32 ∷ (e ++ 32 ∷ rest)) hc, split_once-joined 32 d (e ++ 32 ∷ rest) hd, split_once-joined 32 e rest he)
    refl

fields-read : (columns : LineColumns) (a b c d e : Masked) → masked_of 8 4294967295 columns.source ≡ Some a → masked_of 8 4294967295 columns.destination ≡ Some b → masked_of 4 65535 columns.source_port ≡ Some c → masked_of 4 65535 columns.destination_port ≡ Some d → masked_of 2 255 columns.protocol ≡ Some e →
    fields_of columns ≡ Some (record { source = a; destination = b; source_port = c; destination_port = d; protocol = e })
unfolding fields_of
fields-read columns a b c d e ha hb hc hd he = rw (ha, hb, hc, hd, he) refl

-- a column as it is written
abbrev pub column : ℕ → ℕ → ℕ → List ℕ
column k v m = hex_of k v ++ 47 ∷ hex_of k m

pub column-all : (p : ℕ → Bool) (k v m : ℕ) → ((n : ℕ) → list_all p (hex_of k n) ≡ true) → p 47 ≡ true → list_all p (column k v m) ≡ true
column-all p k v m hex slash = all_joined p (hex_of k v) (47 ∷ hex_of k m) (hex v) (and_from (p 47) (list_all p (hex_of k m)) slash (hex m))

-- the columns of a word
abbrev pub columns : ℕ → ℕ → List ℕ → List ℕ
columns v m rest = before (column 8 (v / 2 ^ 72) (m / 2 ^ 72)) (column 8 (v / 2 ^ 40) (m / 2 ^ 40)) (column 4 (v / 2 ^ 24) (m / 2 ^ 24)) (column 4 (v / 2 ^ 8) (m / 2 ^ 8)) (column 2 (v / 2 ^ 0) (m / 2 ^ 0)) rest

-- the fields that they spell
abbrev pub masked : ℕ → ℕ → ℕ → ℕ → Masked
masked n w v m = record { value = v / 2 ^ n % 2 ^ w; mask = m / 2 ^ n % 2 ^ w }

abbrev pub fields : ℕ → ℕ → Fields
fields v m = record { source = masked 72 32 v m; destination = masked 40 32 v m; source_port = masked 24 16 v m; destination_port = masked 8 16 v m; protocol = masked 0 8 v m }

within-masked : (n w v m : ℕ) → bit_and v m ≡ v → is_within (masked n w v m) ≡ true
within-masked n w v m e = eq-eqb (bit_and (v / 2 ^ n % 2 ^ w) (m / 2 ^ n % 2 ^ w)) (v / 2 ^ n % 2 ^ w) (part_within n w v m e)

pub five_true : (a b c d e : Bool) → a ≡ true → b ≡ true → c ≡ true → d ≡ true → e ≡ true → a && b && c && d && e ≡ true
five_true a b c d e ha hb hc hd he = rw (ha, hb, hc, hd, he) refl

within-fields : (v m : ℕ) → bit_and v m ≡ v → are_within (fields v m) ≡ true
within-fields v m e =
    five_true (is_within (masked 72 32 v m)) (is_within (masked 40 32 v m)) (is_within (masked 24 16 v m)) (is_within (masked 8 16 v m)) (is_within (masked 0 8 v m))
    (within-masked 72 32 v m e) (within-masked 40 32 v m e) (within-masked 24 16 v m e) (within-masked 8 16 v m e) (within-masked 0 8 v m e)

abbrev line_columns : ℕ → ℕ → List ℕ → LineColumns
line_columns v m rest = record {
  source = column 8 (v / 2 ^ 72) (m / 2 ^ 72);
  destination = column 8 (v / 2 ^ 40) (m / 2 ^ 40);
  source_port = column 4 (v / 2 ^ 24) (m / 2 ^ 24);
  destination_port = column 4 (v / 2 ^ 8) (m / 2 ^ 8);
  protocol = column 2 (v / 2 ^ 0) (m / 2 ^ 0);
  decision = Some rest;
}

no_space : (k v m : ℕ) → list_all (is_other 32) (column k v m) ≡ true
no_space k v m = column-all (is_other 32) k v m (hex_all (is_other 32) refl k) refl

pub columns-read : (v m : ℕ) (rest : List ℕ) → columns_of (columns v m rest) ≡ Some (line_columns v m rest)
columns-read v m rest =
    columns-cut (column 8 (v / 2 ^ 72) (m / 2 ^ 72)) (column 8 (v / 2 ^ 40) (m / 2 ^ 40)) (column 4 (v / 2 ^ 24) (m / 2 ^ 24)) (column 4 (v / 2 ^ 8) (m / 2 ^ 8)) (column 2 (v / 2 ^ 0) (m / 2 ^ 0)) rest
    (no_space 8 (v / 2 ^ 72) (m / 2 ^ 72)) (no_space 8 (v / 2 ^ 40) (m / 2 ^ 40)) (no_space 4 (v / 2 ^ 24) (m / 2 ^ 24)) (no_space 4 (v / 2 ^ 8) (m / 2 ^ 8)) (no_space 2 (v / 2 ^ 0) (m / 2 ^ 0))

fields-spelled : (v m : ℕ) (rest : List ℕ) → fields_of (line_columns v m rest) ≡ Some (fields v m)
fields-spelled v m rest =
    fields-read (line_columns v m rest) (masked 72 32 v m) (masked 40 32 v m) (masked 24 16 v m) (masked 8 16 v m) (masked 0 8 v m)
    (masked-read 8 4294967295 (v / 2 ^ 72) (m / 2 ^ 72) (omega arith) refl) (masked-read 8 4294967295 (v / 2 ^ 40) (m / 2 ^ 40) (omega arith) refl)
    (masked-read 4 65535 (v / 2 ^ 24) (m / 2 ^ 24) (omega arith) refl) (masked-read 4 65535 (v / 2 ^ 8) (m / 2 ^ 8) (omega arith) refl) (masked-read 2 255 (v / 2 ^ 0) (m / 2 ^ 0) (omega arith) refl)

-- a name that can be spelled, or none
pub record IsSpelled (name : Option (List ℕ)) : Type 0 where
  pub decision : is_decision (text_of name) ≡ true
  pub same : decided (text_of name) ≡ name
  pub line : list_all (is_other 10) (text_of name) ≡ true

-- the line of a word and a name
pub entry-read : (w : code_word.Word) (name : Option (List ℕ)) → IsSpelled name → columns_entry (whole_line (columns w.value w.mask (text_of name)) true) ≡ Ok (record { word = word_of w; decision = name })
entry-read w name spelled =
    let v = w.value in
    let m = w.mask in
    let text = text_of name in
    columns-is (whole_line (columns v m text) true) (line_columns v m text) (fields v m) (word_of w) (sym (columns-read v m text)) (sym (fields-spelled v m text)) (within-fields v m w.masked) (word-parts m v)
    ∙ decided-ok true (word_of w) (Some text) text text refl refl refl spelled.decision
    ∙ ap (λ (d : Option (List ℕ)). Ok (record { word = word_of w; decision = d })) spelled.same

pub behind : (a b c d e rest : List ℕ) → before a b c d e [] ++ rest ≡ before a b c d e rest
behind a b c d e rest = simp append_assoc

pub column-hex : (k v m : ℕ) → column_of (4 * k) v m ≡ column k v m
column-hex k v m = ap (λ t. t ++ 47 ∷ hex_digits (bits (4 * k) m)) (hex-number k v) ∙ ap (λ t. hex_of k v ++ 47 ∷ t) (hex-number k m)

five_columns : (a b c d e a' b' c' d' e' : List ℕ) → a ≡ a' → b ≡ b' → c ≡ c' → d ≡ d' → e ≡ e' → before a b c d e [] ≡ before a' b' c' d' e' []
five_columns a b c d e a' b' c' d' e' ha hb hc hd he = rw (ha, hb, hc, hd, he) refl

-- the columns that are written are these
pub columns-written : (w : code_word.Word) (rest : List ℕ) → columns_text stated (word_of w) ++ rest ≡ columns w.value w.mask rest
columns-written w rest =
    let v = w.value in
    let m = w.mask in
    ap (λ t. t ++ rest) (columns-wide 32 32 16 16 8 m v refl refl refl refl refl w.masked
    ∙ five_columns _ _ _ _ _ _ _ _ _ _ (column-hex 8 (v / 2 ^ 72) (m / 2 ^ 72)) (column-hex 8 (v / 2 ^ 40) (m / 2 ^ 40)) (column-hex 4 (v / 2 ^ 24) (m / 2 ^ 24)) (column-hex 4 (v / 2 ^ 8) (m / 2 ^ 8)) (column-hex 2 (v / 2 ^ 0) (m / 2 ^ 0)))
    ∙ behind (column 8 (v / 2 ^ 72) (m / 2 ^ 72)) (column 8 (v / 2 ^ 40) (m / 2 ^ 40)) (column 4 (v / 2 ^ 24) (m / 2 ^ 24)) (column 4 (v / 2 ^ 8) (m / 2 ^ 8)) (column 2 (v / 2 ^ 0) (m / 2 ^ 0)) rest

no_line : (k v m : ℕ) → list_all (is_other 10) (column k v m) ≡ true
no_line k v m = column-all (is_other 10) k v m (hex_all (is_other 10) refl k) refl

pub front_all : (p : ℕ → Bool) (a rest : List ℕ) → list_all p a ≡ true → p 32 ≡ true → list_all p rest ≡ true → list_all p (a ++ 32 ∷ rest) ≡ true
front_all p a rest ha space h = all_joined p a (32 ∷ rest) ha (and_from (p 32) (list_all p rest) space h)

before-all : (p : ℕ → Bool) (a b c d e rest : List ℕ) → p 32 ≡ true → list_all p a ≡ true → list_all p b ≡ true → list_all p c ≡ true → list_all p d ≡ true → list_all p e ≡ true → list_all p rest ≡ true → list_all p (before a b c d e rest) ≡ true
before-all p a b c d e rest space ha hb hc hd he h =
    front_all p a (b ++ 32 ∷ (c ++ 32 ∷ (d ++ 32 ∷ (e ++ 32 ∷ rest)))) ha space (front_all p b (c ++ 32 ∷ (d ++ 32 ∷ (e ++ 32 ∷ rest))) hb space
    (front_all p c (d ++ 32 ∷ (e ++ 32 ∷ rest)) hc space (front_all p d (e ++ 32 ∷ rest) hd space (front_all p e rest he space h))))

-- no byte of the line ends it
pub columns-line : (v m : ℕ) (rest : List ℕ) → list_all (is_other 10) rest ≡ true → list_all (is_other 10) (columns v m rest) ≡ true
columns-line v m rest h =
    before-all (is_other 10) (column 8 (v / 2 ^ 72) (m / 2 ^ 72)) (column 8 (v / 2 ^ 40) (m / 2 ^ 40)) (column 4 (v / 2 ^ 24) (m / 2 ^ 24)) (column 4 (v / 2 ^ 8) (m / 2 ^ 8)) (column 2 (v / 2 ^ 0) (m / 2 ^ 0)) rest refl
    (no_line 8 (v / 2 ^ 72) (m / 2 ^ 72)) (no_line 8 (v / 2 ^ 40) (m / 2 ^ 40)) (no_line 4 (v / 2 ^ 24) (m / 2 ^ 24)) (no_line 4 (v / 2 ^ 8) (m / 2 ^ 8)) (no_line 2 (v / 2 ^ 0) (m / 2 ^ 0)) h

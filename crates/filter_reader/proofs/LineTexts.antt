-- A rule line is read as it is written.
use Rattle.std.proofs.Common.{◌≡◌, ◌∷◌, ◌++◌, ℕ, ◌+◌, ◌^◌, ◌<◌, ◌≤◌, List, true, false, [], ap, refl, ◌∙◌, arith, append_assoc, length, length-append, None, Option, not, Ok, codes, ◌==◌, decimal}
use Rattle.std.specs.List.{list_all}
use Rattle.std.proofs.lemmas.Bool.{and_parts, and_from, or_parts, not-true}
use Rattle.field_boxes.specs.Headline.Classifier.{Interval}
use Rattle.filter_reader.specs.Headline.Columns.{behind_at, source_column, destination_column, port_column, protocol_column}
use Rattle.text_lines.specs.Headline.Lines.{is_blank}
use Rattle.text_lines.proofs.Decimals.{decimal-all, is_digit, digit_number, is_number_byte}
use Rattle.text_lines.proofs.Joins.{all_joined, all_wider}
use Rattle.filter_reader.specs.ListText.{prefix_text, range_text, ports_text, protocol_text, columns_text}
use Rattle.field_boxes.specs.Protocols.{is_protocol}
use Rattle.filter_reader.specs.Ranges.{behind_comma}
use Rattle.filter_reader.specs.Headline.RuleLine.{rule_of_tokens}
use Rattle.filter_reader.specs.Headline.Tokens.{tokens, goes_on, is_mark}
use Rattle.field_boxes.specs.Unions.{RiseApart}
use Rattle.filter_reader.proofs.AddressTexts.{ArePrefixTexts}
use Rattle.filter_reader.proofs.Bytes.{is_line_byte, number_line, number_plain}
use Rattle.filter_reader.proofs.PortTexts.{ports_of-same, ranges_of-text, range_tokens, digit_plain}
use Rattle.filter_reader.proofs.ProtocolTexts.{masked_as, protocol_line, protocol_plain, protocol_some}
use Rattle.filter_reader.proofs.Spelling.{is_plain, tokens-word, tokens-text}
use Rattle.filter_reader.proofs.TailTexts.{IsTail}

-- one to sixteen ranges of ports that rise with gaps
pub record ArePortSets (set : List Interval) : Type 0 where
  pub some : 1 ≤ length set
  pub few : length set ≤ 16
  pub rise : RiseApart 0 65535 set

-- the sets of a rule that a list can spell
pub record CanSpell (s d : Interval) (sp dp : List Interval) (p : Interval) : Type 0 where
  pub source : ArePrefixTexts s
  pub destination : ArePrefixTexts d
  pub source_ports : ArePortSets sp
  pub destination_ports : ArePortSets dp
  pub protocol : is_protocol p ≡ true

-- a word isn't the token ','
no_comma : (word : List ℕ) (ts : List (List ℕ)) → list_all is_plain word ≡ true → behind_comma (word ∷ ts) ≡ None
no_comma [] ts h = refl
no_comma (b ∷ word) ts h =
    let plain = and_parts (not (is_blank b)) (not (is_mark b)) (and_parts (is_plain b) (list_all is_plain word) h).0 in
    let other = or_parts (b == 58) (b == 44) (not-true (is_mark b) plain.1) in
    rw other.1 refl

-- a column of ports isn't the token ','
no_comma_ports : (low : ℕ) (set : List Interval) (rest : List ℕ) → 1 ≤ length set → RiseApart low 65535 set → goes_on rest ≡ false → behind_comma (tokens (ports_text set ++ rest)) ≡ None
no_comma_ports low [] rest some rise e = absurd (omega arith)
no_comma_ports low (i ∷ []) rest some rise e =
    let order = rise.1 in
    let within = rise.2 in
    ap behind_comma (range_tokens i rest (omega arith) (omega arith) e) ∙ no_comma (decimal i.lo) ((58 ∷ []) ∷ decimal i.hi ∷ tokens rest) (decimal-all is_plain digit_plain i.lo (omega arith))
no_comma_ports low (i ∷ j ∷ set) rest some rise e =
    let order = rise.1 in
    let within = rise.2 in
    let more = 44 ∷ ports_text (j ∷ set) ++ rest in
    ap (λ (text : List ℕ). behind_comma (tokens text)) (append_assoc (range_text i) (44 ∷ ports_text (j ∷ set)) rest)
    ∙ ap behind_comma (range_tokens i more (omega arith) (omega arith) refl) ∙ no_comma (decimal i.lo) ((58 ∷ []) ∷ decimal i.hi ∷ tokens more) (decimal-all is_plain digit_plain i.lo (omega arith))

source_read : (i : Interval) (ts : List (List ℕ)) → ArePrefixTexts i → source_column ((64 ∷ prefix_text i) ∷ ts) ≡ Ok (i, ts)
unfolding source_column behind_at
source_read i ts h = rw h.read refl

destination_read : (i : Interval) (ts : List (List ℕ)) → ArePrefixTexts i → destination_column (prefix_text i ∷ ts) ≡ Ok (i, ts)
unfolding destination_column
destination_read i ts h = rw h.read refl

ports_read : (set : List Interval) (rest : List ℕ) → ArePortSets set → behind_comma (tokens rest) ≡ None → port_column (tokens (ports_text set ++ 9 ∷ rest)) ≡ Ok (set, tokens rest)
unfolding port_column
ports_read [] rest h none = absurd (let some = h.some in omega arith)
ports_read (i ∷ set) rest h none = rw (ranges_of-text 0 i set (9 ∷ rest) h.rise refl none, ports_of-same (i ∷ set) h.few h.rise) refl

protocol_read : (i : Interval) (ts : List (List ℕ)) → is_protocol i ≡ true → protocol_column (protocol_text i ∷ ts) ≡ Ok (i, ts)
unfolding protocol_column
protocol_read i ts h = let masked = masked_as i h in rw (masked.1.0, masked.1.1) refl

-- the texts of a rule's columns and what stands behind them, from the back
abbrev from_protocol : Interval → List ℕ → List ℕ
from_protocol p tail = protocol_text p ++ tail

abbrev from_ports : List Interval → Interval → List ℕ → List ℕ
from_ports dp p tail = ports_text dp ++ 9 ∷ from_protocol p tail

abbrev from_source_ports : List Interval → List Interval → Interval → List ℕ → List ℕ
from_source_ports sp dp p tail = ports_text sp ++ 9 ∷ from_ports dp p tail

abbrev from_destination : Interval → List Interval → List Interval → Interval → List ℕ → List ℕ
from_destination d sp dp p tail = prefix_text d ++ 9 ∷ from_source_ports sp dp p tail

regroup : (a b c d e tail : List ℕ) → 64 ∷ a ++ 9 ∷ b ++ 9 ∷ c ++ 9 ∷ d ++ 9 ∷ e ++ tail ≡ 64 ∷ (a ++ 9 ∷ (b ++ 9 ∷ (c ++ 9 ∷ (d ++ 9 ∷ (e ++ tail)))))
regroup a b c d e tail = simp append_assoc

prefix_some : (i : Interval) → 0 < length (prefix_text i)
prefix_some i = simp length-append (omega arith)

-- the sets of the five fields
abbrev pub five : Interval → Interval → List Interval → List Interval → Interval → List (List Interval)
five s d sp dp p = (s ∷ []) ∷ (d ∷ []) ∷ sp ∷ dp ∷ (p ∷ []) ∷ []

columns_read : (s d : Interval) (sp dp : List Interval) (p : Interval) (tail : List ℕ) (word : Option (List ℕ)) → CanSpell s d sp dp p → IsTail tail word →
    rule_of_tokens ((64 ∷ prefix_text s) ∷ prefix_text d ∷ tokens (from_source_ports sp dp p tail)) ≡ Ok (record { sets = five s d sp dp p; word = word; flagged = false })
unfolding rule_of_tokens
columns_read s d sp dp p tail word h t =
    rw (
      source_read s (prefix_text d ∷ tokens (from_source_ports sp dp p tail)) h.source,
      destination_read d (tokens (from_source_ports sp dp p tail)) h.destination,
      ports_read sp (from_ports dp p tail) h.source_ports (no_comma_ports 0 dp (9 ∷ from_protocol p tail) h.destination_ports.some h.destination_ports.rise refl),
      ports_read dp (from_protocol p tail) h.destination_ports (ap behind_comma (tokens-text (protocol_text p) tail (protocol_some p h.protocol) (protocol_plain p h.protocol) t.ends) ∙ no_comma (protocol_text p) (tokens tail) (protocol_plain p h.protocol)),
      tokens-text (protocol_text p) tail (protocol_some p h.protocol) (protocol_plain p h.protocol) t.ends,
      protocol_read p (tokens tail) h.protocol,
      t.flags,
      t.decision,
    ) refl

-- the rule of a line
pub rule_of_tokens-text : (s d : Interval) (sp dp : List Interval) (p : Interval) (tail : List ℕ) (word : Option (List ℕ)) → CanSpell s d sp dp p → IsTail tail word →
    rule_of_tokens (tokens (columns_text (five s d sp dp p) ++ tail)) ≡ Ok (record { sets = five s d sp dp p; word = word; flagged = false })
rule_of_tokens-text s d sp dp p tail word h t =
    ap (λ (text : List ℕ). rule_of_tokens (tokens text)) (regroup (prefix_text s) (prefix_text d) (ports_text sp) (ports_text dp) (protocol_text p) tail)
    ∙ ap rule_of_tokens (tokens-word 64 (prefix_text s) (9 ∷ from_destination d sp dp p tail) (and_from (is_plain 64) (list_all is_plain (prefix_text s)) refl (all_wider is_number_byte is_plain number_plain (prefix_text s) h.source.bytes)) refl)
    ∙ ap (λ (ts : List (List ℕ)). rule_of_tokens ((64 ∷ prefix_text s) ∷ ts)) (tokens-text (prefix_text d) (9 ∷ from_source_ports sp dp p tail) (prefix_some d) (all_wider is_number_byte is_plain number_plain (prefix_text d) h.destination.bytes) refl)
    ∙ columns_read s d sp dp p tail word h t

range_line : (i : Interval) → i.lo < 2 ^ 64 → i.hi < 2 ^ 64 → list_all is_line_byte (range_text i) ≡ true
range_line i lo hi =
    let digit_line = λ (b : ℕ) (h : is_digit b ≡ true). number_line b (digit_number b h) in
    all_joined is_line_byte (decimal i.lo ++ codes " : ") (decimal i.hi)
    (all_joined is_line_byte (decimal i.lo) (codes " : ") (decimal-all is_line_byte digit_line i.lo lo) refl) (decimal-all is_line_byte digit_line i.hi hi)

ports_line : (low : ℕ) (set : List Interval) → RiseApart low 65535 set → list_all is_line_byte (ports_text set) ≡ true
ports_line low [] rise = refl
ports_line low (i ∷ []) rise = let order = rise.1 in let within = rise.2 in range_line i (omega arith) (omega arith)
ports_line low (i ∷ j ∷ set) rise =
    let order = rise.1 in
    let within = rise.2 in
    all_joined is_line_byte (range_text i) (44 ∷ ports_text (j ∷ set)) (range_line i (omega arith) (omega arith)) (ports_line (i.hi + 2) (j ∷ set) rise.3)

-- the bytes of a line
pub line_bytes : (s d : Interval) (sp dp : List Interval) (p : Interval) (tail : List ℕ) (word : Option (List ℕ)) → CanSpell s d sp dp p → IsTail tail word →
    list_all is_line_byte (columns_text (five s d sp dp p) ++ tail) ≡ true
line_bytes s d sp dp p tail word h t =
    let number = all_wider is_number_byte is_line_byte number_line in
    let a = 64 ∷ prefix_text s in
    let b = a ++ 9 ∷ prefix_text d in
    let c = b ++ 9 ∷ ports_text sp in
    let e = c ++ 9 ∷ ports_text dp in
    all_joined is_line_byte (e ++ 9 ∷ protocol_text p) tail
    (all_joined is_line_byte e (9 ∷ protocol_text p)
    (all_joined is_line_byte c (9 ∷ ports_text dp)
    (all_joined is_line_byte b (9 ∷ ports_text sp)
    (all_joined is_line_byte a (9 ∷ prefix_text d) (number (prefix_text s) h.source.bytes) (number (prefix_text d) h.destination.bytes))
    (ports_line 0 sp h.source_ports.rise)) (ports_line 0 dp h.destination_ports.rise)) (protocol_line p h.protocol)) t.bytes

-- Port columns are read as they are written.
use Rattle.std.proofs.Common.{◌≡◌, ◌∷◌, ◌++◌, ℕ, ◌+◌, ◌^◌, ◌<◌, ◌≤◌, List, true, false, [], ap, refl, ◌∙◌, arith, append_assoc, length, Some, None, nat_lt, Ok, codes, decimal}
use Rattle.std.specs.List.{list_any}
use Rattle.std.proofs.lemmas.Bool.{lt-ltb, le-ltb, or_from}
use Rattle.std.proofs.lemmas.Fmt.{decimal_nonempty}
use Rattle.field_boxes.specs.Headline.Classifier.{Interval}
use Rattle.filter_reader.specs.Headline.Ports.{range_of, ranges_of, ports_of, union_of, with_interval}
use Rattle.filter_reader.specs.Ranges.{first_range, behind_comma, is_above, is_reversed, range_before}
use Rattle.filter_reader.specs.Headline.Tokens.{tokens, goes_on}
use Rattle.filter_reader.specs.ListText.{range_text, ports_text}
use Rattle.field_boxes.specs.Unions.{RiseApart}
use Rattle.text_lines.proofs.Decimals.{digit_number, decimal-all, is_number-decimal, number_of-decimal, is_digit}
use Rattle.filter_reader.proofs.Bytes.{number_plain}
use Rattle.filter_reader.proofs.RangeLists.{ranges_by_first, by_comma, by_first}
use Rattle.filter_reader.proofs.Spelling.{tokens-text, is_plain}

pub digit_plain : (b : ℕ) → is_digit b ≡ true → is_plain b ≡ true
digit_plain b h = number_plain b (digit_number b h)

number_token : (n : ℕ) (rest : List ℕ) → n < 2 ^ 64 → goes_on rest ≡ false → tokens (decimal n ++ rest) ≡ decimal n ∷ tokens rest
number_token n rest h e = tokens-text (decimal n) rest (decimal_nonempty n h) (decimal-all is_plain digit_plain n h) e

-- the three tokens of a range
pub range_tokens : (range : Interval) (rest : List ℕ) → range.lo < 2 ^ 64 → range.hi < 2 ^ 64 → goes_on rest ≡ false →
    tokens (range_text range ++ rest) ≡ decimal range.lo ∷ (58 ∷ []) ∷ decimal range.hi ∷ tokens rest
range_tokens range rest lo hi e =
    ap tokens (append_assoc (decimal range.lo ++ codes " : ") (decimal range.hi) rest ∙ append_assoc (decimal range.lo) (codes " : ") (decimal range.hi ++ rest))
    ∙ number_token range.lo (codes " : " ++ (decimal range.hi ++ rest)) lo refl
    ∙ ap (λ (ts : List (List ℕ)). decimal range.lo ∷ (58 ∷ []) ∷ ts) (number_token range.hi rest hi e)

first_range-written : (range : Interval) (ts : List (List ℕ)) → range.lo < 2 ^ 64 → range.hi < 2 ^ 64 →
    first_range (decimal range.lo ∷ (58 ∷ []) ∷ decimal range.hi ∷ ts) ≡ Some (range, ts)
unfolding first_range range_of
first_range-written range ts lo hi = rw (is_number-decimal range.lo lo, is_number-decimal range.hi hi, number_of-decimal range.lo lo, number_of-decimal range.hi hi) refl

range_read : (range : Interval) (rest : List ℕ) → range.lo < 2 ^ 64 → range.hi < 2 ^ 64 → goes_on rest ≡ false →
    ranges_of (tokens (range_text range ++ rest)) ≡ by_comma range (tokens rest) (behind_comma (tokens rest))
range_read range rest lo hi e =
    ranges_by_first (tokens (range_text range ++ rest))
    ∙ ap (λ (ts : List (List ℕ)). by_first (first_range ts)) (range_tokens range rest lo hi e)
    ∙ ap by_first (first_range-written range (tokens rest) lo hi)

-- the ranges of a column, and then what doesn't go on with it
pub ranges_of-text : (low : ℕ) (range : Interval) (set : List Interval) (rest : List ℕ) → RiseApart low 65535 (range ∷ set) → goes_on rest ≡ false → behind_comma (tokens rest) ≡ None →
    ranges_of (tokens (ports_text (range ∷ set) ++ rest)) ≡ Some (range ∷ set, tokens rest)
ranges_of-text low range [] rest rise e none =
    let order = rise.1 in
    let within = rise.2 in
    range_read range rest (omega arith) (omega arith) e ∙ ap (by_comma range (tokens rest)) none
ranges_of-text low range (next ∷ set) rest rise e none =
    let order = rise.1 in
    let within = rise.2 in
    ap (λ (text : List ℕ). ranges_of (tokens text)) (append_assoc (range_text range) (44 ∷ ports_text (next ∷ set)) rest)
    ∙ range_read range (44 ∷ ports_text (next ∷ set) ++ rest) (omega arith) (omega arith) refl
    ∙ ap (range_before range) (ranges_of-text (range.hi + 2) next set rest rise.3 e none)

with_interval-first : (i j : Interval) (js : List Interval) → i.hi + 2 ≤ j.lo → with_interval i (j ∷ js) ≡ i ∷ j ∷ js
with_interval-first i j js h = rw (lt-ltb (i.hi + 1) j.lo (omega arith)) refl

-- intervals that rise with gaps are their own union
pub union_of-same : (low top : ℕ) (set : List Interval) → RiseApart low top set → union_of set ≡ set
union_of-same low top (i ∷ j ∷ set) rise =
    let after = rise.3 in
    ap (with_interval i) (union_of-same (i.hi + 2) top (j ∷ set) after) ∙ with_interval-first i j set after.0
union_of-same low top set rise = refl

none_above : (low : ℕ) (set : List Interval) → RiseApart low 65535 set → list_any is_above set ≡ false
none_above low [] rise = refl
none_above low (i ∷ set) rise =
    let order = rise.1 in
    let within = rise.2 in
    or_from (is_above i) (list_any is_above set)
    (or_from (nat_lt 65535 i.lo) (nat_lt 65535 i.hi) (le-ltb 65535 i.lo (omega arith)) (le-ltb 65535 i.hi within))
    (none_above (i.hi + 2) set rise.3)

none_reversed : (low : ℕ) (set : List Interval) → RiseApart low 65535 set → list_any is_reversed set ≡ false
none_reversed low [] rise = refl
none_reversed low (i ∷ set) rise = or_from (is_reversed i) (list_any is_reversed set) (le-ltb i.hi i.lo rise.1) (none_reversed (i.hi + 2) set rise.3)

-- the ports of ranges that rise with gaps
pub ports_of-same : (set : List Interval) → length set ≤ 16 → RiseApart 0 65535 set → ports_of set ≡ Ok set
unfolding ports_of
ports_of-same set few rise = rw (le-ltb 16 (length set) few, none_above 0 set rise, none_reversed 0 set rise, union_of-same 0 65535 set rise) refl

-- How many bytes a good rule line has at least.
use Rattle.std.proofs.Common.{◌≡◌, ◌∷◌, ℕ, ◌+◌, ◌≤◌, List, Bool, true, false, cond, [], ap, refl, subst, arith, length, Some, None, Ok, Err}
use Rattle.std.specs.Prelude.{Option, Result, option_map, not, ◌&&◌, ◌||◌, ◌==◌, nat_lt, nat_le, ok_or}
use Rattle.std.specs.List.{list_all}
use Rattle.std.specs.Char.{digit_value, is_ascii}
use Rattle.std.specs.Str.{bytes_eq}
use Rattle.std.proofs.lemmas.Bool.{and_parts, ltb-true}
use Rattle.std.proofs.lemmas.Option.{option_and_then_some}
use Rattle.field_boxes.specs.Headline.Classifier.{Interval}
use Rattle.filter_reader.specs.declared.reason.Reason.{Reason}
use Rattle.filter_reader.specs.declared.reason.Reason.TheVariants.{NoAt, Address, Length, PortForm, ProtocolForm, NotAscii, TooManyRules}
use Rattle.filter_reader.specs.Headline.Addresses.{address_of, length_of}
use Rattle.filter_reader.specs.Headline.Columns.{behind_at, prefix_set, source_column, destination_column, port_column, protocol_column, under_mask}
use Rattle.text_lines.specs.Headline.Fallible.{◌>>=◌}
use Rattle.filter_reader.specs.Headline.Masks.{hex_number, value_and_mask}
use Rattle.text_lines.specs.Headline.Cuts.{parts_at, split_once}
use Rattle.text_lines.specs.Headline.Numbers.{is_number, number_of, number_within, short_number}
use Rattle.text_lines.proofs.Joins.{cut_length, cut_parts}
use Rattle.filter_reader.specs.Headline.Ports.{range_of, ranges_of, ports_of}
use Rattle.filter_reader.specs.Ranges.{range_before}
use Rattle.filter_reader.specs.Headline.RuleLine.{SpelledRule, rule_line, rule_of_tokens}
use Rattle.filter_reader.specs.Headline.Tokens.{tokens}
use Rattle.edit_session.proofs.Rooms.{weight, room, tokens_fit, number_weight, long_weight}

-- a step that was taken
ok_then : {A B P : Type 0} (r : Result A Reason) (f : A → Result B Reason) (y : B) → (r >>= f) ≡ Ok y → ((x : A) → r ≡ Ok x → f x ≡ Ok y → P) → P
ok_then (Ok x) f y h k = k x refl h
ok_then (Err e) f y h k = absurd (cc)

found : {A : Type 0} (o : Option A) (e : Reason) (x : A) → ok_or o e ≡ Ok x → o ≡ Some x
found None e x h = absurd (cc)
found (Some y) e x h = cc

some_if : {A : Type 0} (t : Bool) (o : Option A) (x : A) → cond t o None ≡ Some x → (t ≡ true) × (o ≡ Some x)
some_if true o x h = (refl, h)
some_if false o x h = absurd (cc)

ok_unless : {A : Type 0} (t : Bool) (e : Reason) (r : Result A Reason) (x : A) → cond t (Err e) r ≡ Ok x → r ≡ Ok x
ok_unless true e r x h = absurd (cc)
ok_unless false e r x h = h

-- a number has a digit
number_length : (base : ℕ) (text : List ℕ) → is_number base text ≡ true → 1 ≤ length text
number_length base text h =
    let parts = and_parts (nat_lt 0 (length text)) (list_all (λ b. nat_lt (digit_value b) base) text) h in
    let some = ltb-true 0 (length text) parts.0 in
    omega (arith, some)

pub short_length : (digits base greatest n : ℕ) (text : List ℕ) → short_number digits base greatest text ≡ Some n → 1 ≤ length text
unfolding short_number number_within
short_length digits base greatest n text h =
    let within = some_if (nat_le (length text) digits) (number_within base greatest text) n h in
    let number = some_if (is_number base text && nat_le (number_of base text) greatest) (Some (number_of base text)) n within.1 in
    number_length base text (and_parts (is_number base text) (nat_le (number_of base text) greatest) number.0).0

address_length : (text : List ℕ) (n : ℕ) → address_of text ≡ Some n → 7 ≤ length text
unfolding address_of
address_length text n h =
    option_and_then_some _ (split_once 46 text) n h (λ a ea ha.
    option_and_then_some _ (split_once 46 a.1) n ha (λ b eb hb.
    option_and_then_some _ (split_once 46 b.1) n hb (λ c ec hc.
    option_and_then_some _ (short_number 3 10 255 a.0) n hc (λ w ew hw.
    option_and_then_some _ (short_number 3 10 255 b.0) n hw (λ x ex hx.
    option_and_then_some _ (short_number 3 10 255 c.0) n hx (λ y ey hy.
    option_and_then_some _ (short_number 3 10 255 c.1) n hy (λ z ez hz.
    omega (arith, cut_length 46 text a ea, cut_length 46 a.1 b eb, cut_length 46 b.1 c ec, short_length 3 10 255 w a.0 ew, short_length 3 10 255 x b.0 ex, short_length 3 10 255 y c.0 ey, short_length 3 10 255 z c.1 ez))))))))

len_length : (text : List ℕ) (len : ℕ) → length_of (Some text) ≡ Some len → 1 ≤ length text
unfolding length_of
len_length text len h = short_length 2 10 32 len text h

no_length : {P : Type 0} (len : ℕ) → length_of None ≡ Some len → P
unfolding length_of
no_length len h = absurd (cc)

-- an address, '/' and a length, by where the text is cut
prefix_step : (text : List ℕ) (o : Option (List ℕ × List ℕ)) (address len : ℕ) → split_once 47 text ≡ o → address_of (cut_parts text o).0 ≡ Some address → length_of (cut_parts text o).1 ≡ Some len → 9 ≤ length text
prefix_step text None address len e a l = no_length len l
prefix_step text (Some p) address len e a l = omega (arith, cut_length 47 text p e, address_length p.0 address a, len_length p.1 len l)

prefix_length : (text : List ℕ) (set : Interval) → prefix_set text ≡ Ok set → 9 ≤ length text
unfolding prefix_set
prefix_length text set h =
    ok_then (ok_or (address_of (parts_at 47 text).0) Address) _ set h (λ address ea ha.
    ok_then (ok_or (length_of (parts_at 47 text).1) Length) _ set ha (λ len el hl.
    prefix_step text (split_once 47 text) address len refl (found (address_of (parts_at 47 text).0) Address address ea) (found (length_of (parts_at 47 text).1) Length len el)))

at_length : (token text : List ℕ) → behind_at token ≡ Some text → length token ≡ length text + 1
unfolding behind_at
at_length [] text h = absurd (cc)
at_length (b ∷ token) text h =
    let same : token ≡ text = let is = (some_if (b == 64) (Some token) text h).1 in cc in
    subst (λ (t : List ℕ). length (b ∷ token) ≡ length t + 1) same (omega arith)

-- a token in front of others, of at least so many bytes
in_front : (k : ℕ) (token : List ℕ) (ts rest : List (List ℕ)) → ts ≡ rest → 2 ≤ k → k ≤ length token → room rest + (k + 1) ≤ room (token ∷ ts)
in_front k token ts rest e two long =
    let heavy = long_weight token (omega (arith, two, long)) in
    subst (λ (us : List (List ℕ)). room us + (k + 1) ≤ room (token ∷ ts)) e (omega (arith, heavy, long))

source_room : (ts : List (List ℕ)) (column : Interval × List (List ℕ)) → source_column ts ≡ Ok column → room column.1 + 11 ≤ room ts
unfolding source_column
source_room [] column h = absurd (cc)
source_room (token ∷ ts) column h =
    ok_then (ok_or (behind_at token) NoAt) _ column h (λ text et ht.
    ok_then (prefix_set text) _ column ht (λ set es hs.
    let same : (set, ts) ≡ column = cc in
    let at = at_length token text (found (behind_at token) NoAt text et) in
    let long = prefix_length text set es in
    in_front 10 token ts column.1 (ap (λ (c : Interval × List (List ℕ)). c.1) same) (omega arith) (omega (arith, at, long))))

destination_room : (ts : List (List ℕ)) (column : Interval × List (List ℕ)) → destination_column ts ≡ Ok column → room column.1 + 10 ≤ room ts
unfolding destination_column
destination_room [] column h = absurd (cc)
destination_room (token ∷ ts) column h =
    ok_then (prefix_set token) _ column h (λ set es hs.
    let same : (set, ts) ≡ column = cc in
    in_front 9 token ts column.1 (ap (λ (c : Interval × List (List ℕ)). c.1) same) (omega arith) (prefix_length token set es))

-- a range has two numbers
range_room : (lo mark hi : List ℕ) (range : Interval) → range_of lo mark hi ≡ Some range → 4 ≤ weight lo + weight hi
unfolding range_of
range_room lo mark hi range h =
    let is = some_if (is_number 10 lo && bytes_eq mark (58 ∷ []) && is_number 10 hi) (Some (record { lo = number_of 10 lo; hi = number_of 10 hi })) range h in
    let parts = and_parts (is_number 10 lo && bytes_eq mark (58 ∷ [])) (is_number 10 hi) is.0 in
    let low = number_weight lo (and_parts (is_number 10 lo) (bytes_eq mark (58 ∷ [])) parts.0).0 in
    let high = number_weight hi parts.1 in
    omega (arith, low, high)

-- the tokens behind ranges
abbrev Ranged : Type 0
Ranged = List Interval × List (List ℕ)

only_range : (lo mark hi : List ℕ) (o : Option Interval) (column : Ranged) → range_of lo mark hi ≡ o → option_map {U = Ranged} (λ range. (range ∷ [], [])) o ≡ Some column → room column.1 + 4 ≤ room (lo ∷ mark ∷ hi ∷ [])
only_range lo mark hi None column e h = absurd (cc)
only_range lo mark hi (Some range) column e h =
    let same : (range ∷ [], []) ≡ column = cc in
    let heavy = range_room lo mark hi range e in
    subst (λ (c : Ranged). room c.1 + 4 ≤ room (lo ∷ mark ∷ hi ∷ [])) same (omega (arith, heavy))

more_ranges : (lo mark hi next : List ℕ) (ts : List (List ℕ)) (range : Interval) (column : Ranged) (t : Bool) (o : Option Ranged) → range_of lo mark hi ≡ Some range →
    ((c : Ranged) → o ≡ Some c → room c.1 + 4 ≤ room ts) → cond t (range_before range o) (Some (range ∷ [], next ∷ ts)) ≡ Some column → room column.1 + 4 ≤ room (lo ∷ mark ∷ hi ∷ next ∷ ts)
more_ranges lo mark hi next ts range column true None e more h = absurd (cc)
more_ranges lo mark hi next ts range column true (Some c) e more h =
    let same : (range ∷ c.0, c.1) ≡ column = cc in
    let rest = more c refl in
    subst (λ (d : Ranged). room d.1 + 4 ≤ room (lo ∷ mark ∷ hi ∷ next ∷ ts)) same (omega (arith, rest))
more_ranges lo mark hi next ts range column false o e more h =
    let same : (range ∷ [], next ∷ ts) ≡ column = cc in
    let heavy = range_room lo mark hi range e in
    subst (λ (d : Ranged). room d.1 + 4 ≤ room (lo ∷ mark ∷ hi ∷ next ∷ ts)) same (omega (arith, heavy))

ranges_room : (ts : List (List ℕ)) (column : Ranged) → ranges_of ts ≡ Some column → room column.1 + 4 ≤ room ts
ranges_room [] column h = absurd (cc)
ranges_room (lo ∷ []) column h = absurd (cc)
ranges_room (lo ∷ mark ∷ []) column h = absurd (cc)
ranges_room (lo ∷ mark ∷ hi ∷ []) column h = only_range lo mark hi (range_of lo mark hi) column refl h
ranges_room (lo ∷ mark ∷ hi ∷ next ∷ ts) column h =
    option_and_then_some _ (range_of lo mark hi) column h (λ range er hr.
    more_ranges lo mark hi next ts range column (bytes_eq next (44 ∷ [])) (ranges_of ts) er (λ c e. ranges_room ts c e) hr)

port_room : (ts : List (List ℕ)) (column : List Interval × List (List ℕ)) → port_column ts ≡ Ok column → room column.1 + 4 ≤ room ts
unfolding port_column
port_room ts column h =
    ok_then (ok_or (ranges_of ts) PortForm) _ column h (λ c ec hc.
    ok_then (ports_of c.0) _ column hc (λ ports ep hp.
    let same : (ports, c.1) ≡ column = cc in
    let heavy = ranges_room ts c (found (ranges_of ts) PortForm c ec) in
    subst (λ (d : Ranged). room d.1 + 4 ≤ room ts) same heavy))

hex_length : (digits greatest n : ℕ) (text : List ℕ) → hex_number digits greatest text ≡ Some n → 3 ≤ length text
unfolding hex_number
hex_length digits greatest n [] h = absurd (cc)
hex_length digits greatest n (b ∷ []) h = absurd (cc)
hex_length digits greatest n (b ∷ x ∷ text) h =
    let is = some_if (b == 48 && (x == 120 || x == 88)) (short_number digits 16 greatest text) n h in
    let some = short_length digits 16 greatest n text is.1 in
    omega (arith, some)

mask_length : (digits greatest : ℕ) (text : List ℕ) (masked : ℕ × ℕ) → value_and_mask digits greatest text ≡ Some masked → 7 ≤ length text
unfolding value_and_mask
mask_length digits greatest text masked h =
    option_and_then_some _ (split_once 47 text) masked h (λ p ep hp.
    option_and_then_some _ (hex_number digits greatest p.0) masked hp (λ value ev hv.
    option_and_then_some _ (hex_number digits greatest p.1) masked hv (λ mask em hm.
    omega (arith, cut_length 47 text p ep, hex_length digits greatest value p.0 ev, hex_length digits greatest mask p.1 em))))

protocol_room : (ts : List (List ℕ)) (column : Interval × List (List ℕ)) → protocol_column ts ≡ Ok column → room column.1 + 8 ≤ room ts
unfolding protocol_column
protocol_room [] column h = absurd (cc)
protocol_room (token ∷ ts) column h =
    ok_then (ok_or (value_and_mask 2 255 token) ProtocolForm) _ column h (λ masked em hm.
    ok_then (under_mask masked.0 masked.1) _ column hm (λ set es hs.
    let same : (set, ts) ≡ column = cc in
    in_front 7 token ts column.1 (ap (λ (c : Interval × List (List ℕ)). c.1) same) (omega arith) (mask_length 2 255 token masked (found (value_and_mask 2 255 token) ProtocolForm masked em))))

rule_room : (ts : List (List ℕ)) (spelled : SpelledRule) → rule_of_tokens ts ≡ Ok spelled → 37 ≤ room ts
unfolding rule_of_tokens
rule_room ts spelled h =
    ok_then (source_column ts) _ spelled h (λ source es hs.
    ok_then (destination_column source.1) _ spelled hs (λ destination ed hd.
    ok_then (port_column destination.1) _ spelled hd (λ first ef hf.
    ok_then (port_column first.1) _ spelled hf (λ second en hn.
    ok_then (protocol_column second.1) _ spelled hn (λ protocol ep hp.
    omega (arith, source_room ts source es, destination_room source.1 destination ed, port_room destination.1 first ef, port_room first.1 second en, protocol_room second.1 protocol ep))))))

pub rule_bytes : (before : ℕ) (text : List ℕ) (spelled : SpelledRule) → rule_line before text ≡ Ok spelled → 36 ≤ length text
unfolding rule_line
rule_bytes before text spelled h =
    let few = ok_unless (before == 65536) TooManyRules (cond (not (list_all is_ascii text)) (Err NotAscii) (rule_of_tokens (tokens text))) spelled h in
    let ascii = ok_unless (not (list_all is_ascii text)) NotAscii (rule_of_tokens (tokens text)) spelled few in
    omega (arith, rule_room (tokens text) spelled ascii, tokens_fit text)

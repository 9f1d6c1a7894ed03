-- What is kept of the ranges of a port column says what they come to.
use Rattle.std.proofs.Common.{◌≡◌, ◌∷◌, ℕ, ◌<◌, ◌≤◌, List, Bool, true, false, cond, [], ap, refl, sym, subst, ◌∙◌, arith, min, max, nat_lt, length, take, ◌||◌, ◌&&◌, not, nat_le, map, Ok, Err}
use Rattle.std.proofs.lemmas.Bool.{ltb-false, lt-ltb, le-ltb, le-leb, or_parts, not-true, not-false}
use Rattle.std.proofs.lemmas.Bool.Decides.{nat_tests}
use Rattle.std.proofs.Math.Bool.{or-false}
use Rattle.std.proofs.lemmas.List.{length-map}
use Rattle.std.proofs.lemmas.List.Folds.{list_all-map}
use Rattle.std.specs.List.{list_any, list_all}
use Rattle.field_boxes.specs.declared.span.Span.{Span}
use Rattle.field_boxes.specs.Headline.Classifier.{Interval, union_holds}
use Rattle.field_boxes.specs.Ports.{are_port_spans}
use Rattle.field_boxes.specs.Spans.{interval_of}
use Rattle.field_boxes.specs.Unions.{RiseApart}
use Rattle.filter_reader.specs.declared.ranges.Ranges.{Ranges}
use Rattle.filter_reader.specs.declared.reason.Reason.TheVariants.{PortOrder, PortRange, TooManyRanges}
use Rattle.filter_reader.specs.Headline.Ports.{ports_of, union_of}
use Rattle.filter_reader.specs.Ranges.{SumsUp, capped_range, ordered_range, is_reversed, is_above}
use Rattle.filter_reader.proofs.UnionLists.{AreRanges, union_of-rises, union_of-values}

-- a range as it is kept
abbrev pub kept : Interval → Interval
kept range = ordered_range (capped_range range)

abbrev pub is_port_range : Interval → Bool
is_port_range range = nat_le range.hi 65535

-- a kept range ends among the ports exactly where both its numbers are ports
kept_ends : (range : Interval) → is_port_range (kept range) ≡ not (is_above range)
kept_ends range = grind (arith, nat_tests)

neither : (a b : Bool) → (not a && not b) ≡ not (a || b)
neither true b = refl
neither false b = refl

kept_all : (ranges : List Interval) → list_all is_port_range (map kept ranges) ≡ not (list_any is_above ranges)
kept_all [] = refl
kept_all (range ∷ ranges) = rw (kept_ends range, kept_all ranges) (neither (is_above range) (list_any is_above ranges))

-- where no number is above the ports, ranges are reversed as they are when they are capped
capped_same : (range : Interval) → is_above range ≡ false → is_reversed (capped_range range) ≡ is_reversed range
capped_same range h =
    let parts = or_parts (nat_lt 65535 range.lo) (nat_lt 65535 range.hi) h in
    let lo : range.lo ≤ 65535 = ltb-false 65535 range.lo parts.0 in
    let hi : range.hi ≤ 65535 = ltb-false 65535 range.hi parts.1 in
    let e : min range.lo 65536 ≡ range.lo = omega arith in
    let f : min range.hi 65536 ≡ range.hi = omega arith in
    rw (e, f) refl

same_reversed : (ranges : List Interval) → list_any is_above ranges ≡ false → list_any (λ range. is_reversed (capped_range range)) ranges ≡ list_any is_reversed ranges
same_reversed [] h = refl
same_reversed (range ∷ ranges) h =
    let parts = or_parts (is_above range) (list_any is_above ranges) h in
    rw (capped_same range parts.0, same_reversed ranges parts.1) refl

-- where no number is above the ports, all that end above 65535 are reversed
are_ranges : (ranges : List Interval) → list_any is_above ranges ≡ false → list_any is_reversed ranges ≡ false → AreRanges ranges
are_ranges [] h k = tt
are_ranges (range ∷ ranges) h k =
    let above = or_parts (is_above range) (list_any is_above ranges) h in
    let reversed = or_parts (is_reversed range) (list_any is_reversed ranges) k in
    let ends = or_parts (nat_lt 65535 range.lo) (nat_lt 65535 range.hi) above.0 in
    (ltb-false range.hi range.lo reversed.0, ltb-false 65535 range.hi ends.1, are_ranges ranges above.1 reversed.1)

kept_same : (range : Interval) → range.lo ≤ range.hi → range.hi ≤ 65535 → kept range ≡ range
kept_same range order within =
    let e : min range.lo 65536 ≡ range.lo = omega arith in
    let f : min range.hi 65536 ≡ range.hi = omega arith in
    let lo : min range.lo range.hi ≡ range.lo = omega arith in
    let hi : max range.lo range.hi ≡ range.hi = omega arith in
    rw (e, f, lo, hi) refl

-- then what is kept are the ranges
all_kept : (ranges : List Interval) → AreRanges ranges → map kept ranges ≡ ranges
all_kept [] h = refl
all_kept (range ∷ ranges) h = rw (kept_same range h.0 h.1, all_kept ranges h.2) refl

-- how many ranges there are
few_ranges : (ranges : List Interval) (r : Ranges) → SumsUp ranges r → r.count ≤ 16 → length ranges ≤ 16
few_ranges ranges r sums few = let count = sums.count in omega arith

-- as many spans are kept
kept_len : (ranges : List Interval) (r : Ranges) → SumsUp ranges r → length ranges ≤ 16 → length (take r.count r.spans) ≡ length ranges
kept_len ranges r sums few = sym (length-map (take r.count r.spans) interval_of) ∙ ap length (sums.spans few) ∙ length-map ranges kept

-- whether the kept spans are port spans
spans_test : (ranges : List Interval) (r : Ranges) → SumsUp ranges r → 0 < length ranges → length ranges ≤ 16 → are_port_spans (take r.count r.spans) ≡ not (list_any is_above ranges)
spans_test ranges r sums some few =
    let len = kept_len ranges r sums few in
    let least : nat_le 1 (length (take r.count r.spans)) ≡ true = le-leb 1 (length (take r.count r.spans)) (omega arith) in
    let most : nat_le (length (take r.count r.spans)) 16 ≡ true = le-leb (length (take r.count r.spans)) 16 (omega arith) in
    let ends : list_all (λ (s : Span). nat_le s.hi 65535) (take r.count r.spans) ≡ not (list_any is_above ranges) =
    sym (list_all-map is_port_range interval_of (take r.count r.spans)) ∙ ap (list_all is_port_range) (sums.spans few) ∙ kept_all ranges in
    rw (least, most) ends

pub many_ranges : (ranges : List Interval) (r : Ranges) → SumsUp ranges r → 16 < r.count → Err TooManyRanges ≡ ports_of ranges
unfolding ports_of
many_ranges ranges r sums many =
    let count = sums.count in
    let e : nat_lt 16 (length ranges) ≡ true = lt-ltb 16 (length ranges) (omega arith) in
    rw e refl

pub ranges_above : (ranges : List Interval) (r : Ranges) → SumsUp ranges r → 0 < length ranges → r.count ≤ 16 → false ≡ are_port_spans (take r.count r.spans) → Err PortRange ≡ ports_of ranges
unfolding ports_of
ranges_above ranges r sums some few none =
    let fewer = few_ranges ranges r sums few in
    let e : nat_lt 16 (length ranges) ≡ false = le-ltb 16 (length ranges) fewer in
    let above : list_any is_above ranges ≡ true = not-false (list_any is_above ranges) (sym (none ∙ spans_test ranges r sums some fewer)) in
    rw (e, above) refl

none_above : (ranges : List Interval) (r : Ranges) → SumsUp ranges r → 0 < length ranges → r.count ≤ 16 → true ≡ are_port_spans (take r.count r.spans) → list_any is_above ranges ≡ false
none_above ranges r sums some few all = not-true (list_any is_above ranges) (sym (all ∙ spans_test ranges r sums some (few_ranges ranges r sums few)))

pub ranges_reversed : (ranges : List Interval) (r : Ranges) → SumsUp ranges r → 0 < length ranges → r.count ≤ 16 → true ≡ are_port_spans (take r.count r.spans) → r.reversed ≡ true → Err PortOrder ≡ ports_of ranges
unfolding ports_of
ranges_reversed ranges r sums some few all reversed =
    let e : nat_lt 16 (length ranges) ≡ false = le-ltb 16 (length ranges) (few_ranges ranges r sums few) in
    let above = none_above ranges r sums some few all in
    let order : list_any is_reversed ranges ≡ true = sym (same_reversed ranges above) ∙ sym sums.reversed ∙ reversed in
    rw (e, above, order) refl

-- the ports of a set are the union of the ranges
pub ranges_united : (ranges : List Interval) (r : Ranges) (ports : List Interval) → SumsUp ranges r → 0 < length ranges → r.count ≤ 16 → true ≡ are_port_spans (take r.count r.spans) → r.reversed ≡ false →
    ((v : ℕ) → union_holds v ports ≡ union_holds v (map interval_of (take r.count r.spans))) →
    (RiseApart 0 65535 (union_of ranges) → ((v : ℕ) → union_holds v ports ≡ union_holds v (union_of ranges)) → ports ≡ union_of ranges) → Ok ports ≡ ports_of ranges
unfolding ports_of
ranges_united ranges r ports sums some few all order values unique =
    let fewer = few_ranges ranges r sums few in
    let e : nat_lt 16 (length ranges) ≡ false = le-ltb 16 (length ranges) fewer in
    let above = none_above ranges r sums some few all in
    let ordered : list_any is_reversed ranges ≡ false = sym (same_reversed ranges above) ∙ sym sums.reversed ∙ order in
    let are = are_ranges ranges above ordered in
    let same = unique (union_of-rises ranges are) (λ v. values v ∙ ap (union_holds v) (sums.spans fewer ∙ all_kept ranges are) ∙ sym (union_of-values v ranges are)) in
    rw (e, above, ordered, same) refl

-- one range as the ranges of a column
abbrev pub alone : Span → Bool → Ranges
alone s reversed = record { spans = s ∷ []; count = 1; reversed = reversed }

pub one_kept : (range seen : Interval) (s : Span) → seen ≡ capped_range range → interval_of s ≡ ordered_range seen → SumsUp (range ∷ []) (alone s (is_reversed seen))
one_kept range seen s e f = record { count = refl; reversed = sym (or-false (is_reversed seen)) ∙ ap (λ (r : Interval). is_reversed r || false) e; spans = λ few. ap (λ (i : Interval). i ∷ []) (f ∙ ap ordered_range e) }

-- the ports that ranges come to
abbrev pub HasPortsOf : List Interval → List Interval → Type 0
HasPortsOf ranges set = RiseApart 0 65535 set × ((v : ℕ) → union_holds v set ≡ union_holds v ranges)

ports_by : (ranges set : List Interval) (many above order : Bool) → list_any is_above ranges ≡ above → list_any is_reversed ranges ≡ order →
    cond many (Err TooManyRanges) (cond above (Err PortRange) (cond order (Err PortOrder) (Ok (union_of ranges)))) ≡ Ok set → HasPortsOf ranges set
ports_by ranges set false false false p q e =
    let are = are_ranges ranges p q in
    let same : union_of ranges ≡ set = cc in
    subst (HasPortsOf ranges) same (union_of-rises ranges are, λ v. union_of-values v ranges are)
ports_by ranges set many above order p q e = absurd cc

pub ports_are_united : (ranges set : List Interval) → ports_of ranges ≡ Ok set → HasPortsOf ranges set
unfolding ports_of
ports_are_united ranges set e = ports_by ranges set (nat_lt 16 (length ranges)) (list_any is_above ranges) (list_any is_reversed ranges) refl refl e

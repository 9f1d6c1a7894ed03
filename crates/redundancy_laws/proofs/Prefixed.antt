-- A row whose entry's word is a prefix in each field matches what the word does.
use Rattle.std.proofs.Common.{◌≡◌, ◌∷◌, ℕ, List, [], ◌+◌, ◌-◌, ◌/◌, ◌%◌, ◌^◌, ◌≤◌, Bool, refl, ap, arith, sym, ◌∙◌}
use Rattle.std.specs.Prelude.{◌&&◌, bit_and, slice_index}
use Rattle.std.proofs.lemmas.Nat.{pow_pos, mod_below}
use Rattle.std.proofs.Math.Pow.{pow_mono}
use Rattle.field_boxes.specs.Headline.Fields.{AreValues, IsHeader, stated}
use Rattle.field_boxes.specs.Headline.Classifier.{Interval, interval_holds}
use Rattle.field_boxes.specs.Headline.Prefix.{FitsWidth, prefix_holds}
use Rattle.field_boxes.specs.declared.prefix.Prefix.{Prefix}
use Rattle.field_boxes.proofs.Prefixes.{interval-prefix}
use Rattle.ternary_words.specs.declared.entry.Entry.{Entry}
use Rattle.ternary_words.specs.Headline.Word.{Trit, agrees, header_bits}
use Rattle.ternary_words.specs.Views.{word_of}
use Rattle.ternary_words.specs.Prefixes.{HasMask, IsPart, IsPrefixInEach, IsWordOf, all_hold, mask_of}
use Rattle.ternary_words.proofs.OnesInFront.{between, low_zero}
use Rattle.ternary_words.proofs.Parted.{has_masks, part_within, word_of_parts}
use Rattle.ternary_words.proofs.PrefixHolds.{agrees-fields}
use Rattle.redundancy_laws.specs.Rows.{matches, each_holds}
use Rattle.redundancy_laws.specs.Built.{row_at, span_at}
use Rattle.ternary_words.specs.Entries.{entry_matches}
use Rattle.field_boxes.specs.Orders.{IsOrder, picked}
use Rattle.field_boxes.proofs.Orders.{any_order, of_all, picked_stated}
use Rattle.ternary_words.proofs.Spanned.{five_tests}

-- the part of a value, with the length of a prefix that has the part of its mask
abbrev prefix_for : (w v m : ℕ) → HasMask w m → Prefix
prefix_for w v m h = record { value = v; len = h.0.len }

part_of : (low w v m : ℕ) → bit_and v m ≡ v → (h : HasMask w (m / 2 ^ low % 2 ^ w)) →
    IsPart w (v / 2 ^ low % 2 ^ w) (m / 2 ^ low % 2 ^ w) (prefix_for w (v / 2 ^ low % 2 ^ w) (m / 2 ^ low % 2 ^ w) h)
part_of low w v m within h = record {
  fits = record {
    wide = h.1.wide;
    len = h.1.len;
    small = mod_below (v / 2 ^ low) (2 ^ w) (pow_pos w);
    low = low_zero h.0.len (w - h.0.len) (v / 2 ^ low % 2 ^ w) (m / 2 ^ low % 2 ^ w) (part_within low w v m within) h.2;
  };
  valued = refl;
  masked = h.2;
}

-- the values that the mask leaves out
free_bits : (w m : ℕ) (p : Prefix) → FitsWidth w p → m ≡ mask_of w p → 2 ^ w - 1 - m ≡ 2 ^ (w - p.len) - 1
free_bits w m p fits e =
    let len = fits.len in
    let whole : p.len + (w - p.len) ≡ w = omega (arith, len) in
    let b : m ≡ 2 ^ w - 2 ^ (w - p.len) = e ∙ between p.len (w - p.len) ∙ ap (λ n. 2 ^ n - 2 ^ (w - p.len)) whole in
    let s : 2 ^ (w - p.len) ≤ 2 ^ w = pow_mono (let k : w - p.len ≤ w = omega arith in k) in
    let p = pow_pos (w - p.len) in
    omega (arith, b, s, p)

-- one field: the interval holds what the prefix does
span_holds : (w v m x : ℕ) (p : Prefix) → IsPart w v m p → interval_holds x (record { lo = v; hi = v + (2 ^ w - 1 - m) }) ≡ prefix_holds w p x
span_holds w v m x p is =
    ap (λ n. interval_holds x (record { lo = v; hi = v + n })) (free_bits w m p is.fits is.masked)
    ∙ ap (λ n. interval_holds x (record { lo = n; hi = n + (2 ^ (w - p.len) - 1) })) (sym is.valued)
    ∙ interval-prefix (w - p.len) p.value x is.fits.low

five_hold : (s0 s1 s2 s3 s4 : Interval) (p0 p1 p2 p3 p4 : Prefix) →
    ((x : ℕ) → interval_holds x s0 ≡ prefix_holds 32 p0 x) → ((x : ℕ) → interval_holds x s1 ≡ prefix_holds 32 p1 x) → ((x : ℕ) → interval_holds x s2 ≡ prefix_holds 16 p2 x) →
    ((x : ℕ) → interval_holds x s3 ≡ prefix_holds 16 p3 x) → ((x : ℕ) → interval_holds x s4 ≡ prefix_holds 8 p4 x) →
    (values : List ℕ) → AreValues stated values → each_holds (s0 ∷ s1 ∷ s2 ∷ s3 ∷ s4 ∷ []) values ≡ all_hold stated (p0 ∷ p1 ∷ p2 ∷ p3 ∷ p4 ∷ []) values
five_hold s0 s1 s2 s3 s4 p0 p1 p2 p3 p4 h0 h1 h2 h3 h4 [] are = absurd are
five_hold s0 s1 s2 s3 s4 p0 p1 p2 p3 p4 h0 h1 h2 h3 h4 (a ∷ []) are = absurd are.1
five_hold s0 s1 s2 s3 s4 p0 p1 p2 p3 p4 h0 h1 h2 h3 h4 (a ∷ b ∷ []) are = absurd are.1.1
five_hold s0 s1 s2 s3 s4 p0 p1 p2 p3 p4 h0 h1 h2 h3 h4 (a ∷ b ∷ c ∷ []) are = absurd are.1.1.1
five_hold s0 s1 s2 s3 s4 p0 p1 p2 p3 p4 h0 h1 h2 h3 h4 (a ∷ b ∷ c ∷ d ∷ []) are = absurd are.1.1.1.1
five_hold s0 s1 s2 s3 s4 p0 p1 p2 p3 p4 h0 h1 h2 h3 h4 (a ∷ b ∷ c ∷ d ∷ e ∷ []) are = five_tests _ _ _ _ _ _ _ _ _ _ (h0 a) (h1 b) (h2 c) (h3 d) (h4 e)
five_hold s0 s1 s2 s3 s4 p0 p1 p2 p3 p4 h0 h1 h2 h3 h4 (a ∷ b ∷ c ∷ d ∷ e ∷ f ∷ more) are = absurd are.1.1.1.1.1

word_holds : (ps : List Prefix) (word : List Trit) (values : List ℕ) → IsWordOf ps word → IsHeader values → agrees word (header_bits values) ≡ all_hold stated ps values
word_holds ps word values is are = ap (λ ts. agrees ts (header_bits values)) is.same ∙ agrees-fields stated ps values is.fit are

stated-matches : (values : List ℕ) (e : Entry) → IsPrefixInEach (word_of e.word) → IsHeader values → matches values (row_at stated e) ≡ entry_matches values e
stated-matches values e is are =
    let w = e.word in
    let h = has_masks w.mask w.value is in
    let i0 = part_of 72 32 w.value w.mask w.masked h.0 in
    let i1 = part_of 40 32 w.value w.mask w.masked h.1.0 in
    let i2 = part_of 24 16 w.value w.mask w.masked h.1.1.0 in
    let i3 = part_of 8 16 w.value w.mask w.masked h.1.1.1.0 in
    let i4 = part_of 0 8 w.value w.mask w.masked h.1.1.1.1.0 in
    let word = word_of_parts w.mask w.value _ _ _ _ _ i0 i1 i2 i3 i4 in
    five_hold _ _ _ _ _ _ _ _ _ _ (λ x. span_holds 32 _ _ x _ i0) (λ x. span_holds 32 _ _ x _ i1) (λ x. span_holds 16 _ _ x _ i2) (λ x. span_holds 16 _ _ x _ i3) (λ x. span_holds 8 _ _ x _ i4) values are
    ∙ sym (word_holds _ (word_of w) values word are)

-- whether the entry's interval of a field holds the header's value
abbrev holds_in : List ℕ → Entry → ℕ → Bool
holds_in header e f = interval_holds (slice_index header f) (span_at f e)

in_turn : (level header : List ℕ) (e : Entry) → matches (picked level header) (row_at level e) ≡ of_all (holds_in header e) level
in_turn [] header e = refl
in_turn (f ∷ level) header e = ap (λ t. holds_in header e f && t) (in_turn level header e)

-- in any order of the fields
pub row-matches : (order header : List ℕ) (e : Entry) → IsOrder order → IsPrefixInEach (word_of e.word) → IsHeader header → matches (picked order header) (row_at order e) ≡ entry_matches header e
row-matches order header e o is are =
    in_turn order header e
    ∙ any_order (holds_in header e) order o
    ∙ sym (in_turn stated header e)
    ∙ ap (λ vs. matches vs (row_at stated e)) (picked_stated header are)
    ∙ stated-matches header e is are

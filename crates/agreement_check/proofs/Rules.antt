-- The word of a rule has each header that the rule has.
use Rattle.std.proofs.Common.{Bor, ◌≡◌, ◌∷◌, ℕ, zero, suc, ◌+◌, ◌-◌, ◌*◌, ◌/◌, ◌^◌, ◌<◌, ◌≤◌, List, [], true, length, map, slice_index_or, slice_get, Some, ap, refl, sym, subst, ◌∙◌, arith, inl, inr, eq-eqb}
use Rattle.std.specs.Coded.{le_prop}
use Rattle.std.proofs.Math.Logic.{∥∥₁_elim}
use Rattle.std.proofs.Math.Bool.{or-false}
use Rattle.std.proofs.Math.Nat.{div-eq_of_lt, div-mul-le_self, le_refl, mul-div_cancel, mul-mod_left}
use Rattle.std.proofs.lemmas.Bool.{and_parts, cases_lt, eqb-true, false≢true, ne_eqb, or_cases}
use Rattle.std.proofs.lemmas.Bool.Decides.{eqb_tells}
use Rattle.std.proofs.lemmas.List.{get_or-map, length-map}
use Rattle.std.proofs.lemmas.Nat.{and_le_r, le-div, pow_pos}
use Rattle.std.proofs.lemmas.Option.{slice_get_within}
use Rattle.razor_limits.specs.declared.limits.TheConstants.{GREATEST_PORT}
use Rattle.field_boxes.specs.declared.prefix.Prefix.{Prefix}
use Rattle.field_boxes.specs.declared.rule.Rule.{Rule}
use Rattle.field_boxes.specs.declared.span.Span.{Span}
use Rattle.field_boxes.specs.declared.rule_list.RuleList.{RuleList}
use Rattle.field_boxes.specs.FilterRules.{IsFilterRule}
use Rattle.field_boxes.specs.Headline.Bits.{bits}
use Rattle.field_boxes.specs.Headline.Classifier.{Interval, interval_holds, union_holds}
use Rattle.field_boxes.specs.Headline.Fields.{IsHeader, stated}
use Rattle.field_boxes.specs.Headline.Prefix.{FitsWidth, prefix_holds}
use Rattle.field_boxes.specs.Ports.{ArePorts}
use Rattle.field_boxes.specs.Prefixes.{IsPrefix}
use Rattle.field_boxes.specs.Rules.{sets_of}
use Rattle.field_boxes.specs.Spans.{interval_of, intervals_of}
use Rattle.field_boxes.specs.Unions.{RiseApart}
use Rattle.field_boxes.proofs.Prefixes.{whole_step_within}
use Rattle.field_boxes.proofs.Unions.{below, between}
use Rattle.ternary_words.specs.Headline.Word.{agrees, header_bits}
use Rattle.ternary_words.specs.Prefixes.{FitFields, all_hold, fields_trits, masks_of}
use Rattle.ternary_words.specs.declared.word.Word.{Word}
use Rattle.ternary_words.specs.Views.{word_of}
use Rattle.ternary_words.specs.Word.{key_of, mask_bit, trits, value_bit}
use Rattle.ternary_words.proofs.Masked.{masked_key}
use Rattle.ternary_words.proofs.Matching.{agrees-mask}
use Rattle.ternary_words.proofs.PrefixHolds.{agrees-fields}
use Rattle.ternary_words.proofs.PrefixMasks.{mask_small}
use Rattle.ternary_words.proofs.PrefixTrits.{trits-fields}
use Rattle.ternary_words.proofs.Parted.{same_bits}
use Rattle.ternary_words.proofs.TritBits.{mask-bits, value-bits}
use Rattle.partition_check.specs.Claims.{rule_matches}
use Rattle.partition_check.proofs.FirstPlaces.{got}
use Rattle.word_cover.specs.Cubes.{Cube, cube_of}
use Rattle.agreement_check.specs.RuleWords.{bits_apart, greatest_in_set, least_in_set, prefix_of_set, word_of_rule}
use Rattle.word_cover.proofs.Members.{Has, IsMasked, key-small, key_bits}

-- The bits that two values don't share.

pub few-apart : (w a b : ℕ) → bits_apart w a b ≤ w
unfolding bits_apart
few-apart zero a b = le_refl 0
few-apart (suc n) a b = elim (eqb_tells (a / 2 ^ n) (b / 2 ^ n)) [ inl t ↦ rw t.0 (omega (arith, few-apart n a b)) | inr t ↦ rw t.0 (le_refl (suc n)) ]

same-above : (w a b : ℕ) → a / 2 ^ w ≡ b / 2 ^ w → a / 2 ^ bits_apart w a b ≡ b / 2 ^ bits_apart w a b
unfolding bits_apart
same-above zero a b h = h
same-above (suc n) a b h = elim (eqb_tells (a / 2 ^ n) (b / 2 ^ n)) [ inl t ↦ rw t.0 (same-above n a b t.1) | inr t ↦ rw t.0 h ]

-- from the highest bit down
pub bits-same : (n a b : ℕ) → a / 2 ^ n ≡ b / 2 ^ n → bits_apart (suc n) a b ≡ bits_apart n a b
unfolding bits_apart
bits-same n a b h = rw (eq-eqb (a / 2 ^ n) (b / 2 ^ n) h) refl

pub bits-none : (a b : ℕ) → bits_apart 0 a b ≡ 0
unfolding bits_apart
bits-none a b = refl

pub bits-other : (n a b : ℕ) → (a / 2 ^ n ≡ b / 2 ^ n → ⊥) → bits_apart (suc n) a b ≡ suc n
unfolding bits_apart
bits-other n a b h = rw (ne_eqb (a / 2 ^ n) (b / 2 ^ n) h) refl

-- The prefix round two values.

between-same : (size lo hi v : ℕ) → 0 < size → lo / size ≡ hi / size → lo ≤ v → v ≤ hi → v / size ≡ lo / size
between-same size lo hi v pos e l h =
    omega (arith, e, le-div (lo / size) v size pos (omega (arith, div-mul-le_self lo size, l)), le-div (v / size) hi size pos (omega (arith, div-mul-le_self v size, h)))

pub fits-round : (w f lo : ℕ) → w ≤ 32 → f ≤ w → lo < 2 ^ w → (let p : Prefix = record { value = lo / 2 ^ f * 2 ^ f; len = w - f } in FitsWidth w p)
fits-round w f lo wide h small =
    let back : w - (w - f) ≡ f = omega arith in
    record {
      wide = wide;
      len = omega arith;
      small = omega (arith, div-mul-le_self lo (2 ^ f), small);
      low = rw back (mul-mod_left (lo / 2 ^ f) (2 ^ f));
    }

holds-round : (w f lo hi : ℕ) → f ≤ w → lo / 2 ^ f ≡ hi / 2 ^ f → (v : ℕ) → lo ≤ v → v ≤ hi → (let p : Prefix = record { value = lo / 2 ^ f * 2 ^ f; len = w - f } in prefix_holds w p v ≡ true)
holds-round w f lo hi h same v l m =
    let back : w - (w - f) ≡ f = omega arith in
    let pos = pow_pos f in
    rw back (eq-eqb (v / 2 ^ f) (lo / 2 ^ f * 2 ^ f / 2 ^ f) (between-same (2 ^ f) lo hi v pos same l m ∙ sym (mul-div_cancel (lo / 2 ^ f) pos)))

no_front : (w a : ℕ) → a < 2 ^ w → a / 2 ^ w ≡ 0
no_front w a h = div-eq_of_lt h

-- Sets of values.

last_hi : (low top : ℕ) (i d : Interval) (is : List Interval) → RiseApart low top (i ∷ is) → (i.hi ≤ (slice_index_or (i ∷ is) (length is) d).hi) × ((slice_index_or (i ∷ is) (length is) d).hi ≤ top)
last_hi low top i d [] rise = (le_refl i.hi, rise.2)
last_hi low top i d (j ∷ is) rise = let more = last_hi (i.hi + 2) top j d is rise.3 in (omega (arith, rise.3.0, rise.3.1, more.0), more.1)

up_to_last : (low top v : ℕ) (i d : Interval) (is : List Interval) → RiseApart low top (i ∷ is) → union_holds v (i ∷ is) ≡ true → v ≤ (slice_index_or (i ∷ is) (length is) d).hi
up_to_last low top v i d [] rise t = (between v i (sym (or-false (interval_holds v i)) ∙ t)).1
up_to_last low top v i d (j ∷ is) rise t = elim (or_cases (interval_holds v i) (union_holds v (j ∷ is)) t) [
  | inl at ↦ omega (arith, (between v i at).1, (last_hi low top i d (j ∷ is) rise).0)
  | inr later ↦ up_to_last (i.hi + 2) top v j d is rise.3 later
]

from_first : (low top v : ℕ) (i : Interval) (is : List Interval) → RiseApart low top (i ∷ is) → union_holds v (i ∷ is) ≡ true → i.lo ≤ v
from_first low top v i is rise t = elim (cases_lt v i.lo) [
  | inl less ↦ absurd (false≢true (sym (below i.lo top v (i ∷ is) (le_refl i.lo, rise.1, rise.2, rise.3) less) ∙ t))
  | inr more ↦ more
]

record IsInSet (top v : ℕ) (set : List Interval) : Type 0 where
  from : least_in_set set ≤ v
  to : v ≤ greatest_in_set set
  within : greatest_in_set set ≤ top

in_set : (top v : ℕ) (set : List Interval) → RiseApart 0 top set → union_holds v set ≡ true → IsInSet top v set
in_set top v [] rise t = absurd (false≢true t)
in_set top v (i ∷ is) rise t =
    let d : Interval = record { lo = 0; hi = 0 } in
    let e : length (i ∷ is) - 1 ≡ length is = omega arith in
    record {
      from = from_first 0 top v i is rise t;
      to = subst (λ n. v ≤ (slice_index_or (i ∷ is) n d).hi) (sym e) (up_to_last 0 top v i d is rise t);
      within = subst (λ n. (slice_index_or (i ∷ is) n d).hi ≤ top) (sym e) (last_hi 0 top i d is rise).1;
    }

-- the prefix round a set fits its field, and holds the value
abbrev HoldsAt : ℕ → List Interval → ℕ → Type 0
HoldsAt w set v = FitsWidth w (prefix_of_set w set) × (prefix_holds w (prefix_of_set w set) v ≡ true)

round_set : (w top v : ℕ) (set : List Interval) → w ≤ 32 → top < 2 ^ w → RiseApart 0 top set → union_holds v set ≡ true → HoldsAt w set v
round_set w top v set wide small rise t =
    let is = in_set top v set rise t in
    let lo = least_in_set set in
    let hi = greatest_in_set set in
    let top_lo : lo < 2 ^ w = omega (arith, is.from, is.to, is.within, small) in
    let top_hi : hi < 2 ^ w = omega (arith, is.within, small) in
    let few = few-apart w lo hi in
    let same = same-above w lo hi (no_front w lo top_lo ∙ sym (no_front w hi top_hi)) in
    (fits-round w (bits_apart w lo hi) lo wide few top_lo, holds-round w (bits_apart w lo hi) lo hi few same v is.from is.to)

-- the least value of a set that lies in its field is in the field
pub least-small : (w : ℕ) (set : List Interval) → RiseApart 0 (2 ^ w - 1) set → least_in_set set < 2 ^ w
least-small w [] rise = pow_pos w
least-small w (i ∷ is) rise = omega (arith, rise.1, rise.2, pow_pos w)

-- the sets of a rule, as they are borrowed
pub set-at : (r : Rule) (sets : List (Bor (List Span))) (k : ℕ) (d : Bor (List Span)) → map (λ (s : Bor (List Span)). intervals_of s.now) sets ≡ sets_of r → k < 5 →
    intervals_of (slice_index_or sets k d).now ≡ slice_index_or (sets_of r) k []
set-at r sets k d e h =
    let of : Bor (List Span) → List Interval = λ s. intervals_of s.now in
    let five : length sets ≡ 5 = sym (length-map sets of) ∙ ap length e in
    sym (get_or-map of sets k d [] (omega (arith, h, five))) ∙ ap (λ xs. slice_index_or xs k []) e

-- Words of prefixes.

abbrev pub cube_by : List Prefix → Cube
cube_by ps = record { value = key_of (map (λ (p : Prefix). p.value) ps); mask = key_of (masks_of stated ps) }

-- a rule's word and a header
pub record IsIn (cube : Cube) (h : List ℕ) : Type 0 where
  pub has : Has cube h
  pub masked : IsMasked cube

-- the trits of five prefixes are those of the cube
record AreTritsOf (ps : List Prefix) : Type 0 where
  values : IsHeader (map (λ (p : Prefix). p.value) ps)
  masks : IsHeader (masks_of stated ps)
  same : trits (bits 104 (cube_by ps).mask) (bits 104 (cube_by ps).value) ≡ fields_trits stated ps

five_trits : (p q r s t : Prefix) → (let ps = p ∷ q ∷ r ∷ s ∷ t ∷ [] in FitFields stated ps → AreTritsOf ps)
five_trits p q r s t fits =
    let ps = p ∷ q ∷ r ∷ s ∷ t ∷ [] in
    let vs : List ℕ = map (λ (p : Prefix). p.value) ps in
    let ms = masks_of stated ps in
    let f0 = fits.0 in
    let f1 = fits.1.0 in
    let f2 = fits.1.1.0 in
    let f3 = fits.1.1.1.0 in
    let f4 = fits.1.1.1.1.0 in
    let value_header : IsHeader vs = (f0.small, (f1.small, (f2.small, (f3.small, (f4.small, tt))))) in
    let mask_header : IsHeader ms = (mask_small 32 p f0, (mask_small 32 q f1, (mask_small 16 r f2, (mask_small 16 s f3, (mask_small 8 t f4, tt))))) in
    record {
      values = value_header;
      masks = mask_header;
      same = ap (λ m. trits m (bits 104 (key_of vs))) (key_bits ms mask_header) ∙ ap (trits (header_bits ms)) (key_bits vs value_header) ∙ trits-fields stated ps fits;
    }

five_in : (p q r s t : Prefix) (h : List ℕ) → (let ps = p ∷ q ∷ r ∷ s ∷ t ∷ [] in FitFields stated ps → IsHeader h → all_hold stated ps h ≡ true → IsIn (cube_by ps) h)
five_in p q r s t h fits is all =
    let ps = p ∷ q ∷ r ∷ s ∷ t ∷ [] in
    let cube = cube_by ps in
    let of = five_trits p q r s t fits in
    let narrow = key-small (masks_of stated ps) of.masks in
    let d : Prefix = record { value = 0; len = 0 } in
    let said : agrees (trits (bits 104 cube.mask) (bits 104 cube.value)) (bits 104 (key_of h)) ≡ true =
    ap (agrees (trits (bits 104 cube.mask) (bits 104 cube.value))) (key_bits h is) ∙ ap (λ word. agrees word (header_bits h)) of.same ∙ agrees-fields stated ps h fits is ∙ all in
    record {
      has = eqb-true _ 0 (agrees-mask 104 cube.mask cube.value (key_of h) narrow ∙ said);
      masked = record { masked = masked_key ps d refl fits; narrow = narrow };
    }

-- a word with these trits is the cube
pub word-cube : (p q r s t : Prefix) (w : Word) → (let ps = p ∷ q ∷ r ∷ s ∷ t ∷ [] in FitFields stated ps → word_of w ≡ fields_trits stated ps → cube_of w ≡ cube_by ps)
word-cube p q r s t w fits h =
    let ps = p ∷ q ∷ r ∷ s ∷ t ∷ [] in
    let cube = cube_by ps in
    let of = five_trits p q r s t fits in
    let d : Prefix = record { value = 0; len = 0 } in
    let same : word_of w ≡ trits (bits 104 cube.mask) (bits 104 cube.value) = h ∙ sym of.same in
    let masks : bits 104 w.mask ≡ bits 104 cube.mask = sym (mask-bits 104 w.mask w.value) ∙ ap (map mask_bit) same ∙ mask-bits 104 cube.mask cube.value in
    let values : bits 104 w.value ≡ bits 104 cube.value =
    sym (value-bits 104 w.mask w.value w.masked) ∙ ap (map value_bit) same ∙ value-bits 104 cube.mask cube.value (masked_key ps d refl fits) in
    let narrow : w.value < 2 ^ 104 = omega (arith, subst (λ (n : ℕ). n ≤ w.mask) w.masked (and_le_r w.value w.mask), w.narrow) in
    let mask : w.mask ≡ cube.mask = same_bits 104 w.mask cube.mask w.narrow (key-small (masks_of stated ps) of.masks) masks in
    let value : w.value ≡ cube.value = same_bits 104 w.value cube.value narrow (key-small (map (λ (p : Prefix). p.value) ps) of.values) values in
    ap (λ (n : ℕ). let c : Cube = record { value = n; mask = w.mask } in c) value ∙ ap (λ (n : ℕ). let c : Cube = record { value = cube.value; mask = n } in c) mask

-- Rules of a list.

prefix_within : (s : Span) → IsPrefix 32 s → s.hi ≤ 2 ^ 32 - 1
prefix_within s h = ∥∥₁_elim h le_prop (λ (p, fits, same).
    let hi : s.hi ≡ p.value + (2 ^ (32 - p.len) - 1) = ap (λ (i : Interval). i.hi) same in
    let step = whole_step_within 32 p.len p.value fits.len fits.small fits.low in
    let pos = pow_pos (32 - p.len) in
    omega (arith, hi, step, pos))

rise_prop : (low top : ℕ) (set : List Interval) → IsProp (RiseApart low top set)
rise_prop low top [] = hlevel
rise_prop low top (i ∷ set) = hlevel (le_prop, rise_prop (i.hi + 2) top set)

rising : (set : List Interval) → ∥ ArePorts set ∥₁ → RiseApart 0 GREATEST_PORT set
rising set h = ∥∥₁_elim h (rise_prop 0 GREATEST_PORT set) (λ ports. ports.rise)

alone : (top : ℕ) (s : Span) → s.hi ≤ top → RiseApart 0 top (interval_of s ∷ [])
alone top s h = let o = s.ordered in (omega arith, o, h, tt)

rule_in : (r : Rule) (h : List ℕ) → IsFilterRule r → IsHeader h → rule_matches h r ≡ true → IsIn (word_of_rule r) h
rule_in r (v0 ∷ v1 ∷ v2 ∷ v3 ∷ v4 ∷ []) spelled is t =
    let s0 = interval_of r.source ∷ [] in
    let s1 = interval_of r.destination ∷ [] in
    let s2 = slice_index_or r.ports 0 [] in
    let s3 = slice_index_or r.ports 1 [] in
    let s4 = interval_of r.protocol ∷ [] in
    let p0 = and_parts (union_holds v0 s0) _ t in
    let p1 = and_parts (union_holds v1 s1) _ p0.1 in
    let p2 = and_parts (union_holds v2 s2) _ p1.1 in
    let p3 = and_parts (union_holds v3 s3) _ p2.1 in
    let p4 = and_parts (union_holds v4 s4) _ p3.1 in
    let r0 = round_set 32 (2 ^ 32 - 1) v0 s0 (omega arith) (omega arith) (alone (2 ^ 32 - 1) r.source (prefix_within r.source spelled.source)) p0.0 in
    let r1 = round_set 32 (2 ^ 32 - 1) v1 s1 (omega arith) (omega arith) (alone (2 ^ 32 - 1) r.destination (prefix_within r.destination spelled.destination)) p1.0 in
    let r2 = round_set 16 GREATEST_PORT v2 s2 (omega arith) (omega arith) (rising s2 spelled.source_ports) p2.0 in
    let r3 = round_set 16 GREATEST_PORT v3 s3 (omega arith) (omega arith) (rising s3 spelled.destination_ports) p3.0 in
    let r4 = round_set 8 255 v4 s4 (omega arith) (omega arith) (alone 255 r.protocol r.inside) p4.0 in
    five_in (prefix_of_set 32 s0) (prefix_of_set 32 s1) (prefix_of_set 16 s2) (prefix_of_set 16 s3) (prefix_of_set 8 s4) (v0 ∷ v1 ∷ v2 ∷ v3 ∷ v4 ∷ [])
    (r0.0, (r1.0, (r2.0, (r3.0, (r4.0, tt))))) is (rw (r0.1, r1.1, r2.1, r3.1, r4.1) refl)
rule_in r h spelled is t = absurd assumption

-- the rule at a place of a list
pub listed-in : (list : RuleList) (k : ℕ) (r : Rule) (h : List ℕ) → slice_get list.rules.items k ≡ Some r → IsHeader h → rule_matches h r ≡ true → IsIn (word_of_rule r) h
listed-in list k r h at is t =
    let spelled = subst IsFilterRule (got list.rules.items k r r at) (list.spelled k r (slice_get_within list.rules.items k r at)) in
    rule_in r h spelled is t

-- The word of a rule has no bit outside of a key.

value_within : (w : ℕ) (set : List Interval) → RiseApart 0 (2 ^ w - 1) set → (prefix_of_set w set).value < 2 ^ w
value_within w set rise =
    let low = least-small w set rise in
    omega (arith, low, div-mul-le_self (least_in_set set) (2 ^ bits_apart w (least_in_set set) (greatest_in_set set)))

rule_narrow : (r : Rule) → IsFilterRule r → (word_of_rule r).value < 2 ^ 104
rule_narrow r spelled =
    let s0 = interval_of r.source ∷ [] in
    let s1 = interval_of r.destination ∷ [] in
    let s2 = slice_index_or r.ports 0 [] in
    let s3 = slice_index_or r.ports 1 [] in
    let s4 = interval_of r.protocol ∷ [] in
    let v0 = value_within 32 s0 (alone (2 ^ 32 - 1) r.source (prefix_within r.source spelled.source)) in
    let v1 = value_within 32 s1 (alone (2 ^ 32 - 1) r.destination (prefix_within r.destination spelled.destination)) in
    let v2 = value_within 16 s2 (rising s2 spelled.source_ports) in
    let v3 = value_within 16 s3 (rising s3 spelled.destination_ports) in
    let v4 = value_within 8 s4 (alone 255 r.protocol r.inside) in
    let values : List ℕ = (prefix_of_set 32 s0).value ∷ (prefix_of_set 32 s1).value ∷ (prefix_of_set 16 s2).value ∷ (prefix_of_set 16 s3).value ∷ (prefix_of_set 8 s4).value ∷ [] in
    key-small values (v0, (v1, (v2, (v3, (v4, tt)))))

pub listed-narrow : (list : RuleList) (k : ℕ) (r : Rule) → slice_get list.rules.items k ≡ Some r → (word_of_rule r).value < 2 ^ 104
listed-narrow list k r at = rule_narrow r (subst IsFilterRule (got list.rules.items k r r at) (list.spelled k r (slice_get_within list.rules.items k r at)))

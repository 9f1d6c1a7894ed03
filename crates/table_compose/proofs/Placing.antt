-- Prefixes put at their fields' places hold a header as they hold its values in their own order.
use Rattle.std.proofs.Common.{◌≡◌, ◌∷◌, ℕ, zero, suc, List, [], ◌<◌, ◌/◌, ◌^◌, Bool, true, false, length, map, ap, arith, refl, sym, ◌∙◌, subst, set}
use Rattle.std.specs.Prelude.{◌&&◌, ◌-◌, nat_eq, slice_index, slice_index_or}
use Rattle.std.proofs.lemmas.List.{get_or-set_other, length-set}
use Rattle.std.proofs.lemmas.Nat.{pow_pos}
use Rattle.std.proofs.lemmas.Bool.{eq-eqb}
use Rattle.std.proofs.Math.Bool.{and-true}
use Rattle.std.proofs.Math.Nat.{div-eq_of_lt}
use Rattle.node_store.proofs.Values.{count}
use Rattle.field_boxes.specs.declared.prefix.Prefix.{Prefix}
use Rattle.field_boxes.specs.Headline.Fields.{width, stated, AreValues, IsHeader}
use Rattle.field_boxes.specs.Headline.Prefix.{prefix_holds}
use Rattle.ternary_words.specs.Prefixes.{all_hold}
use Rattle.node_store.specs.Levels.{IsLevel}
use Rattle.table_compose.specs.Composed.{placed, open_all}
use Rattle.field_boxes.specs.Orders.{picked, IsMissing, AreDistinct}
use Rattle.field_boxes.proofs.Orders.{place_of_field, value_of}

abbrev any : Prefix
any = record { value = 0; len = 0 }

-- the prefixes that are there hold the header's values in these fields
abbrev pub AreOpen : List ℕ → List Prefix → List ℕ → Type 0
AreOpen [] base header = Unit {0}
AreOpen (f ∷ level) base header = (prefix_holds (width f) (slice_index_or base f any) (slice_index header f) ≡ true) × AreOpen level base header

still_open : (level : List ℕ) (base : List Prefix) (header : List ℕ) (f : ℕ) (p : Prefix) → IsMissing f level → AreOpen level base header → AreOpen level (set base f p) header
still_open [] base header f p m h = tt
still_open (g ∷ level) base header f p m h =
    (subst (λ q. prefix_holds (width g) q (slice_index header g) ≡ true) (sym (get_or-set_other base f g p any (λ e. m.0 e))) h.0, still_open level base header f p m.1 h.1)

swap : (a b c : Bool) → (a && (b && c)) ≡ (b && (a && c))
swap true true c = refl
swap true false c = refl
swap false true c = refl
swap false false c = refl

first_in : (a b c : Bool) → (a && (b && c)) ≡ ((b && a) && c)
first_in true true c = refl
first_in true false c = refl
first_in false true c = refl
first_in false false c = refl

set_holds : (fs : List ℕ) (base : List Prefix) (header : List ℕ) (k : ℕ) (p : Prefix) → k < length fs → length base ≡ length fs → length header ≡ length fs →
    prefix_holds (width (slice_index fs k)) (slice_index_or base k any) (slice_index header k) ≡ true →
    all_hold fs (set base k p) header ≡ (prefix_holds (width (slice_index fs k)) p (slice_index header k) && all_hold fs base header)
set_holds [] base header k p less b h opened = absurd (omega (arith, less))
set_holds (g ∷ fs) [] header k p less b h opened = absurd (omega (arith, b))
set_holds (g ∷ fs) (q ∷ base) [] k p less b h opened = absurd (omega (arith, h))
set_holds (g ∷ fs) (q ∷ base) (v ∷ header) zero p less b h opened = sym (ap (λ t. prefix_holds (width g) p v && (t && all_hold fs base header)) opened)
set_holds (g ∷ fs) (q ∷ base) (v ∷ header) (suc k) p less b h opened =
    ap (λ t. prefix_holds (width g) q v && t) (set_holds fs base header k p (omega (arith, less)) (omega (arith, b)) (omega (arith, h)) opened)
    ∙ swap (prefix_holds (width g) q v) (prefix_holds (width (slice_index fs k)) p (slice_index header k)) (all_hold fs base header)

pub placed_holds : (level : List ℕ) (base ps : List Prefix) (header : List ℕ) → IsLevel level → AreDistinct level → length base ≡ 5 → length header ≡ 5 → length ps ≡ length level →
    AreOpen level base header → all_hold stated (placed level base ps) header ≡ (all_hold level ps (picked level header) && all_hold stated base header)
placed_holds [] base ps header is apart b h n opened = refl
placed_holds (f ∷ level) base [] header is apart b h n opened = absurd (omega (arith, n))
placed_holds (f ∷ level) base (p ∷ ps) header is apart b h n opened =
    let at = place_of_field f is.0.0 in
    let here = set_holds stated base header f p (omega (arith, is.0.0)) b h (subst (λ k. prefix_holds (width k) (slice_index_or base f any) (slice_index header f) ≡ true) (sym at) opened.0)
    ∙ ap (λ k. prefix_holds (width k) p (slice_index header f) && all_hold stated base header) at in
    placed_holds level (set base f p) ps header is.1 apart.1 (length-set base f p ∙ b) h (omega (arith, n)) (still_open level base header f p apart.0 opened.1)
    ∙ ap (λ t. all_hold level ps (picked level header) && t) here
    ∙ first_in (all_hold level ps (picked level header)) (prefix_holds (width f) p (slice_index header f)) (all_hold stated base header)

any_by : (w k v : ℕ) → k ≡ w → v < 2 ^ w → nat_eq (v / 2 ^ k) (0 / 2 ^ k) ≡ true
any_by w k v e h =
    let less : v < 2 ^ k = subst (λ n. v < 2 ^ n) (sym e) h in
    eq-eqb (v / 2 ^ k) (0 / 2 ^ k) (div-eq_of_lt less ∙ sym (div-eq_of_lt (pow_pos k)))

any_holds : (w v : ℕ) → v < 2 ^ w → prefix_holds w any v ≡ true
any_holds w v h = any_by w (w - 0) v (omega arith) h

any_at : (f : ℕ) → f < 5 → slice_index_or open_all f any ≡ any
any_at zero h = refl
any_at (suc zero) h = refl
any_at (suc (suc zero)) h = refl
any_at (suc (suc (suc zero))) h = refl
any_at (suc (suc (suc (suc zero)))) h = refl
any_at (suc (suc (suc (suc (suc f))))) h = absurd (omega (arith, h))

all_open : (level header : List ℕ) → IsLevel level → IsHeader header → AreOpen level open_all header
all_open [] header is h = tt
all_open (f ∷ level) header is h =
    (subst (λ q. prefix_holds (width f) q (slice_index header f) ≡ true) (sym (any_at f is.0.0)) (any_holds (width f) (slice_index header f) (value_of header f is.0.0 h)), all_open level header is.1 h)

all_hold_open : (fs values : List ℕ) (ps : List Prefix) → AreValues fs values → ps ≡ map (λ f. any) fs → all_hold fs ps values ≡ true
all_hold_open [] values ps ok e = refl
all_hold_open (f ∷ fs) [] ps ok e = absurd ok
all_hold_open (f ∷ fs) (v ∷ values) ps ok e =
    ap (λ qs. all_hold (f ∷ fs) qs (v ∷ values)) e
    ∙ ap (λ t. t && all_hold fs (map (λ g. any) fs) values) (any_holds (width f) v ok.0) ∙ all_hold_open fs values (map (λ g. any) fs) ok.1 refl

-- the entry of a box holds a header as the box holds the header's values of its fields
pub box_at : (level : List ℕ) (ps : List Prefix) (header : List ℕ) → IsLevel level → AreDistinct level → IsHeader header → length ps ≡ length level →
    all_hold stated (placed level open_all ps) header ≡ all_hold level ps (picked level header)
box_at level ps header is apart h n =
    placed_holds level open_all ps header is apart (omega arith) (count stated header h) n (all_open level header is h)
    ∙ ap (λ t. all_hold level ps (picked level header) && t) (all_hold_open stated header open_all h refl)
    ∙ and-true (all_hold level ps (picked level header))

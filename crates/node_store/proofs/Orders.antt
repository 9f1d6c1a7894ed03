-- Orders of the five fields as levels, and headers whose values are picked in them.
use Rattle.std.proofs.Common.{◌≡◌, ◌∷◌, ℕ, zero, suc, List, [], ◌+◌, ◌<◌, ◌≤◌, ◌^◌, length, ap, arith, refl, sym, ◌∙◌, subst, set}
use Rattle.std.specs.Prelude.{slice_index}
use Rattle.std.specs.List.{All}
use Rattle.std.proofs.lemmas.List.{get_or-set_other, get_or-set_same, length-set}
use Rattle.std.proofs.lemmas.List.Elements.{All-head, All-tail}
use Rattle.field_boxes.specs.Headline.Fields.{width, stated, AreValues, IsHeader}
use Rattle.field_boxes.specs.Orders.{picked, IsMissing, AreDistinct, IsOrder}
use Rattle.field_boxes.proofs.Orders.{place_of_field, value_of, weight_of, weighs}
use Rattle.node_store.specs.Levels.{IsLevel, HasField, bits_of}

bits_weight : (fields : List ℕ) → bits_of fields ≡ weight_of width fields
bits_weight [] = refl
bits_weight (f ∷ fields) = ap (λ n. width f + n) (bits_weight fields)

within : (fields : List ℕ) → All (λ f. f < 5) fields → AreDistinct fields → bits_of fields ≤ 104
within fields all d = let few : weight_of width fields ≤ 104 = weighs width fields all d in omega (arith, bits_weight fields, few)

level : (fields : List ℕ) → All (λ f. f < 5) fields → AreDistinct fields → length fields ≤ 5 → IsLevel fields
level [] all d five = tt
level (f ∷ fields) all d five = (
  (All-head (λ g. g < 5) f fields all, within (f ∷ fields) all d, omega (arith, five)),
  level fields (All-tail (λ g. g < 5) f fields all) d.1 (omega (arith, five)),
)

-- an order is a level
pub order_level : (order : List ℕ) → IsOrder order → IsLevel order
order_level order is = level order is.fields is.distinct (omega (arith, is.five))

first_of : (level : List ℕ) → 0 < length level → IsLevel level → HasField level
first_of [] some is = absurd (omega (arith, some))
first_of (f ∷ level) some is = is

-- it has a first field
pub order_has_field : (order : List ℕ) → IsOrder order → HasField order
order_has_field order is = first_of order (omega (arith, is.five)) (order_level order is)

-- a header's values of a level's fields are such values
pub picked_values : (level header : List ℕ) → IsLevel level → IsHeader header → AreValues level (picked level header)
picked_values [] header is h = tt
picked_values (f ∷ level) header is h = (value_of header f is.0.0 h, picked_values level header is.1 h)

-- each value put at its field's place
abbrev spread : List ℕ → List ℕ → List ℕ → List ℕ
spread [] base values = base
spread (f ∷ level) base [] = base
spread (f ∷ level) base (v ∷ values) = spread level (set base f v) values

stays : (level base values : List ℕ) (f : ℕ) → IsMissing f level → slice_index (spread level base values) f ≡ slice_index base f
stays [] base values f m = refl
stays (g ∷ level) base [] f m = refl
stays (g ∷ level) base (v ∷ values) f m = stays level (set base g v) values f m.1 ∙ get_or-set_other base g f v 0 (λ e. m.0 (sym e))

pair_up : {v w : ℕ} {vs ws : List ℕ} → v ≡ w → vs ≡ ws → v ∷ vs ≡ w ∷ ws
pair_up p q = cc

picked_spread : (level base values : List ℕ) → IsLevel level → AreDistinct level → length base ≡ 5 → AreValues level values → picked level (spread level base values) ≡ values
picked_spread [] base [] is apart five are = refl
picked_spread [] base (v ∷ values) is apart five are = absurd are
picked_spread (f ∷ level) base [] is apart five are = absurd are
picked_spread (f ∷ level) base (v ∷ values) is apart five are =
    let less = is.0.0 in
    pair_up (stays level (set base f v) values f apart.0 ∙ get_or-set_same base f v 0 (omega (arith, less, five)))
    (picked_spread level (set base f v) values is.1 apart.1 (length-set base f v ∙ five) are.1)

set_value : (fs base : List ℕ) (k v : ℕ) → k < length fs → AreValues fs base → v < 2 ^ width (slice_index fs k) → AreValues fs (set base k v)
set_value [] base k v less h small = absurd (omega (arith, less))
set_value (f ∷ fs) [] k v less h small = absurd h
set_value (f ∷ fs) (b ∷ base) zero v less h small = (small, h.1)
set_value (f ∷ fs) (b ∷ base) (suc k) v less h small = (h.0, set_value fs base k v (omega (arith, less)) h.1 small)

spread_header : (level base values : List ℕ) → IsLevel level → IsHeader base → AreValues level values → IsHeader (spread level base values)
spread_header [] base values is h are = h
spread_header (f ∷ level) base [] is h are = h
spread_header (f ∷ level) base (v ∷ values) is h are =
    let less = is.0.0 in
    spread_header level (set base f v) values is.1
    (set_value stated base f v (omega (arith, less)) h (subst (λ k. v < 2 ^ width k) (sym (place_of_field f less)) are.0)) are.1

abbrev zeros : List ℕ
zeros = 0 ∷ 0 ∷ 0 ∷ 0 ∷ 0 ∷ []

-- for each list of values in an order a header that has them
pub some_header : (order values : List ℕ) → IsOrder order → AreValues order values → (header : List ℕ) × IsHeader header × (picked order header ≡ values)
some_header order values o are = (
  spread order zeros values,
  spread_header order zeros values (order_level order o) (omega arith, (omega arith, (omega arith, (omega arith, (omega arith, tt))))) are,
  picked_spread order zeros values (order_level order o) o.distinct refl are,
)

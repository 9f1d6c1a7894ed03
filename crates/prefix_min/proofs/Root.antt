-- The values of a part, by their bits below it, and the first row at a prefix itself.
use Rattle.std.proofs.Common.{◌≡◌, ◌∷◌, ℕ, zero, suc, List, [], ◌+◌, ◌*◌, ◌%◌, ◌^◌, ◌<◌, ◌≤◌, Bool, true, false, refl, ap, arith, sym, ◌∙◌, length}
use Rattle.std.specs.Prelude.{nat_eq, cond, find, Option, Some, None, option_map, unwrap_or, sum_by}
use Rattle.std.proofs.lemmas.Nat.{pow_pos, shr_high, mod_low}
use Rattle.field_boxes.specs.Headline.Bits.{bits}
use Rattle.field_boxes.proofs.Bits.{bits-mod}
use Rattle.field_boxes.proofs.Powers.{double}
use Rattle.std.proofs.lemmas.List.Sums.{sum_by-cons}
use Rattle.std.proofs.lemmas.Option.{none-some}
use Rattle.std.proofs.lemmas.Bool.{false≢true}
use Rattle.field_boxes.specs.Bits.{begins}
use Rattle.field_boxes.proofs.Halves.{Row, front, is_root, IsRootless}

-- the value with these lowest bits, in the part of n bits from low on
abbrev pub value : ℕ → ℕ → List Bool → ℕ
value zero low b = low
value (suc n) low [] = low
value (suc n) low (true ∷ b) = value n (low + 2 ^ n) b
value (suc n) low (false ∷ b) = value n low b

pub value-low : (n low : ℕ) (b : List Bool) → low ≤ value n low b
value-low zero low b = omega arith
value-low (suc n) low [] = omega arith
value-low (suc n) low (true ∷ b) = omega (arith, value-low n (low + 2 ^ n) b)
value-low (suc n) low (false ∷ b) = value-low n low b

pub value-high : (n low : ℕ) (b : List Bool) → value n low b < low + 2 ^ n
value-high zero low b = omega arith
value-high (suc n) low [] = omega (arith, pow_pos (suc n))
value-high (suc n) low (true ∷ b) = omega (arith, value-high n (low + 2 ^ n) b, double n)
value-high (suc n) low (false ∷ b) = omega (arith, value-high n low b, double n)

pub value-add : (n low : ℕ) (b : List Bool) → value n low b ≡ low + value n 0 b
value-add zero low b = omega arith
value-add (suc n) low [] = omega arith
value-add (suc n) low (true ∷ b) = omega (arith, value-add n (low + 2 ^ n) b, value-add n (0 + 2 ^ n) b)
value-add (suc n) low (false ∷ b) = value-add n low b

one_above : (n x : ℕ) → x < 2 ^ n → bits (suc n) (1 * 2 ^ n + x) ≡ true ∷ bits n x
one_above n x h = ap (λ q. nat_eq (q % 2) 1 ∷ bits n (1 * 2 ^ n + x)) (shr_high 1 n x h) ∙ ap (λ bs. true ∷ bs) (sym (bits-mod n (1 * 2 ^ n + x)) ∙ ap (bits n) (mod_low 1 n x h))

none_above : (n x : ℕ) → x < 2 ^ n → bits (suc n) (0 * 2 ^ n + x) ≡ false ∷ bits n x
none_above n x h = ap (λ q. nat_eq (q % 2) 1 ∷ bits n (0 * 2 ^ n + x)) (shr_high 0 n x h) ∙ ap (λ bs. false ∷ bs) (sym (bits-mod n (0 * 2 ^ n + x)) ∙ ap (bits n) (mod_low 0 n x h))

-- the bits of a value are the bits that it was made of
pub bits-value : (n : ℕ) (b : List Bool) → length b ≡ n → bits n (value n 0 b) ≡ b
bits-value zero [] e = refl
bits-value zero (x ∷ b) e = absurd (omega (arith, e))
bits-value (suc n) [] e = absurd (omega (arith, e))
bits-value (suc n) (true ∷ b) e =
    let s : value n (0 + 2 ^ n) b ≡ 1 * 2 ^ n + value n 0 b = omega (arith, value-add n (0 + 2 ^ n) b) in
    let small : value n 0 b < 2 ^ n = omega (arith, value-high n 0 b) in
    ap (bits (suc n)) s ∙ one_above n (value n 0 b) small ∙ ap (λ bs. true ∷ bs) (bits-value n b (omega (arith, e)))
bits-value (suc n) (false ∷ b) e =
    let s : value n 0 b ≡ 0 * 2 ^ n + value n 0 b = omega arith in
    let small : value n 0 b < 2 ^ n = omega (arith, value-high n 0 b) in
    ap (bits (suc n)) s ∙ none_above n (value n 0 b) small ∙ ap (λ bs. false ∷ bs) (bits-value n b (omega (arith, e)))

-- the weights of the rows' labels, added up
abbrev pub weigh : (ℕ → ℕ) → List (Row ℕ) → ℕ
weigh w rows = sum_by (λ r. w r.payload) rows

abbrev first : List (Row ℕ) → List Bool → Option (Row ℕ)
first rows v = find (λ r. begins r.bits v) rows

pub some_same : (a b : ℕ) → Some a ≡ Some b → a ≡ b
some_same a b h = ap (λ o. unwrap_or o 0) h

abbrev pub before : List (Row ℕ) → List (Row ℕ)
before [] = []
before (r ∷ rows) = cond (is_root r.bits) [] (r ∷ before rows)

abbrev pub root : List (Row ℕ) → Option ℕ
root [] = None
root (r ∷ rows) = cond (is_root r.bits) (Some r.payload) (root rows)

rootless_step : (t : Bool) (r : Row ℕ) (rows : List (Row ℕ)) → is_root r.bits ≡ t → IsRootless (before rows) → IsRootless (cond t [] (r ∷ before rows))
rootless_step true r rows e h = tt
rootless_step false r rows e h = (e, h)

-- no row before the first root is a root
pub before-rootless : (rows : List (Row ℕ)) → IsRootless (before rows)
before-rootless [] = tt
before-rootless (r ∷ rows) = rootless_step (is_root r.bits) r rows refl (before-rootless rows)

none_step : (t : Bool) (r : Row ℕ) (rows : List (Row ℕ)) → cond t (Some r.payload) (root rows) ≡ None → (root rows ≡ None → before rows ≡ rows) → cond t [] (r ∷ before rows) ≡ r ∷ rows
none_step true r rows e h = absurd (none-some r.payload (sym e))
none_step false r rows e h = ap (λ xs. r ∷ xs) (h e)

-- without a root all rows stand before it
pub before-none : (rows : List (Row ℕ)) → root rows ≡ None → before rows ≡ rows
before-none [] e = refl
before-none (r ∷ rows) e = none_step (is_root r.bits) r rows e (before-none rows)

begins_root : (bits v : List Bool) → is_root bits ≡ true → begins bits v ≡ true
begins_root [] v e = refl
begins_root (b ∷ bits) v e = absurd (false≢true e)

choose : (t : Bool) (r : Row ℕ) (rows : List (Row ℕ)) (v : List Bool) (e : ℕ) → front rows v ≡ Some (unwrap_or (front (before rows) v) e) →
    option_map (λ x. x.payload) (cond t (Some r) (first rows v)) ≡ Some (unwrap_or (option_map (λ x. x.payload) (cond t (Some r) (first (before rows) v))) e)
choose true r rows v e h = refl
choose false r rows v e h = h

front_step : (t : Bool) (r : Row ℕ) (rows : List (Row ℕ)) (v : List Bool) (e : ℕ) → is_root r.bits ≡ t → cond t (Some r.payload) (root rows) ≡ Some e →
    (root rows ≡ Some e → front rows v ≡ Some (unwrap_or (front (before rows) v) e)) →
    front (r ∷ rows) v ≡ Some (unwrap_or (front (cond t [] (r ∷ before rows)) v) e)
front_step true r rows v e is h k = ap (λ t. option_map (λ x. x.payload) (cond t (Some r) (first rows v))) (begins_root r.bits v is) ∙ h
front_step false r rows v e is h k = choose (begins r.bits v) r rows v e (k h)

-- with a root of label e every value has a first row: one before the root, or the root
pub front-root : (rows : List (Row ℕ)) (v : List Bool) (e : ℕ) → root rows ≡ Some e → front rows v ≡ Some (unwrap_or (front (before rows) v) e)
front-root [] v e h = absurd (none-some e h)
front-root (r ∷ rows) v e h = front_step (is_root r.bits) r rows v e refl h (front-root rows v e)

weight_step : (w : ℕ → ℕ) (t : Bool) (r : Row ℕ) (rows : List (Row ℕ)) (e : ℕ) → cond t (Some r.payload) (root rows) ≡ Some e →
    (root rows ≡ Some e → w e + weigh w (before rows) ≤ weigh w rows) → w e + weigh w (cond t [] (r ∷ before rows)) ≤ weigh w (r ∷ rows)
weight_step w true r rows e h k =
    let c = sum_by-cons (λ x. w x.payload) r rows in let s = some_same r.payload e h in rw (c, sym s) (omega arith)
weight_step w false r rows e h k =
    let c = sum_by-cons (λ x. w x.payload) r rows in let d = sum_by-cons (λ x. w x.payload) r (before rows) in rw (c, d) (omega (arith, k h))

pub weight-root : (w : ℕ → ℕ) (rows : List (Row ℕ)) (e : ℕ) → root rows ≡ Some e → w e + weigh w (before rows) ≤ weigh w rows
weight-root w [] e h = absurd (none-some e h)
weight-root w (r ∷ rows) e h = weight_step w (is_root r.bits) r rows e h (weight-root w rows e)

before_step : (w : ℕ → ℕ) (t : Bool) (r : Row ℕ) (rows : List (Row ℕ)) → weigh w (before rows) ≤ weigh w rows → weigh w (cond t [] (r ∷ before rows)) ≤ weigh w (r ∷ rows)
before_step w true r rows h = omega arith
before_step w false r rows h =
    let c = sum_by-cons (λ x. w x.payload) r rows in let d = sum_by-cons (λ x. w x.payload) r (before rows) in rw (c, d) (omega (arith, h))

pub weight-before : (w : ℕ → ℕ) (rows : List (Row ℕ)) → weigh w (before rows) ≤ weigh w rows
weight-before w [] = omega arith
weight-before w (r ∷ rows) = before_step w (is_root r.bits) r rows (weight-before w rows)

front_cons : (w : ℕ → ℕ) (t : Bool) (r : Row ℕ) (rows : List (Row ℕ)) (v : List Bool) (e : ℕ) → option_map (λ x. x.payload) (cond t (Some r) (first rows v)) ≡ Some e →
    (front rows v ≡ Some e → w e ≤ weigh w rows) → w e ≤ weigh w (r ∷ rows)
front_cons w true r rows v e h k =
    let c = sum_by-cons (λ x. w x.payload) r rows in let s = some_same r.payload e h in rw (c, sym s) (omega arith)
front_cons w false r rows v e h k = let c = sum_by-cons (λ x. w x.payload) r rows in rw c (omega (arith, k h))

-- a list weighs at least what the label of a first row weighs
pub weight-front : (w : ℕ → ℕ) (rows : List (Row ℕ)) (v : List Bool) (e : ℕ) → front rows v ≡ Some e → w e ≤ weigh w rows
weight-front w [] v e h = absurd (none-some e h)
weight-front w (r ∷ rows) v e h = front_cons w (begins r.bits v) r rows v e h (weight-front w rows v e)

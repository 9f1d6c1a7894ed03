-- What a lookup's slot and entry are.
use Rattle.std.proofs.Common.{◌≡◌, ◌∷◌, ◌++◌, ℕ, suc, ◌+◌, ◌-◌, ◌≤◌, ◌<◌, Bool, true, false, cond, List, [], Option, Some, None, length, replicate, slice_get, refl, ap, sym, ◌∙◌, arith, add-one, take_all, subst}
use Rattle.std.specs.Prelude.{find, position, option_map}
use Rattle.std.specs.List.{position_from}
use Rattle.std.proofs.lemmas.Iterator.Adapters.{position_from-zero}
use Rattle.bank_update.specs.Banks.{least_match, first_from, alone, passes}
use Rattle.bank_update.proofs.Front.{front-all}
use Rattle.bank_update.proofs.Looks.{look-block}

pub slot_step : {X Y : Type 0} (f : X → Y) (t : Bool) (x : X) (o : Option X) (p : Option Y) → option_map f o ≡ p → option_map f (cond t (Some x) o) ≡ cond t (Some (f x)) p
slot_step f true x o p h = refl
slot_step f false x o p h = h

look_from : {E : Type 0} (m : E → Bool) (bank : List (Option E)) (from : ℕ) → option_map (λ r. r.0) (least_match m bank from) ≡ position_from (passes m) from bank
look_from m [] from = refl
look_from m (None ∷ bank) from = look_from m bank (suc from) ∙ ap (λ n. position_from (passes m) n bank) (sym (add-one from))
look_from {E} m (Some e ∷ bank) from =
    slot_step (λ (r : ℕ × E). r.0) (m e) (from, e) (least_match m bank (suc from)) (position_from (passes m) (from + 1) bank)
    (look_from m bank (suc from) ∙ ap (λ n. position_from (passes m) n bank) (sym (add-one from)))

pub look-least : {E : Type 0} (m : E → Bool) (bank : List (Option E)) → option_map (λ r. r.0) (least_match m bank 0) ≡ position (passes m) bank
look-least m bank = look_from m bank 0 ∙ sym (position_from-zero (passes m) bank)

pub first-place : {E : Type 0} (m : E → Bool) (es : List E) (from : ℕ) → option_map (λ r. r.0) (first_from m es from) ≡ position_from m from es
first-place m [] from = refl
first-place {E} m (e ∷ es) from =
    slot_step (λ (r : ℕ × E). r.0) (m e) (from, e) (first_from m es (suc from)) (position_from m (from + 1) es)
    (first-place m es (suc from) ∙ ap (λ n. position_from m n es) (sym (add-one from)))

pub first-entry : {E : Type 0} (m : E → Bool) (es : List E) (from : ℕ) → option_map (λ r. r.1) (first_from m es from) ≡ find m es
first-entry m [] from = refl
first-entry {E} m (e ∷ es) from = slot_step (λ (r : ℕ × E). r.1) (m e) (from, e) (first_from m es (suc from)) (find m es) (first-entry m es (suc from))

-- a fact of the found pair, by whether it is the first
found_case : {X : Type 0} (P : X → Type 0) (t : Bool) (x r : X) (o : Option X) → P x → (o ≡ Some r → P r) → cond t (Some x) o ≡ Some r → P r
found_case P true x r o here there h = subst P (let e : x ≡ r = cc in e) here
found_case P false x r o here there h = there h

abbrev Within : {E : Type 0} → List E → ℕ → ℕ × E → Type 0
Within es from r = (from ≤ r.0) × (r.0 < from + length es) × (slice_get es (r.0 - from) ≡ Some r.1)

within_here : {E : Type 0} (e : E) (es : List E) (from : ℕ) → Within (e ∷ es) from (from, e)
within_here e es from = (omega arith, omega arith, ap (slice_get (e ∷ es)) (let z : from - from ≡ 0 = omega arith in z))

within_there : {E : Type 0} (e : E) (es : List E) (from : ℕ) (r : ℕ × E) → Within es (suc from) r → Within (e ∷ es) from r
within_there e es from r w =
    (omega (arith, w.0), omega (arith, w.1), ap (slice_get (e ∷ es)) (let z : r.0 - from ≡ suc (r.0 - suc from) = omega (arith, w.0) in z) ∙ w.2)

pub first-within : {E : Type 0} (m : E → Bool) (es : List E) (from : ℕ) (r : ℕ × E) → first_from m es from ≡ Some r → Within es from r
first-within m [] from r h = absurd (cc)
first-within m (e ∷ es) from r h =
    found_case (Within (e ∷ es) from) (m e) (from, e) r (first_from m es (suc from)) (within_here e es from)
    (λ k. within_there e es from r (first-within m es (suc from) r k)) h

abbrev StandsAt : {E : Type 0} → List (Option E) → ℕ → ℕ × E → Type 0
StandsAt bank from r = (from ≤ r.0) × (slice_get bank (r.0 - from) ≡ Some (Some r.1))

stands_there : {E : Type 0} (o : Option E) (bank : List (Option E)) (from : ℕ) (r : ℕ × E) → StandsAt bank (suc from) r → StandsAt (o ∷ bank) from r
stands_there o bank from r w = (omega (arith, w.0), ap (slice_get (o ∷ bank)) (let z : r.0 - from ≡ suc (r.0 - suc from) = omega (arith, w.0) in z) ∙ w.1)

look_stands : {E : Type 0} (m : E → Bool) (bank : List (Option E)) (from : ℕ) (r : ℕ × E) → least_match m bank from ≡ Some r → StandsAt bank from r
look_stands m [] from r h = absurd (cc)
look_stands m (None ∷ bank) from r h = stands_there None bank from r (look_stands m bank (suc from) r h)
look_stands m (Some e ∷ bank) from r h =
    found_case (StandsAt (Some e ∷ bank) from) (m e) (from, e) r (least_match m bank (suc from))
    (omega arith, ap (slice_get (Some e ∷ bank)) (let z : from - from ≡ 0 = omega arith in z))
    (λ k. stands_there (Some e) bank from r (look_stands m bank (suc from) r k)) h

pub look-stands : {E : Type 0} (m : E → Bool) (bank : List (Option E)) (k : ℕ) (e : E) → least_match m bank 0 ≡ Some (k, e) → slice_get bank k ≡ Some (Some e)
look-stands m bank k e h = ap (slice_get bank) (let z : k ≡ k - 0 = omega arith in z) ∙ (look_stands m bank 0 (k, e) h).1

-- a table alone is a block with nothing in front of it and behind it
pub look-alone : {E : Type 0} (m : E → Bool) (slots from : ℕ) (es : List E) → least_match m (alone slots from es) 0 ≡ first_from m es from
look-alone m slots from es =
    ap (λ r. least_match m (replicate from None ++ (r ++ replicate (slots - from - length es) None)) 0) (sym (front-all (length es) es (omega arith)))
    ∙ look-block m (length es) from (slots - from - length es) es
    ∙ ap (λ fs. first_from m fs from) (take_all (length es) es (omega arith))

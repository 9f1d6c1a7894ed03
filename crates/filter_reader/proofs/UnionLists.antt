-- Unions of intervals, one interval after another.
use Rattle.std.proofs.Common.{◌≡◌, ◌∷◌, ℕ, ◌+◌, ◌<◌, ◌≤◌, List, Bool, true, false, cond, [], ap, refl, ◌∙◌, arith, min, max, nat_lt, ◌||◌, ltb-true, ltb-false, sym}
use Rattle.std.proofs.lemmas.Bool.Decides.{nat_tests}
use Rattle.std.proofs.Math.Bool.{or_assoc, or_comm}
use Rattle.field_boxes.specs.Headline.Classifier.{Interval, interval_holds, union_holds}
use Rattle.field_boxes.specs.Unions.{RiseApart}
use Rattle.filter_reader.specs.Headline.Ports.{with_interval, union_of}
use Rattle.field_boxes.proofs.Unions.{weaken}

abbrev hull : Interval → Interval → Interval
hull i j = record { lo = min i.lo j.lo; hi = max i.hi j.hi }

or_swap : (a b c : Bool) → (a || (b || c)) ≡ (b || (a || c))
or_swap a b c = sym (or_assoc a b c) ∙ ap (λ t. t || c) (or_comm a b) ∙ or_assoc b a c

rises_step : (low top : ℕ) (i j : Interval) (js : List Interval) (s t : Bool) → nat_lt (i.hi + 1) j.lo ≡ s → nat_lt (j.hi + 1) i.lo ≡ t →
    low ≤ i.lo → i.lo ≤ i.hi → i.hi ≤ top → RiseApart low top (j ∷ js) →
    (j.hi + 2 ≤ i.lo → RiseApart (j.hi + 2) top (with_interval i js)) → RiseApart low top (with_interval (hull i j) js) →
    RiseApart low top (cond s (i ∷ j ∷ js) (cond t (j ∷ with_interval i js) (with_interval (hull i j) js)))
rises_step low top i j js true t p q at order within rise after touching =
    let gap : i.hi + 1 < j.lo = ltb-true (i.hi + 1) j.lo p in
    (at, order, within, (omega arith, rise.1, rise.2, rise.3))
rises_step low top i j js false true p q at order within rise after touching =
    let gap : j.hi + 1 < i.lo = ltb-true (j.hi + 1) i.lo q in
    (rise.0, rise.1, rise.2, after (omega arith))
rises_step low top i j js false false p q at order within rise after touching = touching

-- the intervals still rise with gaps
pub with_interval-rises : (low top : ℕ) (i : Interval) (js : List Interval) → low ≤ i.lo → i.lo ≤ i.hi → i.hi ≤ top → RiseApart low top js → RiseApart low top (with_interval i js)
with_interval-rises low top i [] at order within rise = (at, order, within, tt)
with_interval-rises low top i (j ∷ js) at order within rise =
    let first = rise.0 in
    let inner = rise.1 in
    let last = rise.2 in
    rises_step low top i j js (nat_lt (i.hi + 1) j.lo) (nat_lt (j.hi + 1) i.lo) refl refl at order within rise
    (λ from. with_interval-rises (j.hi + 2) top i js from order within rise.3)
    (with_interval-rises low top (hull i j) js (omega arith) (omega arith) (omega arith) (weaken low (j.hi + 2) top js (omega arith) rise.3))

-- a value of the hull of two intervals between which no value is missing is in one of them
hull_holds : (v : ℕ) (i j : Interval) → i.lo ≤ i.hi → j.lo ≤ j.hi → j.lo ≤ i.hi + 1 → i.lo ≤ j.hi + 1 → interval_holds v (hull i j) ≡ (interval_holds v i || interval_holds v j)
hull_holds v i j ordered inner near next = grind (arith, nat_tests)

values_step : (v : ℕ) (i j : Interval) (js : List Interval) (s t : Bool) → nat_lt (i.hi + 1) j.lo ≡ s → nat_lt (j.hi + 1) i.lo ≡ t → i.lo ≤ i.hi → j.lo ≤ j.hi →
    union_holds v (with_interval i js) ≡ (interval_holds v i || union_holds v js) → union_holds v (with_interval (hull i j) js) ≡ (interval_holds v (hull i j) || union_holds v js) →
    union_holds v (cond s (i ∷ j ∷ js) (cond t (j ∷ with_interval i js) (with_interval (hull i j) js))) ≡ (interval_holds v i || (interval_holds v j || union_holds v js))
values_step v i j js true t p q ordered inner after touching = refl
values_step v i j js false true p q ordered inner after touching = ap (λ b. interval_holds v j || b) after ∙ or_swap (interval_holds v j) (interval_holds v i) (union_holds v js)
values_step v i j js false false p q ordered inner after touching =
    let near : j.lo ≤ i.hi + 1 = ltb-false (i.hi + 1) j.lo p in
    let next : i.lo ≤ j.hi + 1 = ltb-false (j.hi + 1) i.lo q in
    touching ∙ ap (λ b. b || union_holds v js) (hull_holds v i j ordered inner near next) ∙ or_assoc (interval_holds v i) (interval_holds v j) (union_holds v js)

-- its values and theirs
pub with_interval-values : (low top v : ℕ) (i : Interval) (js : List Interval) → i.lo ≤ i.hi → RiseApart low top js → union_holds v (with_interval i js) ≡ (interval_holds v i || union_holds v js)
with_interval-values low top v i [] order rise = refl
with_interval-values low top v i (j ∷ js) order rise =
    let inner = rise.1 in
    values_step v i j js (nat_lt (i.hi + 1) j.lo) (nat_lt (j.hi + 1) i.lo) refl refl order inner
    (with_interval-values (j.hi + 2) top v i js order rise.3)
    (with_interval-values (j.hi + 2) top v (hull i j) js (omega arith) rise.3)

-- in these ranges every number is a port, and none begins above its end
abbrev pub AreRanges : List Interval → Type 0
AreRanges [] = Unit {0}
AreRanges (i ∷ is) = (i.lo ≤ i.hi) × (i.hi ≤ 65535) × AreRanges is

pub union_of-rises : (is : List Interval) → AreRanges is → RiseApart 0 65535 (union_of is)
union_of-rises [] h = tt
union_of-rises (i ∷ is) h = with_interval-rises 0 65535 i (union_of is) (omega arith) h.0 h.1 (union_of-rises is h.2)

pub union_of-values : (v : ℕ) (is : List Interval) → AreRanges is → union_holds v (union_of is) ≡ union_holds v is
union_of-values v [] h = refl
union_of-values v (i ∷ is) h =
    with_interval-values 0 65535 v i (union_of is) h.0 (union_of-rises is h.2) ∙ ap (λ b. interval_holds v i || b) (union_of-values v is h.2)

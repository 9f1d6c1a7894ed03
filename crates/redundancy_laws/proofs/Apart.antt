-- Intervals that rise and are apart, and the values that they hold.
use Rattle.std.proofs.Common.{◌≡◌, ◌∷◌, ◌++◌, ℕ, zero, suc, List, [], ◌<◌, ◌≤◌, ◌+◌, false, refl, ap, arith, sym, ◌∙◌, take, append_assoc}
use Rattle.std.specs.Prelude.{◌&&◌, ◌||◌, Some, slice_get, map}
use Rattle.std.specs.List.{list_any}
use Rattle.std.proofs.lemmas.List.{append-nil}
use Rattle.std.proofs.lemmas.List.Folds.{list_any-append}
use Rattle.field_boxes.specs.Headline.Classifier.{Interval, interval_holds}
use Rattle.redundancy_laws.specs.Rows.{Row, matches, in_front}
use Rattle.redundancy_laws.specs.Layers.{Run, rows_of_runs, AreApart, AreApartFrom, end_of}
use Rattle.redundancy_laws.proofs.OneRun.{cover-behind}
use Rattle.field_boxes.proofs.Unions.{not_past, not_below, between}

-- rows behind an interval don't match other values
pub behind-none : (v : ℕ) (values : List ℕ) (span : Interval) (rows : List Row) → interval_holds v span ≡ false → list_any (matches (v ∷ values)) (map (in_front span) rows) ≡ false
behind-none v values span rows is = cover-behind span v values rows ∙ ap (λ t. t && list_any (matches values) rows) is

pub append-none : (values : List ℕ) (rows more : List Row) → list_any (matches values) rows ≡ false → list_any (matches values) more ≡ false → list_any (matches values) (rows ++ more) ≡ false
append-none values rows more h k = list_any-append (matches values) rows more ∙ ap (λ t. t || list_any (matches values) more) h ∙ k

-- no run reaches below the least value
pub none-below : (least : ℕ) (runs : List Run) (v : ℕ) (values : List ℕ) → AreApart least runs → v < least → list_any (matches (v ∷ values)) (rows_of_runs runs) ≡ false
none-below least [] v values apart h = refl
none-below least (r ∷ runs) v values apart h =
    let lo = apart.0 in
    let hi = apart.1 in
    append-none (v ∷ values) (map (in_front r.span) r.rows) (rows_of_runs runs) (behind-none v values r.span r.rows (not_below v r.span (omega (arith, lo, h))))
    (none-below (r.span.hi + 1) runs v values apart.2 (omega (arith, lo, hi, h)))

-- a run lies above the least value
pub low_at : (least : ℕ) (runs : List Run) (k : ℕ) (r : Run) → AreApart least runs → slice_get runs k ≡ Some r → least ≤ r.span.lo
low_at least [] k r apart at = cc
low_at least (q ∷ runs) zero r apart at = let e : q ≡ r = cc in let lo = apart.0 in let same : q.span.lo ≡ r.span.lo = ap (λ (x : Run). x.span.lo) e in omega (arith, lo, same)
low_at least (q ∷ runs) (suc k) r apart at =
    let lo = apart.0 in
    let hi = apart.1 in
    let more = low_at (q.span.hi + 1) runs k r apart.2 at in
    omega (arith, lo, hi, more)

take_none : (runs : List Run) → rows_of_runs (take 0 runs) ≡ []
take_none [] = refl
take_none (r ∷ runs) = refl

-- no run matches what the ones before it match
pub apart-from : (least : ℕ) (runs : List Run) (k : ℕ) (r : Run) → AreApart least runs → slice_get runs k ≡ Some r → AreApartFrom r.span (rows_of_runs (take k runs))
apart-from least runs zero r apart at v values is = ap (list_any (matches (v ∷ values))) (take_none runs)
apart-from least [] (suc k) r apart at v values is = cc
apart-from least (q ∷ runs) (suc k) r apart at v values is =
    let e = between v r.span is in
    let lo = low_at (q.span.hi + 1) runs k r apart.2 at in
    append-none (v ∷ values) (map (in_front q.span) q.rows) (rows_of_runs (take k runs)) (behind-none v values q.span q.rows (not_past v q.span (omega (arith, e.0, lo))))
    (apart-from (q.span.hi + 1) runs k r apart.2 at v values is)

-- the rows with those of one more run
pub rows-more : (runs : List Run) (k : ℕ) (r : Run) → slice_get runs k ≡ Some r → rows_of_runs (take (suc k) runs) ≡ rows_of_runs (take k runs) ++ map (in_front r.span) r.rows
rows-more [] k r at = cc
rows-more (q ∷ runs) zero r at =
    let e : q ≡ r = cc in
    ap (λ rows. map (in_front q.span) q.rows ++ rows) (take_none runs) ∙ append-nil (map (in_front q.span) q.rows) ∙ ap (λ (x : Run). map (in_front x.span) x.rows) e
rows-more (q ∷ runs) (suc k) r at =
    ap (λ rows. map (in_front q.span) q.rows ++ rows) (rows-more runs k r at) ∙ sym (append_assoc (map (in_front q.span) q.rows) (rows_of_runs (take k runs)) (map (in_front r.span) r.rows))

pub rows-append : (runs more : List Run) → rows_of_runs (runs ++ more) ≡ rows_of_runs runs ++ rows_of_runs more
rows-append [] more = refl
rows-append (r ∷ runs) more = ap (λ rows. map (in_front r.span) r.rows ++ rows) (rows-append runs more) ∙ sym (append_assoc (map (in_front r.span) r.rows) (rows_of_runs runs) (rows_of_runs more))

-- a run more, above all of them
pub apart-longer : (least : ℕ) (runs : List Run) (r : Run) → AreApart least runs → end_of least runs ≤ r.span.lo → r.span.lo ≤ r.span.hi → AreApart least (runs ++ r ∷ [])
apart-longer least [] r apart above order = (above, order, tt)
apart-longer least (q ∷ runs) r apart above order = (apart.0, apart.1, apart-longer (q.span.hi + 1) runs r apart.2 above order)

pub end-longer : (least : ℕ) (runs : List Run) (r : Run) → end_of least (runs ++ r ∷ []) ≡ r.span.hi + 1
end-longer least [] r = refl
end-longer least (q ∷ runs) r = end-longer (q.span.hi + 1) runs r

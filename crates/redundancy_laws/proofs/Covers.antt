-- What the rows of a block match, as a node.
use Rattle.node_store.specs.Levels.{HasField, next, top_of}
use Rattle.std.proofs.Common.{◌≡◌, ◌∷◌, ◌++◌, ℕ, zero, suc, List, [], ◌≤◌, ◌+◌, Bool, true, false, refl, ap, arith, sym, ◌∙◌, take}
use Rattle.std.specs.Prelude.{◌&&◌, ◌||◌, Some, slice_get, map}
use Rattle.std.specs.List.{list_any}
use Rattle.std.proofs.Math.Bool.{or-false}
use Rattle.std.proofs.lemmas.List.Folds.{list_any-append}
use Rattle.field_boxes.specs.Headline.Fields.{AreValues}
use Rattle.field_boxes.specs.Headline.Classifier.{interval_holds}
use Rattle.node_store.specs.Edges.{child_of}
use Rattle.node_store.specs.Diagram.{Node, edges_of}
use Rattle.node_store.proofs.Values.{each}
use Rattle.redundancy_laws.specs.Rows.{Row, matches, in_front, last_row}
use Rattle.redundancy_laws.specs.Layers.{Run, rows_of_runs, AreApart, end_of}
use Rattle.redundancy_laws.specs.Sifted.{is_in, IsCover, IsCoverBehind, IsEmpty, IsUnion}
use Rattle.redundancy_laws.proofs.OneRun.{cover-behind}
use Rattle.redundancy_laws.proofs.Apart.{behind-none, append-none, apart-from, rows-more}
use Rattle.field_boxes.proofs.Unions.{not_past}

last_at : (nodes : List Node) (set decision : ℕ) (values : List ℕ) → is_in nodes set [] ≡ true → AreValues [] values → is_in nodes set values ≡ list_any (matches values) (last_row decision ∷ [])
last_at nodes set decision [] h ok = h
last_at nodes set decision (v ∷ values) h ok = absurd ok

pub cover-last : (nodes : List Node) (set decision : ℕ) → is_in nodes set [] ≡ true → IsCover nodes [] set (last_row decision ∷ [])
cover-last nodes set decision h values ok = last_at nodes set decision values h ok

or_both : (a b c d : Bool) → a ≡ c → b ≡ d → (a || b) ≡ (c || d)
or_both a b c d h k = cc

pub cover-two : (nodes : List Node) (level : List ℕ) (first second id : ℕ) (xs ys : List Row) → IsCover nodes level first xs → IsCover nodes level second ys → IsUnion nodes level first second id → IsCover nodes level id (xs ++ ys)
cover-two nodes level first second id xs ys h k union values ok =
    union values ok ∙ or_both (is_in nodes first values) (is_in nodes second values) (list_any (matches values) xs) (list_any (matches values) ys) (h values ok) (k values ok)
    ∙ sym (list_any-append (matches values) xs ys)

-- a node that leads, from each value, to what the rows match behind it
pub cover-by-values : (nodes : List Node) (level : List ℕ) (id : ℕ) (rows : List Row) → HasField level →
    ((v : ℕ) → v ≤ top_of level → IsCoverBehind nodes level v (child_of (edges_of nodes id) v) rows) → IsCover nodes level id rows
cover-by-values nodes level id rows five h = each (λ values. is_in nodes id values ≡ list_any (matches values) rows) level five (λ v values small ok. h v small values ok)

more_at : (v : ℕ) (values : List ℕ) (runs : List Run) (k : ℕ) (r : Run) → slice_get runs k ≡ Some r →
    list_any (matches (v ∷ values)) (rows_of_runs (take (suc k) runs)) ≡ (list_any (matches (v ∷ values)) (rows_of_runs (take k runs)) || list_any (matches (v ∷ values)) (map (in_front r.span) r.rows))
more_at v values runs k r at = ap (list_any (matches (v ∷ values))) (rows-more runs k r at) ∙ list_any-append (matches (v ∷ values)) (rows_of_runs (take k runs)) (map (in_front r.span) r.rows)

-- at a value of the next run: its cover
pub cover-within : (nodes : List Node) (level : List ℕ) (least : ℕ) (runs : List Run) (k : ℕ) (r : Run) (v set : ℕ) → AreApart least runs → slice_get runs k ≡ Some r → interval_holds v r.span ≡ true →
    IsCover nodes (next level) set r.rows → IsCoverBehind nodes level v set (rows_of_runs (take (suc k) runs))
cover-within nodes level least runs k r v set apart at is covers values ok =
    covers values ok
    ∙ sym (more_at v values runs k r at
    ∙ ap (λ t. t || list_any (matches (v ∷ values)) (map (in_front r.span) r.rows)) (apart-from least runs k r apart at v values is)
    ∙ cover-behind r.span v values r.rows ∙ ap (λ t. t && list_any (matches values) r.rows) is)

-- at another value: what is covered without the run
pub cover-without : (nodes : List Node) (level : List ℕ) (runs : List Run) (k : ℕ) (r : Run) (v set : ℕ) → slice_get runs k ≡ Some r → interval_holds v r.span ≡ false →
    IsCoverBehind nodes level v set (rows_of_runs (take k runs)) → IsCoverBehind nodes level v set (rows_of_runs (take (suc k) runs))
cover-without nodes level runs k r v set at is covers values ok =
    covers values ok
    ∙ sym (more_at v values runs k r at
    ∙ ap (λ t. list_any (matches (v ∷ values)) (rows_of_runs (take k runs)) || t) (behind-none v values r.span r.rows is)
    ∙ or-false (list_any (matches (v ∷ values)) (rows_of_runs (take k runs))))

end_above : (least : ℕ) (runs : List Run) → AreApart least runs → least ≤ end_of least runs
end_above least [] apart = omega arith
end_above least (r ∷ runs) apart =
    let lo = apart.0 in
    let hi = apart.1 in
    let more = end_above (r.span.hi + 1) runs apart.2 in
    omega (arith, lo, hi, more)

none_past : (least : ℕ) (runs : List Run) (v : ℕ) (values : List ℕ) → AreApart least runs → end_of least runs ≤ v → list_any (matches (v ∷ values)) (rows_of_runs runs) ≡ false
none_past least [] v values apart h = refl
none_past least (r ∷ runs) v values apart h =
    let more = end_above (r.span.hi + 1) runs apart.2 in
    append-none (v ∷ values) (map (in_front r.span) r.rows) (rows_of_runs runs) (behind-none v values r.span r.rows (not_past v r.span (omega (arith, more, h)))) (none_past (r.span.hi + 1) runs v values apart.2 h)

-- above all runs: nothing
pub cover-past : (nodes : List Node) (level : List ℕ) (least : ℕ) (runs : List Run) (v set : ℕ) → AreApart least runs → end_of least runs ≤ v → IsEmpty nodes (next level) set → IsCoverBehind nodes level v set (rows_of_runs runs)
cover-past nodes level least runs v set apart h empty values ok = empty values ok ∙ sym (none_past least runs v values apart h)

-- so many runs
pub apart-front : (least : ℕ) (runs : List Run) (k : ℕ) → AreApart least runs → AreApart least (take k runs)
apart-front least [] zero apart = tt
apart-front least [] (suc k) apart = tt
apart-front least (r ∷ runs) zero apart = tt
apart-front least (r ∷ runs) (suc k) apart = (apart.0, apart.1, apart-front (r.span.hi + 1) runs k apart.2)

pub end-more : (least : ℕ) (runs : List Run) (k : ℕ) (r : Run) → AreApart least runs → slice_get runs k ≡ Some r → (end_of least (take k runs) ≤ r.span.lo) × (end_of least (take (suc k) runs) ≡ r.span.hi + 1)
end-more least [] k r apart at = cc
end-more least (q ∷ runs) zero r apart at = first runs
  where
    same : q ≡ r
    same = cc

    lo : least ≤ r.span.lo
    lo = let a = apart.0 in let e : q.span.lo ≡ r.span.lo = ap (λ (x : Run). x.span.lo) same in omega (arith, a, e)

    first : (rest : List Run) → (least ≤ r.span.lo) × (end_of (q.span.hi + 1) (take 0 rest) ≡ r.span.hi + 1)
    first [] = (lo, ap (λ (x : Run). x.span.hi + 1) same)
    first (s ∷ rest) = (lo, ap (λ (x : Run). x.span.hi + 1) same)
end-more least (q ∷ runs) (suc k) r apart at = end-more (q.span.hi + 1) runs k r apart.2 at

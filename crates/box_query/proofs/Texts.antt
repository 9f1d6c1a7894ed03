-- The lines of the boxes of a node, edge by edge.
use Rattle.std.proofs.Common.{◌≡◌, ◌∷◌, ◌++◌, ℕ, zero, suc, ◌+◌, ◌<◌, ◌≤◌, List, [], length, get_or, take, map, refl, ap, sym, ◌∙◌, arith, append_assoc, append-nil, add-one, length-append, min, decimal}
use Rattle.std.specs.List.{flat_map, join_with_byte}
use Rattle.std.proofs.lemmas.List.{take_more}
use Rattle.std.proofs.lemmas.List.Concat.{flat_map-append}
use Rattle.field_boxes.specs.Headline.Classifier.{Interval}
use Rattle.node_store.specs.declared.edge.Edge.{Edge}
use Rattle.node_store.proofs.Edges as edges
use Rattle.box_query.specs.Boxes.{put_first}
use Rattle.box_query.specs.BoxText.{box_line, interval_text}
use Rattle.box_query.specs.NodeBoxes.{Branch, branch, branches, branch_boxes, front_text}

-- each box has a first interval
abbrev pub AreLonger : List (List Interval) → Type 0
AreLonger [] = Unit {0}
AreLonger ([] ∷ boxes) = ⊥
AreLonger ((i ∷ box) ∷ boxes) = AreLonger boxes

longer-more : (i : Interval) (boxes more : List (List Interval)) → AreLonger more → AreLonger (map (put_first i) boxes ++ more)
longer-more i [] more h = h
longer-more i (b ∷ boxes) more h = longer-more i boxes more h

pub longer-branches : (boxes : ℕ → List (List Interval)) (bs : List Branch) → AreLonger (flat_map (branch_boxes boxes) bs)
longer-branches boxes [] = tt
longer-branches boxes (b ∷ bs) = longer-more b.first (boxes b.to) (flat_map (branch_boxes boxes) bs) (longer-branches boxes bs)

-- an interval in front of each box goes to the end of what stands in front of the lines

one-front : (f a c y z : List ℕ) → f ++ (((a ++ (45 ∷ c)) ++ (32 ∷ y)) ++ z) ≡ (((f ++ a) ++ (45 ∷ c)) ++ (32 ∷ [])) ++ (y ++ z)
one-front f a c y z = simp append_assoc

pub more-front : (front : List ℕ) (i : Interval) (boxes : List (List Interval)) → AreLonger boxes →
    front_text front (map (put_first i) boxes) ≡ front_text (((front ++ decimal i.lo) ++ (45 ∷ decimal i.hi)) ++ (32 ∷ [])) boxes
more-front front i [] h = refl
more-front front i ([] ∷ boxes) h = absurd h
more-front front i ((j ∷ box) ∷ boxes) h =
    ap (λ t. t ++ front_text front (map (put_first i) boxes)) (one-front front (decimal i.lo) (decimal i.hi) (join_with_byte 32 (map interval_text (j ∷ box))) (10 ∷ []))
    ∙ ap (λ t. ((((front ++ decimal i.lo) ++ (45 ∷ decimal i.hi)) ++ (32 ∷ [])) ++ box_line (j ∷ box)) ++ t) (more-front front i boxes h)

last-front : (f a c : List ℕ) → (f ++ ((a ++ (45 ∷ c)) ++ (10 ∷ []))) ++ [] ≡ ((f ++ a) ++ (45 ∷ c)) ++ (10 ∷ [])
last-front f a c = simp (append-nil, append_assoc)

-- the line of a box of one more interval
pub last-line : (front : List ℕ) (i : Interval) → ((front ++ decimal i.lo) ++ (45 ∷ decimal i.hi)) ++ (10 ∷ []) ≡ front_text front (map (put_first i) ([] ∷ []))
last-line front i = sym (last-front front (decimal i.lo) (decimal i.hi))

-- the lines of boxes, list by list
pub lines-flat : {X : Type 0} (front : List ℕ) (boxes : X → List (List Interval)) (xs : List X) → flat_map (λ x. front_text front (boxes x)) xs ≡ front_text front (flat_map boxes xs)
lines-flat front boxes [] = refl
lines-flat front boxes (x ∷ xs) = ap (λ t. front_text front (boxes x) ++ t) (lines-flat front boxes xs) ∙ sym (flat_map-append (λ box. front ++ box_line box) (boxes x) (flat_map boxes xs))

-- Where the edges begin.

abbrev pub begins : ℕ → List Edge → ℕ → ℕ
begins lo es zero = lo
begins lo [] (suc k) = lo
begins lo (e ∷ es) (suc k) = begins (suc e.hi) es k

pub branch-count : (lo : ℕ) (es : List Edge) → length (branches lo es) ≡ length es
branch-count lo [] = refl
branch-count lo (e ∷ es) = ap suc (branch-count (suc e.hi) es)

pub branch-at : (lo : ℕ) (es : List Edge) (k : ℕ) (e : Edge) (d : Branch) → k < length es → branch (begins lo es k) (get_or es k e) ≡ get_or (branches lo es) k d
branch-at lo [] k e d h = absurd (omega (arith, h))
branch-at lo (x ∷ es) zero e d h = refl
branch-at lo (x ∷ es) (suc k) e d h = branch-at (suc x.hi) es k e d (omega (arith, h))

begins-behind : (lo : ℕ) (es : List Edge) (k : ℕ) (e : Edge) → k < length es → begins lo es (suc k) ≡ suc (get_or es k e).hi
begins-behind lo [] k e h = absurd (omega (arith, h))
begins-behind lo (x ∷ es) zero e h = refl
begins-behind lo (x ∷ es) (suc k) e h = begins-behind (suc x.hi) es k e (omega (arith, h))

-- an edge that isn't the last ends below the greatest value
pub before-last : (g lo : ℕ) (es : List Edge) (k : ℕ) (e : Edge) → edges.Rise g lo es → suc k < length es → (get_or es k e).hi < g
before-last g lo [] k e r h = absurd r
before-last g lo (x ∷ []) k e r h = absurd (omega (arith, h))
before-last g lo (x ∷ y ∷ es) zero e r h = let b = edges.bounded g (suc x.hi) y es r.1 in omega (arith, b.0, b.1)
before-last g lo (x ∷ y ∷ es) (suc k) e r h = before-last g (suc x.hi) (y ∷ es) k e r.1 (omega (arith, h))

-- where the next edge begins, as the code adds it up
pub next-begins : (g : ℕ) (es : List Edge) (k : ℕ) (edge : Edge) (n : ℕ) → g ≤ 4294967295 → edges.Rise g 0 es → edge ≡ get_or es k edge → n ≡ min (edge.hi + 1) 4294967295 → k + 1 < length es →
    n ≡ begins 0 es (k + 1)
next-begins g es k edge n small r is e less =
    let top = before-last g 0 es k edge r (omega (arith, less)) in
    let same : edge.hi ≡ (get_or es k edge).hi = ap (λ (x : Edge). x.hi) is in
    let behind = begins-behind 0 es k edge (omega (arith, less)) in
    omega (arith, e, same, top, small, behind) ∙ sym behind ∙ ap (begins 0 es) (sym (add-one k))

-- one more branch
pub more-count : (boxes : ℕ → List (List Interval)) (bs : List Branch) (k n m : ℕ) (b d : Branch) → k < length bs → b ≡ get_or bs k d →
    n ≡ length (flat_map (branch_boxes boxes) (take k bs)) → m ≡ length (branch_boxes boxes b) → n + m ≡ length (flat_map (branch_boxes boxes) (take (k + 1) bs))
more-count boxes bs k n m b d less is e f =
    ap (λ x. x + m) e ∙ ap (λ x. length (flat_map (branch_boxes boxes) (take k bs)) + x) f
    ∙ sym (ap length (ap (flat_map (branch_boxes boxes)) (take_more bs k d less ∙ ap (λ (x : Branch). take k bs ++ x ∷ []) (sym is)) ∙ flat_map-append (branch_boxes boxes) (take k bs) (b ∷ []))
    ∙ length-append (flat_map (branch_boxes boxes) (take k bs)) (branch_boxes boxes b ++ [])
    ∙ ap (λ t. length (flat_map (branch_boxes boxes) (take k bs)) + length t) (append-nil (branch_boxes boxes b)))

pub front-count : (boxes : ℕ → List (List Interval)) (bs : List Branch) (k : ℕ) → length (flat_map (branch_boxes boxes) (take k bs)) ≤ length (flat_map (branch_boxes boxes) bs)
front-count boxes bs zero = omega arith
front-count boxes [] (suc k) = omega arith
front-count boxes (b ∷ bs) (suc k) =
    let one = length-append (branch_boxes boxes b) (flat_map (branch_boxes boxes) (take k bs)) in
    let rest = front-count boxes bs k in omega (arith, one, length-append (branch_boxes boxes b) (flat_map (branch_boxes boxes) bs), rest)

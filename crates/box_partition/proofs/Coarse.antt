-- There is one coarsest partition with given claims.
use Rattle.std.proofs.Common.{◌≡◌, ◌∷◌, ℕ, List, [], ◌++◌, ◌≤◌, ◌<◌, arith, ap, refl, sym, ◌∙◌, subst, suc, zero, map}
use Rattle.field_boxes.specs.Headline.Classifier.{Interval}
use Rattle.field_boxes.specs.Boxes.{LiesIn}
use Rattle.partition_check.specs.Partition.{Group, rows_of, AreGroups}
use Rattle.partition_check.specs.Checking.{Statement}
use Rattle.box_partition.specs.Coarsest.{Claims, claims_of, put_interval, Differ, IsCoarsest, AreClaimed}
use Rattle.field_boxes.proofs.SameValues.{same_interval}

pub groups-bound : {X : Type 0} (P : List X → Type 0) (lo g : ℕ) (groups : List (Group X)) → AreGroups P lo g groups → lo ≤ suc g
groups-bound P lo g [] h = omega arith
groups-bound P lo g (group ∷ groups) h = omega (arith, groups-bound P (suc group.first.hi) g groups h.4, h.2)

-- what is claimed of a header with a value in front
abbrev pub starting : (List ℕ → Claims) → ℕ → List ℕ → Claims
starting f v vs = f (v ∷ vs)

-- each row claims this of each header in its box
abbrev pub AreRight : (List ℕ → Claims) → List Statement → Type 0
AreRight f [] = Unit {0}
AreRight f (row ∷ rows) = ((vs : List ℕ) → LiesIn row.box vs → f vs ≡ claims_of row) × AreRight f rows

pub claimed-right : (f : List ℕ → Claims) (rows : List Statement) → AreClaimed f rows → AreRight f rows
claimed-right f [] l = tt
claimed-right f (r ∷ rows) l = (l 0 r (omega arith), claimed-right f rows (λ k d small. l (suc k) d (omega (arith, small))))

pub claimed-group : (f : List ℕ → Claims) (i : Interval) (v : ℕ) (rest more : List Statement) → i.lo ≤ v → v ≤ i.hi →
    AreRight f (map (put_interval i) rest ++ more) → AreRight (starting f v) rest
claimed-group f i v [] more low high l = tt
claimed-group f i v (r ∷ rest) more low high l = ((λ vs h. l.0 (v ∷ vs) (low, high, h)), claimed-group f i v rest more low high l.1)

pub claimed-more : (f : List ℕ → Claims) (i : Interval) (rest more : List Statement) → AreRight f (map (put_interval i) rest ++ more) → AreRight f more
claimed-more f i [] more l = l
claimed-more f i (r ∷ rest) more l = claimed-more f i rest more l.1

-- lists of rows with the property and the same claims are one
abbrev AreOne : (List Statement → Type 0) → Type 0
AreOne P = (f : List ℕ → Claims) (xs ys : List Statement) → P xs → P ys → AreRight f xs → AreRight f ys → xs ≡ ys

-- groups with a value in common have one rest
rest-same : (P : List Statement → Type 0) (f : List ℕ → Claims) (v : ℕ) (x y : Group Statement) (xs ys : List (Group Statement)) → AreOne P →
    P x.rest → P y.rest → x.first.lo ≤ v → v ≤ x.first.hi → y.first.lo ≤ v → v ≤ y.first.hi →
    AreRight f (rows_of put_interval (x ∷ xs)) → AreRight f (rows_of put_interval (y ∷ ys)) → x.rest ≡ y.rest
rest-same P f v x y xs ys one p q xlow xhigh ylow yhigh l m =
    one (starting f v) x.rest y.rest p q (claimed-group f x.first v x.rest (rows_of put_interval xs) xlow xhigh l) (claimed-group f y.first v y.rest (rows_of put_interval ys) ylow yhigh m)

-- a group can't end before the other's does
no-earlier : (P : List Statement → Type 0) (f : List ℕ → Claims) (lo g : ℕ) (x y : Group Statement) (xs ys : List (Group Statement)) → AreOne P →
    AreGroups P lo g (x ∷ xs) → AreGroups P lo g (y ∷ ys) → Differ (x ∷ xs) →
    AreRight f (rows_of put_interval (x ∷ xs)) → AreRight f (rows_of put_interval (y ∷ ys)) → x.rest ≡ y.rest → x.first.hi < y.first.hi → ⊥
no-earlier P f lo g x y [] ys one hx hy d l m e less = omega (arith, hx.4, groups-bound P (suc y.first.hi) g ys hy.4, less)
no-earlier P f lo g x y (z ∷ xs) ys one hx hy d l m e less =
    d.0 (e ∙ sym (rest-same P f (suc x.first.hi) z y xs ys one hx.4.3 hy.3 (omega (arith, hx.4.1)) hx.4.2 (omega (arith, hy.1, hx.2)) less
    (claimed-more f x.first x.rest (rows_of put_interval (z ∷ xs)) l) m))

pub differ-rest : (x : Group Statement) (xs : List (Group Statement)) → Differ (x ∷ xs) → Differ xs
differ-rest x [] d = tt
differ-rest x (y ∷ xs) d = d.1

pub order : (a b : ℕ) → (a < b → ⊥) → (b < a → ⊥) → a ≡ b
order a b f g = grind (arith, f, g)

group-same : {X : Type 0} (x y : Group X) → x.first ≡ y.first → x.rest ≡ y.rest → x ≡ y
group-same {X} x y p q =
    ap (λ (i : Interval). let r : Group X = record { first = i; rest = x.rest } in r) p ∙ ap (λ (rest : List X). let r : Group X = record { first = y.first; rest = rest } in r) q

groups-same : (P : List Statement → Type 0) (f : List ℕ → Claims) (lo g : ℕ) (xs ys : List (Group Statement)) → AreOne P →
    AreGroups P lo g xs → AreGroups P lo g ys → Differ xs → Differ ys → AreRight f (rows_of put_interval xs) → AreRight f (rows_of put_interval ys) → xs ≡ ys
groups-same P f lo g [] [] one hx hy dx dy l m = refl
groups-same P f lo g [] (y ∷ ys) one hx hy dx dy l m = absurd (omega (arith, hx, hy.2, groups-bound P (suc y.first.hi) g ys hy.4))
groups-same P f lo g (x ∷ xs) [] one hx hy dx dy l m = absurd (omega (arith, hy, hx.2, groups-bound P (suc x.first.hi) g xs hx.4))
groups-same P f lo g (x ∷ xs) (y ∷ ys) one hx hy dx dy l m =
    let e = rest-same P f lo x y xs ys one hx.3 hy.3 (omega (arith, hx.1)) hx.2 (omega (arith, hy.1)) hy.2 l m in
    let ends = order x.first.hi y.first.hi (no-earlier P f lo g x y xs ys one hx hy dx l m e) (no-earlier P f lo g y x ys xs one hy hx dy m l (sym e)) in
    let tail = groups-same P f (suc x.first.hi) g xs ys one hx.4 (subst (λ n. AreGroups P (suc n) g ys) (sym ends) hy.4) (differ-rest x xs dx) (differ-rest y ys dy)
    (claimed-more f x.first x.rest (rows_of put_interval xs) l) (claimed-more f y.first y.rest (rows_of put_interval ys) m) in
    ap (λ z. z ∷ xs) (group-same x y (same_interval x.first y.first (hx.1 ∙ sym hy.1) ends) e) ∙ ap (λ zs. y ∷ zs) tail

pub row-same : (r s : Statement) → r.box ≡ s.box → claims_of r ≡ claims_of s → r ≡ s
row-same r s p q =
    ap (λ (b : List Interval). let t : Statement = record { box = b; rule = r.rule; entry = r.entry } in t) p
    ∙ ap (λ (c : Claims). let t : Statement = record { box = s.box; rule = c.0; entry = c.1 } in t) q

pub right-one : (gs : List ℕ) (f : List ℕ → Claims) (xs ys : List Statement) → IsCoarsest gs xs → IsCoarsest gs ys → AreRight f xs → AreRight f ys → xs ≡ ys
right-one [] f xs ys p q l m =
    let a = (subst (AreRight f) p.2 l).0 [] (subst (λ b. LiesIn b []) (sym p.1) tt) in
    let b = (subst (AreRight f) q.2 m).0 [] (subst (λ b. LiesIn b []) (sym q.1) tt) in
    p.2 ∙ ap (λ (s : Statement). s ∷ []) (row-same p.0 q.0 (p.1 ∙ sym q.1) (sym a ∙ b)) ∙ sym q.2
right-one (g ∷ gs) f xs ys p q l m =
    p.1 ∙ ap (rows_of put_interval) (groups-same (IsCoarsest gs) f 0 g p.0 q.0 (right-one gs) p.2 q.2 p.3 q.3 (subst (AreRight f) p.1 l) (subst (AreRight f) q.1 m)) ∙ sym q.1

pub coarsest-one : (gs : List ℕ) (f : List ℕ → Claims) (xs ys : List Statement) → IsCoarsest gs xs → IsCoarsest gs ys → AreClaimed f xs → AreClaimed f ys → xs ≡ ys
coarsest-one gs f xs ys p q l m = right-one gs f xs ys p q (claimed-right f xs l) (claimed-right f ys m)

pub right-claimed : (f : List ℕ → Claims) (rows : List Statement) → AreRight f rows → AreClaimed f rows
right-claimed f [] l k d small = absurd (omega (arith, small))
right-claimed f (r ∷ rows) l zero d small = l.0
right-claimed f (r ∷ rows) l (suc k) d small = right-claimed f rows l.1 k d (omega (arith, small))

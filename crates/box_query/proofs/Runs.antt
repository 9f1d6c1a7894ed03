-- Groups over the values of one field are the runs of values with one list of rows.
use Rattle.std.proofs.Common.{◌≡◌, ◌∷◌, ℕ, List, [], ◌≤◌, ◌<◌, arith, ap, refl, sym, ◌∙◌, subst, inl, inr, ◌⊎◌, suc, cond, length}
use Rattle.field_boxes.specs.Headline.Classifier.{Interval, interval_holds}
use Rattle.box_query.specs.Boxes.{Group, AreRising, Differ}
use Rattle.field_boxes.proofs.Unions.{not_past, not_below, holds_between}
use Rattle.field_boxes.proofs.SameValues.{same_interval}

-- the rows of the group whose interval holds the value, or none
abbrev pub rest_at : ℕ → List Group → List (List Interval)
rest_at v [] = []
rest_at v (x ∷ groups) = cond (interval_holds v x.first) x.rest (rest_at v groups)

pub at-first : (v : ℕ) (x : Group) (groups : List Group) → x.first.lo ≤ v → v ≤ x.first.hi → rest_at v (x ∷ groups) ≡ x.rest
at-first v x groups low high = ap (λ t. cond t x.rest (rest_at v groups)) (holds_between v x.first low high)

pub at-past : (v : ℕ) (x : Group) (groups : List Group) → x.first.hi < v → rest_at v (x ∷ groups) ≡ rest_at v groups
at-past v x groups past = ap (λ t. cond t x.rest (rest_at v groups)) (not_past v x.first past)

pub at-before : (P : List (List Interval) → Type 0) (lo hi v : ℕ) (groups : List Group) → AreRising P lo hi groups → v < lo → rest_at v groups ≡ []
at-before P lo hi v [] h less = refl
at-before P lo hi v (x ∷ groups) h less =
    ap (λ t. cond t x.rest (rest_at v groups)) (not_below v x.first (omega (arith, h.1))) ∙ at-before P (suc x.first.hi) hi v groups h.5 (omega (arith, h.1, h.2))

no-rows : (rows : List (List Interval)) → 0 < length rows → rows ≡ [] → ⊥
no-rows [] some e = omega (arith, some)
no-rows (x ∷ rows) some e = cc

-- groups that have the same rows at each value are the same
within : (v lo : ℕ) → v ≤ lo → (v ≡ lo) ⊎ (v < lo)
within v lo h = grind (arith, h)

-- one doesn't begin before the other
no-sooner : (P : List (List Interval) → Type 0) (lo hi : ℕ) (x : Group) (xs ys : List Group) → AreRising P lo hi (x ∷ xs) → AreRising P (suc x.first.lo) hi ys →
    rest_at x.first.lo (x ∷ xs) ≡ rest_at x.first.lo ys → ⊥
no-sooner P lo hi x xs ys hx hy same =
    no-rows x.rest hx.0 (sym (at-first x.first.lo x xs (omega arith) hx.2) ∙ same ∙ at-before P (suc x.first.lo) hi x.first.lo ys hy (omega arith))

-- one that is followed by other rows doesn't end before the other
no-rest : (P : List (List Interval) → Type 0) (v hi : ℕ) (x : Group) (xs : List Group) (rest : List (List Interval)) → AreRising P (suc x.first.hi) hi xs → Differ (x ∷ xs) →
    v ≡ suc x.first.hi → 0 < length rest → x.rest ≡ rest → rest_at v xs ≡ rest → ⊥
no-rest P v hi x [] rest hx d at some e same = no-rows rest some (sym same)
no-rest P v hi x (z ∷ xs) rest hx d at some e same = elim (within v z.first.lo (omega (arith, hx.1, at))) [
  | inl here ↦ d.0 (sym here ∙ at) (e ∙ sym same ∙ at-first v z xs (omega (arith, here)) (omega (arith, here, hx.2)))
  | inr later ↦ no-rows rest some (sym same ∙ at-before P z.first.lo hi v (z ∷ xs) (hx.0, omega arith, hx.2, hx.3, hx.4, hx.5) later)
]

-- the same rows at each value from lo to hi
abbrev pub AreSame : ℕ → ℕ → List Group → List Group → Type 0
AreSame lo hi xs ys = (v : ℕ) → lo ≤ v → v ≤ hi → rest_at v xs ≡ rest_at v ys

rising-from : (P : List (List Interval) → Type 0) (lo less hi : ℕ) (x : Group) (xs : List Group) → AreRising P lo hi (x ∷ xs) → less ≤ x.first.lo → AreRising P less hi (x ∷ xs)
rising-from P lo less hi x xs h low = (h.0, low, h.2, h.3, h.4, h.5)

no-longer : (P : List (List Interval) → Type 0) (lo hi : ℕ) (x y : Group) (xs ys : List Group) → AreRising P lo hi (x ∷ xs) → AreRising P lo hi (y ∷ ys) → Differ (x ∷ xs) →
    AreSame lo hi (x ∷ xs) (y ∷ ys) → x.first.lo ≡ y.first.lo → x.rest ≡ y.rest → x.first.hi < y.first.hi → ⊥
no-longer P lo hi x y xs ys hx hy d same starts e less =
    no-rest P (suc x.first.hi) hi x xs y.rest hx.5 d refl hy.0 e
    (sym (at-past (suc x.first.hi) x xs (omega arith)) ∙ same (suc x.first.hi) (omega (arith, hx.1, hx.2)) (omega (arith, less, hy.3))
    ∙ at-first (suc x.first.hi) y ys (omega (arith, starts, hx.2)) (omega (arith, less)))

differ-rest : (x : Group) (xs : List Group) → Differ (x ∷ xs) → Differ xs
differ-rest x [] d = tt
differ-rest x (y ∷ xs) d = d.1

order : (a b : ℕ) → (a < b → ⊥) → (b < a → ⊥) → a ≡ b
order a b f g = grind (arith, f, g)

group-same : (x y : Group) → x.first ≡ y.first → x.rest ≡ y.rest → x ≡ y
group-same x y p q =
    ap (λ (i : Interval). let r : Group = record { first = i; rest = x.rest } in r) p ∙ ap (λ (rest : List (List Interval)). let r : Group = record { first = y.first; rest = rest } in r) q

not-none : (P : List (List Interval) → Type 0) (lo hi : ℕ) (x : Group) (xs : List Group) → AreRising P lo hi (x ∷ xs) → AreSame lo hi (x ∷ xs) [] → ⊥
not-none P lo hi x xs h same = no-sooner P lo hi x xs [] h tt (same x.first.lo h.1 (omega (arith, h.2, h.3)))

same-back : (lo hi : ℕ) (xs ys : List Group) → AreSame lo hi xs ys → AreSame lo hi ys xs
same-back lo hi xs ys same v low high = sym (same v low high)

starts-same : (P : List (List Interval) → Type 0) (lo hi : ℕ) (x y : Group) (xs ys : List Group) → AreRising P lo hi (x ∷ xs) → AreRising P lo hi (y ∷ ys) →
    AreSame lo hi (x ∷ xs) (y ∷ ys) → x.first.lo < y.first.lo → ⊥
starts-same P lo hi x y xs ys hx hy same less =
    no-sooner P lo hi x xs (y ∷ ys) hx (rising-from P lo (suc x.first.lo) hi y ys hy (omega (arith, less))) (same x.first.lo hx.1 (omega (arith, hx.2, hx.3)))

pub groups-same : (P : List (List Interval) → Type 0) (lo hi : ℕ) (xs ys : List Group) → AreRising P lo hi xs → AreRising P lo hi ys → Differ xs → Differ ys →
    AreSame lo hi xs ys → xs ≡ ys
groups-same P lo hi [] [] hx hy dx dy same = refl
groups-same P lo hi [] (y ∷ ys) hx hy dx dy same = absurd (not-none P lo hi y ys hy (same-back lo hi [] (y ∷ ys) same))
groups-same P lo hi (x ∷ xs) [] hx hy dx dy same = absurd (not-none P lo hi x xs hx same)
groups-same P lo hi (x ∷ xs) (y ∷ ys) hx hy dx dy same =
    let back = same-back lo hi (x ∷ xs) (y ∷ ys) same in
    let starts = order x.first.lo y.first.lo (starts-same P lo hi x y xs ys hx hy same) (starts-same P lo hi y x ys xs hy hx back) in
    let e = sym (at-first x.first.lo x xs (omega arith) hx.2) ∙ same x.first.lo hx.1 (omega (arith, hx.2, hx.3)) ∙ at-first x.first.lo y ys (omega (arith, starts)) (omega (arith, starts, hy.2)) in
    let ends = order x.first.hi y.first.hi (no-longer P lo hi x y xs ys hx hy dx same starts e) (no-longer P lo hi y x ys xs hy hx dy back (sym starts) (sym e)) in
    let tail = groups-same P (suc x.first.hi) hi xs ys hx.5 (subst (λ n. AreRising P (suc n) hi ys) (sym ends) hy.5) (differ-rest x xs dx) (differ-rest y ys dy)
    (λ v low high. sym (at-past v x xs (omega (arith, low))) ∙ same v (omega (arith, hx.1, hx.2, low)) high ∙ at-past v y ys (omega (arith, low, ends))) in
    ap (λ z. z ∷ xs) (group-same x y (same_interval x.first y.first starts ends) e) ∙ ap (λ zs. y ∷ zs) tail

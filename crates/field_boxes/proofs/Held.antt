-- Headers in boxes, by recursion on the boxes.
use Rattle.std.proofs.Common.{◌∷◌, ℕ, List, [], ◌<◌, arith, inl, inr, refl, sym, subst}
use Rattle.std.specs.Prelude.{◌⊎◌, suc, zero, length, slice_index_or}
use Rattle.std.specs.List.{Any, AllPairs}
use Rattle.field_boxes.specs.Headline.Classifier.{Interval}
use Rattle.field_boxes.specs.Boxes.{LiesIn}

-- the header lies in some of the boxes
abbrev pub LiesInOne : List (List Interval) → List ℕ → Type 0
LiesInOne [] vs = ⊥
LiesInOne (b ∷ rows) vs = LiesIn b vs ⊎ LiesInOne rows vs

-- the header lies in no two of the boxes
abbrev pub AreApart : List (List Interval) → List ℕ → Type 0
AreApart [] vs = Unit {0}
AreApart (b ∷ rows) vs = (LiesIn b vs → LiesInOne rows vs → ⊥) × AreApart rows vs

pub held-any : (rows : List (List Interval)) (vs : List ℕ) → LiesInOne rows vs → Any (λ b. LiesIn b vs) rows
held-any [] vs h = absurd h
held-any (b ∷ rows) vs (inl h) = (0, b, omega arith, refl, h)
held-any (b ∷ rows) vs (inr h) = let r = held-any rows vs h in (suc r.0, r.1, omega (arith, r.2), r.3, r.4)

pub held-at : (rows : List (List Interval)) (vs : List ℕ) (k : ℕ) (d : List Interval) → k < length rows → LiesIn (slice_index_or rows k d) vs → LiesInOne rows vs
held-at [] vs k d small h = absurd (omega (arith, small))
held-at (b ∷ rows) vs zero d small h = inl h
held-at (b ∷ rows) vs (suc k) d small h = inr (held-at rows vs k d (omega (arith, small)) h)

pub any-held : (rows : List (List Interval)) (vs : List ℕ) → Any (λ b. LiesIn b vs) rows → LiesInOne rows vs
any-held rows vs h = held-at rows vs h.0 h.1 h.2 (subst (λ b. LiesIn b vs) (sym h.3) h.4)

apart-at : (rows : List (List Interval)) (vs : List ℕ) → AreApart rows vs → (i j : ℕ) (d : List Interval) → i < j → j < length rows →
    LiesIn (slice_index_or rows i d) vs → LiesIn (slice_index_or rows j d) vs → ⊥
apart-at [] vs a i j d less small h k = omega (arith, small)
apart-at (b ∷ rows) vs a i zero d less small h k = omega (arith, less)
apart-at (b ∷ rows) vs a zero (suc j) d less small h k = a.0 h (held-at rows vs j d (omega (arith, small)) k)
apart-at (b ∷ rows) vs a (suc i) (suc j) d less small h k = apart-at rows vs a.1 i j d (omega (arith, less)) (omega (arith, small)) h k

pub apart-pairs : (rows : List (List Interval)) (vs : List ℕ) → AreApart rows vs → AllPairs (λ b c. LiesIn b vs → LiesIn c vs → ⊥) rows
apart-pairs rows vs a = λ i j d less small. apart-at rows vs a i j d less small

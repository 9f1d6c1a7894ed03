-- No header lies in two grouped boxes.
use Rattle.std.proofs.Common.{◌∷◌, ℕ, List, [], ◌++◌, ◌≤◌, arith, sym, subst, inl, inr, suc, map, AllPairs}
use Rattle.field_boxes.specs.Headline.Classifier.{Interval}
use Rattle.field_boxes.specs.Fields.{greatest_of}
use Rattle.box_query.specs.Boxes.{Group, boxes_of, put_first, AreRising, AreGrouped}
use Rattle.field_boxes.specs.Boxes.{LiesIn}
use Rattle.field_boxes.proofs.Held.{LiesInOne, AreApart, apart-pairs}
use Rattle.box_query.proofs.Parts.{held-parts, held-at_value}

-- no header lies in two rows
apart-front : (i : Interval) (rest more : List (List Interval)) (v : ℕ) (vs : List ℕ) → AreApart rest vs → AreApart more (v ∷ vs) →
    (i.lo ≤ v → v ≤ i.hi → LiesInOne more (v ∷ vs) → ⊥) → AreApart (map (put_first i) rest ++ more) (v ∷ vs)
apart-front i [] more v vs a k sep = k
apart-front i (b ∷ rest) more v vs a k sep = (
  λ h held. elim (held-parts i rest more v vs held) [ inl p ↦ a.0 h.2 p.2 | inr p ↦ sep h.0 h.1 p ],
  apart-front i rest more v vs a.1 k sep,
)

apart-groups : (P : List (List Interval) → Type 0) (lo hi : ℕ) (groups : List Group) (v : ℕ) (vs : List ℕ) →
    ((rows : List (List Interval)) → P rows → AreApart rows vs) → AreRising P lo hi groups → AreApart (boxes_of groups) (v ∷ vs)
apart-groups P lo hi [] v vs each h = tt
apart-groups P lo hi (x ∷ groups) v vs each h =
    apart-front x.first x.rest (boxes_of groups) v vs (each x.rest h.4) (apart-groups P (suc x.first.hi) hi groups v vs each h.5)
    (λ low high held. let r = held-at_value groups P (suc x.first.hi) hi v vs h.5 held in omega (arith, r.0, high))

apart-front_none : (i : Interval) (rest more : List (List Interval)) → AreApart more [] → AreApart (map (put_first i) rest ++ more) []
apart-front_none i [] more k = k
apart-front_none i (b ∷ rest) more k = ((λ h held. h), apart-front_none i rest more k)

apart-none : (groups : List Group) → AreApart (boxes_of groups) []
apart-none [] = tt
apart-none (x ∷ groups) = apart-front_none x.first x.rest (boxes_of groups) (apart-none groups)

apart : (fields : List ℕ) (rows : List (List Interval)) (vs : List ℕ) → AreGrouped fields rows → AreApart rows vs
apart [] rows vs (inl e) = subst (λ rows. AreApart rows vs) (sym e) tt
apart [] rows vs (inr e) = subst (λ rows. AreApart rows vs) (sym e) ((λ h held. held), tt)
apart (f ∷ fields) rows [] p = subst (λ rows. AreApart rows []) (sym p.1) (apart-none p.0)
apart (f ∷ fields) rows (v ∷ vs) p = subst (λ rows. AreApart rows (v ∷ vs)) (sym p.1) (apart-groups (AreGrouped fields) 0 (greatest_of f) p.0 v vs (λ rest h. apart fields rest vs h) p.2)

pub rows-apart : (fields : List ℕ) (rows : List (List Interval)) (vs : List ℕ) → AreGrouped fields rows → AllPairs (λ b c. LiesIn b vs → LiesIn c vs → ⊥) rows
rows-apart fields rows vs p = apart-pairs rows vs (apart fields rows vs p)

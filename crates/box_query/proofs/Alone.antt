-- Boxes that are grouped and hold the headers with a property: there is one list of them at most.
use Rattle.std.proofs.Common.{◌≡◌, ◌∷◌, ℕ, List, [], ◌≤◌, ap, sym, ◌∙◌, subst, inl, inr, ◌↔◌, Option, Any}
use Rattle.field_boxes.specs.Headline.Classifier.{Interval, Rule, source}
use Rattle.field_boxes.specs.Headline.Fields.{stated, AreValues}
use Rattle.field_boxes.specs.Fields.{greatest_of}
use Rattle.box_query.specs.Boxes.{Group, boxes_of, AreRising, AreGrouped, AreBoxesOf}
use Rattle.field_boxes.specs.Boxes.{LiesIn}
use Rattle.field_boxes.proofs.Held.{LiesInOne, held-any, any-held}
use Rattle.box_query.proofs.Runs.{rest_at, groups-same}
use Rattle.box_query.proofs.Parts.{held-at_value, held-from_value, none-grouped, at-has}
use Rattle.node_store.proofs.Values.{in_width}

-- of the values of these fields the boxes hold those with the property
abbrev pub IsRight : (List ℕ → Type 0) → List ℕ → List (List Interval) → Type 0
IsRight P fields boxes = (vs : List ℕ) → AreValues fields vs → LiesInOne boxes vs ↔ P vs

-- so do the boxes at a value of the property there
right-at : (P : List ℕ → Type 0) (f : ℕ) (fields : List ℕ) (groups : List Group) (v : ℕ) → AreRising (AreGrouped fields) 0 (greatest_of f) groups →
    IsRight P (f ∷ fields) (boxes_of groups) → v ≤ greatest_of f → IsRight (λ vs. P (v ∷ vs)) fields (rest_at v groups)
right-at P f fields groups v h r high vs ok =
    let both = r (v ∷ vs) (in_width f v high, ok) in (
      (λ held. both.0 (held-from_value groups v vs held)),
      (λ p. (held-at_value groups (AreGrouped fields) 0 (greatest_of f) v vs h (both.1 p)).2),
    )

held-back : (xs ys : List (List Interval)) (vs : List ℕ) → xs ≡ ys → LiesInOne ys vs → LiesInOne xs vs
held-back xs ys vs e h = subst (λ boxes. LiesInOne boxes vs) (sym e) h

-- a box or none, over no fields
one-box : (P : List ℕ → Type 0) (xs ys : List (List Interval)) → xs ≡ [] → ys ≡ [] ∷ [] → IsRight P [] xs → IsRight P [] ys → ⊥
one-box P xs ys p q l m = held-back [] xs [] (sym p) ((l [] tt).1 ((m [] tt).0 (held-back ys ([] ∷ []) [] q (inl tt))))

one-over_none : (P : List ℕ → Type 0) (xs ys : List (List Interval)) → AreGrouped [] xs → AreGrouped [] ys → IsRight P [] xs → IsRight P [] ys → xs ≡ ys
one-over_none P xs ys (inl p) (inl q) l m = p ∙ sym q
one-over_none P xs ys (inl p) (inr q) l m = absurd (one-box P xs ys p q l m)
one-over_none P xs ys (inr p) (inl q) l m = absurd (one-box P ys xs q p m l)
one-over_none P xs ys (inr p) (inr q) l m = p ∙ sym q

pub right-one : (fields : List ℕ) (P : List ℕ → Type 0) (xs ys : List (List Interval)) → AreGrouped fields xs → AreGrouped fields ys → IsRight P fields xs → IsRight P fields ys → xs ≡ ys
right-one [] P xs ys p q l m = one-over_none P xs ys p q l m
right-one (f ∷ fields) P xs ys p q l m =
    let l : IsRight P (f ∷ fields) (boxes_of p.0) = subst (IsRight P (f ∷ fields)) p.1 l in
    let m : IsRight P (f ∷ fields) (boxes_of q.0) = subst (IsRight P (f ∷ fields)) q.1 m in
    p.1 ∙ ap boxes_of (groups-same (AreGrouped fields) 0 (greatest_of f) p.0 q.0 p.2 q.2 p.3 q.3 (λ v low high.
    right-one fields (λ vs. P (v ∷ vs)) (rest_at v p.0) (rest_at v q.0)
    (at-has (AreGrouped fields) 0 (greatest_of f) v p.0 (none-grouped fields) p.2) (at-has (AreGrouped fields) 0 (greatest_of f) v q.0 (none-grouped fields) q.2)
    (right-at P f fields p.0 v p.2 l high) (right-at P f fields q.0 v q.2 m high))) ∙ sym q.1

-- by the words of the definition

pub exact-right : (P : List ℕ → Type 0) (fields : List ℕ) (boxes : List (List Interval)) → ((vs : List ℕ) → AreValues fields vs → Any (λ b. LiesIn b vs) boxes ↔ P vs) → IsRight P fields boxes
exact-right P fields boxes e vs ok = ((λ h. (e vs ok).0 (held-any boxes vs h)), (λ t. any-held boxes vs ((e vs ok).1 t)))

pub right-exact : (P : List ℕ → Type 0) (fields : List ℕ) (boxes : List (List Interval)) → IsRight P fields boxes → (vs : List ℕ) → AreValues fields vs → Any (λ b. LiesIn b vs) boxes ↔ P vs
right-exact P fields boxes r vs ok = ((λ h. (r vs ok).0 (any-held boxes vs h)), (λ t. held-any boxes vs ((r vs ok).1 t)))

pub one-list : (rules : List (Rule (List ℕ))) (box : List Interval) (name : Option (List ℕ)) (boxes others : List (List Interval)) →
    AreBoxesOf rules box name boxes → AreBoxesOf rules box name others → boxes ≡ others
one-list rules box name boxes others a b =
    right-one stated (λ header. LiesIn box header × (source stated header rules ≡ name)) boxes others a.grouped b.grouped
    (exact-right (λ header. LiesIn box header × (source stated header rules ≡ name)) stated boxes a.exact)
    (exact-right (λ header. LiesIn box header × (source stated header rules ≡ name)) stated others b.exact)

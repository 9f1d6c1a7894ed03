-- The least label that saves all that it weighs.
use Rattle.std.proofs.Common.{◌≡◌, ◌≢◌, ◌∷◌, ℕ, zero, suc, List, [], ◌+◌, ◌<◌, ◌≤◌, refl, ap, arith, sym, ◌∙◌, length, get_or, below_more, subst, inl, inr}
use Rattle.std.specs.Prelude.{◌⊎◌, Option, Some, None, cond, min, slice_index, unwrap_or}
use Rattle.std.proofs.lemmas.Bool.{cases_lt, cases_eq, le-leb, lt-leb}
use Rattle.prefix_min.specs.declared.piece.Piece.{Piece}
use Rattle.prefix_min.specs.declared.savings.LabelCost.{LabelCost}
use Rattle.prefix_min.specs.Field.{IsFull, IsFullLabel, IsLeastFull, IsLeastSoFar, SomeFull, lesser, no_piece}
use Rattle.prefix_min.specs.Pieces.{IsNext, Follow, label_at, reach}
use Rattle.prefix_min.specs.Costs.{Lists, RisesFrom}
use Rattle.prefix_min.specs.Savings.{saved}
use Rattle.prefix_min.proofs.Listed.{cost-at, label_least, listed-at, place_of, unlisted}
use Rattle.prefix_min.proofs.PieceWeights.{starts}

reach_from : (places start : ℕ) (pieces : List Piece) → Follow places start pieces → start ≤ reach start pieces
reach_from places start [] f = omega arith
reach_from places start (p ∷ pieces) f = omega (arith, f.0, reach_from places (p.hi + 1) pieces f.2)

pub end-reached : (places start k : ℕ) (d : Piece) (pieces : List Piece) → Follow places start pieces → k < length pieces → (get_or pieces k d).hi < reach start pieces
end-reached places start k d [] f h = absurd (omega (arith, h))
end-reached places start zero d (p ∷ pieces) f h = omega (arith, reach_from places (p.hi + 1) pieces f.2)
end-reached places start (suc k) d (p ∷ pieces) f h = end-reached places (p.hi + 1) k d pieces f.2 (omega (arith, h))

-- the last value of a piece has its label
pub label-at-end : (places start k : ℕ) (d : Piece) (pieces : List Piece) → Follow places start pieces → k < length pieces → label_at pieces (get_or pieces k d).hi ≡ (get_or pieces k d).label
label-at-end places start k d [] f h = absurd (omega (arith, h))
label-at-end places start zero d (p ∷ pieces) f h = ap (λ t. cond t p.label (label_at pieces p.hi)) (le-leb p.hi p.hi (omega arith))
label-at-end places start (suc k) d (p ∷ pieces) f h =
    let v = (get_or pieces k d).hi in
    let later : p.hi < v = omega (arith, starts places (p.hi + 1) k d pieces f.2 (omega (arith, h))) in
    ap (λ t. cond t p.label (label_at pieces v)) (lt-leb v p.hi later) ∙ label-at-end places (p.hi + 1) k d pieces f.2 (omega (arith, h))

decide_listed : (xs : List LabelCost) (d : ℕ) → Lists xs d ⊎ (Lists xs d → ⊥)
decide_listed [] d = inr (λ h. h)
decide_listed (x ∷ xs) d = elim (cases_eq x.label d) [
  | inl s ↦ inl (inl s)
  | inr n ↦ elim (decide_listed xs d) [ inl k ↦ inl (inr k) | inr k ↦ inr (λ a. elim a [ inl t ↦ n t | inr t ↦ k t ]) ]
]

-- the entry of a listed label that saves all that it weighs
full_entry : (weights : List ℕ) (savings : List LabelCost) (d : LabelCost) (x : ℕ) → RisesFrom 0 savings → Lists savings x → IsFull weights savings x →
    (k : ℕ) × (k < length savings) × ((get_or savings k d).label ≡ x) × ((get_or savings k d).cost ≡ slice_index weights (get_or savings k d).label)
full_entry weights savings d x rise l f =
    let p = place_of savings x l in
    let same : (get_or savings p.0 d).label ≡ x = p.2 d in
    (p.0, p.1, same, sym (cost-at 0 p.0 0 d savings rise p.1) ∙ ap (saved savings) same ∙ f ∙ ap (slice_index weights) (sym same))

pub first-found : (weights : List ℕ) (savings : List LabelCost) (i : ℕ) (d : LabelCost) → RisesFrom 0 savings → i < length savings →
    ((k : ℕ) → k < i → (get_or savings k d).cost ≢ slice_index weights (get_or savings k d).label) → (get_or savings i d).cost ≡ slice_index weights (get_or savings i d).label →
    IsLeastFull weights savings (get_or savings i d).label
first-found weights savings i d rise inside none full = record {
  listed = listed-at i d savings inside;
  full = cost-at 0 i 0 d savings rise inside ∙ full;
  least = λ x l f.
      let p = full_entry weights savings d x rise l f in
      elim (cases_lt p.0 i) [ inl lt ↦ absurd (none p.0 lt p.3) | inr ge ↦ omega (arith, label_least 0 i p.0 d savings rise ge p.1, p.2) ];
}

pub none-found : (weights : List ℕ) (savings : List LabelCost) (d : LabelCost) → RisesFrom 0 savings →
    ((k : ℕ) → k < length savings → (get_or savings k d).cost ≢ slice_index weights (get_or savings k d).label) → (x : ℕ) → Lists savings x → IsFull weights savings x → ⊥
none-found weights savings d rise none x l f = let p = full_entry weights savings d x rise l f in none p.0 p.1 p.3

module _ (weights : List ℕ) (savings : List LabelCost) (pieces : List Piece) (most : (d : ℕ) → saved savings d ≤ slice_index weights d) where
  abbrev label_of : ℕ → ℕ
  label_of k = (get_or pieces k no_piece).label

  full_none : (y : ℕ) → slice_index weights y ≡ 0 → IsFull weights savings y
  full_none y none = omega (arith, most y, none)

  kept_label : (i b : ℕ) → IsFullLabel weights savings pieces i b → (slice_index weights (label_of i) ≡ 0 → b ≤ label_of i) → IsFullLabel weights savings pieces (i + 1) b
  kept_label i b h last = record {
    full = h.full;
    from = elim h.from [ inl l ↦ inl l | inr p ↦ inr (p.0, omega (arith, p.1), p.2) ];
    least = h.least;
    least_piece = λ k less f. below_more (λ k. slice_index weights (label_of k) ≡ 0 → b ≤ label_of k) i (λ k less f. h.least_piece k less f) last k less f;
  }

  -- a label that weighs nothing
  pub full-step : (i : ℕ) (best : Option ℕ) → IsLeastSoFar weights savings pieces i best → slice_index weights (label_of i) ≡ 0 → IsFullLabel weights savings pieces (i + 1) (lesser best (label_of i))
  full-step i None h none = record {
    full = full_none (label_of i) none;
    from = inr (i, omega arith, refl);
    least = λ d l f. absurd (h.0 d l f);
    least_piece = λ k lt f. below_more (λ k. slice_index weights (label_of k) ≡ 0 → label_of i ≤ label_of k) i (λ k lt f. absurd (h.1 k lt f)) (λ f. omega arith) k lt f;
  }
  full-step i (Some b) h none = elim (cases_lt b (label_of i)) [
    | inl lt ↦
        let e : min b (label_of i) ≡ b = omega (arith, lt) in
        subst (IsFullLabel weights savings pieces (i + 1)) (sym e) (kept_label i b h (λ f. omega (arith, lt)))
    | inr ge ↦
        let e : min b (label_of i) ≡ label_of i = omega (arith, ge) in
        subst (IsFullLabel weights savings pieces (i + 1)) (sym e) (record {
          full = full_none (label_of i) none;
          from = inr (i, omega arith, refl);
          least = λ d l f. omega (arith, ge, h.least d l f);
          least_piece = λ k less f. below_more (λ k. slice_index weights (label_of k) ≡ 0 → label_of i ≤ label_of k) i (λ k less f. omega (arith, ge, h.least_piece k less f)) (λ f. omega arith) k less f;
        })
  ]

  pub other-step : (i : ℕ) (best : Option ℕ) → IsLeastSoFar weights savings pieces i best → (slice_index weights (label_of i) ≡ 0 → ⊥) → IsLeastSoFar weights savings pieces (i + 1) best
  other-step i None h other = (h.0, λ k lt f. below_more (λ k. slice_index weights (label_of k) ≡ 0 → ⊥) i (λ k lt f. h.1 k lt f) other k lt f)
  other-step i (Some b) h other = kept_label i b h (λ f. absurd (other f))

  full_or_none : (k : ℕ) → IsFull weights savings (label_of k) → (slice_index weights (label_of k) ≡ 0) ⊎ Lists savings (label_of k)
  full_or_none k f = elim (decide_listed savings (label_of k)) [
    | inl l ↦ inr l
    | inr n ↦ inl (sym f ∙ unlisted savings 0 (label_of k) n)
  ]

  pub full-end : (best : Option ℕ) → SomeFull weights savings pieces → IsLeastSoFar weights savings pieces (length pieces) best → IsFullLabel weights savings pieces (length pieces) (unwrap_or best 0)
  full-end None some h = elim (full_or_none some.0 some.2) [ inl z ↦ absurd (h.1 some.0 some.1 z) | inr l ↦ absurd (h.0 (label_of some.0) l some.2) ]
  full-end (Some b) some h = h

pub first-next : (pieces : List Piece) → IsNext pieces 0 0
first-next pieces = record { before = λ k d lt. absurd (omega (arith, lt)); here = λ d inside. omega arith }

-- a label that saves something is listed
pub listed-some : (xs : List LabelCost) (d : ℕ) → 0 < saved xs d → Lists xs d
listed-some xs d some = elim (decide_listed xs d) [ inl l ↦ l | inr n ↦ absurd (omega (arith, some, unlisted xs 0 d n)) ]

-- Where neighbouring parts differ, any other list of parts with the same children ends too.
use Rattle.std.proofs.Common.{◌≡◌, ◌≢◌, ◌∷◌, ℕ, List, [], ◌≤◌, ◌<◌, refl, arith, sym, ◌∙◌, subst, inl, inr, length, ◌⊎◌, suc, map, All}
use Rattle.std.specs.List.{Any, AllAdjacentBelow}
use Rattle.std.proofs.lemmas.List.Elements.{All-cons}
use Rattle.node_store.specs.declared.edge.Edge.{Edge}
use Rattle.node_store.specs.declared.split.Part.{Part}
use Rattle.node_store.specs.Edges.{child_of}
use Rattle.node_store.specs.Split.{IsSplit, to_left, to_right}
use Rattle.node_store.proofs.Adjacent as adjacent
use Rattle.node_store.proofs.Edges as edges
use Rattle.fdd_ops.specs.Joint.{IsCoarsest}
use Rattle.node_store.proofs.Edges.{same_id}

-- one of the parts ends at the value
abbrev HasEnd : List Part → ℕ → Type 0
HasEnd [] v = ⊥
HasEnd (p ∷ ps) v = (p.hi ≡ v) ⊎ HasEnd ps v

any-end : (ps : List Part) (v : ℕ) → HasEnd ps v → Any (λ (q : Part). q.hi ≡ v) ps
any-end [] v h = absurd h
any-end (p ∷ ps) v (inl h) = (0, p, omega arith, refl, h)
any-end (p ∷ ps) v (inr h) = let r = any-end ps v h in (suc r.0, r.1, omega (arith, r.2), r.3, r.4)

-- the parts lead from the value and from the next one to the same children
record LeadsAlike (ps : List Part) (v : ℕ) : Type 0 where
  left : child_of (map to_left ps) v ≡ child_of (map to_left ps) (suc v)
  right : child_of (map to_right ps) v ≡ child_of (map to_right ps) (suc v)

compared : (a b : ℕ) → (a < b) ⊎ (a ≡ b) ⊎ (b < a)
compared a b = grind arith

alike-within : (p : Part) (ps : List Part) (v : ℕ) → v < p.hi → LeadsAlike (p ∷ ps) v
alike-within p ps v h = record {
  left = edges.within (to_left p) (map to_left ps) v (omega (arith, h)) ∙ sym (edges.within (to_left p) (map to_left ps) (suc v) (omega (arith, h)));
  right = edges.within (to_right p) (map to_right ps) v (omega (arith, h)) ∙ sym (edges.within (to_right p) (map to_right ps) (suc v) (omega (arith, h)));
}

alike-past : (p : Part) (ps : List Part) (v : ℕ) → p.hi < v → LeadsAlike ps v → LeadsAlike (p ∷ ps) v
alike-past p ps v h s = record {
  left = edges.past (to_left p) (map to_left ps) v h ∙ s.left ∙ sym (edges.past (to_left p) (map to_left ps) (suc v) (omega (arith, h)));
  right = edges.past (to_right p) (map to_right ps) v h ∙ s.right ∙ sym (edges.past (to_right p) (map to_right ps) (suc v) (omega (arith, h)));
}

ends-or-alike : (greatest lo : ℕ) (ps : List Part) → edges.Rise greatest lo (map to_left ps) → (v : ℕ) → v < greatest → HasEnd ps v ⊎ LeadsAlike ps v
ends-or-alike greatest lo [] r v less = absurd r
ends-or-alike greatest lo (p ∷ []) r v less = inr (alike-within p [] v (omega (arith, r.1, less)))
ends-or-alike greatest lo (p ∷ q ∷ ps) r v less = elim (compared v p.hi) [
  | inl h ↦ inr (alike-within p (q ∷ ps) v h)
  | inr h ↦ elim h [
    | inl e ↦ inl (inl (sym e))
    | inr h ↦ elim (ends-or-alike greatest (suc p.hi) (q ∷ ps) r.1 v less) [ inl e ↦ inl (inr e) | inr s ↦ inr (alike-past p (q ∷ ps) v h s) ]
  ]
]

last-end : (greatest lo : ℕ) (ps : List Part) → edges.Rise greatest lo (map to_left ps) → HasEnd ps greatest
last-end greatest lo [] r = absurd r
last-end greatest lo (p ∷ []) r = inl r.1
last-end greatest lo (p ∷ q ∷ ps) r = inr (last-end greatest (suc p.hi) (q ∷ ps) r.1)

abbrev Differ : Part → Part → Type 0
Differ p q = (p.left ≢ q.left) ⊎ (p.right ≢ q.right)

-- a value and the next one lead to different children
abbrev LeadsApart : (ℕ → ℕ) → (ℕ → ℕ) → ℕ → Type 0
LeadsApart l r v = (l v ≢ l (suc v)) ⊎ (r v ≢ r (suc v))

-- what holds of the greatest value, and of each value that leads apart from the next one, holds of each end
each-end : (P : ℕ → Type 0) (l r : ℕ → ℕ) (greatest lo : ℕ) (ps : List Part) → P greatest → ((v : ℕ) → v < greatest → LeadsApart l r v → P v) →
    edges.Rise greatest lo (map to_left ps) → AllAdjacentBelow Differ ps (length ps) →
    ((v : ℕ) → lo ≤ v → v ≤ greatest → child_of (map to_left ps) v ≡ l v) → ((v : ℕ) → lo ≤ v → v ≤ greatest → child_of (map to_right ps) v ≡ r v) →
    All (λ (p : Part). P p.hi) ps
each-end P l r greatest lo [] last apart rise differ left right = absurd rise
each-end P l r greatest lo (p ∷ []) last apart rise differ left right =
    All-cons (λ (x : Part). P x.hi) p [] (subst P (sym rise.1) last) (λ k d less. absurd (omega (arith, less)))
each-end P l r greatest lo (p ∷ q ∷ ps) last apart rise differ left right =
    let b = edges.bounded greatest (suc p.hi) (to_left q) (map to_left ps) rise.1 in
    let left_here = sym (edges.within (to_left p) (map to_left (q ∷ ps)) p.hi (omega arith)) ∙ left p.hi rise.0 (omega (arith, b.0, b.1)) in
    let right_here = sym (edges.within (to_right p) (map to_right (q ∷ ps)) p.hi (omega arith)) ∙ right p.hi rise.0 (omega (arith, b.0, b.1)) in
    let left_next =
    sym (edges.within (to_left q) (map to_left ps) (suc p.hi) b.0) ∙ sym (edges.past (to_left p) (map to_left (q ∷ ps)) (suc p.hi) (omega arith))
    ∙ left (suc p.hi) (omega (arith, rise.0)) (omega (arith, b.0, b.1)) in
    let right_next =
    sym (edges.within (to_right q) (map to_right ps) (suc p.hi) b.0) ∙ sym (edges.past (to_right p) (map to_right (q ∷ ps)) (suc p.hi) (omega arith))
    ∙ right (suc p.hi) (omega (arith, rise.0)) (omega (arith, b.0, b.1)) in
    let here : LeadsApart l r p.hi = elim (adjacent.head Differ p q ps differ) [
      | inl n ↦ inl (λ e. n (same_id p.left q.left (left_here ∙ e ∙ sym left_next)))
      | inr n ↦ inr (λ e. n (same_id p.right q.right (right_here ∙ e ∙ sym right_next)))
    ] in
    All-cons (λ (x : Part). P x.hi) p (q ∷ ps) (apart p.hi (omega (arith, b.0, b.1)) here)
    (each-end P l r greatest (suc p.hi) (q ∷ ps) last apart rise.1 (adjacent.tail Differ p (q ∷ ps) differ)
    (λ v low high. sym (edges.past (to_left p) (map to_left (q ∷ ps)) v (omega (arith, low))) ∙ left v (omega (arith, low, rise.0)) high)
    (λ v low high. sym (edges.past (to_right p) (map to_right (q ∷ ps)) v (omega (arith, low))) ∙ right v (omega (arith, low, rise.0)) high))

pub coarsest : (greatest : ℕ) (left_edges right_edges : List Edge) (parts : List Part) → IsSplit greatest left_edges right_edges parts → IsCoarsest greatest left_edges right_edges parts
coarsest greatest left_edges right_edges parts s = λ finer c.
    let rise = edges.rise_of greatest (map to_left finer) c.full in
    each-end (λ v. Any (λ (q : Part). q.hi ≡ v) finer) (child_of left_edges) (child_of right_edges) greatest 0 parts
    (any-end finer greatest (last-end greatest 0 finer rise))
    (λ v less apart. elim (ends-or-alike greatest 0 finer rise v less) [
      | inl e ↦ any-end finer v e
      | inr a ↦ elim apart [
        | inl n ↦ absurd (n (sym (c.left v (omega (arith, less))) ∙ a.left ∙ c.left (suc v) (omega (arith, less))))
        | inr n ↦ absurd (n (sym (c.right v (omega (arith, less))) ∙ a.right ∙ c.right (suc v) (omega (arith, less))))
      ]
    ])
    (edges.rise_of greatest (map to_left parts) s.full) s.apart (λ v low high. s.left v high) (λ v low high. s.right v high)

-- Labels as places of children: what a minimiser asks of the pieces, and where their labels lead.
use Rattle.std.proofs.Common.{◌≡◌, ◌∷◌, ℕ, zero, suc, List, [], ◌+◌, ◌-◌, ◌*◌, ◌<◌, ◌≤◌, ap, arith, refl, sym, ◌∙◌, subst, length, inl, inr}
use Rattle.std.specs.Prelude.{cond, Some, slice_get, slice_index}
use Rattle.std.proofs.lemmas.Bool.{cases_lt, le-leb, lt-leb}
use Rattle.std.proofs.lemmas.Option.{none-some, same_Some, slice_get_within}
use Rattle.std.proofs.Math.Nat.{mul-le-mul_left, add-mul}
use Rattle.node_store.specs.declared.edge.NodeId.{NodeId}
use Rattle.node_store.specs.declared.edge.Edge.{Edge}
use Rattle.node_store.specs.Edges.{child_of}
use Rattle.node_store.proofs.Edges.{Rise}
use Rattle.node_store.proofs.Edges as edges
use Rattle.prefix_min.specs.declared.piece.Piece.{Piece}
use Rattle.prefix_min.specs.Pieces.{Follow, reach, label_at, weight_from}
use Rattle.table_compose.specs.Labels.{IsPiece, ArePieces}

-- where the first piece holds the value, and where it doesn't
label_within : (p : Piece) (ps : List Piece) (v : ℕ) → v ≤ p.hi → label_at (p ∷ ps) v ≡ p.label
label_within p ps v h = ap (λ t. cond t p.label (label_at ps v)) (le-leb v p.hi h)

label_past : (p : Piece) (ps : List Piece) (v : ℕ) → p.hi < v → label_at (p ∷ ps) v ≡ label_at ps v
label_past p ps v h = ap (λ t. cond t p.label (label_at ps v)) (lt-leb v p.hi h)

module _ (children : List NodeId) where
  -- the child at the place of the value's label is the one to which the value leads
  abbrev pub LeadsTo : ℕ → ℕ → Type 0
  LeadsTo label child = (c : NodeId) × (slice_get children label ≡ Some c) × (c.0 ≡ child)

  moved : (l k a b : ℕ) → l ≡ k → a ≡ b → LeadsTo k b → LeadsTo l a
  moved l k a b p q h = subst (λ x. LeadsTo x a) (sym p) (subst (λ y. LeadsTo k y) (sym q) h)

  here : (e : Edge) (es : List Edge) (p : Piece) (ps : List Piece) (v : ℕ) → v ≤ e.hi → IsPiece children e p → LeadsTo (label_at (p ∷ ps) v) (child_of (e ∷ es) v)
  here e es p ps v h is =
      moved (label_at (p ∷ ps) v) p.label (child_of (e ∷ es) v) e.to.0 (label_within p ps v (omega (arith, h, is.0))) (edges.within e es v h) (e.to, is.1, refl)

  pub leads : (greatest lo v : ℕ) (es : List Edge) (ps : List Piece) → Rise greatest lo es → ArePieces children es ps → v ≤ greatest → LeadsTo (label_at ps v) (child_of es v)
  leads greatest lo v [] ps r z h = absurd r
  leads greatest lo v (e ∷ es) [] r z h = absurd z
  leads greatest lo v (e ∷ []) (p ∷ ps) r z h = here e [] p ps v (omega (arith, h, r.1)) z.0
  leads greatest lo v (e ∷ d ∷ es) (p ∷ ps) r z h = elim (cases_lt e.hi v) [
    | inr within ↦ here e (d ∷ es) p ps v within z.0
    | inl past ↦
        moved (label_at (p ∷ ps) v) (label_at ps v) (child_of (e ∷ d ∷ es) v) (child_of (d ∷ es) v) (label_past p ps v (omega (arith, past, z.0.0))) (edges.past e (d ∷ es) v past)
        (leads greatest (suc e.hi) v (d ∷ es) ps r.1 z.1 h)
  ]

  pub follow : (greatest lo : ℕ) (es : List Edge) (ps : List Piece) → Rise greatest lo es → ArePieces children es ps → Follow (length children) lo ps
  follow greatest lo [] ps r z = absurd r
  follow greatest lo (e ∷ es) [] r z = absurd z
  follow greatest lo (e ∷ []) (p ∷ []) r z = (omega (arith, r.0, z.0.0), slice_get_within children p.label e.to z.0.1, tt)
  follow greatest lo (e ∷ []) (p ∷ q ∷ ps) r z = absurd z.1
  follow greatest lo (e ∷ d ∷ es) (p ∷ ps) r z =
      (omega (arith, r.0, z.0.0), slice_get_within children p.label e.to z.0.1, subst (λ n. Follow (length children) n ps) (let n : suc e.hi ≡ p.hi + 1 = omega (arith, z.0.0) in n) (follow greatest (suc e.hi) (d ∷ es) ps r.1 z.1))

  pub whole : (greatest lo : ℕ) (es : List Edge) (ps : List Piece) → Rise greatest lo es → ArePieces children es ps → reach lo ps ≡ suc greatest
  whole greatest lo [] ps r z = absurd r
  whole greatest lo (e ∷ es) [] r z = absurd z
  whole greatest lo (e ∷ []) (p ∷ []) r z = omega (arith, r.1, z.0.0)
  whole greatest lo (e ∷ []) (p ∷ q ∷ ps) r z = absurd z.1
  whole greatest lo (e ∷ d ∷ es) (p ∷ ps) r z =
      subst (λ n. reach n ps ≡ suc greatest) (let n : suc e.hi ≡ p.hi + 1 = omega (arith, z.0.0) in n) (whole greatest (suc e.hi) (d ∷ es) ps r.1 z.1)

-- the edge at a place holds its greatest value
pub end_leads : (greatest lo : ℕ) (es : List Edge) → Rise greatest lo es → (k : ℕ) (e : Edge) → slice_get es k ≡ Some e → (lo ≤ e.hi) × (e.hi ≤ greatest) × (child_of es e.hi ≡ e.to.0)
end_leads greatest lo [] r k e h = absurd r
end_leads greatest lo (d ∷ es) r zero e h =
    let same = same_Some d e h in
    let b = edges.bounded greatest lo d es r in
    subst (λ x. (lo ≤ x.hi) × (x.hi ≤ greatest) × (child_of (d ∷ es) x.hi ≡ x.to.0)) same (b.0, b.1, edges.within d es d.hi (omega arith))
end_leads greatest lo (d ∷ []) r (suc k) e h = absurd (none-some e h)
end_leads greatest lo (d ∷ c ∷ es) r (suc k) e h =
    let i = end_leads greatest (suc d.hi) (c ∷ es) r.1 k e h in
    (omega (arith, i.0, r.0), i.1, edges.past d (c ∷ es) e.hi (omega (arith, i.0)) ∙ i.2)

parts : (a b m : ℕ) → a ≤ b → (b - a) * m + a * m ≡ b * m
parts a b m h = sym (add-mul (b - a) a m) ∙ ap (λ x. x * m) (let e : b - a + a ≡ b = omega arith in e)

-- labels that weigh at most so much each
pub light : (places start : ℕ) (weights : List ℕ) (most : ℕ) (ps : List Piece) → Follow places start ps → ((k : ℕ) → k < places → slice_index weights k ≤ most) →
    weight_from weights start ps + start * most ≤ reach start ps * most
light places start weights most [] f h = omega arith
light places start weights most (p ∷ ps) f h =
    let rest = light places (p.hi + 1) weights most ps f.2 h in
    let here : (p.hi + 1 - start) * slice_index weights p.label ≤ (p.hi + 1 - start) * most = mul-le-mul_left (p.hi + 1 - start) (h p.label f.1) in
    omega (arith, rest, here, parts start (p.hi + 1) most (omega (arith, f.0)))

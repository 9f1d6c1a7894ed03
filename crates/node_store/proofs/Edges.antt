-- Edges that are full and lead apart are determined by where they lead.
use Rattle.std.proofs.Common.{◌≡◌, ◌≢◌, ◌∷◌, ℕ, List, [], ◌≤◌, ◌<◌, refl, ap, arith, sym, ◌∙◌, subst}
use Rattle.std.specs.Prelude.{cond, suc, nat_le, true, false, Bool}
use Rattle.std.proofs.lemmas.Bool.{le-leb, leb-true}
use Rattle.node_store.specs.declared.edge.Edge.{Edge}
use Rattle.node_store.specs.declared.edge.NodeId.{NodeId}
use Rattle.node_store.specs.Edges.{child_of, AreFull, LeadApart}
use Rattle.node_store.proofs.Adjacent as adjacent

-- the edges rise from lo up to the greatest value
abbrev pub Rise : ℕ → ℕ → List Edge → Type 0
Rise greatest lo [] = ⊥
Rise greatest lo (e ∷ []) = (lo ≤ e.hi) × (e.hi ≡ greatest)
Rise greatest lo (e ∷ d ∷ edges) = (lo ≤ e.hi) × Rise greatest (suc e.hi) (d ∷ edges)

-- and neighbours lead apart
abbrev pub AreEdges : ℕ → ℕ → List Edge → Type 0
AreEdges greatest lo [] = ⊥
AreEdges greatest lo (e ∷ []) = (lo ≤ e.hi) × (e.hi ≡ greatest)
AreEdges greatest lo (e ∷ d ∷ edges) = (lo ≤ e.hi) × (e.to ≢ d.to) × AreEdges greatest (suc e.hi) (d ∷ edges)

tail_full : (greatest : ℕ) (e d : Edge) (edges : List Edge) → AreFull greatest (e ∷ d ∷ edges) → AreFull greatest (d ∷ edges)
tail_full greatest e d edges h = record {
  some = omega arith;
  rise = adjacent.tail (λ (x y : Edge). x.hi < y.hi) e (d ∷ edges) h.rise;
  last = λ c. ap (λ (x : Edge). x.hi) (sym (adjacent.last e d edges c)) ∙ h.last c;
}

pub rise_from : (greatest lo : ℕ) (e : Edge) (edges : List Edge) → lo ≤ e.hi → AreFull greatest (e ∷ edges) → Rise greatest lo (e ∷ edges)
rise_from greatest lo e [] low h = (low, h.last e)
rise_from greatest lo e (d ∷ edges) low h =
    (low, rise_from greatest (suc e.hi) d edges (omega (arith, adjacent.head (λ (x y : Edge). x.hi < y.hi) e d edges h.rise)) (tail_full greatest e d edges h))

pub rise_of : (greatest : ℕ) (edges : List Edge) → AreFull greatest edges → Rise greatest 0 edges
rise_of greatest [] h = absurd (omega (arith, h.some))
rise_of greatest (e ∷ edges) h = rise_from greatest 0 e edges (omega arith) h

edges_from : (greatest lo : ℕ) (edges : List Edge) → Rise greatest lo edges → LeadApart edges → AreEdges greatest lo edges
edges_from greatest lo [] r a = r
edges_from greatest lo (e ∷ []) r a = r
edges_from greatest lo (e ∷ d ∷ edges) r a =
    (r.0, adjacent.head (λ (x y : Edge). x.to ≢ y.to) e d edges a, edges_from greatest (suc e.hi) (d ∷ edges) r.1 (adjacent.tail (λ (x y : Edge). x.to ≢ y.to) e (d ∷ edges) a))

pub edges_of : (greatest : ℕ) (edges : List Edge) → AreFull greatest edges → LeadApart edges → AreEdges greatest 0 edges
edges_of greatest edges f a = edges_from greatest 0 edges (rise_of greatest edges f) a

-- edges that lead apart rise
pub rise_in : (greatest lo : ℕ) (edges : List Edge) → AreEdges greatest lo edges → Rise greatest lo edges
rise_in greatest lo [] h = h
rise_in greatest lo (e ∷ []) h = h
rise_in greatest lo (e ∷ d ∷ edges) h = (h.0, rise_in greatest (suc e.hi) (d ∷ edges) h.2)

starts : (greatest lo : ℕ) (e : Edge) (edges : List Edge) → Rise greatest lo (e ∷ edges) → lo ≤ e.hi
starts greatest lo e [] h = h.0
starts greatest lo e (d ∷ edges) h = h.0

pub full_from : (greatest lo : ℕ) (edges : List Edge) → Rise greatest lo edges → AreFull greatest edges
full_from greatest lo [] h = absurd h
full_from greatest lo (e ∷ []) h = record { some = omega arith; rise = λ k d less. absurd (omega (arith, less)); last = λ d. h.1 }
full_from greatest lo (e ∷ d ∷ edges) h =
    let f = full_from greatest (suc e.hi) (d ∷ edges) h.1 in record {
      some = omega arith;
      rise = adjacent.cons (λ (x y : Edge). x.hi < y.hi) e d edges (let low = starts greatest (suc e.hi) d edges h.1 in omega (arith, low)) f.rise;
      last = λ b. ap (λ (x : Edge). x.hi) (adjacent.last e d edges b) ∙ f.last b;
    }

pub apart_from : (greatest lo : ℕ) (edges : List Edge) → AreEdges greatest lo edges → LeadApart edges
apart_from greatest lo [] h = absurd h
apart_from greatest lo (e ∷ []) h = λ k d less. absurd (omega (arith, less))
apart_from greatest lo (e ∷ d ∷ edges) h = adjacent.cons (λ (x y : Edge). x.to ≢ y.to) e d edges h.1 (apart_from greatest (suc e.hi) (d ∷ edges) h.2)

past_step : (t : Bool) (e : Edge) (v n : ℕ) → nat_le v e.hi ≡ t → e.hi < v → cond t e.to.0 n ≡ n
past_step true e v n is h = absurd (omega (arith, leb-true v e.hi is, h))
past_step false e v n is h = refl

-- where the first edge holds the value
pub within : (e : Edge) (edges : List Edge) (v : ℕ) → v ≤ e.hi → child_of (e ∷ edges) v ≡ e.to.0
within e edges v h = ap (λ t. cond t e.to.0 (child_of edges v)) (le-leb v e.hi h)

pub past : (e : Edge) (edges : List Edge) (v : ℕ) → e.hi < v → child_of (e ∷ edges) v ≡ child_of edges v
past e edges v h = past_step (nat_le v e.hi) e v (child_of edges v) refl h

-- where the first edge ends
pub bounded : (greatest lo : ℕ) (e : Edge) (edges : List Edge) → Rise greatest lo (e ∷ edges) → (lo ≤ e.hi) × (e.hi ≤ greatest)
bounded greatest lo e [] h = (h.0, omega (arith, h.1))
bounded greatest lo e (d ∷ edges) h = let b = bounded greatest (suc e.hi) d edges h.1 in (h.0, omega (arith, b.0, b.1))

ends : (greatest lo : ℕ) (e : Edge) (edges : List Edge) → AreEdges greatest lo (e ∷ edges) → (lo ≤ e.hi) × (e.hi ≤ greatest)
ends greatest lo e edges h = bounded greatest lo e edges (rise_in greatest lo (e ∷ edges) h)

pub same_id : (a b : NodeId) → a.0 ≡ b.0 → a ≡ b
same_id a b p = ap (λ (n : ℕ). let r : NodeId = record { 0 = n } in r) p

-- an edge can't end before the other's does: past it the first list leads elsewhere, the other doesn't
no_earlier : (greatest lo : ℕ) (e d : Edge) (xs ys : List Edge) → AreEdges greatest lo (e ∷ xs) → AreEdges greatest lo (d ∷ ys) →
    ((v : ℕ) → lo ≤ v → v ≤ greatest → child_of (e ∷ xs) v ≡ child_of (d ∷ ys) v) → e.hi < d.hi → ⊥
no_earlier greatest lo e d [] ys hx hy h less = let b = ends greatest lo d ys hy in omega (arith, hx.1, b.1, less)
no_earlier greatest lo e d (c ∷ xs) ys hx hy h less =
    let b = ends greatest lo d ys hy in
    let a = ends greatest (suc e.hi) c xs hx.2 in
    let here = sym (within e (c ∷ xs) lo hx.0) ∙ h lo (omega arith) (omega (arith, a.0, a.1, hx.0)) ∙ within d ys lo b.0 in
    let next = sym (within c xs (suc e.hi) a.0) ∙ sym (past e (c ∷ xs) (suc e.hi) (omega arith)) ∙ h (suc e.hi) (omega (arith, hx.0)) (omega (arith, a.0, a.1)) ∙ within d ys (suc e.hi) (omega (arith, less)) in
    hx.1 (same_id e.to c.to (here ∙ sym next))

pub edge_same : (e d : Edge) → e.hi ≡ d.hi → e.to.0 ≡ d.to.0 → e ≡ d
edge_same e d p q =
    ap (λ (n : ℕ). let r : Edge = record { hi = n; to = e.to } in r) p ∙ ap (λ (n : ℕ). let r : Edge = record { hi = d.hi; to = record { 0 = n } } in r) q

order : (a b : ℕ) → (a < b → ⊥) → (b < a → ⊥) → a ≡ b
order a b f g = grind (arith, f, g)

heads : (greatest lo : ℕ) (e d : Edge) (xs ys : List Edge) → AreEdges greatest lo (e ∷ xs) → AreEdges greatest lo (d ∷ ys) →
    ((v : ℕ) → lo ≤ v → v ≤ greatest → child_of (e ∷ xs) v ≡ child_of (d ∷ ys) v) → (e.hi ≡ d.hi) × (e ≡ d)
heads greatest lo e d xs ys hx hy h =
    let a = ends greatest lo e xs hx in
    let b = ends greatest lo d ys hy in
    let stop = order e.hi d.hi (no_earlier greatest lo e d xs ys hx hy h) (no_earlier greatest lo d e ys xs hy hx (λ v low high. sym (h v low high))) in
    let to = sym (within e xs lo a.0) ∙ h lo (omega arith) (omega (arith, a.0, a.1)) ∙ within d ys lo b.0 in
    (stop, edge_same e d stop to)

pub same : (greatest lo : ℕ) (xs ys : List Edge) → AreEdges greatest lo xs → AreEdges greatest lo ys →
    ((v : ℕ) → lo ≤ v → v ≤ greatest → child_of xs v ≡ child_of ys v) → xs ≡ ys
same greatest lo [] ys hx hy h = absurd hx
same greatest lo (e ∷ xs) [] hx hy h = absurd hy
same greatest lo (e ∷ []) (d ∷ []) hx hy h = ap (λ r. r ∷ []) (heads greatest lo e d [] [] hx hy h).1
same greatest lo (e ∷ []) (d ∷ b ∷ ys) hx hy h =
    let p = (heads greatest lo e d [] (b ∷ ys) hx hy h).0 in
    let a = ends greatest (suc d.hi) b ys hy.2 in absurd (omega (arith, hx.1, a.0, a.1, p))
same greatest lo (e ∷ c ∷ xs) (d ∷ []) hx hy h =
    let p = (heads greatest lo e d (c ∷ xs) [] hx hy h).0 in
    let a = ends greatest (suc e.hi) c xs hx.2 in absurd (omega (arith, hy.1, a.0, a.1, p))
same greatest lo (e ∷ c ∷ xs) (d ∷ b ∷ ys) hx hy h =
    let q = heads greatest lo e d (c ∷ xs) (b ∷ ys) hx hy h in
    let tail = same greatest (suc e.hi) (c ∷ xs) (b ∷ ys) hx.2 (subst (λ n. AreEdges greatest (suc n) (b ∷ ys)) (sym q.0) hy.2)
    (λ v low high. sym (past e (c ∷ xs) v (omega (arith, low))) ∙ h v (omega (arith, low, (ends greatest lo e (c ∷ xs) hx).0)) high ∙ past d (b ∷ ys) v (omega (arith, low, q.0))) in
    ap (λ r. r ∷ c ∷ xs) q.1 ∙ ap (λ zs. d ∷ zs) tail

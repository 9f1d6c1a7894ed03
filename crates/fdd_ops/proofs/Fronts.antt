-- The edges of two nodes that are left once their equal fronts are passed.
use Rattle.std.proofs.Common.{◌≡◌, ◌≢◌, ◌∷◌, ℕ, List, [], ◌≤◌, ◌<◌, refl, ap, arith, sym, ◌∙◌, inl, inr, suc}
use Rattle.std.proofs.lemmas.Bool.{cases_lt}
use Rattle.node_store.specs.declared.edge.Edge.{Edge}
use Rattle.node_store.specs.Edges.{child_of}
use Rattle.node_store.proofs.Edges.{AreEdges, rise_in, bounded, within, past}

-- the edges that are left from start on, of two nodes that lead alike before it
pub record AreLeft (greatest : ℕ) (first second : List Edge) (start : ℕ) (left right : List Edge) : Type 0 where
  pub left_edges : AreEdges greatest start left
  pub right_edges : AreEdges greatest start right
  pub differ : left ≢ right
  pub before : (v : ℕ) → v < start → child_of first v ≡ child_of second v
  pub left_leads : (v : ℕ) → start ≤ v → child_of first v ≡ child_of left v
  pub right_leads : (v : ℕ) → start ≤ v → child_of second v ≡ child_of right v

-- the same with the nodes exchanged
pub turned : (g : ℕ) (first second : List Edge) (start : ℕ) (left right : List Edge) →
    AreLeft g first second start left right → AreLeft g second first start right left
turned g first second start left right h = record {
  left_edges = h.right_edges;
  right_edges = h.left_edges;
  differ = λ e. h.differ (sym e);
  before = λ v low. sym (h.before v low);
  left_leads = h.right_leads;
  right_leads = h.left_leads;
}

-- where the first edge ends
pub ends : (g lo : ℕ) (e : Edge) (xs : List Edge) → AreEdges g lo (e ∷ xs) → (lo ≤ e.hi) × (e.hi ≤ g)
ends g lo e xs h = bounded g lo e xs (rise_in g lo (e ∷ xs) h)

-- at first all edges are left
pub all_left : (g : ℕ) (first second : List Edge) → AreEdges g 0 first → AreEdges g 0 second → first ≢ second → AreLeft g first second 0 first second
all_left g first second a b differ = record {
  left_edges = a;
  right_edges = b;
  differ = differ;
  before = λ v low. absurd (omega (arith, low));
  left_leads = λ v high. refl;
  right_leads = λ v high. refl;
}

rest : (g lo : ℕ) (e : Edge) (xs : List Edge) → AreEdges g lo (e ∷ xs) → e.hi < g → AreEdges g (suc e.hi) xs
rest g lo e [] h low = absurd (omega (arith, h.1, low))
rest g lo e (f ∷ xs) h low = h.2

-- one of two equal first edges ends below the greatest value, as the lists differ
below : (g lo : ℕ) (e : Edge) (xs ys : List Edge) → AreEdges g lo (e ∷ xs) → AreEdges g lo (e ∷ ys) → (e ∷ xs) ≢ (e ∷ ys) → e.hi < g
below g lo e [] [] a b differ = absurd (differ refl)
below g lo e [] (f ∷ ys) a b differ = let t = ends g (suc e.hi) f ys b.2 in omega (arith, t.0, t.1)
below g lo e (f ∷ xs) ys a b differ = let t = ends g (suc e.hi) f xs a.2 in omega (arith, t.0, t.1)

-- an equal edge at the front of both is passed
pub passed : (g : ℕ) (first second : List Edge) (start : ℕ) (e : Edge) (xs ys : List Edge) →
    AreLeft g first second start (e ∷ xs) (e ∷ ys) → (e.hi < g) × AreLeft g first second (suc e.hi) xs ys
passed g first second start e xs ys h =
    let low = below g start e xs ys h.left_edges h.right_edges h.differ in
    let at = ends g start e xs h.left_edges in (
      low,
      record {
        left_edges = rest g start e xs h.left_edges low;
        right_edges = rest g start e ys h.right_edges low;
        differ = λ p. h.differ (ap (λ zs. e ∷ zs) p);
        before = λ v high. elim (cases_lt v start) [
          | inl less ↦ h.before v less
          | inr more ↦
              let low : v ≤ e.hi = omega (arith, high) in
              h.left_leads v more ∙ within e xs v low ∙ sym (within e ys v low) ∙ sym (h.right_leads v more)
        ];
        left_leads = λ v high. h.left_leads v (omega (arith, high, at.0)) ∙ past e xs v (omega (arith, high));
        right_leads = λ v high. h.right_leads v (omega (arith, high, at.0)) ∙ past e ys v (omega (arith, high));
      },
    )

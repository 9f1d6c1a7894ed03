-- The value at which the edges that are left first lead apart.
use Rattle.std.proofs.Common.{◌≡◌, ◌≢◌, ◌∷◌, ℕ, List, [], ◌≤◌, ◌<◌, ◌+◌, length, get_or, arith, sym, ◌∙◌, inl, inr, suc}
use Rattle.std.proofs.lemmas.Bool.{cases_lt}
use Rattle.node_store.specs.declared.edge.Edge.{Edge}
use Rattle.node_store.specs.Edges.{child_of}
use Rattle.node_store.proofs.Edges.{AreEdges, within, past, same_id}
use Rattle.fdd_ops.specs.Parting.{IsFirstValue}
use Rattle.fdd_ops.proofs.Fronts.{AreLeft, turned, ends}

-- the first value, and where it leads
pub record LeadApartAt (g : ℕ) (first second : List Edge) (v l r : ℕ) : Type 0 where
  pub value : IsFirstValue g first second v
  pub left_child : child_of first v ≡ l
  pub right_child : child_of second v ≡ r

exchanged : (g : ℕ) (first second : List Edge) (v l r : ℕ) → LeadApartAt g second first v r l → LeadApartAt g first second v l r
exchanged g first second v l r h = record {
  value = record { inside = h.value.inside; apart = λ e. h.value.apart (sym e); before = λ w low. sym (h.value.before w low) };
  left_child = h.right_child;
  right_child = h.left_child;
}

-- the first edges that are left lead to different nodes
pub at_once : (g : ℕ) (first second : List Edge) (start : ℕ) (left right : List Edge) (d : Edge) → AreLeft g first second start left right →
    (get_or left 0 d).to.0 ≢ (get_or right 0 d).to.0 → LeadApartAt g first second start (get_or left 0 d).to.0 (get_or right 0 d).to.0
at_once g first second start [] right d h apart = absurd h.left_edges
at_once g first second start (e ∷ xs) [] d h apart = absurd h.right_edges
at_once g first second start (e ∷ xs) (c ∷ ys) d h apart =
    let l = ends g start e xs h.left_edges in
    let left_child = h.left_leads start (omega arith) ∙ within e xs start l.0 in
    let right_child = h.right_leads start (omega arith) ∙ within c ys start (ends g start c ys h.right_edges).0 in record {
      value = record { inside = omega (arith, l.0, l.1); apart = λ same. apart (sym left_child ∙ same ∙ right_child); before = h.before };
      left_child = left_child;
      right_child = right_child;
    }

-- where the first edge ends below the greatest value there is a next one
pub goes_on : (g lo : ℕ) (xs : List Edge) (d : Edge) → AreEdges g lo xs → (get_or xs 0 d).hi < g → 1 < length xs
goes_on g lo [] d h low = absurd h
goes_on g lo (e ∷ []) d h low = absurd (omega (arith, h.1, low))
goes_on g lo (e ∷ f ∷ xs) d h low = omega arith

-- no first edge ends above the greatest value
pub most : (g lo : ℕ) (xs : List Edge) (d : Edge) → AreEdges g lo xs → (get_or xs 0 d).hi ≤ g
most g lo [] d h = absurd h
most g lo (e ∷ xs) d h = (ends g lo e xs h).1

-- they lead to one node, and the left one ends sooner
pub sooner : (g : ℕ) (first second : List Edge) (start : ℕ) (left right : List Edge) (d : Edge) → AreLeft g first second start left right →
    (get_or left 0 d).to.0 ≡ (get_or right 0 d).to.0 → (get_or left 0 d).hi < (get_or right 0 d).hi →
    LeadApartAt g first second ((get_or left 0 d).hi + 1) (get_or left 1 d).to.0 (get_or right 0 d).to.0
sooner g first second start [] right d h same less = absurd h.left_edges
sooner g first second start (e ∷ xs) [] d h same less = absurd h.right_edges
sooner g first second start (e ∷ []) (c ∷ ys) d h same less =
    let r = ends g start c ys h.right_edges in absurd (omega (arith, h.left_edges.1, r.1, less))
sooner g first second start (e ∷ f ∷ xs) (c ∷ ys) d h same less =
    let l = ends g start e (f ∷ xs) h.left_edges in
    let n = ends g (suc e.hi) f xs h.left_edges.2 in
    let r = ends g start c ys h.right_edges in
    let left_child = h.left_leads (e.hi + 1) (omega (arith, l.0)) ∙ past e (f ∷ xs) (e.hi + 1) (omega arith) ∙ within f xs (e.hi + 1) (omega (arith, n.0)) in
    let right_child = h.right_leads (e.hi + 1) (omega (arith, l.0)) ∙ within c ys (e.hi + 1) (omega (arith, less)) in record {
      value = record {
        inside = omega (arith, n.0, n.1);
        apart = λ p. h.left_edges.1 (same_id e.to f.to (same ∙ sym right_child ∙ sym p ∙ left_child));
        before = λ w low. elim (cases_lt w start) [
          | inl small ↦ h.before w small
          | inr large ↦
              h.left_leads w large ∙ within e (f ∷ xs) w (omega (arith, low)) ∙ same ∙ sym (within c ys w (omega (arith, low, less))) ∙ sym (h.right_leads w large)
        ];
      };
      left_child = left_child;
      right_child = right_child;
    }

-- they lead to one node, and the right one ends sooner
pub later : (g : ℕ) (first second : List Edge) (start : ℕ) (left right : List Edge) (d : Edge) → AreLeft g first second start left right →
    (get_or left 0 d).to.0 ≡ (get_or right 0 d).to.0 → (get_or right 0 d).hi < (get_or left 0 d).hi →
    LeadApartAt g first second ((get_or right 0 d).hi + 1) (get_or left 0 d).to.0 (get_or right 1 d).to.0
later g first second start left right d h same less =
    exchanged g first second _ _ _ (sooner g second first start right left d (turned g first second start left right h) (sym same) less)

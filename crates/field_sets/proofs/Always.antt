-- Nodes that answer one number: a leaf, a node over one of them, and a node whose one edge leads to one.
use Rattle.std.proofs.Common.{◌≡◌, ℕ, List, [], ◌∷◌, ◌≤◌, ◌<◌, ◌∙◌, arith, ap, refl, length, subst, sym}
use Rattle.std.specs.Prelude.{IfSome, Option, Some, None, slice_get, slice_index_or}
use Rattle.field_boxes.specs.Headline.Fields.{AreValues}
use Rattle.node_store.specs.declared.edge.Edge.{Edge}
use Rattle.node_store.specs.Edges.{AreFull, child_of}
use Rattle.node_store.specs.Levels.{HasField, next, top_of}
use Rattle.node_store.specs.Diagram.{Node, node_level, node_edges, level_of, edges_of, answer}
use Rattle.node_store.specs.Diagram.Node.{Leaf, Inner}
use Rattle.node_store.specs.Store.{IsStore}
use Rattle.node_store.proofs.Canonical.{leads_on}
use Rattle.node_store.proofs.Edges.{within}
use Rattle.node_store.proofs.Values.{each}
use Rattle.field_sets.specs.Constant.{AnswersOnly}

single : (es : List Edge) (d : Edge) → length es ≡ 1 → es ≡ slice_index_or es 0 d ∷ []
single [] d h = absurd (omega (arith, h))
single (e ∷ []) d h = refl
single (e ∷ c ∷ es) d h = absurd (omega (arith, h))

one_edge : (top : ℕ) (e : Edge) (es : List Edge) → AreFull top es → es ≡ e ∷ [] → (v : ℕ) → v ≤ top → child_of es v ≡ e.to.0
one_edge top e es full is v h =
    let last = (subst (AreFull top) is full).last e in
    ap (λ xs. child_of xs v) is ∙ within e [] v (omega (arith, last, h))

one_by : (nodes : List Node) (id : ℕ) (m : Option Node) (e : Edge) → IsStore nodes → slice_get nodes id ≡ m → node_edges m ≡ e ∷ [] →
    HasField (node_level m) × ((v : ℕ) → v ≤ top_of (node_level m) → child_of (node_edges m) v ≡ e.to.0)
one_by nodes id None e s p h = cc
one_by nodes id (Some (Leaf c)) e s p h = cc
one_by nodes id (Some (Inner f es)) e s p h = let inner = s.fits id (Inner f es) p in (inner.field, one_edge (top_of f) e es inner.full h)

module _ (nodes : List Node) (id : ℕ) (es : List Edge) (d : Edge) (store : IsStore nodes) (own : es ≡ edges_of nodes id) (one : length es ≡ 1) where
  leads : HasField (level_of nodes id) × ((v : ℕ) → v ≤ top_of (level_of nodes id) → child_of (edges_of nodes id) v ≡ (slice_index_or es 0 d).to.0)
  leads = one_by nodes id (slice_get nodes id) (slice_index_or es 0 d) store refl (sym own ∙ single es d one)

  -- the one edge leads to an older node
  pub older : (slice_index_or es 0 d).to.0 < id
  older = subst (λ n. n < id) (leads.1 0 (omega arith)) (leads_on nodes id 0 store leads.0 (omega arith)).0

  next_is : level_of nodes (slice_index_or es 0 d).to.0 ≡ next (level_of nodes id)
  next_is = ap (λ n. level_of nodes n) (sym (leads.1 0 (omega arith))) ∙ (leads_on nodes id 0 store leads.0 (omega arith)).1

  -- a node whose one edge leads to one that answers one number
  pub through : (decision : ℕ) → AnswersOnly nodes decision (slice_index_or es 0 d).to.0 → AnswersOnly nodes decision id
  through decision only =
      each (λ values. answer nodes id values ≡ decision) (level_of nodes id) leads.0
      (λ v rest low ok. ap (λ n. answer nodes n rest) (leads.1 v low) ∙ only rest (subst (λ k. AreValues k rest) (sym next_is) ok))

pub if_through : (found : Option ℕ) (P Q : ℕ → Type 0) → ((n : ℕ) → P n → Q n) → IfSome found P → IfSome found Q
if_through None P Q h is = tt
if_through (Some n) P Q h is = h n is

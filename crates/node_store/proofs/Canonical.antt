-- Nodes of one level that answer alike are one node.
use Rattle.std.proofs.Common.{◌≡◌, ◌∷◌, ℕ, List, [], ◌≤◌, ◌<◌, refl, ap, arith, sym, ◌∙◌, subst, length}
use Rattle.std.specs.Prelude.{suc, Option, Some, None, slice_get, unwrap_or, All, cond, nat_eq, nat_le, true, false, Bool}
use Rattle.std.proofs.lemmas.Option.{slice_get-get_or, slice_get_within}
use Rattle.std.proofs.lemmas.List.Elements.{All-tail}
use Rattle.field_boxes.specs.Alike.{AreAlikeOver}
use Rattle.node_store.specs.declared.edge.Edge.{Edge}
use Rattle.node_store.specs.Edges.{child_of}
use Rattle.node_store.specs.Levels.{HasField, IsLevel, next, top_of}
use Rattle.node_store.specs.Diagram.{Node, node_level, node_edges, node_decision, level_of, edges_of, answer}
use Rattle.node_store.specs.Diagram.Node.{Leaf, Inner}
use Rattle.node_store.specs.Store.{IsStore}
use Rattle.node_store.proofs.Values.{values_from}
use Rattle.node_store.proofs.Edges.{Rise, AreEdges, same, rise_of, edges_of as are_edges}

pub is_level : (level : List ℕ) → HasField level → IsLevel level
is_level [] h = absurd h
is_level (f ∷ level) h = h

pub is_next : (level : List ℕ) → HasField level → IsLevel (next level)
is_next [] h = absurd h
is_next (f ∷ level) h = h.1

pub few : (level : List ℕ) → HasField level → length level ≤ 5
few [] h = absurd h
few (f ∷ level) h = omega (arith, h.0.2)

pub not_empty : (level : List ℕ) → IsLevel level → nat_eq (length level) 0 ≡ false → HasField level
not_empty [] h some = cc
not_empty (f ∷ level) h some = h

within_by : (nodes : List Node) (id : ℕ) (m : Option Node) → slice_get nodes id ≡ m → IsLevel (node_level m) → id < length nodes
within_by nodes id None p h = absurd (omega (arith, h.0.0))
within_by nodes id (Some node) p h = slice_get_within nodes id node p

-- a number with a level is in use
pub within : (nodes : List Node) (id : ℕ) → IsLevel (level_of nodes id) → id < length nodes
within nodes id h = within_by nodes id (slice_get nodes id) refl h

-- so is that of a node of a level
pub in_use : (nodes : List Node) (id : ℕ) (level : List ℕ) → IsLevel level → level_of nodes id ≡ level → id < length nodes
in_use nodes id level is at = within nodes id (subst IsLevel (sym at) is)

leaves : (nodes : List Node) (i j : ℕ) → IsStore nodes → (m n : Option Node) → slice_get nodes i ≡ m → slice_get nodes j ≡ n →
    node_level m ≡ [] → node_level n ≡ [] → unwrap_or (node_decision m) 0 ≡ unwrap_or (node_decision n) 0 → i ≡ j
leaves nodes i j s None n p q l k e = cc
leaves nodes i j s (Some (Inner f es)) n p q l k e = absurd (subst HasField l (s.fits i (Inner f es) p).field)
leaves nodes i j s (Some (Leaf d)) None p q l k e = cc
leaves nodes i j s (Some (Leaf d)) (Some (Inner f es)) p q l k e = absurd (subst HasField k (s.fits j (Inner f es) q).field)
leaves nodes i j s (Some (Leaf d)) (Some (Leaf c)) p q l k e = s.once i j (Leaf c) (p ∙ ap (λ x. Some (Leaf x)) e) q

-- where there is no node, there is no field
no_field : (level : List ℕ) → HasField level → 5 ∷ [] ≡ level → ⊥
no_field level h e = let f = (subst HasField (sym e) h).0.0 in omega (arith, f)

leaf_field : (level : List ℕ) → HasField level → [] ≡ level → ⊥
leaf_field level h e = subst HasField (sym e) h

inners : (nodes : List Node) (level : List ℕ) (i j : ℕ) → IsStore nodes → HasField level → (m n : Option Node) →
    slice_get nodes i ≡ m → slice_get nodes j ≡ n → node_level m ≡ level → node_level n ≡ level →
    ((v : ℕ) → v ≤ top_of level → child_of (node_edges m) v ≡ child_of (node_edges n) v) → i ≡ j
inners nodes level i j s field None n p q l k h = absurd (no_field level field l)
inners nodes level i j s field (Some (Leaf d)) n p q l k h = absurd (leaf_field level field l)
inners nodes level i j s field (Some (Inner f es)) None p q l k h = absurd (no_field level field k)
inners nodes level i j s field (Some (Inner f es)) (Some (Leaf d)) p q l k h = absurd (leaf_field level field k)
inners nodes level i j s field (Some (Inner f es)) (Some (Inner g ds)) p q l k h =
    let left = s.fits i (Inner f es) p in
    let right = s.fits j (Inner g ds) q in
    let e = same (top_of f) 0 es ds (are_edges (top_of f) es left.full left.apart)
    (subst (λ x. AreEdges (top_of x) 0 ds) (k ∙ sym l) (are_edges (top_of g) ds right.full right.apart))
    (λ v low high. h v (subst (λ x. v ≤ top_of x) l high)) in
    s.once i j (Inner g ds) (p ∙ ap (λ x. Some (Inner x es)) (l ∙ sym k) ∙ ap (λ x. Some (Inner g x)) e) q

chosen_step : (P : ℕ → Type 0) (t : Bool) (e : Edge) (n v : ℕ) → nat_le v e.hi ≡ t → P e.to.0 → (e.hi < v → P n) → P (cond t e.to.0 n)
chosen_step P true e n v is p h = p
chosen_step P false e n v is p h = h (grind (arith, is))

-- what holds of each child holds of the one to which a value leads
pub chosen : (P : ℕ → Type 0) (greatest lo : ℕ) (es : List Edge) (v : ℕ) → Rise greatest lo es → v ≤ greatest → All (λ (e : Edge). P e.to.0) es → P (child_of es v)
chosen P greatest lo [] v r h all = absurd r
chosen P greatest lo (e ∷ []) v r h all = chosen_step P (nat_le v e.hi) e 0 v refl (all 0 e (omega arith)) (λ less. absurd (omega (arith, less, h, r.1)))
chosen P greatest lo (e ∷ d ∷ es) v r h all =
    chosen_step P (nat_le v e.hi) e (child_of (d ∷ es) v) v refl (all 0 e (omega arith))
    (λ less. chosen P greatest (suc e.hi) (d ∷ es) v r.1 h (All-tail (λ (c : Edge). P c.to.0) e (d ∷ es) all))

next_by : (nodes : List Node) (id v : ℕ) → IsStore nodes → (m : Option Node) → slice_get nodes id ≡ m → HasField (node_level m) → v ≤ top_of (node_level m) →
    (child_of (node_edges m) v < id) × (level_of nodes (child_of (node_edges m) v) ≡ next (node_level m))
next_by nodes id v s None p field h = absurd (omega (arith, field.0.0))
next_by nodes id v s (Some (Leaf d)) p field h = absurd field
next_by nodes id v s (Some (Inner f es)) p field h =
    let inner = s.fits id (Inner f es) p in
    chosen (λ n. (n < id) × (level_of nodes n ≡ next f)) (top_of f) 0 es v (rise_of (top_of f) es inner.full) h inner.children

-- a value of its field leads from an inner node to an older node of the next level
pub leads_on : (nodes : List Node) (id v : ℕ) → IsStore nodes → HasField (level_of nodes id) → v ≤ top_of (level_of nodes id) →
    (child_of (edges_of nodes id) v < id) × (level_of nodes (child_of (edges_of nodes id) v) ≡ next (level_of nodes id))
leads_on nodes id v s field h = next_by nodes id v s (slice_get nodes id) refl field h

level_by : (nodes : List Node) (id : ℕ) (n : Node) → IsStore nodes → slice_get nodes id ≡ Some n → IsLevel (node_level (Some n))
level_by nodes id (Leaf d) s p = tt
level_by nodes id (Inner f es) s p = is_level f (s.fits id (Inner f es) p).field

pub has_level : (nodes : List Node) (id : ℕ) → IsStore nodes → id < length nodes → IsLevel (level_of nodes id)
has_level nodes id s h =
    let at = slice_get-get_or nodes id (Leaf 0) h in
    subst (λ m. IsLevel (node_level m)) (sym at) (level_by nodes id _ s at)

child_level : (nodes : List Node) (level : List ℕ) (id v : ℕ) → IsStore nodes → HasField level → level_of nodes id ≡ level → v ≤ top_of level →
    level_of nodes (child_of (edges_of nodes id) v) ≡ next level
child_level nodes level id v s field l h =
    (leads_on nodes id v s (subst HasField (sym l) field) (subst (λ f. v ≤ top_of f) (sym l) h)).1 ∙ ap next l

pub one : (nodes : List Node) (level : List ℕ) (a b : ℕ) → IsStore nodes → IsLevel level → level_of nodes a ≡ level → level_of nodes b ≡ level → AreAlikeOver level (answer nodes a) (answer nodes b) → a ≡ b
one nodes [] a b s is l k h = leaves nodes a b s (slice_get nodes a) (slice_get nodes b) refl refl l k (h [] tt)
one nodes (f ∷ level) a b s is l k h =
    inners nodes (f ∷ level) a b s is (slice_get nodes a) (slice_get nodes b) refl refl l k
    (λ v high. one nodes level (child_of (edges_of nodes a) v) (child_of (edges_of nodes b) v) s is.1
    (child_level nodes (f ∷ level) a v s is l high) (child_level nodes (f ∷ level) b v s is k high)
    (λ values ok. h (v ∷ values) (values_from (f ∷ level) v values is high ok)))

-- A store that gains a node keeps what its old numbers mean, and stays a store.
use Rattle.std.proofs.Common.{◌≡◌, ◌≢◌, ◌∷◌, ◌++◌, ℕ, List, [], ◌≤◌, ◌<◌, length, append_assoc, refl, ap, arith, sym, ◌∙◌, subst, inl, inr}
use Rattle.std.specs.Prelude.{◌⊎◌, suc, zero, Option, Some, None, slice_get, unwrap_or, All, cond, nat_le, true, false, Bool}
use Rattle.std.proofs.lemmas.List.{append-nil, length-append}
use Rattle.std.proofs.lemmas.List.Elements.{All-tail}
use Rattle.node_store.specs.declared.edge.Edge.{Edge}
use Rattle.node_store.specs.Edges.{child_of}
use Rattle.node_store.specs.Diagram.{Node, node_level, node_edges, node_decision, level_of, edges_of, answer}
use Rattle.node_store.specs.Diagram.Node.{Leaf, Inner}
use Rattle.node_store.specs.Store.{IsStore, FitsAt, Grows}

-- an old place holds what it held
pub kept_place : {X : Type 0} (xs ys : List X) (i : ℕ) → i < length xs → slice_get (xs ++ ys) i ≡ slice_get xs i
kept_place [] ys i h = absurd (omega (arith, h))
kept_place (x ∷ xs) ys zero h = refl
kept_place (x ∷ xs) ys (suc i) h = kept_place xs ys i (omega (arith, h))

pub last_place : {X : Type 0} (xs : List X) (y : X) → slice_get (xs ++ y ∷ []) (length xs) ≡ Some y
last_place [] y = refl
last_place (x ∷ xs) y = last_place xs y

-- 0, or a child: what holds of all of them
child_step : (P : ℕ → Type 0) (t : Bool) (a b : ℕ) → P a → P b → P (cond t a b)
child_step P true a b p q = p
child_step P false a b p q = q

any_child : (P : ℕ → Type 0) (es : List Edge) (v : ℕ) → P 0 → All (λ (e : Edge). P e.to.0) es → P (child_of es v)
any_child P [] v zeroth all = zeroth
any_child P (e ∷ es) v zeroth all =
    child_step P (nat_le v e.hi) e.to.0 (child_of es v) (all 0 e (omega arith)) (any_child P es v zeroth (All-tail (λ (d : Edge). P d.to.0) e es all))

child_within : (nodes : List Node) (id v : ℕ) → IsStore nodes → id < length nodes → (m : Option Node) → slice_get nodes id ≡ m → child_of (node_edges m) v < length nodes
child_within nodes id v s h None p = omega (arith, h)
child_within nodes id v s h (Some (Leaf d)) p = omega (arith, h)
child_within nodes id v s h (Some (Inner f es)) p =
    any_child (λ n. n < length nodes) es v (omega (arith, h)) (λ k d less. let c = (s.fits id (Inner f es) p).children k d less in omega (arith, c.0, h))

answers_kept : (nodes more : List Node) (id : ℕ) (values : List ℕ) → IsStore nodes → id < length nodes → answer (nodes ++ more) id values ≡ answer nodes id values
answers_kept nodes more id [] s h = ap (λ m. unwrap_or (node_decision m) 0) (kept_place nodes more id h)
answers_kept nodes more id (v ∷ values) s h =
    ap (λ m. answer (nodes ++ more) (child_of (node_edges m) v) values) (kept_place nodes more id h)
    ∙ answers_kept nodes more (child_of (edges_of nodes id) v) values s (child_within nodes id v s h (slice_get nodes id) refl)

pub grows : (nodes more : List Node) → IsStore nodes → Grows nodes (nodes ++ more)
grows nodes more s = record { gained = (more, refl); answers = λ id values h. answers_kept nodes more id values s h }

pub stays : (nodes : List Node) → Grows nodes nodes
stays nodes = record { gained = ([], sym (append-nil nodes)); answers = λ id values h. refl }

fits_later : (nodes more : List Node) (id : ℕ) (node : Node) → id ≤ length nodes → FitsAt nodes id node → FitsAt (nodes ++ more) id node
fits_later nodes more id (Leaf d) h fits = tt
fits_later nodes more id (Inner f es) h fits = record {
  field = fits.field;
  full = fits.full;
  apart = fits.apart;
  children = λ k d less. let c = fits.children k d less in (c.0, ap node_level (kept_place nodes more _ (omega (arith, c.0, h))) ∙ c.1);
}

-- a place is an old one, or the last
pub place_of : (nodes : List Node) (node other : Node) (i : ℕ) → slice_get (nodes ++ node ∷ []) i ≡ Some other →
    ((i < length nodes) × (slice_get nodes i ≡ Some other)) ⊎ ((i ≡ length nodes) × (node ≡ other))
place_of [] node other zero h = inr (refl, cc)
place_of [] node other (suc i) h = cc
place_of (n ∷ nodes) node other zero h = inl (omega arith, h)
place_of (n ∷ nodes) node other (suc i) h = elim (place_of nodes node other i h) [ inl p ↦ inl (omega (arith, p.0), p.1) | inr p ↦ inr (omega (arith, p.0), p.1) ]

fits_by : (nodes : List Node) (node other : Node) (id : ℕ) → IsStore nodes → FitsAt nodes (length nodes) node →
    ((id < length nodes) × (slice_get nodes id ≡ Some other)) ⊎ ((id ≡ length nodes) × (node ≡ other)) → FitsAt (nodes ++ node ∷ []) id other
fits_by nodes node other id s fits (inl p) = fits_later nodes (node ∷ []) id other (omega (arith, p.0)) (s.fits id other p.1)
fits_by nodes node other id s fits (inr p) =
    subst (λ n. FitsAt (nodes ++ node ∷ []) id n) p.1
    (subst (λ i. FitsAt (nodes ++ node ∷ []) i node) (sym p.0) (fits_later nodes (node ∷ []) (length nodes) node (omega arith) fits))

once_by : (nodes : List Node) (node other : Node) (i j : ℕ) → IsStore nodes → ((k : ℕ) → slice_get nodes k ≢ Some node) →
    ((i < length nodes) × (slice_get nodes i ≡ Some other)) ⊎ ((i ≡ length nodes) × (node ≡ other)) →
    ((j < length nodes) × (slice_get nodes j ≡ Some other)) ⊎ ((j ≡ length nodes) × (node ≡ other)) → i ≡ j
once_by nodes node other i j s fresh (inl p) (inl q) = s.once i j other p.1 q.1
once_by nodes node other i j s fresh (inl p) (inr q) = absurd (fresh i (p.1 ∙ ap Some (sym q.1)))
once_by nodes node other i j s fresh (inr p) (inl q) = absurd (fresh j (q.1 ∙ ap Some (sym p.1)))
once_by nodes node other i j s fresh (inr p) (inr q) = p.0 ∙ sym q.0

pub store_gains : (nodes : List Node) (node : Node) → IsStore nodes → FitsAt nodes (length nodes) node → ((k : ℕ) → slice_get nodes k ≢ Some node) → IsStore (nodes ++ node ∷ [])
store_gains nodes node s fits fresh = record {
  fits = λ id other h. fits_by nodes node other id s fits (place_of nodes node other id h);
  once = λ i j other h k. once_by nodes node other i j s fresh (place_of nodes node other i h) (place_of nodes node other j k);
}

-- an old number keeps its level
pub level_kept : (old new : List Node) (id : ℕ) → Grows old new → id < length old → level_of new id ≡ level_of old id
level_kept old new id g h = ap node_level (ap (λ nodes. slice_get nodes id) g.gained.1 ∙ kept_place old g.gained.0 id h)

used_later : (old new : List Node) (id : ℕ) → Grows old new → id < length old → id < length new
used_later old new id g h = let n = ap (λ nodes. length nodes) g.gained.1 ∙ length-append old g.gained.0 in omega (arith, n, h)

-- a store that grows and grows again has grown
pub answers_twice : (first second third : List Node) (id : ℕ) (values : List ℕ) → Grows first second → Grows second third → id < length first →
    answer third id values ≡ answer first id values
answers_twice first second third id values g h used = h.answers id values (used_later first second id g used) ∙ g.answers id values used

pub twice : (first second third : List Node) → Grows first second → Grows second third → Grows first third
twice first second third g h = record {
  gained = (g.gained.0 ++ h.gained.0, h.gained.1 ∙ ap (λ nodes. nodes ++ h.gained.0) g.gained.1 ∙ append_assoc first g.gained.0 h.gained.0);
  answers = λ id values used. answers_twice first second third id values g h used;
}

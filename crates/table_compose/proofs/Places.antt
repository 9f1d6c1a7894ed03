-- Places of nodes among one another: each stands under its node's number.
use Rattle.std.proofs.Common.{◌≡◌, ◌≢◌, ◌∷◌, ◌++◌, ℕ, zero, suc, List, [], ◌<◌, Bool, true, false, length, ap, refl, sym, ◌∙◌, subst, inl, inr, set, eq-eqb}
use Rattle.std.specs.Prelude.{◌||◌, cond, nat_eq, Some, slice_get}
use Rattle.std.specs.List.{list_any}
use Rattle.std.proofs.lemmas.Bool.Decides.{eqb_tells}
use Rattle.std.proofs.lemmas.Option.{none-some, same_Some}
use Rattle.node_store.specs.declared.edge.NodeId.{NodeId}
use Rattle.table_compose.specs.Labels.{with_child, ArePlaced}
use Rattle.table_compose.proofs.Children.{place_of, same_id}
use Rattle.table_compose.proofs.KeptCosts.{set_here, set_elsewhere}

either : (a b : Bool) → b ≡ true → (a || b) ≡ true
either true b h = refl
either false b h = h

-- a node that stands at a place is among the nodes
among : (nodes : List NodeId) (i : ℕ) (node : NodeId) → slice_get nodes i ≡ Some node → list_any (λ x. nat_eq node.0 x.0) nodes ≡ true
among [] i node h = absurd (none-some node h)
among (x ∷ nodes) zero node h = ap (λ b. b || list_any (λ y. nat_eq node.0 y.0) nodes) (eq-eqb node.0 x.0 (ap (λ (y : NodeId). y.0) (sym (same_Some x node h))))
among (x ∷ nodes) (suc i) node h = either (nat_eq node.0 x.0) (list_any (λ y. nat_eq node.0 y.0) nodes) (among nodes i node h)

-- a node that stands at no place isn't
not_among : (nodes : List NodeId) (node : NodeId) → ((i : ℕ) → slice_get nodes i ≢ Some node) → list_any (λ x. nat_eq node.0 x.0) nodes ≡ false
not_among [] node h = refl
not_among (x ∷ nodes) node h = elim (eqb_tells node.0 x.0) [
  | inl t ↦ absurd (h zero (ap Some (sym (same_id node x t.0))))
  | inr t ↦ ap (λ b. b || list_any (λ y. nat_eq node.0 y.0) nodes) t.0 ∙ not_among nodes node (λ i. h (suc i))
]

-- nodes of which one is placed again
pub placed_again : (nodes : List NodeId) (i : ℕ) (node : NodeId) → slice_get nodes i ≡ Some node → nodes ≡ with_child nodes node
placed_again nodes i node h = ap (λ t. cond t nodes (nodes ++ node ∷ [])) (sym (among nodes i node h))

-- where a node doesn't stand at the place under its number, it stands nowhere
pub nowhere : (places : List ℕ) (nodes : List NodeId) (node : NodeId) (place : ℕ) → ArePlaced places nodes → slice_get places node.0 ≡ Some place → slice_get nodes place ≢ Some node →
    (i : ℕ) → slice_get nodes i ≢ Some node
nowhere places nodes node place are known other i here = other (subst (λ k. slice_get nodes k ≡ Some node) (same_Some i place (sym (are i node here) ∙ known)) here)

-- nodes of which one is placed last
pub placed_last : (nodes : List NodeId) (node : NodeId) → ((i : ℕ) → slice_get nodes i ≢ Some node) → nodes ++ node ∷ [] ≡ with_child nodes node
placed_last nodes node new = ap (λ t. cond t nodes (nodes ++ node ∷ [])) (sym (not_among nodes node new))

number_is : (a b : NodeId) → a.0 ≡ b.0 → a ≡ b
number_is a b e = same_id a b (eq-eqb a.0 b.0 e)

pub are_placed : (places : List ℕ) (nodes : List NodeId) (node : NodeId) → ArePlaced places nodes → node.0 < length places → ((i : ℕ) → slice_get nodes i ≢ Some node) →
    ArePlaced (set places node.0 (length nodes)) (nodes ++ node ∷ [])
are_placed places nodes node are room new i c h = elim (place_of nodes node c i h) [
  | inl old ↦ set_elsewhere places node.0 c.0 (length nodes) (λ e. new i (old ∙ ap Some (number_is c node e))) ∙ are i c old
  | inr last ↦
      subst (λ (x : NodeId). slice_get (set places node.0 (length nodes)) x.0 ≡ Some i) last.1
      (set_here places node.0 (length nodes) room ∙ ap Some (sym last.0))
]

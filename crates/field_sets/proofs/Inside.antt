-- The edges of a node from a value on.
use Rattle.std.proofs.Common.{◌≡◌, ℕ, List, ◌≤◌, arith, ap, sym, ◌∙◌, subst}
use Rattle.std.specs.Prelude.{suc}
use Rattle.node_store.specs.Levels.{next, top_of}
use Rattle.node_store.specs.declared.edge.Edge.{Edge}
use Rattle.node_store.specs.declared.split.Part.{Part}
use Rattle.node_store.specs.Diagram.{Node, level_of, edges_of}
use Rattle.node_store.specs.Edges.{child_of}
use Rattle.node_store.specs.Store.{IsInner, LeadTo}
use Rattle.field_sets.specs.Fill.{Fill, reaching}
use Rattle.field_sets.specs.Parting.{IsSplitWithin}
use Rattle.field_sets.proofs.Onward as onward

-- all edges of an inner node lead to nodes of the next level
pub lead : (nodes : List Node) (id : ℕ) (level field : List ℕ) (es : List Edge) → IsInner nodes id field es → field ≡ level → LeadTo nodes (next level) es
lead nodes id level field es inner same = λ k d less. (inner.children k d less).1 ∙ ap next same

module _ (nodes : List Node) (id : ℕ) (level field : List ℕ) (lo : ℕ) (es found : List Edge) (inner : IsInner nodes id field es) (same : field ≡ level) (is : found ≡ reaching lo es) where
  pub fill : lo ≤ suc (top_of level) → Fill lo (top_of level) found
  fill h =
      subst (λ xs. Fill lo (top_of level) xs) (sym is)
      (onward.fill_on lo 0 (top_of level) es (omega arith) h (subst (λ f. Fill 0 (top_of f) es) same (onward.fills (top_of field) es inner.full)))

  pub lead_on : LeadTo nodes (next level) found
  lead_on = subst (λ xs. LeadTo nodes (next level) xs) (sym is) (onward.all_on (λ (e : Edge). level_of nodes e.to.0 ≡ next level) lo es (lead nodes id level field es inner same))

  pub child : es ≡ edges_of nodes id → (v : ℕ) → lo ≤ v → child_of found v ≡ child_of (edges_of nodes id) v
  child own v h = ap (λ xs. child_of xs v) is ∙ onward.child_on lo v es h ∙ ap (λ xs. child_of xs v) own

-- a split of what is left of the edges is one of the edges
pub as_whole : (lo hi : ℕ) (left right all_left all_right : List Edge) (parts : List Part) → ((v : ℕ) → lo ≤ v → child_of left v ≡ child_of all_left v) →
    ((v : ℕ) → lo ≤ v → child_of right v ≡ child_of all_right v) → IsSplitWithin lo hi left right parts → IsSplitWithin lo hi all_left all_right parts
as_whole lo hi left right all_left all_right parts l r split = record {
  fill = split.fill;
  left = λ v low high. split.left v low high ∙ l v low;
  right = λ v low high. split.right v low high ∙ r v low;
}

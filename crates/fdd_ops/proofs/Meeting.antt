-- The parts of a field that a span meets, and the values of the span.
use Rattle.std.proofs.Common.{◌≡◌, ◌∷◌, ℕ, List, [], ◌≤◌, ◌<◌, length, ap, arith, sym, ◌∙◌, subst, inl, inr, suc, map, ◌⊎◌, slice_index_or}
use Rattle.std.proofs.lemmas.List.{get_or-map, length-map}
use Rattle.std.proofs.lemmas.Bool.{cases_lt}
use Rattle.field_boxes.specs.declared.span.Span.{Span}
use Rattle.field_boxes.specs.Spans.{interval_of}
use Rattle.field_boxes.specs.Boxes.{EachValue, SomeValue}
use Rattle.field_boxes.proofs.Unions.{between, holds_between}
use Rattle.node_store.specs.declared.edge.Edge.{Edge}
use Rattle.node_store.specs.declared.split.Part.{Part}
use Rattle.node_store.specs.Diagram.{Node, level_of}
use Rattle.node_store.specs.Store.{LeadTo}
use Rattle.node_store.specs.Edges.{AreFull, child_of}
use Rattle.node_store.specs.Split.{to_left, to_right}
use Rattle.node_store.proofs.Edges.{Rise, rise_of, bounded}
use Rattle.node_store.proofs.Edges as edges
use Rattle.fdd_ops.specs.declared.question.Question.{Question}
use Rattle.fdd_ops.specs.Agreement.{Agree, Differ}

module _ (R : ℕ → ℕ → Type 0) (p : Part) (ps : List Part) (v : ℕ) where
  -- a value of the first part leads where that part leads
  here : v ≤ p.hi → R p.left.0 p.right.0 → R (child_of (map to_left (p ∷ ps)) v) (child_of (map to_right (p ∷ ps)) v)
  here h r =
      subst (λ x. R x (child_of (map to_right (p ∷ ps)) v)) (sym (edges.within (to_left p) (map to_left ps) v h))
      (subst (λ y. R p.left.0 y) (sym (edges.within (to_right p) (map to_right ps) v h)) r)

  -- a value past the first part leads where the others lead
  beyond : p.hi < v → R (child_of (map to_left ps) v) (child_of (map to_right ps) v) → R (child_of (map to_left (p ∷ ps)) v) (child_of (map to_right (p ∷ ps)) v)
  beyond h r =
      subst (λ x. R x (child_of (map to_right (p ∷ ps)) v)) (sym (edges.past (to_left p) (map to_left ps) v h))
      (subst (λ y. R (child_of (map to_left ps) v) y) (sym (edges.past (to_right p) (map to_right ps) v h)) r)

module _ (question : Question) (nodes : List Node) (span : Span) where
  -- each part that doesn't end below the span agrees, up to the one in which the span ends
  abbrev pub AllAgree : List Part → Type 0
  AllAgree [] = Unit {0}
  AllAgree (p ∷ ps) = (span.lo ≤ p.hi → Agree question nodes p.left.0 p.right.0) × (p.hi < span.hi → AllAgree ps)

  -- and one of them doesn't
  abbrev pub OneDiffers : List Part → Type 0
  OneDiffers [] = ⊥
  OneDiffers (p ∷ ps) = ((span.lo ≤ p.hi) × Differ question nodes p.left.0 p.right.0) ⊎ ((p.hi < span.hi) × OneDiffers ps)

  each_by : (g lo v : ℕ) (ps : List Part) → Rise g lo (map to_left ps) → v ≤ g → span.lo ≤ v → v ≤ span.hi → AllAgree ps →
      Agree question nodes (child_of (map to_left ps) v) (child_of (map to_right ps) v)
  each_by g lo v [] r h low high all = absurd r
  each_by g lo v (p ∷ []) r h low high all = here (Agree question nodes) p [] v (omega (arith, h, r.1)) (all.0 (omega (arith, low, h, r.1)))
  each_by g lo v (p ∷ q ∷ ps) r h low high all = elim (cases_lt p.hi v) [
    | inr within ↦ here (Agree question nodes) p (q ∷ ps) v (omega (arith, within)) (all.0 (omega (arith, within, low)))
    | inl past ↦ beyond (Agree question nodes) p (q ∷ ps) v past (each_by g (suc p.hi) v (q ∷ ps) r.1 h low high (all.1 (omega (arith, past, high))))
  ]

  pub each : (g : ℕ) (ps : List Part) → AreFull g (map to_left ps) → AllAgree ps →
      EachValue g span (λ v. Agree question nodes (child_of (map to_left ps) v) (child_of (map to_right ps) v))
  each g ps full all v h inside = let at = between v (interval_of span) inside in each_by g 0 v ps (rise_of g (map to_left ps) full) h at.0 at.1 all

  -- a value of the span, not below lo, at which the children differ
  abbrev Found : ℕ → ℕ → List Part → Type 0
  Found g lo ps = (v : ℕ) × (v ≤ g) × (lo ≤ v) × (span.lo ≤ v) × (v ≤ span.hi) × Differ question nodes (child_of (map to_left ps) v) (child_of (map to_right ps) v)

  found_here : (g lo : ℕ) (p : Part) (ps : List Part) → lo ≤ p.hi → p.hi ≤ g → lo ≤ span.hi → span.lo ≤ p.hi → Differ question nodes p.left.0 p.right.0 → Found g lo (p ∷ ps)
  found_here g lo p ps low top begins meets differ = elim (cases_lt p.hi span.hi) [
    | inl less ↦ (p.hi, top, low, meets, omega (arith, less), here (Differ question nodes) p ps p.hi (omega arith) differ)
    | inr more ↦
        (span.hi, omega (arith, more, top), begins, span.ordered, omega arith, here (Differ question nodes) p ps span.hi more differ)
  ]

  found : (g lo : ℕ) (ps : List Part) → Rise g lo (map to_left ps) → lo ≤ span.hi → OneDiffers ps → Found g lo ps
  found g lo [] r begins one = absurd one
  found g lo (p ∷ ps) r begins (inl at) = let b = bounded g lo (to_left p) (map to_left ps) r in found_here g lo p ps b.0 b.1 begins at.0 at.1
  found g lo (p ∷ []) r begins (inr later) = absurd later.1
  found g lo (p ∷ q ∷ ps) r begins (inr later) =
      let at = found g (suc p.hi) (q ∷ ps) r.1 (omega (arith, later.0)) later.1 in
      (at.0, at.1, omega (arith, at.2, r.0), at.3, at.4, beyond (Differ question nodes) p (q ∷ ps) at.0 (omega (arith, at.2)) at.5)

  pub some : (g : ℕ) (ps : List Part) → AreFull g (map to_left ps) → OneDiffers ps →
      SomeValue g span (λ v. Differ question nodes (child_of (map to_left ps) v) (child_of (map to_right ps) v))
  some g ps full one =
      let at = found g 0 ps (rise_of g (map to_left ps) full) (omega arith) one in
      (at.0, at.1, holds_between at.0 (interval_of span) at.3 at.4, at.5)

-- the nodes of a part stand at the level
pub left_at : (nodes : List Node) (place : List ℕ) (ps : List Part) (i : ℕ) (d : Part) → LeadTo nodes place (map to_left ps) → i < length ps → level_of nodes (slice_index_or ps i d).left.0 ≡ place
left_at nodes place ps i d lead h =
    ap (λ (e : Edge). level_of nodes e.to.0) (sym (get_or-map to_left ps i d (to_left d) h)) ∙ lead i (to_left d) (let n = length-map ps to_left in omega (arith, n, h))

pub right_at : (nodes : List Node) (place : List ℕ) (ps : List Part) (i : ℕ) (d : Part) → LeadTo nodes place (map to_right ps) → i < length ps → level_of nodes (slice_index_or ps i d).right.0 ≡ place
right_at nodes place ps i d lead h =
    ap (λ (e : Edge). level_of nodes e.to.0) (sym (get_or-map to_right ps i d (to_right d) h)) ∙ lead i (to_right d) (let n = length-map ps to_right in omega (arith, n, h))

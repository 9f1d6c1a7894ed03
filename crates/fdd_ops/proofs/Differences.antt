-- The least difference of two nodes of a level, from that of their children.
use Rattle.std.proofs.Common.{◌≡◌, ◌≢◌, ◌∷◌, ℕ, List, [], ◌≤◌, ◌<◌, ap, arith, sym, ◌∙◌, subst, inl, inr, ◌^◌, suc, zero, slice_index}
use Rattle.field_boxes.specs.Headline.Fields.{width, stated, AreValues, IsHeader}
use Rattle.field_boxes.specs.Fields.{ComesBefore}
use Rattle.node_store.specs.Levels.{HasField, next, top_of}
use Rattle.node_store.specs.Edges.{child_of}
use Rattle.node_store.specs.Diagram.{Node, level_of, edges_of, answer}
use Rattle.node_store.specs.Store.{IsStore}
use Rattle.node_store.proofs.Values.{values_from, first}
use Rattle.node_store.proofs.Canonical.{one}
use Rattle.fdd_ops.specs.declared.parting.Parting.{Parting}
use Rattle.field_boxes.specs.Alike.{AreAlikeOver, IsFirstDifference, IsFirstDifferenceOver}
use Rattle.fdd_ops.specs.Parting.{IsParting}
use Rattle.fdd_ops.proofs.Levels.{all_fields}

nothing_before : (values : List ℕ) → ComesBefore values [] → ⊥
nothing_before [] h = h
nothing_before (v ∷ values) h = h

alike_at : (nodes : List Node) (a b : ℕ) → answer nodes a [] ≡ answer nodes b [] → AreAlikeOver [] (answer nodes a) (answer nodes b)
alike_at nodes a b e [] ok = e
alike_at nodes a b e (v ∷ values) ok = absurd ok

-- two different leaves differ with no value left
pub leaves : (nodes : List Node) (a b : ℕ) → IsStore nodes → level_of nodes a ≡ [] → level_of nodes b ≡ [] → a ≢ b → IsFirstDifferenceOver [] (answer nodes a) (answer nodes b) []
leaves nodes a b s l r differ = record {
  in_fields = tt;
  differ = λ e. differ (one nodes [] a b s tt l r (alike_at nodes a b e));
  least = λ others ok before. absurd (nothing_before others before);
}

least_by : (nodes : List Node) (level : List ℕ) (a b v : ℕ) (values : List ℕ) → HasField level →
    ((w : ℕ) → w < v → child_of (edges_of nodes a) w ≡ child_of (edges_of nodes b) w) →
    ((others : List ℕ) → AreValues (next level) others → ComesBefore others values →
    answer nodes (child_of (edges_of nodes a) v) others ≡ answer nodes (child_of (edges_of nodes b) v) others) →
    (others : List ℕ) → AreValues level others → ComesBefore others (v ∷ values) → answer nodes a others ≡ answer nodes b others
least_by nodes level a b v values field before least [] ok less = absurd less
least_by nodes level a b v values field before least (w ∷ others) ok (inl less) = ap (λ n. answer nodes n others) (before w less)
least_by nodes level a b v values field before least (w ∷ others) ok (inr same) =
    subst (λ u. answer nodes (child_of (edges_of nodes a) u) others ≡ answer nodes (child_of (edges_of nodes b) u) others) (sym same.0)
    (least others (first level w others field ok).1 same.1)

-- the first value at which two nodes lead apart begins their least difference, and that of the children goes on
pub onward : (nodes : List Node) (level : List ℕ) (a b : ℕ) (p : Parting) (values : List ℕ) → HasField level → level_of nodes a ≡ level →
    IsParting nodes a b p → IsFirstDifferenceOver (next level) (answer nodes p.left.0) (answer nodes p.right.0) values →
    IsFirstDifferenceOver level (answer nodes a) (answer nodes b) (p.value ∷ values)
onward nodes level a b p values field at h rest = record {
  in_fields = values_from level p.value values field (subst (λ f. p.value ≤ top_of f) at h.first.inside) rest.in_fields;
  differ = λ e. rest.differ (ap (λ n. answer nodes n values) (sym h.left_child) ∙ e ∙ ap (λ n. answer nodes n values) h.right_child);
  least = least_by nodes level a b p.value values field h.first.before
      (λ others ok less. ap (λ n. answer nodes n others) h.left_child ∙ rest.least others ok less ∙ ap (λ n. answer nodes n others) (sym h.right_child));
}

-- the children at the first value are different
pub children_differ : (nodes : List Node) (a b : ℕ) (p : Parting) → IsParting nodes a b p → p.left.0 ≢ p.right.0
children_differ nodes a b p h e = h.first.apart (h.left_child ∙ e ∙ sym h.right_child)

-- five partings, each of the children of the one before, are the least difference of two diagrams
pub five_fields : (nodes : List Node) (a b : ℕ) (p q r s t : Parting) → IsStore nodes → level_of nodes a ≡ stated →
    IsParting nodes a b p → IsParting nodes p.left.0 p.right.0 q → IsParting nodes q.left.0 q.right.0 r → IsParting nodes r.left.0 r.right.0 s → IsParting nodes s.left.0 s.right.0 t →
    IsFirstDifference (answer nodes a) (answer nodes b) (p.value ∷ q.value ∷ r.value ∷ s.value ∷ t.value ∷ [])
five_fields nodes a b p q r s t store at hp hq hr hs ht =
    let first_at : level_of nodes p.left.0 ≡ 1 ∷ 2 ∷ 3 ∷ 4 ∷ [] = hp.left_level ∙ ap next at in
    let second_at : level_of nodes q.left.0 ≡ 2 ∷ 3 ∷ 4 ∷ [] = hq.left_level ∙ ap next first_at in
    let third_at : level_of nodes r.left.0 ≡ 3 ∷ 4 ∷ [] = hr.left_level ∙ ap next second_at in
    let fourth_at : level_of nodes s.left.0 ≡ 4 ∷ [] = hs.left_level ∙ ap next third_at in
    let left : level_of nodes t.left.0 ≡ [] = ht.left_level ∙ ap next fourth_at in
    let right : level_of nodes t.right.0 ≡ [] = ht.right_level ∙ ap next fourth_at in
    onward nodes stated a b p _ all_fields at hp
    (onward nodes (1 ∷ 2 ∷ 3 ∷ 4 ∷ []) p.left.0 p.right.0 q _ all_fields.1 first_at hq
    (onward nodes (2 ∷ 3 ∷ 4 ∷ []) q.left.0 q.right.0 r _ all_fields.1.1 second_at hr
    (onward nodes (3 ∷ 4 ∷ []) r.left.0 r.right.0 s _ all_fields.1.1.1 third_at hs
    (onward nodes (4 ∷ []) s.left.0 s.right.0 t _ all_fields.1.1.1.1 fourth_at ht
    (leaves nodes t.left.0 t.right.0 store left right (children_differ nodes s.left.0 s.right.0 t ht))))))

-- each value of a header lies in its field
pub each_in_field : (u v w x y : ℕ) → IsHeader (u ∷ v ∷ w ∷ x ∷ y ∷ []) → (k : ℕ) → k < 5 → slice_index (u ∷ v ∷ w ∷ x ∷ y ∷ []) k < 2 ^ width k
each_in_field u v w x y h zero five = h.0
each_in_field u v w x y h (suc zero) five = h.1.0
each_in_field u v w x y h (suc (suc zero)) five = h.1.1.0
each_in_field u v w x y h (suc (suc (suc zero))) five = h.1.1.1.0
each_in_field u v w x y h (suc (suc (suc (suc zero)))) five = h.1.1.1.1.0
each_in_field u v w x y h (suc (suc (suc (suc (suc n))))) five = absurd (omega (arith, five))

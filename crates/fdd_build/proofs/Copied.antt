-- Copies stay copies as a store grows, and a node over copies of a node's children is a copy of the node.
use Rattle.std.proofs.Common.{◌≡◌, ◌∷◌, ◌∙◌, ℕ, List, [], ◌≤◌, ◌<◌, length, take, ap, arith, sym, subst, refl, inl, inr}
use Rattle.std.specs.Prelude.{suc, Bool, true, false, nat_eq, Option, Some, None, IfSome, All, slice_index_or, slice_set}
use Rattle.std.specs.List.{AllZip}
use Rattle.std.proofs.lemmas.Bool.{cases_lt}
use Rattle.std.proofs.lemmas.Bool.Decides.{Decides-eqb}
use Rattle.std.proofs.lemmas.List.{get_or-set_same, get_or-set_other, length-append, length-set, take_all}
use Rattle.std.proofs.lemmas.List.Elements.{All-cons, All-nil, All-tail}
use Rattle.field_boxes.specs.Headline.Fields.{AreValues}
use Rattle.node_store.specs.declared.edge.Edge.{Edge}
use Rattle.node_store.specs.declared.edge.NodeId.{NodeId}
use Rattle.node_store.specs.Levels.{HasField, next, top_of}
use Rattle.node_store.specs.Diagram.{Node, level_of, edges_of, answer}
use Rattle.node_store.specs.Edges.{AreFull, child_of}
use Rattle.node_store.specs.Store.{IsInner, LeadsOn, LeadTo, Grows}
use Rattle.node_store.proofs.Edges.{Rise, rise_of, full_from}
use Rattle.node_store.proofs.Edges as edges
use Rattle.node_store.proofs.Canonical.{chosen}
use Rattle.node_store.proofs.Values.{each}
use Rattle.node_store.proofs.Growth as growth
use Rattle.fdd_build.specs.Copies.{IsCopy, IsEdgeCopy, AreCopies}

module _ (from old new : List Node) (g : Grows old new) where
  stays : (id copy : ℕ) → IsCopy from old id copy → IsCopy from new id copy
  stays id copy c = record {
    used = let n = ap length g.gained.1 ∙ length-append old g.gained.0 in omega (arith, n, c.used);
    level = growth.level_kept old new copy g c.used ∙ c.level;
    answers = λ values h. g.answers copy values c.used ∙ c.answers values h;
  }

  stays_kept : (id : ℕ) (kept : Option NodeId) → IfSome kept (λ copy. IsCopy from old id copy.0) → IfSome kept (λ copy. IsCopy from new id copy.0)
  stays_kept id (Some copy) c = stays id copy.0 c
  stays_kept id None c = tt

  pub all_stay : (copies : List (Option NodeId)) → AreCopies from old copies → AreCopies from new copies
  all_stay copies all id d h = stays_kept id (slice_index_or copies id d) (all id d h)

  pub edges_stay : (es ds : List Edge) → AllZip (IsEdgeCopy from old) es ds → AllZip (IsEdgeCopy from new) es ds
  edges_stay [] [] z = z
  edges_stay [] (d ∷ ds) z = absurd z
  edges_stay (e ∷ es) [] z = absurd z
  edges_stay (e ∷ es) (d ∷ ds) z = ((z.0.0, stays e.to.0 d.to.0 z.0.1), edges_stay es ds z.1)

module _ (from nodes : List Node) where
  kept_by : (copies : List (Option NodeId)) (i id : ℕ) (copy : NodeId) (d : Option NodeId) (t : Bool) → nat_eq id i ≡ t → AreCopies from nodes copies → i < length copies →
      IsCopy from nodes i copy.0 → id < length copies → IfSome (slice_index_or (slice_set copies i (Some copy)) id d) (λ made. IsCopy from nodes id made.0)
  kept_by copies i id copy d true same all low c h =
      let is : id ≡ i = (Decides-eqb id i).0 same in
      subst (λ k. IfSome (slice_index_or (slice_set copies i (Some copy)) k d) (λ made. IsCopy from nodes k made.0)) (sym is)
      (subst (λ o. IfSome o (λ made. IsCopy from nodes i made.0)) (sym (get_or-set_same copies i (Some copy) d low)) c)
  kept_by copies i id copy d false other all low c h =
      subst (λ o. IfSome o (λ made. IsCopy from nodes id made.0)) (sym (get_or-set_other copies i id (Some copy) d (grind (arith, other)))) (all id d h)

  -- one more copy is kept
  pub kept : (copies : List (Option NodeId)) (i : ℕ) (copy : NodeId) → AreCopies from nodes copies → i < length copies → IsCopy from nodes i copy.0 →
      AreCopies from nodes (slice_set copies i (Some copy))
  kept copies i copy all low c id d h = kept_by copies i id copy d (nat_eq id i) refl all low c (omega (arith, h, length-set copies i (Some copy)))

  -- the edges that were copied by the end, as slices
  pub all_copied : (es ds kept : List Edge) (count : ℕ) → AllZip (IsEdgeCopy from nodes) (take count es) kept → length es ≤ count → ds ≡ kept → AllZip (IsEdgeCopy from nodes) es ds
  all_copied es ds kept count z end is =
      subst (λ xs. AllZip (IsEdgeCopy from nodes) es xs) (sym is) (subst (λ xs. AllZip (IsEdgeCopy from nodes) xs kept) (take_all count es end) z)

  rise : (greatest lo : ℕ) (es ds : List Edge) → Rise greatest lo es → AllZip (IsEdgeCopy from nodes) es ds → Rise greatest lo ds
  rise greatest lo [] ds r z = absurd r
  rise greatest lo (e ∷ es) [] r z = absurd z
  rise greatest lo (e ∷ []) (d ∷ []) r z = (omega (arith, r.0, z.0.0), z.0.0 ∙ r.1)
  rise greatest lo (e ∷ []) (d ∷ b ∷ ds) r z = absurd z.1
  rise greatest lo (e ∷ c ∷ es) (d ∷ []) r z = absurd z.1
  rise greatest lo (e ∷ c ∷ es) (d ∷ b ∷ ds) r z =
      (omega (arith, r.0, z.0.0), subst (λ n. Rise greatest (suc n) (b ∷ ds)) (sym z.0.0) (rise greatest (suc e.hi) (c ∷ es) (b ∷ ds) r.1 z.1))

  lead : (place : ℕ) (level : List ℕ) (es ds : List Edge) → All (LeadsOn from place level) es → AllZip (IsEdgeCopy from nodes) es ds → LeadTo nodes (next level) ds
  lead place level [] [] all z = All-nil (λ (d : Edge). level_of nodes d.to.0 ≡ next level)
  lead place level [] (d ∷ ds) all z = absurd z
  lead place level (e ∷ es) [] all z = absurd z
  lead place level (e ∷ es) (d ∷ ds) all z =
      All-cons (λ (b : Edge). level_of nodes b.to.0 ≡ next level) d ds (z.0.1.level ∙ (all 0 e (omega arith)).1) (lead place level es ds (All-tail (LeadsOn from place level) e es all) z.1)

  -- what `make` asks of the copied edges
  pub fit : (place : ℕ) (level : List ℕ) (es ds : List Edge) → IsInner from place level es → AllZip (IsEdgeCopy from nodes) es ds →
      HasField level × AreFull (top_of level) ds × LeadTo nodes (next level) ds
  fit place level es ds inner z =
      (inner.field, full_from (top_of level) 0 ds (rise (top_of level) 0 es ds (rise_of (top_of level) es inner.full) z), lead place level es ds inner.children z)

  same : (a a' b b' : ℕ) → a ≡ a' → b ≡ b' → IsCopy from nodes a' b' → IsCopy from nodes a b
  same a a' b b' p q c = subst (λ x. IsCopy from nodes x b) (sym p) (subst (λ y. IsCopy from nodes a' y) (sym q) c)

  here : (e d : Edge) (es ds : List Edge) (v : ℕ) → v ≤ e.hi → IsEdgeCopy from nodes e d → IsCopy from nodes (child_of (e ∷ es) v) (child_of (d ∷ ds) v)
  here e d es ds v h c = same (child_of (e ∷ es) v) e.to.0 (child_of (d ∷ ds) v) d.to.0 (edges.within e es v h) (edges.within d ds v (omega (arith, c.0, h))) c.1

  -- a value leads to the copy of where it led
  child : (greatest lo v : ℕ) (es ds : List Edge) → Rise greatest lo es → AllZip (IsEdgeCopy from nodes) es ds → v ≤ greatest → IsCopy from nodes (child_of es v) (child_of ds v)
  child greatest lo v [] ds r z h = absurd r
  child greatest lo v (e ∷ es) [] r z h = absurd z
  child greatest lo v (e ∷ []) (d ∷ ds) r z h = here e d [] ds v (omega (arith, h, r.1)) z.0
  child greatest lo v (e ∷ c ∷ es) (d ∷ ds) r z h = elim (cases_lt e.hi v) [
    | inr within ↦ here e d (c ∷ es) ds v (omega (arith, within)) z.0
    | inl past ↦
        same (child_of (e ∷ c ∷ es) v) (child_of (c ∷ es) v) (child_of (d ∷ ds) v) (child_of ds v) (edges.past e (c ∷ es) v past) (edges.past d ds v (omega (arith, z.0.0, past)))
        (child greatest (suc e.hi) v (c ∷ es) ds r.1 z.1 h)
  ]

  pub made : (new : List Node) (id copy : ℕ) (level : List ℕ) (es ds : List Edge) → level_of from id ≡ level → edges_of from id ≡ es → IsInner from id level es →
      AllZip (IsEdgeCopy from nodes) es ds → copy < length new → level_of new copy ≡ level →
      ((v : ℕ) (values : List ℕ) → v ≤ top_of level → answer new copy (v ∷ values) ≡ answer nodes (child_of ds v) values) →
      IsCopy from new id copy
  made new id copy level es ds at are inner z used stands answers =
      let by_value : (v : ℕ) (rest : List ℕ) → v ≤ top_of level → AreValues (next level) rest → answer new copy (v ∷ rest) ≡ answer from id (v ∷ rest) =
      λ v rest low h.
      let r = rise_of (top_of level) es inner.full in
      let below : level_of from (child_of es v) ≡ next level = chosen (λ n. level_of from n ≡ next level) (top_of level) 0 es v r low (λ k d less. (inner.children k d less).1) in
      answers v rest low
      ∙ (child (top_of level) 0 v es ds r z low).answers rest (subst (λ l. AreValues l rest) (sym below) h)
      ∙ ap (λ xs. answer from (child_of xs v) rest) (sym are) in record {
        used = used;
        level = stands ∙ sym at;
        answers = λ values h. each (λ vs. answer new copy vs ≡ answer from id vs) level inner.field by_value values (subst (λ l. AreValues l values) at h);
      }

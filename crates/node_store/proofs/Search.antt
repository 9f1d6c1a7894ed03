-- The edge that a binary search finds is the one of the value, and of all values up to its end.
use Rattle.std.proofs.Common.{◌≡◌, ◌∷◌, ℕ, List, [], ◌-◌, ◌≤◌, ◌<◌, length, get_or, arith, ◌∙◌}
use Rattle.std.specs.Prelude.{suc, zero, true, false, Bool, nat_lt}
use Rattle.std.specs.List.Sorted.{IsPartitionedBy, IsPartitionPoint}
use Rattle.std.proofs.lemmas.Bool.{ltb-true}
use Rattle.std.specs.Fn.{Called, ComputesKey}
use denote.Param.Members.{Mut}
use denote.Ref.{Bor}
use Rattle.std.proofs.lemmas.List.Sorted.{IsNonDecreasingBy-from_all_adjacent, IsPartitionedBy-ltb, IsPartitionPoint-from_clause}
use Rattle.node_store.specs.declared.edge.Edge.{Edge}
use Rattle.node_store.specs.Edges.{child_of, AreFull}
use Rattle.node_store.proofs.Edges.{Rise, bounded, within, past, rise_of}

pub parted : (greatest : ℕ) (es : List Edge) (v : ℕ) → AreFull greatest es → IsPartitionedBy (λ (e : Edge). nat_lt e.hi v) es
parted greatest es v full =
    IsPartitionedBy-ltb (λ (e : Edge). e.hi) es v
    (IsNonDecreasingBy-from_all_adjacent (λ (e : Edge). e.hi) es (λ k d less. let r = full.rise k d less in omega (arith, r)))

pub child_at : (es : List Edge) (v i : ℕ) (d : Edge) → ((k : ℕ) → k < i → (get_or es k d).hi < v) → i < length es → v ≤ (get_or es i d).hi →
    child_of es v ≡ (get_or es i d).to.0
child_at [] v i d below less high = absurd (omega (arith, less))
child_at (e ∷ es) v zero d below less high = within e es v high
child_at (e ∷ es) v (suc i) d below less high =
    past e es v (below 0 (omega arith)) ∙ child_at es v i d (λ k h. below (suc k) (omega (arith, h))) (omega (arith, less)) high

strict : (i n : ℕ) → i ≤ n → (i ≡ n → ⊥) → i < n
strict i n h f = grind (arith, f)

not_past : (greatest : ℕ) (es : List Edge) (v i : ℕ) (d : Edge) → AreFull greatest es → v ≤ greatest →
    IsPartitionPoint (λ (e : Edge). nat_lt e.hi v ≡ true) (λ (e : Edge). nat_lt e.hi v ≡ false) es i → i ≡ length es → ⊥
not_past greatest es v i d full high point e =
    let t = point.0 (length es - 1) d (omega arith) (omega (arith, e, full.some)) in
    let less = ltb-true _ _ t in omega (arith, less, full.last d, high)

not_less : (a b : ℕ) → nat_lt a b ≡ false → b ≤ a
not_less a b t = grind (arith, t)

end_high : (greatest lo : ℕ) (es : List Edge) → Rise greatest lo es → (k : ℕ) (d : Edge) → k < length es → (get_or es k d).hi ≤ greatest
end_high greatest lo [] r k d less = absurd r
end_high greatest lo (e ∷ es) r zero d less = (bounded greatest lo e es r).1
end_high greatest lo (e ∷ []) r (suc k) d less = absurd (omega (arith, less))
end_high greatest lo (e ∷ c ∷ es) r (suc k) d less = end_high greatest (suc e.hi) (c ∷ es) r.1 k d (omega (arith, less))

pub ends : (greatest : ℕ) (es : List Edge) (i : ℕ) (d : Edge) → AreFull greatest es → i < length es → (get_or es i d).hi ≤ greatest
ends greatest es i d full inside = end_high greatest 0 es (rise_of greatest es full) i d inside

-- the edge at the place is the one of the values from this one up to its end
pub record IsEdgeAt (es : List Edge) (v i : ℕ) : Type 0 where
  pub inside : i < length es
  pub low : (d : Edge) → v ≤ (get_or es i d).hi
  pub leads : (d : Edge) (u : ℕ) → v ≤ u → u ≤ (get_or es i d).hi → child_of es u ≡ (get_or es i d).to.0

found : (es : List Edge) (v i : ℕ) → i < length es →
    IsPartitionPoint (λ (e : Edge). nat_lt e.hi v ≡ true) (λ (e : Edge). nat_lt e.hi v ≡ false) es i → IsEdgeAt es v i
found es v i inside point = record {
  inside = inside;
  low = λ d. not_less (get_or es i d).hi v (point.1 i d (omega arith) inside);
  leads = λ d u low high. child_at es u i d (λ k h. let t = ltb-true _ _ (point.0 k d (omega arith) h) in omega (arith, t, low)) inside high;
}

-- what `partition_point` finds at full edges
pub searched : {F : Type 0} {g : Mut F (Bor Edge × Unit {0}) Bool} {f : F} (greatest : ℕ) (es : List Edge) (v i : ℕ) → AreFull greatest es → v ≤ greatest → i ≤ length es →
    ((q : Edge → Bool) → ComputesKey g q f → IsPartitionedBy q es → IsPartitionPoint (λ y. q y ≡ true) (λ y. q y ≡ false) es i) →
    ((a : Bor Edge × Unit {0}) (r : Bool) (k : F) → Called g f a r k → (r ≡ nat_lt a.0.now.hi v) × (k ≡ f)) → IsEdgeAt es v i
searched {F} {g} {f} greatest es v i full high bound clause calls =
    let point = IsPartitionPoint-from_clause (λ (e : Edge). nat_lt e.hi v) {F = F} {g = g} {f = f} es i clause (parted greatest es v full) calls in
    found es v i (strict i (length es) bound (not_past greatest es v i (record { hi = 0; to = record { 0 = 0 } }) full high point)) point

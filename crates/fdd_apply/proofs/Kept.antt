-- What holds of all pairs that are kept, and of one more.
use Rattle.std.proofs.Common.{◌≡◌, ap, sym, ◌∙◌, subst, refl, ℕ}
use Rattle.std.specs.Prelude.{Bool, true, false, cond, nat_eq, Option, Some, IsSome}
use Rattle.std.proofs.lemmas.Bool.Decides.{Decides-eqb, Decides-and}
use Rattle.node_store.specs.declared.edge.NodeId.{NodeId}
use Rattle.fdd_apply.specs.declared.pair.Pair.{Pair}
use Rattle.fdd_apply.specs.Results.{same_pair}

pair_is : (p q : Pair) → p.left.0 ≡ q.left.0 → p.right.0 ≡ q.right.0 → p ≡ q
pair_is p q u l =
    ap (λ (n : ℕ). let r : Pair = record { left = record { 0 = n }; right = p.right } in r) u
    ∙ ap (λ (n : ℕ). let r : Pair = record { left = q.left; right = record { 0 = n } } in r) l

pub same_is : (p q : Pair) → same_pair p q ≡ true → p ≡ q
same_is p q h =
    let both = (Decides-and (nat_eq p.left.0 q.left.0) (nat_eq p.right.0 q.right.0) (Decides-eqb p.left.0 q.left.0) (Decides-eqb p.right.0 q.right.0)).0 h in
    pair_is p q both.0 both.1

some_is : (a b : NodeId) → Some a ≡ Some b → a ≡ b
some_is a b h = cc

module _ (P : Pair → NodeId → Type 0) (old new : Pair → Option NodeId) (pair : Pair) (id : NodeId) where
  kept_by : (q : Pair) (l : NodeId) (t : Bool) → same_pair pair q ≡ t → new q ≡ cond t (Some id) (old q) →
      ((k : Pair) (m : NodeId) → old k ≡ Some m → P k m) → P pair id → new q ≡ Some l → P q l
  kept_by q l true same at all here h = subst (λ k. P k l) (same_is pair q same) (subst (λ m. P pair m) (some_is id l (sym at ∙ h)) here)
  kept_by q l false same at all here h = all q l (sym at ∙ h)

  pub kept : ((q : Pair) → new q ≡ cond (same_pair pair q) (Some id) (old q)) →
      ((k : Pair) (m : NodeId) → old k ≡ Some m → P k m) → P pair id → (q : Pair) (l : NodeId) → new q ≡ Some l → P q l
  kept at all here q l h = kept_by q l (same_pair pair q) refl (at q) all here h

-- what was kept is kept after one more pair
still_by : {X : Type 0} (t : Bool) (x : X) (old new : Option X) → new ≡ cond t (Some x) old → IsSome old → IsSome new
still_by true x old new e h = subst IsSome (sym e) refl
still_by false x old new e h = subst IsSome (sym e) h

pub still : (old new : Pair → Option NodeId) (pair : Pair) (id : NodeId) → ((q : Pair) → new q ≡ cond (same_pair pair q) (Some id) (old q)) → (q : Pair) → IsSome (old q) → IsSome (new q)
still old new pair id at q h = still_by (same_pair pair q) id (old q) (new q) (at q) h

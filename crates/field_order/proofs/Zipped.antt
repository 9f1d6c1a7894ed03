-- Edges that end where others do: they fill the values as those do, and lead where those lead, as far as each leads where the other does.
use Rattle.std.proofs.Common.{◌≡◌, ◌∷◌, ◌++◌, ℕ, List, [], ◌+◌, ◌<◌, ◌≤◌, ◌∙◌, length, get_or, take, arith, refl, sym, subst, inl, inr}
use Rattle.std.specs.Prelude.{suc, slice_get, Some}
use Rattle.std.specs.List.{All, AllZip}
use Rattle.std.proofs.lemmas.Bool.{cases_lt}
use Rattle.std.proofs.lemmas.List.{take_more}
use Rattle.std.proofs.lemmas.Option.{get_or_from_slice_get, slice_get_within}
use Rattle.std.proofs.lemmas.Slice.Zip.{all_zipped_more}
use Rattle.std.proofs.lemmas.List.Elements.{All-cons, All-nil, All-head, All-tail}
use Rattle.node_store.specs.declared.edge.Edge.{Edge}
use Rattle.node_store.specs.Edges.{AreFull, child_of}
use Rattle.node_store.proofs.Edges.{Rise, rise_of, full_from}
use Rattle.node_store.proofs.Edges as edges

-- what holds of each item holds of the one at a place
pub all_at : {X : Type 0} (P : X → Type 0) (xs : List X) (k : ℕ) (x : X) → All P xs → slice_get xs k ≡ Some x → P x
all_at P xs k x all h = subst P (get_or_from_slice_get xs k x x h) (all k x (slice_get_within xs k x h))

-- what follows of each item and what goes with it
pub weaker : {A B : Type 0} (R S : A → B → Type 0) (xs : List A) (ys : List B) → ((k : ℕ) (x : A) (y : B) → slice_get xs k ≡ Some x → R x y → S x y) → AllZip R xs ys → AllZip S xs ys
weaker R S [] [] by z = tt
weaker R S (x ∷ xs) (y ∷ ys) by z = (by 0 x y refl z.0, weaker R S xs ys (λ k a b at r. by (suc k) a b at r) z.1)
weaker R S xs ys by z = absurd assumption

-- one item more, and what is pushed beside it
pub pushed : {A B : Type 0} (R : A → B → Type 0) (xs : List A) (ys more : List B) (i : ℕ) (d : A) (y : B) → i < length xs → more ≡ ys ++ y ∷ [] → AllZip R (take i xs) ys → R (get_or xs i d) y →
    AllZip R (take (i + 1) xs) more
pushed R xs ys more i d y less is z r =
    subst (AllZip R (take (i + 1) xs)) (sym is) (subst (λ ts. AllZip R ts (ys ++ y ∷ [])) (sym (take_more xs i d less)) (all_zipped_more R (take i xs) ys (get_or xs i d) y z r))

module _ (P : ℕ → ℕ → Type 0) where
  abbrev pub Beside : Edge → Edge → Type 0
  Beside e d = (d.hi ≡ e.hi) × P e.to.0 d.to.0

  rises : (greatest lo : ℕ) (es ds : List Edge) → Rise greatest lo es → AllZip Beside es ds → Rise greatest lo ds
  rises greatest lo [] ds r z = absurd r
  rises greatest lo (e ∷ es) [] r z = absurd z
  rises greatest lo (e ∷ []) (d ∷ []) r z = (omega (arith, r.0, z.0.0), z.0.0 ∙ r.1)
  rises greatest lo (e ∷ []) (d ∷ c ∷ ds) r z = absurd z.1
  rises greatest lo (e ∷ b ∷ es) (d ∷ []) r z = absurd z.1
  rises greatest lo (e ∷ b ∷ es) (d ∷ c ∷ ds) r z =
      (omega (arith, r.0, z.0.0), subst (λ n. Rise greatest (suc n) (c ∷ ds)) (sym z.0.0) (rises greatest (suc e.hi) (b ∷ es) (c ∷ ds) r.1 z.1))

  pub full : (greatest : ℕ) (es ds : List Edge) → AreFull greatest es → AllZip Beside es ds → AreFull greatest ds
  full greatest es ds f z = full_from greatest 0 ds (rises greatest 0 es ds (rise_of greatest es f) z)

  moved : (a b c d : ℕ) → a ≡ c → b ≡ d → P c d → P a b
  moved a b c d p q h = subst (λ x. P x b) (sym p) (subst (λ y. P c y) (sym q) h)

  comes_from : (greatest lo v : ℕ) (es ds : List Edge) → Rise greatest lo es → AllZip Beside es ds → v ≤ greatest → P (child_of es v) (child_of ds v)
  comes_from greatest lo v (e ∷ []) (d ∷ ds) r z h =
      moved (child_of (e ∷ []) v) (child_of (d ∷ ds) v) e.to.0 d.to.0 (edges.within e [] v (omega (arith, h, r.1))) (edges.within d ds v (omega (arith, h, r.1, z.0.0))) z.0.1
  comes_from greatest lo v (e ∷ b ∷ es) (d ∷ ds) r z h = elim (cases_lt e.hi v) [
    | inr low ↦
        moved (child_of (e ∷ b ∷ es) v) (child_of (d ∷ ds) v) e.to.0 d.to.0 (edges.within e (b ∷ es) v low) (edges.within d ds v (omega (arith, low, z.0.0))) z.0.1
    | inl past ↦
        moved (child_of (e ∷ b ∷ es) v) (child_of (d ∷ ds) v) (child_of (b ∷ es) v) (child_of ds v) (edges.past e (b ∷ es) v past) (edges.past d ds v (omega (arith, past, z.0.0)))
        (comes_from greatest (suc e.hi) v (b ∷ es) ds r.1 z.1 h)
  ]
  comes_from greatest lo v es ds r z h = absurd assumption

  pub comes : (greatest v : ℕ) (es ds : List Edge) → AreFull greatest es → AllZip Beside es ds → v ≤ greatest → P (child_of es v) (child_of ds v)
  comes greatest v es ds f z h = comes_from greatest 0 v es ds (rise_of greatest es f) z h

  -- what each leads to has a property, where this follows from the other one's
  pub each : (Q R : ℕ → Type 0) (es ds : List Edge) → ((a b : ℕ) → Q a → P a b → R b) → All (λ (e : Edge). Q e.to.0) es → AllZip Beside es ds → All (λ (d : Edge). R d.to.0) ds
  each Q R [] [] by all z = All-nil (λ (d : Edge). R d.to.0)
  each Q R (e ∷ es) (d ∷ ds) by all z =
      All-cons (λ (c : Edge). R c.to.0) d ds (by e.to.0 d.to.0 (All-head (λ (c : Edge). Q c.to.0) e es all) z.0.1)
      (each Q R es ds by (All-tail (λ (c : Edge). Q c.to.0) e es all) z.1)
  each Q R es ds by all z = absurd assumption

-- Where merging equal neighbours leaves as many edges as there were, it leaves them all.
use Rattle.std.proofs.Common.{◌≡◌, ◌∷◌, ℕ, List, [], ◌≤◌, length, refl, ap, arith}
use Rattle.std.specs.Prelude.{cond, suc, nat_eq, true, false, Bool}
use Rattle.node_store.specs.declared.edge.Edge.{Edge}
use Rattle.node_store.specs.Edges.{merged}

fewer_step : (t : Bool) (e : Edge) (n : ℕ) (rest : List Edge) → length rest ≤ n → length (cond t rest (e ∷ rest)) ≤ suc n
fewer_step true e n rest h = omega (arith, h)
fewer_step false e n rest h = omega (arith, h)

fewer : (edges : List Edge) → length (merged edges) ≤ length edges
fewer [] = omega arith
fewer (e ∷ []) = omega arith
fewer (e ∷ d ∷ edges) = fewer_step (nat_eq e.to.0 d.to.0) e (length (d ∷ edges)) (merged (d ∷ edges)) (fewer (d ∷ edges))

whole_step : (t : Bool) (e : Edge) (edges rest : List Edge) → length rest ≤ length edges → (length rest ≡ length edges → rest ≡ edges) →
    length (cond t rest (e ∷ rest)) ≡ suc (length edges) → cond t rest (e ∷ rest) ≡ e ∷ edges
whole_step true e edges rest le h is = absurd (omega (arith, le, is))
whole_step false e edges rest le h is = ap (λ xs. e ∷ xs) (h (omega (arith, is)))

pub whole : (edges : List Edge) → length (merged edges) ≡ length edges → merged edges ≡ edges
whole [] h = refl
whole (e ∷ []) h = refl
whole (e ∷ d ∷ edges) h = whole_step (nat_eq e.to.0 d.to.0) e (d ∷ edges) (merged (d ∷ edges)) (fewer (d ∷ edges)) (whole (d ∷ edges)) h

-- Edges that fill the values below one, and go on.
use Rattle.std.proofs.Common.{◌≡◌, ◌≤◌, ◌<◌, ◌∷◌, ◌++◌, ℕ, List, [], arith, ap, subst, sym, ◌∙◌, inl, inr}
use Rattle.std.specs.Prelude.{suc, zero, cond, nat_lt}
use Rattle.std.proofs.lemmas.Bool.{lt-ltb, le-ltb, cases_lt}
use Rattle.node_store.specs.declared.edge.Edge.{Edge}
use Rattle.node_store.specs.Edges.{AreFull, child_of}
use Rattle.node_store.proofs.Edges as edges
use Rattle.node_store.proofs.Turns as turns
use Rattle.fdd_build.specs.Sets.{FillBelow}

filled : (low : ℕ) (es : List Edge) (e : Edge) → FillBelow low es → low ≤ e.hi → AreFull e.hi (es ++ e ∷ [])
filled zero es e fill h = subst (λ xs. AreFull e.hi (xs ++ e ∷ [])) (sym fill) (turns.alone e)
filled (suc top) es e fill h = turns.next top es e fill (omega (arith, h))

leads_before : (low v : ℕ) (es : List Edge) (e : Edge) → FillBelow low es → v < low → child_of (es ++ e ∷ []) v ≡ child_of es v
leads_before zero v es e fill h = absurd (omega (arith, h))
leads_before (suc top) v es e fill h = turns.before top v es (e ∷ []) fill (omega (arith, h))

leads_after : (low v : ℕ) (es : List Edge) (e : Edge) → FillBelow low es → low ≤ v → v ≤ e.hi → child_of (es ++ e ∷ []) v ≡ e.to.0
leads_after zero v es e fill h low = ap (λ xs. child_of (xs ++ e ∷ []) v) fill ∙ edges.within e [] v low
leads_after (suc top) v es e fill h low = turns.past top v es e fill (omega (arith, h)) low

leads : (low v : ℕ) (es : List Edge) (e : Edge) → FillBelow low es → v ≤ e.hi → child_of (es ++ e ∷ []) v ≡ cond (nat_lt v low) (child_of es v) e.to.0
leads low v es e fill top =
    elim (cases_lt v low) [
      | inl less ↦ leads_before low v es e fill less ∙ sym (ap (λ b. cond b (child_of es v) e.to.0) (lt-ltb v low less))
      | inr more ↦ leads_after low v es e fill more top ∙ sym (ap (λ b. cond b (child_of es v) e.to.0) (le-ltb v low more))
    ]

-- the same, of what a push has left
pub full_after : (low n : ℕ) (es more : List Edge) (e : Edge) → FillBelow low es → low ≤ e.hi → n ≡ suc e.hi → more ≡ es ++ e ∷ [] → FillBelow n more
full_after low n es more e fill h count pushed = subst (λ k. FillBelow k more) (sym count) (subst (AreFull e.hi) (sym pushed) (filled low es e fill h))

pub leads_after_push : (low v : ℕ) (es more : List Edge) (e : Edge) → FillBelow low es → v ≤ e.hi → more ≡ es ++ e ∷ [] → child_of more v ≡ cond (nat_lt v low) (child_of es v) e.to.0
leads_after_push low v es more e fill top pushed = ap (λ xs. child_of xs v) pushed ∙ leads low v es e fill top

-- Full edges that go on by one more edge, and where they lead.
use Rattle.std.proofs.Common.{◌≡◌, ◌∷◌, ◌++◌, ℕ, List, [], ◌≤◌, ◌<◌, refl, ap, arith, sym, ◌∙◌}
use Rattle.std.specs.Prelude.{cond, suc, nat_le}
use Rattle.node_store.specs.declared.edge.Edge.{Edge}
use Rattle.node_store.specs.Edges.{child_of, AreFull}
use Rattle.node_store.proofs.Edges as edges

rises_on : (top lo : ℕ) (es : List Edge) (e : Edge) → edges.Rise top lo es → top < e.hi → edges.Rise e.hi lo (es ++ e ∷ [])
rises_on top lo [] e r h = absurd r
rises_on top lo (x ∷ []) e r h = (r.0, (omega (arith, r.1, h), refl))
rises_on top lo (x ∷ y ∷ es) e r h = (r.0, rises_on top (suc x.hi) (y ∷ es) e r.1 h)

leads_before : (top lo v : ℕ) (es more : List Edge) → edges.Rise top lo es → v ≤ top → child_of (es ++ more) v ≡ child_of es v
leads_before top lo v [] more r h = absurd r
leads_before top lo v (x ∷ []) more r h =
    let low : v ≤ x.hi = omega (arith, r.1, h) in edges.within x more v low ∙ sym (edges.within x [] v low)
leads_before top lo v (x ∷ y ∷ es) more r h = ap (λ n. cond (nat_le v x.hi) x.to.0 n) (leads_before top (suc x.hi) v (y ∷ es) more r.1 h)

leads_past : (top lo v : ℕ) (es : List Edge) (e : Edge) → edges.Rise top lo es → top < v → v ≤ e.hi → child_of (es ++ e ∷ []) v ≡ e.to.0
leads_past top lo v [] e r h low = absurd r
leads_past top lo v (x ∷ []) e r h low = edges.past x (e ∷ []) v (omega (arith, r.1, h)) ∙ edges.within e [] v low
leads_past top lo v (x ∷ y ∷ es) e r h low =
    edges.past x ((y ∷ es) ++ e ∷ []) v (let b = edges.bounded top lo x (y ∷ es) r in omega (arith, b.1, h))
    ∙ leads_past top (suc x.hi) v (y ∷ es) e r.1 h low

pub alone : (e : Edge) → AreFull e.hi (e ∷ [])
alone e = edges.full_from e.hi 0 (e ∷ []) (omega arith, refl)

pub next : (top : ℕ) (es : List Edge) (e : Edge) → AreFull top es → top < e.hi → AreFull e.hi (es ++ e ∷ [])
next top es e full h = edges.full_from e.hi 0 (es ++ e ∷ []) (rises_on top 0 es e (edges.rise_of top es full) h)

pub before : (top v : ℕ) (es more : List Edge) → AreFull top es → v ≤ top → child_of (es ++ more) v ≡ child_of es v
before top v es more full h = leads_before top 0 v es more (edges.rise_of top es full) h

pub past : (top v : ℕ) (es : List Edge) (e : Edge) → AreFull top es → top < v → v ≤ e.hi → child_of (es ++ e ∷ []) v ≡ e.to.0
past top v es e full h low = leads_past top 0 v es e (edges.rise_of top es full) h low

-- Merging equal neighbours keeps where each value leads, and leaves neighbours that lead apart.
use Rattle.std.proofs.Common.{◌≡◌, ◌∷◌, ℕ, List, [], ◌≤◌, ◌<◌, refl, ap, arith, sym, ◌∙◌, true≢false}
use Rattle.std.specs.Prelude.{cond, suc, nat_le, nat_eq, true, false, Bool, All}
use Rattle.std.proofs.lemmas.Bool.{leb-true, eqb-true, eq-eqb}
use Rattle.std.proofs.lemmas.List.Elements.{All-cons, All-tail}
use Rattle.node_store.specs.declared.edge.Edge.{Edge}
use Rattle.node_store.specs.declared.edge.NodeId.{NodeId}
use Rattle.node_store.specs.Edges.{child_of, merged}
use Rattle.node_store.proofs.Edges.{Rise, AreEdges, within, bounded}

-- where the first edge leads
abbrev first_to : List Edge → ℕ
first_to [] = 0
first_to (e ∷ edges) = e.to.0

first_step : (t : Bool) (e d : Edge) (rest : List Edge) → nat_eq e.to.0 d.to.0 ≡ t → first_to rest ≡ d.to.0 → first_to (cond t rest (e ∷ rest)) ≡ e.to.0
first_step true e d rest is h = h ∙ sym (eqb-true e.to.0 d.to.0 is)
first_step false e d rest is h = refl

first_merged : (e : Edge) (edges : List Edge) → first_to (merged (e ∷ edges)) ≡ e.to.0
first_merged e [] = refl
first_merged e (d ∷ edges) = first_step (nat_eq e.to.0 d.to.0) e d (merged (d ∷ edges)) refl (first_merged d edges)

sooner : (greatest lo more : ℕ) (edges : List Edge) → lo ≤ more → AreEdges greatest more edges → AreEdges greatest lo edges
sooner greatest lo more [] le h = h
sooner greatest lo more (e ∷ []) le h = (omega (arith, le, h.0), h.1)
sooner greatest lo more (e ∷ d ∷ edges) le h = (omega (arith, le, h.0), h.1, h.2)

before : (greatest lo : ℕ) (e : Edge) (rest : List Edge) → lo ≤ e.hi → (e.to.0 ≡ first_to rest → ⊥) → AreEdges greatest (suc e.hi) rest → AreEdges greatest lo (e ∷ rest)
before greatest lo e [] low apart h = absurd h
before greatest lo e (d ∷ rest) low apart h = (low, λ same. apart (ap (λ (n : NodeId). n.0) same), h)

differs : (e d : Edge) (rest : List Edge) → nat_eq e.to.0 d.to.0 ≡ false → first_to rest ≡ d.to.0 → e.to.0 ≡ first_to rest → ⊥
differs e d rest is first same = true≢false (sym (eq-eqb e.to.0 d.to.0 (same ∙ first)) ∙ is)

edges_step : (t : Bool) (greatest lo : ℕ) (e d : Edge) (rest : List Edge) → nat_eq e.to.0 d.to.0 ≡ t → lo ≤ e.hi → first_to rest ≡ d.to.0 →
    AreEdges greatest (suc e.hi) rest → AreEdges greatest lo (cond t rest (e ∷ rest))
edges_step true greatest lo e d rest is low first h = sooner greatest lo (suc e.hi) rest (omega (arith, low)) h
edges_step false greatest lo e d rest is low first h = before greatest lo e rest low (differs e d rest is first) h

pub edges_merged : (greatest lo : ℕ) (edges : List Edge) → Rise greatest lo edges → AreEdges greatest lo (merged edges)
edges_merged greatest lo [] h = h
edges_merged greatest lo (e ∷ []) h = h
edges_merged greatest lo (e ∷ d ∷ edges) h =
    edges_step (nat_eq e.to.0 d.to.0) greatest lo e d (merged (d ∷ edges)) refl h.0 (first_merged d edges) (edges_merged greatest (suc e.hi) (d ∷ edges) h.1)

child_step : (t s : Bool) (e d : Edge) (edges rest : List Edge) (v : ℕ) → nat_eq e.to.0 d.to.0 ≡ t → nat_le v e.hi ≡ s → e.hi < d.hi →
    child_of rest v ≡ child_of (d ∷ edges) v → child_of (cond t rest (e ∷ rest)) v ≡ child_of (e ∷ d ∷ edges) v
child_step false s e d edges rest v is at less h = ap (λ n. cond (nat_le v e.hi) e.to.0 n) h
child_step true true e d edges rest v is at less h =
    let low = leb-true v e.hi at in
    h ∙ within d edges v (omega (arith, low, less)) ∙ sym (eqb-true e.to.0 d.to.0 is) ∙ sym (within e (d ∷ edges) v low)
child_step true false e d edges rest v is at less h = h ∙ sym (ap (λ b. cond b e.to.0 (child_of (d ∷ edges) v)) at)

pub child_merged : (greatest lo : ℕ) (edges : List Edge) (v : ℕ) → Rise greatest lo edges → child_of (merged edges) v ≡ child_of edges v
child_merged greatest lo [] v h = refl
child_merged greatest lo (e ∷ []) v h = refl
child_merged greatest lo (e ∷ d ∷ edges) v h =
    child_step (nat_eq e.to.0 d.to.0) (nat_le v e.hi) e d edges (merged (d ∷ edges)) v refl refl
    (let s = bounded greatest (suc e.hi) d edges h.1 in omega (arith, s.0)) (child_merged greatest (suc e.hi) (d ∷ edges) v h.1)

all_step : (P : Edge → Type 0) (t : Bool) (e : Edge) (rest : List Edge) → P e → All P rest → All P (cond t rest (e ∷ rest))
all_step P true e rest p h = h
all_step P false e rest p h = All-cons P e rest p h

pub all_merged : (P : Edge → Type 0) (edges : List Edge) → All P edges → All P (merged edges)
all_merged P [] h = h
all_merged P (e ∷ []) h = h
all_merged P (e ∷ d ∷ edges) h =
    all_step P (nat_eq e.to.0 d.to.0) e (merged (d ∷ edges)) (h 0 e (omega arith)) (all_merged P (d ∷ edges) (All-tail P e (d ∷ edges) h))

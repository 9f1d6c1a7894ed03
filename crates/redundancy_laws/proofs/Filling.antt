-- Where edges lead, part by part.
use Rattle.std.proofs.Common.{◌≡◌, ◌∷◌, ◌++◌, ℕ, suc, List, [], ◌<◌, ◌≤◌, refl, ap, arith, sym, ◌∙◌, subst, inl, inr}
use Rattle.std.specs.Prelude.{cond, nat_le}
use Rattle.std.proofs.lemmas.Bool.{cases_lt}
use Rattle.node_store.specs.declared.edge.Edge.{Edge}
use Rattle.node_store.specs.Edges.{AreFull, child_of}
use Rattle.node_store.proofs.Edges.{Rise, rise_of, full_from, within, past as past_edge}
use Rattle.redundancy_laws.specs.Drafts.{Fill}

rises : (low top : ℕ) (edges : List Edge) → Fill low top edges → low ≤ top
rises low top [] f = omega (arith, f)
rises low top (e ∷ edges) f = let first = f.0 in let rest = rises (suc e.hi) top edges f.1 in omega (arith, first, rest)

-- one list behind another
pub joined : (low mid top : ℕ) (xs ys : List Edge) → Fill low mid xs → Fill mid top ys → Fill low top (xs ++ ys)
joined low mid top [] ys f g = subst (λ n. Fill n top ys) (sym f) g
joined low mid top (e ∷ xs) ys f g = (f.0, joined (suc e.hi) mid top xs ys f.1 g)

pub before : (low mid : ℕ) (xs ys : List Edge) (v : ℕ) → Fill low mid xs → low ≤ v → v < mid → child_of (xs ++ ys) v ≡ child_of xs v
before low mid [] ys v f some less = absurd (omega (arith, f, some, less))
before low mid (e ∷ xs) ys v f some less =
    elim (cases_lt e.hi v) [
      | inl over ↦ ap (λ n. cond (nat_le v e.hi) e.to.0 n) (before (suc e.hi) mid xs ys v f.1 (omega (arith, over)) less)
      | inr under ↦ within e (xs ++ ys) v under ∙ sym (within e xs v under)
    ]

pub past : (low mid : ℕ) (xs ys : List Edge) (v : ℕ) → Fill low mid xs → mid ≤ v → child_of (xs ++ ys) v ≡ child_of ys v
past low mid [] ys v f over = refl
past low mid (e ∷ xs) ys v f over =
    let rest = rises (suc e.hi) mid xs f.1 in
    past_edge e (xs ++ ys) v (omega (arith, rest, over)) ∙ past (suc e.hi) mid xs ys v f.1 over

-- an edge in two parts leads as it did
pub parted : (edges more : List Edge) (d e : Edge) (v : ℕ) → d.to ≡ e.to → d.hi ≤ e.hi → child_of (edges ++ d ∷ e ∷ more) v ≡ child_of (edges ++ e ∷ more) v
parted [] more d e v same below =
    elim (cases_lt d.hi v) [
      | inl over ↦ past_edge d (e ∷ more) v over
      | inr under ↦ within d (e ∷ more) v under ∙ ap (λ t. t.0) same ∙ sym (within e more v (omega (arith, under, below)))
    ]
parted (x ∷ edges) more d e v same below = ap (λ n. cond (nat_le v x.hi) x.to.0 n) (parted edges more d e v same below)

-- an edge that reaches no further than those before it is never taken
pub dropped : (mid : ℕ) (edges more : List Edge) (e : Edge) (v : ℕ) → Fill 0 mid edges → e.hi < mid → child_of (edges ++ e ∷ more) v ≡ child_of (edges ++ more) v
dropped mid edges more e v f short =
    elim (cases_lt v mid) [
      | inl less ↦ before 0 mid edges (e ∷ more) v f (omega arith) less ∙ sym (before 0 mid edges more v f (omega arith) less)
      | inr over ↦ past 0 mid edges (e ∷ more) v f over ∙ past_edge e more v (omega (arith, short, over)) ∙ sym (past 0 mid edges more v f over)
    ]

rise_from : (greatest low : ℕ) (edges : List Edge) → low ≤ greatest → Fill low (suc greatest) edges → Rise greatest low edges
rise_from greatest low [] some f = absurd (omega (arith, some, f))
rise_from greatest low (e ∷ []) some f = (f.0, (let t = f.1 in omega (arith, t)))
rise_from greatest low (e ∷ d ∷ edges) some f =
    let next = f.1.0 in
    let rest = rises (suc d.hi) (suc greatest) edges f.1.1 in
    (f.0, rise_from greatest (suc e.hi) (d ∷ edges) (omega (arith, next, rest)) f.1)

pub full : (greatest : ℕ) (edges : List Edge) → Fill 0 (suc greatest) edges → AreFull greatest edges
full greatest edges f = full_from greatest 0 edges (rise_from greatest 0 edges (omega arith) f)

fill_from : (greatest low : ℕ) (edges : List Edge) → Rise greatest low edges → Fill low (suc greatest) edges
fill_from greatest low [] r = absurd r
fill_from greatest low (e ∷ []) r = (r.0, ap suc r.1)
fill_from greatest low (e ∷ d ∷ edges) r = (r.0, fill_from greatest (suc e.hi) (d ∷ edges) r.1)

pub filled : (greatest : ℕ) (edges : List Edge) → AreFull greatest edges → Fill 0 (suc greatest) edges
filled greatest edges f = fill_from greatest 0 edges (rise_of greatest edges f)

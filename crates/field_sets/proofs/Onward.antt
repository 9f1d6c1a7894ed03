-- Edges that fill the values from one on, and those of them that don't end below another.
use Rattle.std.proofs.Common.{◌≡◌, ◌∷◌, ℕ, List, [], ◌-◌, ◌≤◌, ◌<◌, length, take, drop, get_or, refl, ap, arith, sym, ◌∙◌}
use Rattle.std.specs.Prelude.{cond, suc, zero, nat_lt, true, false, Bool, All}
use Rattle.std.specs.List.Sorted.{IsPartitionedBy, IsPartitionPoint}
use Rattle.std.specs.Fn.{Called, ComputesKey}
use Rattle.std.proofs.lemmas.Bool.{ltb-true, ltb-false, lt-ltb, le-ltb}
use Rattle.std.proofs.lemmas.List.{take_all, length-drop}
use Rattle.std.proofs.lemmas.List.Elements.{All-tail}
use Rattle.std.proofs.lemmas.List.Sorted.{IsPartitionPoint-from_clause}
use denote.Param.Members.{Mut}
use denote.Ref.{Bor}
use Rattle.node_store.specs.declared.edge.Edge.{Edge}
use Rattle.node_store.specs.Edges.{child_of, AreFull}
use Rattle.node_store.proofs.Edges as edges
use Rattle.field_sets.specs.Fill.{Fill, reaching}
use Rattle.node_store.proofs.Search.{parted}

-- edges that are full fill the values from 0 on
rise_fills : (top lo : ℕ) (es : List Edge) → edges.Rise top lo es → Fill lo top es
rise_fills top lo [] r = absurd r
rise_fills top lo (e ∷ []) r = (r.0, ap suc r.1)
rise_fills top lo (e ∷ d ∷ es) r = (r.0, rise_fills top (suc e.hi) (d ∷ es) r.1)

fill_rises : (top lo : ℕ) (e : Edge) (es : List Edge) → Fill lo top (e ∷ es) → edges.Rise top lo (e ∷ es)
fill_rises top lo e [] f = (f.0, omega (arith, f.1))
fill_rises top lo e (d ∷ es) f = (f.0, fill_rises top (suc e.hi) d es f.1)

pub fills : (top : ℕ) (es : List Edge) → AreFull top es → Fill 0 top es
fills top es full = rise_fills top 0 es (edges.rise_of top es full)

pub filled : (top : ℕ) (es : List Edge) → Fill 0 top es → AreFull top es
filled top [] f = absurd (omega (arith, f))
filled top (e ∷ es) f = edges.full_from top 0 (e ∷ es) (fill_rises top 0 e es f)

pub bounded : (lo top : ℕ) (es : List Edge) → Fill lo top es → lo ≤ suc top
bounded lo top [] f = omega (arith, f)
bounded lo top (e ∷ es) f = let b = bounded (suc e.hi) top es f.1 in omega (arith, b, f.0)

-- what is left of them from a value on
fill_step : (t : Bool) (v top : ℕ) (e : Edge) (es rest : List Edge) → nat_lt e.hi v ≡ t → Fill (suc e.hi) top es → (e.hi < v → Fill v top rest) → Fill v top (cond t rest (e ∷ es))
fill_step true v top e es rest is f h = h (ltb-true e.hi v is)
fill_step false v top e es rest is f h = (ltb-false e.hi v is, f)

pub fill_on : (v lo top : ℕ) (es : List Edge) → lo ≤ v → v ≤ suc top → Fill lo top es → Fill v top (reaching v es)
fill_on v lo top [] low high f = omega (arith, low, high, f)
fill_on v lo top (e ∷ es) low high f =
    fill_step (nat_lt e.hi v) v top e es (reaching v es) refl f.1 (λ less. fill_on v (suc e.hi) top es (omega (arith, less)) high f.1)

child_step : (t : Bool) (v w : ℕ) (e : Edge) (es rest : List Edge) → nat_lt e.hi v ≡ t → v ≤ w → child_of rest w ≡ child_of es w → child_of (cond t rest (e ∷ es)) w ≡ child_of (e ∷ es) w
child_step true v w e es rest is h more = let less = ltb-true e.hi v is in more ∙ sym (edges.past e es w (omega (arith, less, h)))
child_step false v w e es rest is h more = refl

pub child_on : (v w : ℕ) (es : List Edge) → v ≤ w → child_of (reaching v es) w ≡ child_of es w
child_on v w [] h = refl
child_on v w (e ∷ es) h = child_step (nat_lt e.hi v) v w e es (reaching v es) refl h (child_on v w es h)

all_step : (P : Edge → Type 0) (t : Bool) (e : Edge) (es rest : List Edge) → All P (e ∷ es) → All P rest → All P (cond t rest (e ∷ es))
all_step P true e es rest all more = more
all_step P false e es rest all more = all

pub all_on : (P : Edge → Type 0) (v : ℕ) (es : List Edge) → All P es → All P (reaching v es)
all_on P v [] all = all
all_on P v (e ∷ es) all = all_step P (nat_lt e.hi v) e es (reaching v es) all (all_on P v es (All-tail P e es all))

count_step : (t : Bool) (e : Edge) (es rest : List Edge) → length rest ≤ length es → length (cond t rest (e ∷ es)) ≤ length (e ∷ es)
count_step true e es rest h = omega (arith, h)
count_step false e es rest h = omega arith

pub no_more : (v : ℕ) (es : List Edge) → length (reaching v es) ≤ length es
no_more v [] = omega arith
no_more v (e ∷ es) = count_step (nat_lt e.hi v) e es (reaching v es) (no_more v es)

-- where the first one ends below the value, it is passed over
pub passed : (v : ℕ) (e : Edge) (es : List Edge) → e.hi < v → reaching v (e ∷ es) ≡ reaching v es
passed v e es h = ap (λ t. cond t (reaching v es) (e ∷ es)) (lt-ltb e.hi v h)

pub fewer : (v : ℕ) (e : Edge) (es : List Edge) → e.hi < v → length (reaching v (e ∷ es)) < length (e ∷ es)
fewer v e es h = let n = ap (λ xs. length xs) (passed v e es h) in let m = no_more v es in omega (arith, n, m)

-- what a binary search finds
dropped : (es : List Edge) (v i : ℕ) → ((k : ℕ) (d : Edge) → k < i → k < length es → (get_or es k d).hi < v) → ((d : Edge) → i < length es → v ≤ (get_or es i d).hi) → drop i es ≡ reaching v es
dropped [] v zero below above = refl
dropped [] v (suc i) below above = refl
dropped (e ∷ es) v zero below above = sym (ap (λ t. cond t (reaching v es) (e ∷ es)) (le-ltb e.hi v (above e (omega arith))))
dropped (e ∷ es) v (suc i) below above =
    dropped es v i (λ k d h w. below (suc k) d (omega (arith, h)) (omega (arith, w))) (λ d w. above d (omega (arith, w)))
    ∙ sym (passed v e es (below 0 e (omega arith) (omega arith)))

pub searched : {F : Type 0} {g : Mut F (Bor Edge × Unit {0}) Bool} {f : F} (top : ℕ) (es : List Edge) (v i : ℕ) → AreFull top es → i ≤ length es →
    ((q : Edge → Bool) → ComputesKey g q f → IsPartitionedBy q es → IsPartitionPoint (λ y. q y ≡ true) (λ y. q y ≡ false) es i) →
    ((a : Bor Edge × Unit {0}) (r : Bool) (k : F) → Called g f a r k → (r ≡ nat_lt a.0.now.hi v) × (k ≡ f)) → take (length es - i) (drop i es) ≡ reaching v es
searched {F} {g} {f} top es v i full bound clause calls =
    let point = IsPartitionPoint-from_clause (λ (e : Edge). nat_lt e.hi v) {F = F} {g = g} {f = f} es i clause (parted top es v full) calls in
    let count = length-drop i es in
    take_all (length es - i) (drop i es) (omega (arith, count))
    ∙ dropped es v i (λ k d h w. ltb-true _ _ (point.0 k d (omega arith) h)) (λ d w. ltb-false _ _ (point.1 i d (omega arith) w))

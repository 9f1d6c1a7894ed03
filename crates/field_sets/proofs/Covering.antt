-- Edges laid under spans: they fill the field, and lead as placed, or as the own edges do.
use Rattle.std.proofs.Common.{◌≡◌, ◌∷◌, ◌++◌, ℕ, List, [], ◌+◌, ◌*◌, ◌≤◌, ◌<◌, length, refl, ap, arith, sym, ◌∙◌, subst, inl, inr}
use Rattle.std.specs.Prelude.{cond, suc, nat_lt, nat_eq, true, false, Bool, All, None, Some, unwrap_or}
use Rattle.std.proofs.Math.Nat.{le_refl}
use Rattle.std.proofs.lemmas.Bool.{lt-ltb, le-ltb, eqb-true, eq-eqb, ne_eqb, cases_lt}
use Rattle.std.proofs.lemmas.List.{append-nil}
use Rattle.std.proofs.lemmas.List.Elements.{All-cons, All-nil, All-tail}
use Rattle.field_boxes.specs.Spans.{interval_of}
use Rattle.field_boxes.proofs.Unions.{holds_between, not_below, not_past}
use Rattle.node_store.specs.declared.edge.Edge.{Edge}
use Rattle.node_store.specs.declared.edge.NodeId.{NodeId}
use Rattle.node_store.specs.Edges.{child_of, AreFull}
use Rattle.node_store.proofs.Edges as edge_lists
use Rattle.field_sets.specs.declared.placed.Placed.{Placed}
use Rattle.field_sets.specs.Fill.{Fill, reaching}
use Rattle.field_sets.specs.Placed.{placed_at, led, RiseFrom}
use Rattle.field_sets.specs.Laying.{IsBeside, IsNext, left_past}
use Rattle.field_sets.proofs.Onward as onward

-- the edges are the next one, and those of what is left past it, until no own edges are left
abbrev pub Follows : ℕ → List Edge → List Placed → List Edge → Type 0
Follows lo own placed [] = own ≡ []
Follows lo own placed (e ∷ es) = IsNext lo own placed e × Follows (suc e.hi) (reaching (suc e.hi) own) (left_past e.hi placed) es

-- the next edge begins at the first value that isn't filled, or above, and ends in the field
ends_beside : (lo top : ℕ) (own e : Edge) (p : Placed) → IsBeside lo own p e → lo ≤ own.hi → own.hi ≤ top → lo ≤ p.span.lo → p.span.hi ≤ top → (lo ≤ e.hi) × (e.hi ≤ top)
ends_beside lo top own e p beside low high above within = elim (cases_lt lo p.span.lo) [
  | inl less ↦ let at = (beside.0 less).0 in (omega (arith, at, less, low), omega (arith, at, high))
  | inr more ↦ let at = (beside.1 more).0 in let o : p.span.lo ≤ p.span.hi = p.span.ordered in (omega (arith, at, above, o), omega (arith, at, within))
]

pub ends : (lo top : ℕ) (own : Edge) (edges : List Edge) (placed : List Placed) (e : Edge) → IsNext lo (own ∷ edges) placed e → Fill lo top (own ∷ edges) → RiseFrom lo top placed →
    (lo ≤ e.hi) × (e.hi ≤ top)
ends lo top own edges [] e next f r =
    let at = ap (λ (x : Edge). x.hi) next in let b = onward.bounded (suc own.hi) top edges f.1 in (omega (arith, at, f.0), omega (arith, at, b))
ends lo top own edges (p ∷ ps) e next f r =
    let b = onward.bounded (suc own.hi) top edges f.1 in ends_beside lo top own e p next f.0 (omega (arith, b)) r.0 r.1

-- below the spans nothing is placed
pub unplaced : (lo top v : ℕ) (ps : List Placed) → RiseFrom lo top ps → v < lo → placed_at ps v ≡ None
unplaced lo top v [] r h = refl
unplaced lo top v (p ∷ ps) r h =
    let o : p.span.lo ≤ p.span.hi = p.span.ordered in
    ap (λ t. cond t (Some p.to.0) (placed_at ps v)) (not_below v (interval_of p.span) (omega (arith, r.0, h)))
    ∙ unplaced (suc p.span.hi) top v ps r.2 (omega (arith, r.0, o, h))

-- up to its end the next edge leads where the value is to lead
to_same : (a b : NodeId) → a ≡ b → a.0 ≡ b.0
to_same a b h = ap (λ (n : NodeId). n.0) h

leads_beside : (lo top v : ℕ) (own e : Edge) (edges : List Edge) (p : Placed) (ps : List Placed) → IsBeside lo own p e → RiseFrom lo top (p ∷ ps) → lo ≤ v → v ≤ e.hi →
    e.to.0 ≡ led (p ∷ ps) (own ∷ edges) v
leads_beside lo top v own e edges p ps beside r low high = elim (cases_lt lo p.span.lo) [
  | inl less ↦
      let at = beside.0 less in
      to_same e.to own.to at.1
      ∙ sym (ap (λ m. unwrap_or m (child_of (own ∷ edges) v)) (unplaced p.span.lo top v (p ∷ ps) (le_refl p.span.lo, r.1, r.2) (omega (arith, at.0, less, high)))
      ∙ edge_lists.within own edges v (omega (arith, at.0, high)))
  | inr more ↦
      let at = beside.1 more in
      to_same e.to p.to at.1
      ∙ sym (ap (λ t. unwrap_or (cond t (Some p.to.0) (placed_at ps v)) (child_of (own ∷ edges) v)) (holds_between v (interval_of p.span) (omega (arith, more, low)) (omega (arith, at.0, high))))
]

leads_here : (lo top v : ℕ) (own : Edge) (edges : List Edge) (placed : List Placed) (e : Edge) → IsNext lo (own ∷ edges) placed e → RiseFrom lo top placed → lo ≤ v → v ≤ e.hi →
    e.to.0 ≡ led placed (own ∷ edges) v
leads_here lo top v own edges [] e next r low high =
    ap (λ (x : Edge). x.to.0) next ∙ sym (edge_lists.within own edges v (let at = ap (λ (x : Edge). x.hi) next in omega (arith, at, high)))
leads_here lo top v own edges (p ∷ ps) e next r low high = leads_beside lo top v own e edges p ps next r low high

-- past it nothing is lost
placed_step : (t : Bool) (hi v : ℕ) (p : Placed) (ps : List Placed) → nat_eq p.span.hi hi ≡ t → hi < v → placed_at (cond t ps (p ∷ ps)) v ≡ placed_at (p ∷ ps) v
placed_step true hi v p ps is h =
    let e = eqb-true p.span.hi hi is in sym (ap (λ t. cond t (Some p.to.0) (placed_at ps v)) (not_past v (interval_of p.span) (omega (arith, e, h))))
placed_step false hi v p ps is h = refl

placed_on : (hi v : ℕ) (ps : List Placed) → hi < v → placed_at (left_past hi ps) v ≡ placed_at ps v
placed_on hi v [] h = refl
placed_on hi v (p ∷ ps) h = placed_step (nat_eq p.span.hi hi) hi v p ps refl h

leads_on : (hi v : ℕ) (own : List Edge) (placed : List Placed) → hi < v → led (left_past hi placed) (reaching (suc hi) own) v ≡ led placed own v
leads_on hi v own placed h =
    ap (λ m. unwrap_or m (child_of (reaching (suc hi) own) v)) (placed_on hi v placed h)
    ∙ ap (λ n. unwrap_or (placed_at placed v) n) (onward.child_on (suc hi) v own (omega (arith, h)))

-- the spans that are left rise from there on
kept : (hi : ℕ) (p : Placed) (ps : List Placed) → hi < p.span.lo → left_past hi (p ∷ ps) ≡ p ∷ ps
kept hi p ps h =
    let o : p.span.lo ≤ p.span.hi = p.span.ordered in ap (λ t. cond t ps (p ∷ ps)) (ne_eqb p.span.hi hi (λ e. omega (arith, e, h, o)))

done : (hi : ℕ) (p : Placed) (ps : List Placed) → hi ≡ p.span.hi → left_past hi (p ∷ ps) ≡ ps
done hi p ps h = ap (λ t. cond t ps (p ∷ ps)) (eq-eqb p.span.hi hi (sym h))

rise_beside : (lo top : ℕ) (own e : Edge) (p : Placed) (ps : List Placed) → IsBeside lo own p e → RiseFrom lo top (p ∷ ps) → RiseFrom (suc e.hi) top (left_past e.hi (p ∷ ps))
rise_beside lo top own e p ps beside r = elim (cases_lt lo p.span.lo) [
  | inl less ↦
      let at = (beside.0 less).0 in
      let under : e.hi < p.span.lo = omega (arith, at, less) in
      subst (λ qs. RiseFrom (suc e.hi) top qs) (sym (kept e.hi p ps under)) (under, r.1, r.2)
  | inr more ↦
      let at = (beside.1 more).0 in
      subst (λ qs. RiseFrom (suc e.hi) top qs) (sym (done e.hi p ps at)) (subst (λ n. RiseFrom (suc n) top ps) (sym at) r.2)
]

rise_on : (lo top : ℕ) (own : Edge) (edges : List Edge) (placed : List Placed) (e : Edge) → IsNext lo (own ∷ edges) placed e → RiseFrom lo top placed → RiseFrom (suc e.hi) top (left_past e.hi placed)
rise_on lo top own edges [] e next r = tt
rise_on lo top own edges (p ∷ ps) e next r = rise_beside lo top own e p ps next r

-- the edges fill the field from lo on, and lead where its values are to lead
record Covers (lo top : ℕ) (own : List Edge) (placed : List Placed) (es : List Edge) : Type 0 where
  pub fill : Fill lo top es
  pub leads : (v : ℕ) → lo ≤ v → v ≤ top → child_of es v ≡ led placed own v

one_more : (lo top : ℕ) (own : Edge) (edges : List Edge) (placed : List Placed) (e : Edge) (es : List Edge) → IsNext lo (own ∷ edges) placed e →
    Fill lo top (own ∷ edges) → RiseFrom lo top placed → Covers (suc e.hi) top (reaching (suc e.hi) (own ∷ edges)) (left_past e.hi placed) es →
    Covers lo top (own ∷ edges) placed (e ∷ es)
one_more lo top own edges placed e es next f r more = record {
  fill = ((ends lo top own edges placed e next f r).0, more.fill);
  leads = λ v low high. elim (cases_lt e.hi v) [
    | inl past ↦ edge_lists.past e es v past ∙ more.leads v past high ∙ leads_on e.hi v (own ∷ edges) placed past
    | inr within ↦ edge_lists.within e es v within ∙ leads_here lo top v own edges placed e next r low within
  ];
}

covers : (lo top : ℕ) (es own : List Edge) (placed : List Placed) → Fill lo top own → RiseFrom lo top placed → Follows lo own placed es → Covers lo top own placed es
covers lo top [] own placed f r none =
    let end : lo ≡ suc top = subst (λ xs. Fill lo top xs) none f in record { fill = end; leads = λ v low high. absurd (omega (arith, end, low, high)) }
covers lo top (e ∷ es) [] placed f r h = absurd h.0
covers lo top (e ∷ es) (own ∷ edges) placed f r h =
    let b = ends lo top own edges placed e h.0 f r in
    one_more lo top own edges placed e es h.0 f r
    (covers (suc e.hi) top es (reaching (suc e.hi) (own ∷ edges)) (left_past e.hi placed)
    (onward.fill_on (suc e.hi) lo top (own ∷ edges) (omega (arith, b.0)) (omega (arith, b.1)) f) (rise_on lo top own edges placed e h.0 r) h.1)

-- what holds of each child of the own edges, and of where each span leads, holds of each child
module _ (P : ℕ → Type 0) where
  all_step : (t : Bool) (p : Placed) (ps : List Placed) → All (λ (q : Placed). P q.to.0) (p ∷ ps) → All (λ (q : Placed). P q.to.0) (cond t ps (p ∷ ps))
  all_step true p ps all = All-tail (λ (q : Placed). P q.to.0) p ps all
  all_step false p ps all = all

  all_on : (hi : ℕ) (ps : List Placed) → All (λ (q : Placed). P q.to.0) ps → All (λ (q : Placed). P q.to.0) (left_past hi ps)
  all_on hi [] all = all
  all_on hi (p ∷ ps) all = all_step (nat_eq p.span.hi hi) p ps all

  next_child : (lo : ℕ) (own : Edge) (edges : List Edge) (placed : List Placed) (e : Edge) → IsNext lo (own ∷ edges) placed e → P own.to.0 → All (λ (q : Placed). P q.to.0) placed → P e.to.0
  next_child lo own edges [] e next here all = subst (λ (x : Edge). P x.to.0) (sym next) here
  next_child lo own edges (p ∷ ps) e next here all = elim (cases_lt lo p.span.lo) [
    | inl less ↦ subst (λ (n : NodeId). P n.0) (sym (next.0 less).1) here
    | inr more ↦ subst (λ (n : NodeId). P n.0) (sym (next.1 more).1) (all 0 p (omega arith))
  ]

  pub all_children : (lo : ℕ) (es own : List Edge) (placed : List Placed) → Follows lo own placed es → All (λ (x : Edge). P x.to.0) own → All (λ (q : Placed). P q.to.0) placed →
      All (λ (x : Edge). P x.to.0) es
  all_children lo [] own placed h ours theirs = All-nil (λ (x : Edge). P x.to.0)
  all_children lo (e ∷ es) [] placed h ours theirs = absurd h.0
  all_children lo (e ∷ es) (own ∷ edges) placed h ours theirs =
      All-cons (λ (x : Edge). P x.to.0) e es (next_child lo own edges placed e h.0 (ours 0 own (omega arith)) theirs)
      (all_children (suc e.hi) es (reaching (suc e.hi) (own ∷ edges)) (left_past e.hi placed) h.1
      (onward.all_on (λ (x : Edge). P x.to.0) (suc e.hi) (own ∷ edges) ours) (all_on e.hi placed theirs))

-- how much is left: an edge a step, a span a step, and a step to where a span begins
abbrev gap : ℕ → List Placed → ℕ
gap lo [] = 0
gap lo (p ∷ ps) = cond (nat_lt lo p.span.lo) 1 0

abbrev pub left_over : ℕ → List Edge → List Placed → ℕ
left_over lo own placed = length own + 2 * length placed + gap lo placed

gap_small : (t : Bool) → cond t 1 0 ≤ 1
gap_small true = omega arith
gap_small false = omega arith

one_gap : (lo : ℕ) (placed : List Placed) → gap lo placed ≤ 1
one_gap lo [] = omega arith
one_gap lo (p ∷ ps) = gap_small (nat_lt lo p.span.lo)

less_left : (lo : ℕ) (own : Edge) (edges : List Edge) (p : Placed) (ps : List Placed) (e : Edge) → IsBeside lo own p e →
    left_over (suc e.hi) (reaching (suc e.hi) (own ∷ edges)) (left_past e.hi (p ∷ ps)) < left_over lo (own ∷ edges) (p ∷ ps)
less_left lo own edges p ps e beside = elim (cases_lt lo p.span.lo) [
  | inl less ↦
      let at = (beside.0 less).0 in
      let same = kept e.hi p ps (omega (arith, at, less)) in
      let was = ap {B = ℕ} (λ t. cond t 1 0) (lt-ltb lo p.span.lo less) in
      let some = one_gap (suc e.hi) (p ∷ ps) in
      rw same (elim (cases_lt e.hi own.hi) [
        | inl under ↦
            let none = ap {B = ℕ} (λ t. cond t 1 0) (le-ltb (suc e.hi) p.span.lo (omega (arith, at, under, less))) in
            let n = onward.no_more (suc e.hi) (own ∷ edges) in omega (arith, n, none, was)
        | inr whole ↦ let n = onward.fewer (suc e.hi) own edges (omega (arith, whole)) in omega (arith, n, some, was)
      ])
  | inr more ↦
      let at = (beside.1 more).0 in
      let n = onward.no_more (suc e.hi) (own ∷ edges) in
      let some = one_gap (suc e.hi) ps in
      rw (done e.hi p ps at) (omega (arith, n, some))
]

pub smaller : (lo : ℕ) (own : List Edge) (placed : List Placed) (e : Edge) → IsNext lo own placed e →
    left_over (suc e.hi) (reaching (suc e.hi) own) (left_past e.hi placed) < left_over lo own placed
smaller lo [] placed e next = absurd next
smaller lo (own ∷ edges) [] e next =
    let at = ap (λ (x : Edge). x.hi) next in let n = onward.fewer (suc e.hi) own edges (omega (arith, at)) in omega (arith, n)
smaller lo (own ∷ edges) (p ∷ ps) e next = less_left lo own edges p ps e next

-- the same of what a step has left
pub shrinks : (lo n : ℕ) (own own' : List Edge) (placed placed' : List Placed) (e : Edge) → own' ≡ reaching (suc e.hi) own → placed' ≡ left_past e.hi placed → n ≡ suc e.hi →
    IsNext lo own placed e → left_over n own' placed' < left_over lo own placed
shrinks lo n own own' placed placed' e a b c next =
    subst (λ xs. left_over n xs placed' < left_over lo own placed) (sym a)
    (subst (λ ps. left_over n (reaching (suc e.hi) own) ps < left_over lo own placed) (sym b)
    (subst (λ k. left_over k (reaching (suc e.hi) own) (left_past e.hi placed) < left_over lo own placed) (sym c) (smaller lo own placed e next)))

-- with no own edges left, the edges so far are all
module _ (lo : ℕ) (own all : List Edge) (left placed : List Placed) (es : List Edge) (before : (rest : List Edge) → Follows lo own left rest → Follows 0 all placed (es ++ rest)) (none : own ≡ []) where
  pub whole : Follows 0 all placed es
  whole = subst (λ xs. Follows 0 all placed xs) (append-nil es) (before [] none)

  pub full : (top : ℕ) → AreFull top all → RiseFrom 0 top placed → AreFull top es
  full top f r = onward.filled top es (covers 0 top es all placed (onward.fills top all f) r whole).fill

  pub leads : (top : ℕ) → AreFull top all → RiseFrom 0 top placed → (v : ℕ) → v ≤ top → child_of es v ≡ led placed all v
  leads top f r v h = (covers 0 top es all placed (onward.fills top all f) r whole).leads v (omega arith) h

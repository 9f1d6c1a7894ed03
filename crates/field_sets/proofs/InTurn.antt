-- Parts from the first one on, and spans with more behind them.
use Rattle.std.proofs.Common.{◌≡◌, ◌∷◌, ◌++◌, ℕ, List, [], ◌≤◌, ◌<◌, refl, ap, arith, sym, ◌∙◌}
use Rattle.std.specs.Prelude.{cond, suc, map, true, false, Bool, Option, None, Some, All}
use Rattle.std.proofs.lemmas.List.Elements.{All-tail}
use Rattle.field_boxes.specs.Headline.Classifier.{interval_holds}
use Rattle.field_boxes.specs.Spans.{interval_of}
use Rattle.field_boxes.proofs.Unions.{not_past}
use Rattle.node_store.specs.declared.edge.Edge.{Edge}
use Rattle.node_store.specs.declared.split.Part.{Part}
use Rattle.node_store.specs.Edges.{child_of}
use Rattle.node_store.specs.Split.{to_left, to_right}
use Rattle.node_store.proofs.Edges as edge_lists
use Rattle.field_sets.specs.declared.placed.Placed.{Placed}
use Rattle.field_sets.specs.Placed.{placed_at, RiseFrom}
use Rattle.field_sets.specs.Parting.{IsSplitWithin}
use Rattle.field_sets.proofs.Onward.{bounded}

pub ends : (lo hi : ℕ) (left right : List Edge) (p : Part) (ps : List Part) → IsSplitWithin lo hi left right (p ∷ ps) → (lo ≤ p.hi) × (p.hi ≤ hi)
ends lo hi left right p ps s = let b = bounded (suc p.hi) hi (map to_left ps) s.fill.1 in (s.fill.0, omega (arith, b))

pub leads : (lo hi v : ℕ) (left right : List Edge) (p : Part) (ps : List Part) → IsSplitWithin lo hi left right (p ∷ ps) → lo ≤ v → v ≤ p.hi →
    (child_of left v ≡ p.left.0) × (child_of right v ≡ p.right.0)
leads lo hi v left right p ps s low high =
    let within = (ends lo hi left right p ps s).1 in (
      sym (s.left v low (omega (arith, high, within))) ∙ edge_lists.within (to_left p) (map to_left ps) v high,
      sym (s.right v low (omega (arith, high, within))) ∙ edge_lists.within (to_right p) (map to_right ps) v high,
    )

pub rest : (lo hi : ℕ) (left right : List Edge) (p : Part) (ps : List Part) → IsSplitWithin lo hi left right (p ∷ ps) → IsSplitWithin (suc p.hi) hi left right ps
rest lo hi left right p ps s = record {
  fill = s.fill.1;
  left = λ v low high. sym (edge_lists.past (to_left p) (map to_left ps) v low) ∙ s.left v (omega (arith, low, s.fill.0)) high;
  right = λ v low high. sym (edge_lists.past (to_right p) (map to_right ps) v low) ∙ s.right v (omega (arith, low, s.fill.0)) high;
}

weaker : (lo n top : ℕ) (placed : List Placed) → lo ≤ n → RiseFrom n top placed → RiseFrom lo top placed
weaker lo n top [] h r = tt
weaker lo n top (p ∷ ps) h r = (omega (arith, h, r.0), r.1, r.2)

pub joined : (lo n top : ℕ) (front back : List Placed) → RiseFrom lo top front → All (λ (p : Placed). p.span.hi < n) front → lo ≤ n → RiseFrom n top back → RiseFrom lo top (front ++ back)
joined lo n top [] back r all h more = weaker lo n top back h more
joined lo n top (p ∷ ps) back r all h more = (r.0, r.1, joined (suc p.span.hi) n top ps back r.2 (All-tail (λ (q : Placed). q.span.hi < n) p ps all) (all 0 p (omega arith)) more)

pub above : (n v : ℕ) (placed : List Placed) → All (λ (p : Placed). p.span.hi < n) placed → n ≤ v → placed_at placed v ≡ None
above n v [] all h = refl
above n v (p ∷ ps) all h =
    let past : p.span.hi < n = all 0 p (omega arith) in
    ap (λ t. cond t (Some p.to.0) (placed_at ps v)) (not_past v (interval_of p.span) (omega (arith, past, h)))
    ∙ above n v ps (All-tail (λ (q : Placed). q.span.hi < n) p ps all) h

first_step : (t : Bool) (to here : ℕ) (now more : Option ℕ) → (now ≡ Some to → more ≡ Some to) → cond t (Some here) now ≡ Some to → cond t (Some here) more ≡ Some to
first_step true to here now more step h = h
first_step false to here now more step h = step h

pub first : (v to : ℕ) (front back : List Placed) → placed_at front v ≡ Some to → placed_at (front ++ back) v ≡ Some to
first v to [] back h = cc
first v to (p ∷ ps) back h = first_step (interval_holds v (interval_of p.span)) to p.to.0 (placed_at ps v) (placed_at (ps ++ back) v) (first v to ps back) h

next_step : (t : Bool) (here : ℕ) (now more behind : Option ℕ) → (now ≡ None → more ≡ behind) → cond t (Some here) now ≡ None → cond t (Some here) more ≡ behind
next_step true here now more behind step h = cc
next_step false here now more behind step h = step h

pub next : (v : ℕ) (front back : List Placed) → placed_at front v ≡ None → placed_at (front ++ back) v ≡ placed_at back v
next v [] back h = refl
next v (p ∷ ps) back h = next_step (interval_holds v (interval_of p.span)) p.to.0 (placed_at ps v) (placed_at (ps ++ back) v) (placed_at back v) (next v ps back) h

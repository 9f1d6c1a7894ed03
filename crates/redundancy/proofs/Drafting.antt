-- What was kept of the first runs of a layer, and one run more.
use Rattle.std.proofs.Common.{◌≡◌, ◌∷◌, ◌++◌, ◌⊎◌, ℕ, suc, List, [], ◌<◌, ◌≤◌, Bool, true, false, length, append_assoc, append-nil, refl, ap, arith, sym, ◌∙◌, subst, inl, inr}
use Rattle.std.specs.Prelude.{All, cond, map, Some, None, unwrap_or}
use Rattle.smallvec.specs.SmallVec.{SmallVec}
use Rattle.std.specs.List.{list_any}
use Rattle.std.proofs.lemmas.Bool.{cases_lt, le-leb, true≢false, lt-leb}
use Rattle.std.proofs.lemmas.List.Elements.{All-append, All-map, All-push, All-weaker}
use Rattle.field_boxes.specs.declared.span.Span.{Span}
use Rattle.node_store.specs.Levels.{HasField, IsLevel, next as next_level, top_of}
use Rattle.node_store.proofs.Canonical.{is_level, is_next}
use Rattle.field_boxes.specs.Headline.Classifier.{Interval, interval_holds}
use Rattle.field_boxes.specs.Spans.{interval_of}
use Rattle.field_boxes.proofs.Unions.{holds_between, between, not_below, not_past}
use Rattle.node_store.specs.declared.edge.NodeId.{NodeId}
use Rattle.node_store.specs.Edges.{child_of}
use Rattle.node_store.specs.Diagram.{Node, level_of, edges_of}
use Rattle.node_store.specs.Store.{Grows}
use Rattle.field_sets.specs.declared.placed.Placed.{Placed}
use Rattle.field_sets.specs.Placed.{PlacedAt, RiseFrom, placed_at}
use Rattle.redundancy_laws.specs.declared.context.Context.{Context}
use Rattle.redundancy_laws.specs.declared.sifted.Sifted.{Sifted}
use Rattle.redundancy_laws.specs.Rows.{Row, in_front}
use Rattle.redundancy_laws.specs.Layers.{AreApartFrom}
use Rattle.redundancy_laws.specs.Sifted.{context_at, node_at, AreContexts, IsSifted, AreBelow, IsSoFar, LeadOn}
use Rattle.redundancy_laws.proofs.Kept.{next-so-far, same-so-far, so-far-stays, below-stays}
use Rattle.redundancy.specs.declared.contexts.Stretch.{Stretch}
use Rattle.redundancy.specs.declared.sifting.layer.Change.{Change}
use Rattle.redundancy.specs.declared.sifting.layer.Draft.{Draft}
use Rattle.redundancy.specs.Stretches.{stretch_at, FillSpan, stretches_at, AreListed}
use Rattle.redundancy.specs.Drafts.{placed_by, placed_in, placed_for, leads_of, IsChange, IsTakenIn, RiseUpTo, IsDraft}
use Rattle.redundancy.proofs.Numbers.{number_stays}

-- spans that rise
rises : (lo end : ℕ) (ps : List Placed) → RiseUpTo lo end ps → lo ≤ end
rises lo end [] h = h
rises lo end (p ∷ ps) h = let first = h.0 in let own = p.span.ordered in let rest = rises (suc p.span.hi) end ps h.1 in omega (arith, first, own, rest)

pub later_end : (lo a b : ℕ) (ps : List Placed) → a ≤ b → RiseUpTo lo a ps → RiseUpTo lo b ps
later_end lo a b [] le h = omega (arith, le, h)
later_end lo a b (p ∷ ps) le h = (h.0, later_end (suc p.span.hi) a b ps le h.1)

sooner : (lo mid end : ℕ) (ps : List Placed) → lo ≤ mid → RiseUpTo mid end ps → RiseUpTo lo end ps
sooner lo mid end [] le h = omega (arith, le, h)
sooner lo mid end (p ∷ ps) le h = (let first = h.0 in omega (arith, le, first), h.1)

rise_joined : (lo mid end : ℕ) (xs ys : List Placed) → RiseUpTo lo mid xs → RiseUpTo mid end ys → RiseUpTo lo end (xs ++ ys)
rise_joined lo mid end [] ys h k = sooner lo mid end ys h k
rise_joined lo mid end (x ∷ xs) ys h k = (h.0, rise_joined (suc x.span.hi) mid end xs ys h.1 k)

pub rise_inside : (lo top : ℕ) (ps : List Placed) → RiseUpTo lo (suc top) ps → RiseFrom lo top ps
rise_inside lo top [] h = tt
rise_inside lo top (p ∷ ps) h = let rest = rises (suc p.span.hi) (suc top) ps h.1 in (h.0, omega (arith, rest), rise_inside (suc p.span.hi) top ps h.1)

fill_ends : (lo hi : ℕ) (ss : List Stretch) → FillSpan lo hi ss → lo ≤ suc hi
fill_ends lo hi [] f = omega (arith, f)
fill_ends lo hi (s ∷ ss) f = let first = f.0 in let own = s.span.ordered in let rest = fill_ends (suc s.span.hi) hi ss f.1 in omega (arith, first, own, rest)

module _ (after : List NodeId) where
  abbrev laid : List Stretch → List Placed
  laid ss = map (placed_by after) ss

  rise_of : (lo hi : ℕ) (ss : List Stretch) → FillSpan lo hi ss → RiseUpTo lo (suc hi) (laid ss)
  rise_of lo hi [] f = omega (arith, f)
  rise_of lo hi (s ∷ ss) f = let first = f.0 in (omega (arith, first), rise_of (suc s.span.hi) hi ss f.1)

  -- a value inside the span leads as its stretch says
  placed_here : (lo hi v : ℕ) (ss : List Stretch) → FillSpan lo hi ss → lo ≤ v → v ≤ hi → placed_at (laid ss) v ≡ Some (node_at after (stretch_at ss v)).0
  placed_here lo hi v [] f above under = absurd (omega (arith, f, above, under))
  placed_here lo hi v (s ∷ ss) f above under = elim (cases_lt s.span.hi v) [
    | inl over ↦
        ap (λ t. cond t (Some (node_at after s.place).0) (placed_at (laid ss) v)) (not_past v (interval_of s.span) over)
        ∙ placed_here (suc s.span.hi) hi v ss f.1 (omega (arith, over)) under
        ∙ ap (λ t. Some (node_at after (cond t s.place (stretch_at ss v))).0) (sym (lt-leb v s.span.hi over))
    | inr within ↦
        let first = f.0 in
        ap (λ t. cond t (Some (node_at after s.place).0) (placed_at (laid ss) v)) (holds_between v (interval_of s.span) (omega (arith, first, above)) within)
        ∙ ap (λ t. Some (node_at after (cond t s.place (stretch_at ss v))).0) (sym (le-leb v s.span.hi within))
  ]

  -- other values lead nowhere
  placed_none : (lo hi v : ℕ) (ss : List Stretch) → FillSpan lo hi ss → (v < lo) ⊎ (hi < v) → placed_at (laid ss) v ≡ None
  placed_none lo hi v [] f out = refl
  placed_none lo hi v (s ∷ ss) f (inl less) =
      let first = f.0 in
      let own = s.span.ordered in
      ap (λ t. cond t (Some (node_at after s.place).0) (placed_at (laid ss) v)) (not_below v (interval_of s.span) (omega (arith, first, less)))
      ∙ placed_none (suc s.span.hi) hi v ss f.1 (inl (omega (arith, first, own, less)))
  placed_none lo hi v (s ∷ ss) f (inr over) =
      let rest = fill_ends (suc s.span.hi) hi ss f.1 in
      ap (λ t. cond t (Some (node_at after s.place).0) (placed_at (laid ss) v)) (not_past v (interval_of s.span) (omega (arith, rest, over)))
      ∙ placed_none (suc s.span.hi) hi v ss f.1 (inr over)

out_of : (v : ℕ) (span : Interval) → interval_holds v span ≡ false → (v < span.lo) ⊎ (span.hi < v)
out_of v span is = elim (cases_lt v span.lo) [
  | inl less ↦ inl less
  | inr above ↦ elim (cases_lt span.hi v) [ inl over ↦ inr over | inr under ↦ absurd (true≢false (sym (holds_between v span above under) ∙ is)) ]
]

-- spans before the value are passed over
placed_past : (lo next v : ℕ) (xs ys : List Placed) → RiseUpTo lo next xs → next ≤ v → placed_at (xs ++ ys) v ≡ placed_at ys v
placed_past lo next v [] ys h past = refl
placed_past lo next v (x ∷ xs) ys h past =
    let rest = rises (suc x.span.hi) next xs h.1 in
    ap (λ t. cond t (Some x.to.0) (placed_at (xs ++ ys) v)) (not_past v (interval_of x.span) (omega (arith, rest, past))) ∙ placed_past (suc x.span.hi) next v xs ys h.1 past

placed_before : (v : ℕ) (xs ys : List Placed) → placed_at ys v ≡ None → placed_at (xs ++ ys) v ≡ placed_at xs v
placed_before v [] ys e = e
placed_before v (x ∷ xs) ys e = ap (λ r. cond (interval_holds v (interval_of x.span)) (Some x.to.0) r) (placed_before v xs ys e)

pub change_more : (changes : List Change) (change : Change) (c : ℕ) → placed_for (changes ++ change ∷ []) c ≡ placed_for changes c ++ placed_in change c
change_more [] change c = append-nil (placed_in change c)
change_more (x ∷ changes) change c = ap (λ r. placed_in x c ++ r) (change_more changes change c) ∙ sym (append_assoc (placed_in x c) (placed_for changes c) (placed_in change c))

pub placed_stays : (old new : List Node) (level : List ℕ) (ps : List Placed) → IsLevel level → Grows old new → PlacedAt old level ps → PlacedAt new level ps
placed_stays old new level ps five g h = All-weaker (λ (p : Placed). level_of old p.to.0 ≡ level) (λ (p : Placed). level_of new p.to.0 ≡ level) (λ p e. number_stays old new p.to.0 level five g e) ps h

-- the pairs at the places of the stretches
pub listed_below : (nodes : List Node) (level : List ℕ) (span : Interval) (pairs lower : List Context) (lists : List (SmallVec Stretch)) → span.hi ≤ top_of level →
    AreListed nodes span pairs (length pairs) lower lists → AreBelow nodes level span pairs lower (λ c v. stretch_at (stretches_at lists c) v)
listed_below nodes level span pairs lower lists inside listed = record {
  covered = λ c v less small is. (listed.each c less).leads v is;
  reached = λ d less. let r = listed.reached d less in let b = between r.1 span r.3 in (r.0, r.1, r.2, omega (arith, b.1, inside), r.3, r.4);
}

module _ (base old new : List Node) (level : List ℕ) (rows more : List Row) (pairs lower : List Context) (next : ℕ) (span : Span) (lists : List (SmallVec Stretch)) (inner : Sifted) (d e : Draft) where
  abbrev Runs : List Row
  Runs = rows ++ map (in_front (interval_of span)) more

  assembled : (kept : List Bool) (changes : List Change) → e.kept.items ≡ kept → e.changes.items ≡ changes → IsSoFar new level Runs pairs kept (leads_of base pairs changes) →
      All (λ (change : Change). length change.placed.items ≡ length pairs) changes → ((c : ℕ) → c < length pairs → RiseUpTo 0 (suc span.hi) (placed_for changes c)) →
      ((c : ℕ) → c < length pairs → PlacedAt new (next_level level) (placed_for changes c)) → IsDraft base new level Runs pairs (suc span.hi) e
  assembled kept changes ek ec so room rise children = record {
    so_far = subst (λ flags. IsSoFar new level Runs pairs flags (leads_of base pairs e.changes.items)) (sym ek) (subst (λ cs. IsSoFar new level Runs pairs kept (leads_of base pairs cs)) (sym ec) so);
    room = subst (All (λ (change : Change). length change.placed.items ≡ length pairs)) (sym ec) room;
    rise = λ c less. subst (λ cs. RiseUpTo 0 (suc span.hi) (placed_for cs c)) (sym ec) (rise c less);
    children = λ c less. subst (λ cs. PlacedAt new (next_level level) (placed_for cs c)) (sym ec) (children c less);
  }

  -- all that is known of the run
  pub record IsRun : Type 0 where
    pub five : HasField level
    pub grown : Grows old new
    pub are : AreContexts old level pairs
    pub inside : span.hi ≤ top_of level
    pub listed : AreListed old (interval_of span) pairs (length pairs) lower lists
    pub sifted : IsSifted new (next_level level) more lower inner
    pub above : next ≤ span.lo
    pub apart : AreApartFrom (interval_of span) rows
    pub draft : IsDraft base old level rows pairs next d
    pub taken : IsTakenIn d lists inner e

  abbrev to : ℕ → ℕ → ℕ
  to c v = stretch_at (stretches_at lists c) v

  below_new : IsRun → AreBelow new level (interval_of span) pairs lower to
  below_new h = below-stays old new level (interval_of span) pairs lower to (is_level level h.five) h.grown h.are
      (listed_below old level (interval_of span) pairs lower lists h.inside h.listed)

  so_new : IsRun → IsSoFar new level rows pairs d.kept.items (leads_of base pairs d.changes.items)
  so_new h = so-far-stays old new level rows pairs d.kept.items (leads_of base pairs d.changes.items) h.five h.grown h.are h.draft.so_far

  old_children : IsRun → (c : ℕ) → c < length pairs → PlacedAt new (next_level level) (placed_for d.changes.items c)
  old_children h c less = placed_stays old new (next_level level) (placed_for d.changes.items c) (is_next level h.five) h.grown (h.draft.children c less)

  -- where nothing is kept
  none_kept : IsRun → list_any (λ b. b) inner.kept.items ≡ false → IsDraft base new level Runs pairs (suc span.hi) e
  none_kept h none =
      assembled (d.kept.items ++ inner.kept.items) d.changes.items h.taken.kept (h.taken.same none)
      (same-so-far new level (interval_of span) pairs lower to rows more d.kept.items inner (leads_of base pairs d.changes.items) (leads_of base pairs d.changes.items)
      h.five h.apart (below_new h) (so_new h) h.sifted none)
      h.draft.room
      (λ c less. later_end 0 next (suc span.hi) (placed_for d.changes.items c) (let own = span.ordered in let low = h.above in omega (arith, own, low)) (h.draft.rise c less))
      (old_children h)

  -- where something is kept
  abbrev After : Change → List Change
  After change = d.changes.items ++ change ∷ []

  own_placed : IsRun → (change : Change) → IsChange lists inner.after.items change → (c : ℕ) → c < length pairs → placed_in change c ≡ map (placed_by inner.after.items) (stretches_at lists c)
  own_placed h change is c less = is.each c (let n = h.listed.number in omega (arith, less, n))

  placed_is : IsRun → (change : Change) → IsChange lists inner.after.items change → (c : ℕ) → c < length pairs →
      placed_for (After change) c ≡ placed_for d.changes.items c ++ map (placed_by inner.after.items) (stretches_at lists c)
  placed_is h change is c less = change_more d.changes.items change c ∙ ap (λ ps. placed_for d.changes.items c ++ ps) (own_placed h change is c less)

  own_children : IsRun → (c : ℕ) → c < length pairs → PlacedAt new (next_level level) (map (placed_by inner.after.items) (stretches_at lists c))
  own_children h c less =
      All-map (λ (p : Placed). level_of new p.to.0 ≡ next_level level) (placed_by inner.after.items) (stretches_at lists c)
      (All-weaker (λ (s : Stretch). s.place < length lower) (λ (s : Stretch). level_of new (placed_by inner.after.items s).to.0 ≡ next_level level)
      (λ s small. let n = h.sifted.count in h.sifted.numbers s.place (omega (arith, small, n)))
      (stretches_at lists c) (h.listed.each c less).within)

  lead_on : IsRun → (change : Change) → IsChange lists inner.after.items change →
      LeadOn level (interval_of span) (length pairs) to inner.after.items (leads_of base pairs d.changes.items) (leads_of base pairs (After change))
  lead_on h change is = record {
    inside = λ c v less small holds.
        let b = between v (interval_of span) holds in
        let low = h.above in
        ap (λ r. unwrap_or r (child_of (edges_of base (context_at pairs c).after.0) v))
        (ap (λ ps. placed_at ps v) (placed_is h change is c less)
        ∙ placed_past 0 next v (placed_for d.changes.items c) (map (placed_by inner.after.items) (stretches_at lists c)) (h.draft.rise c less) (omega (arith, low, b.0))
        ∙ placed_here inner.after.items span.lo span.hi v (stretches_at lists c) (h.listed.each c less).fill b.0 b.1);
    outside = λ c v less small out.
        ap (λ r. unwrap_or r (child_of (edges_of base (context_at pairs c).after.0) v))
        (ap (λ ps. placed_at ps v) (placed_is h change is c less)
        ∙ placed_before v (placed_for d.changes.items c) (map (placed_by inner.after.items) (stretches_at lists c))
        (placed_none inner.after.items span.lo span.hi v (stretches_at lists c) (h.listed.each c less).fill (out_of v (interval_of span) out)));
  }

  some_kept : IsRun → list_any (λ b. b) inner.kept.items ≡ true → IsDraft base new level Runs pairs (suc span.hi) e
  some_kept h some =
      let t = h.taken.more some in
      let change = t.0 in
      let is = t.2 in
      let n = h.listed.number in
      let count = is.count in
      assembled (d.kept.items ++ inner.kept.items) (After change) h.taken.kept t.1
      (next-so-far new level (interval_of span) pairs lower to rows more d.kept.items inner (leads_of base pairs d.changes.items) (leads_of base pairs (After change))
      h.five h.apart (below_new h) (so_new h) h.sifted (lead_on h change is))
      (All-push (λ (ch : Change). length ch.placed.items ≡ length pairs) d.changes.items change h.draft.room (count ∙ n))
      (λ c less. subst (λ ps. RiseUpTo 0 (suc span.hi) ps) (sym (placed_is h change is c less))
      (rise_joined 0 span.lo (suc span.hi) (placed_for d.changes.items c) (map (placed_by inner.after.items) (stretches_at lists c))
      (later_end 0 next span.lo (placed_for d.changes.items c) h.above (h.draft.rise c less)) (rise_of inner.after.items span.lo span.hi (stretches_at lists c) (h.listed.each c less).fill)))
      (λ c less. subst (PlacedAt new (next_level level)) (sym (placed_is h change is c less))
      (All-append (λ (p : Placed). level_of new p.to.0 ≡ next_level level) (placed_for d.changes.items c) (map (placed_by inner.after.items) (stretches_at lists c)) (old_children h c less) (own_children h c less)))

  by_kept : IsRun → (t : Bool) → list_any (λ b. b) inner.kept.items ≡ t → IsDraft base new level Runs pairs (suc span.hi) e
  by_kept h true some = some_kept h some
  by_kept h false none = none_kept h none

  pub run_end : IsRun → IsDraft base new level Runs pairs (suc span.hi) e
  run_end h = by_kept h (list_any (λ b. b) inner.kept.items) refl

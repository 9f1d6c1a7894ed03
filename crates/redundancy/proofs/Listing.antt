-- Stretches of a span, as they are made of its parts.
use Rattle.std.proofs.Common.{◌≡◌, ◌∷◌, ◌++◌, ℕ, zero, suc, List, [], ◌<◌, ◌≤◌, ◌+◌, ◌⊎◌, Bool, true, false, length, take, get_or, refl, ap, arith, sym, ◌∙◌, subst, inl, inr}
use Rattle.std.proofs.Math.Seq.{take-suc}
use Rattle.std.specs.Prelude.{All, Some, cond, map, nat_le, slice_get}
use Rattle.smallvec.specs.SmallVec.{SmallVec}
use Rattle.std.proofs.lemmas.Bool.{cases_lt, le-leb, lt-leb}
use Rattle.std.proofs.lemmas.List.{length-append, length-map, map-append, get_or-map, get_or_append_left}
use Rattle.std.proofs.lemmas.Option.{get_or_from_slice_get, slice_get_within, slice_get-get_or}
use Rattle.std.proofs.lemmas.List.Elements.{All-nil, All-cons, All-weaker}
use Rattle.field_boxes.specs.Headline.Classifier.{Interval, interval_holds}
use Rattle.field_boxes.proofs.Unions.{holds_between, between}
use Rattle.node_store.specs.declared.split.Part.{Part}
use Rattle.node_store.specs.declared.edge.Edge.{Edge}
use Rattle.node_store.specs.Edges.{child_of}
use Rattle.node_store.specs.Split.{to_left, to_right}
use Rattle.node_store.specs.Diagram.{Node, edges_of}
use Rattle.field_sets.specs.Fill.{Fill}
use Rattle.field_sets.specs.Parting.{IsSplitWithin}
use Rattle.redundancy_laws.specs.declared.context.Context.{Context}
use Rattle.redundancy_laws.specs.Sifted.{no_context, context_at, context_below}
use Rattle.redundancy.specs.declared.contexts.Stretch.{Stretch}
use Rattle.redundancy.specs.Stretches.{context_of, AreStretches, stretch_at, FillSpan, stretches_at, AreStretchesOf, AreListed, Gains}
use Rattle.redundancy.proofs.Numbers.{last_item, pushed_to}

-- pairs keep their places
abbrev Stay : List Context → List Context → Type 0
Stay lower more = (k : ℕ) (p : Context) → slice_get lower k ≡ Some p → slice_get more k ≡ Some p

-- the first value behind the parts
abbrev pub low_after : ℕ → List Part → ℕ
low_after lo [] = lo
low_after lo (p ∷ ps) = low_after (suc p.hi) ps

-- a part more
pub one_more : (lower : List Context) (lo : ℕ) (ps : List Part) (ss : List Stretch) (p : Part) (s : Stretch) → AreStretches lower lo ps ss → s.span.lo ≡ low_after lo ps → s.span.hi ≡ p.hi →
    slice_get lower s.place ≡ Some (context_of p) → AreStretches lower lo (ps ++ p ∷ []) (ss ++ s ∷ [])
one_more lower lo [] [] p s a el eh ep = (el, eh, ep, tt)
one_more lower lo [] (t ∷ ss) p s a el eh ep = absurd a
one_more lower lo (q ∷ ps) [] p s a el eh ep = absurd a
one_more lower lo (q ∷ ps) (t ∷ ss) p s a el eh ep = (a.0, a.1, a.2, one_more lower (suc q.hi) ps ss p s a.3 el eh ep)

-- so are they where the pairs keep their places
still : (lower more : List Context) (lo : ℕ) (ps : List Part) (ss : List Stretch) → Stay lower more → AreStretches lower lo ps ss → AreStretches more lo ps ss
still lower more lo [] [] stay a = tt
still lower more lo [] (s ∷ ss) stay a = absurd a
still lower more lo (p ∷ ps) [] stay a = absurd a
still lower more lo (p ∷ ps) (s ∷ ss) stay a = (a.0, a.1, stay s.place (context_of p) a.2, still lower more (suc p.hi) ps ss stay a.3)

pub low_more : (lo : ℕ) (ps : List Part) (p : Part) → low_after lo (ps ++ p ∷ []) ≡ suc p.hi
low_more lo [] p = refl
low_more lo (q ∷ ps) p = low_more (suc q.hi) ps p

fill_ends : (lo hi : ℕ) (es : List Edge) → Fill lo hi es → lo ≤ suc hi
fill_ends lo hi [] f = omega (arith, f)
fill_ends lo hi (e ∷ es) f = let first = f.0 in let rest = fill_ends (suc e.hi) hi es f.1 in omega (arith, first, rest)

-- where the next part begins and ends
pub next_part : (lo hi k : ℕ) (ps : List Part) (d : Part) → Fill lo hi (map to_left ps) → k < length ps → (low_after lo (take k ps) ≤ (get_or ps k d).hi) × ((get_or ps k d).hi ≤ hi)
next_part lo hi k [] d f less = absurd (omega (arith, less))
next_part lo hi zero (p ∷ ps) d f less = let rest = fill_ends (suc p.hi) hi (map to_left ps) f.1 in (f.0, omega (arith, rest))
next_part lo hi (suc k) (p ∷ ps) d f less = next_part (suc p.hi) hi k ps d f.1 (omega (arith, less))

-- the stretches fill what the parts do
fill_of : (lower : List Context) (lo hi : ℕ) (ps : List Part) (ss : List Stretch) → Fill lo hi (map to_left ps) → AreStretches lower lo ps ss → FillSpan lo hi ss
fill_of lower lo hi [] [] f a = f
fill_of lower lo hi [] (s ∷ ss) f a = absurd a
fill_of lower lo hi (p ∷ ps) [] f a = absurd a
fill_of lower lo hi (p ∷ ps) (s ∷ ss) f a = (a.0, subst (λ n. FillSpan (suc n) hi ss) (sym a.1) (fill_of lower (suc p.hi) hi ps ss f.1 a.3))

within_of : (lower : List Context) (lo : ℕ) (ps : List Part) (ss : List Stretch) → AreStretches lower lo ps ss → All (λ (s : Stretch). s.place < length lower) ss
within_of lower lo [] [] a = All-nil (λ (s : Stretch). s.place < length lower)
within_of lower lo [] (s ∷ ss) a = absurd a
within_of lower lo (p ∷ ps) [] a = absurd a
within_of lower lo (p ∷ ps) (s ∷ ss) a = All-cons (λ (s : Stretch). s.place < length lower) s ss (slice_get_within lower s.place (context_of p) a.2) (within_of lower (suc p.hi) ps ss a.3)

abbrev pair_to : ℕ → ℕ → Context
pair_to a m = record { after = record { 0 = a }; met = record { 0 = m } }

abbrev below_at : List Part → ℕ → Context
below_at ps v = pair_to (child_of (map to_left ps) v) (child_of (map to_right ps) v)

here : (p : Part) (ps : List Part) (v : ℕ) (t : Bool) → nat_le v p.hi ≡ t → t ≡ true → context_of p ≡ below_at (p ∷ ps) v
here p ps v t e h =
    ap (λ (u : Bool). pair_to (cond u p.left.0 (child_of (map to_left ps) v)) (cond u p.right.0 (child_of (map to_right ps) v))) (sym (e ∙ h))

there : (p : Part) (ps : List Part) (v : ℕ) → nat_le v p.hi ≡ false → below_at ps v ≡ below_at (p ∷ ps) v
there p ps v e =
    ap (λ (u : Bool). pair_to (cond u p.left.0 (child_of (map to_left ps) v)) (cond u p.right.0 (child_of (map to_right ps) v))) (sym e)

-- where a value stands
at_of : (lower : List Context) (lo hi v : ℕ) (ps : List Part) (ss : List Stretch) → Fill lo hi (map to_left ps) → AreStretches lower lo ps ss → lo ≤ v → v ≤ hi →
    (stretch_at ss v < length lower) × (context_at lower (stretch_at ss v) ≡ below_at ps v)
at_of lower lo hi v [] [] f a above under = absurd (omega (arith, f, above, under))
at_of lower lo hi v [] (s ∷ ss) f a above under = absurd a
at_of lower lo hi v (p ∷ ps) [] f a above under = absurd a
at_of lower lo hi v (p ∷ ps) (s ∷ ss) f a above under = elim (cases_lt p.hi v) [
  | inl over ↦
      let r = at_of lower (suc p.hi) hi v ps ss f.1 a.3 (omega (arith, over)) under in
      let past = lt-leb v p.hi over in
      let to = ap (λ h. cond (nat_le v h) s.place (stretch_at ss v)) a.1 ∙ ap (λ t. cond t s.place (stretch_at ss v)) past in
      (subst (λ k. k < length lower) (sym to) r.0, ap (context_at lower) to ∙ r.1 ∙ there p ps v past)
  | inr within ↦
      let is = le-leb v p.hi within in
      let to = ap (λ h. cond (nat_le v h) s.place (stretch_at ss v)) a.1 ∙ ap (λ t. cond t s.place (stretch_at ss v)) is in
      (subst (λ k. k < length lower) (sym to) (slice_get_within lower s.place (context_of p) a.2), ap (context_at lower) to ∙ get_or_from_slice_get lower s.place (context_of p) no_context a.2 ∙ here p ps v (nat_le v p.hi) refl is)
]

-- each part has a value
reach_of : (lo hi : ℕ) (ps : List Part) (j : ℕ) → Fill lo hi (map to_left ps) → j < length ps → (v : ℕ) × (lo ≤ v) × (v ≤ hi) × (context_at (map context_of ps) j ≡ below_at ps v)
reach_of lo hi [] j f less = absurd (omega (arith, less))
reach_of lo hi (p ∷ ps) zero f less =
    let rest = fill_ends (suc p.hi) hi (map to_left ps) f.1 in
    (p.hi, f.0, omega (arith, rest), here p ps p.hi (nat_le p.hi p.hi) refl (le-leb p.hi p.hi (omega arith)))
reach_of lo hi (p ∷ ps) (suc j) f less =
    let r = reach_of (suc p.hi) hi ps j f.1 (omega (arith, less)) in
    let first = f.0 in
    (r.0, omega (arith, first, r.1), r.2, r.3 ∙ there p ps r.0 (lt-leb r.0 p.hi (omega (arith, r.1))))

pair_of_two : {a b m n : ℕ} → a ≡ b → m ≡ n → pair_to a m ≡ pair_to b n
pair_of_two h k = cc

module _ (nodes : List Node) (span : Interval) (pairs : List Context) (n : ℕ) (lower more : List Context) (lists longer : List (SmallVec Stretch)) (own : SmallVec Stretch) (ps : List Part) where
  abbrev Split : Type 0
  Split = IsSplitWithin span.lo span.hi (edges_of nodes (context_at pairs n).after.0) (edges_of nodes (context_at pairs n).met.0) ps

  leads_there : Split → (v : ℕ) → span.lo ≤ v → v ≤ span.hi → below_at ps v ≡ context_below nodes v (context_at pairs n)
  leads_there split v above under = pair_of_two (split.left v above under) (split.right v above under)

  -- old pairs stay
  old_pair : Stay lower more → (k : ℕ) → k < length lower → (k < length more) × (context_at more k ≡ context_at lower k)
  old_pair stay k less =
      let at = stay k (context_at lower k) (slice_get-get_or lower k no_context less) in
      (slice_get_within more k (context_at lower k) at, get_or_from_slice_get more k (context_at lower k) no_context at)

  abbrev Listed : List Context → ℕ → List Stretch → Type 0
  Listed all c ss = AreStretchesOf nodes span (context_at pairs c) all ss

  old_listed : Stay lower more → (c : ℕ) (ss : List Stretch) → Listed lower c ss → Listed more c ss
  old_listed stay c ss h = record {
    fill = h.fill;
    within = All-weaker (λ (s : Stretch). s.place < length lower) (λ (s : Stretch). s.place < length more) (λ s less. (old_pair stay s.place less).0) ss h.within;
    leads = λ v is. let l = h.leads v is in let p = old_pair stay (stretch_at ss v) l.0 in (p.0, p.1 ∙ l.1);
  }

  own_listed : Split → AreStretches more span.lo ps own.items → Listed more n own.items
  own_listed split a = record {
    fill = fill_of more span.lo span.hi ps own.items split.fill a;
    within = within_of more span.lo ps own.items a;
    leads = λ v is.
        let b = between v span is in
        let r = at_of more span.lo span.hi v ps own.items split.fill a b.0 b.1 in
        (r.0, r.1 ∙ leads_there split v b.0 b.1);
  }

  reached_next : Split → Gains (map context_of ps) (length ps) lower more → AreListed nodes span pairs n lower lists → (d : ℕ) → d < length more →
      (c : ℕ) × (v : ℕ) × (c < n + 1) × (interval_holds v span ≡ true) × (context_at more d ≡ context_below nodes v (context_at pairs c))
  reached_next split gains so d less = elim (gains.own d less) [
    | inl old ↦ let r = so.reached d old in (r.0, r.1, omega (arith, r.2), r.3, (old_pair gains.stay d old).1 ∙ r.4)
    | inr new ↦
        let r = reach_of span.lo span.hi ps new.0 split.fill new.1 in
        (n, r.0, omega arith, holds_between r.0 span r.1 r.2, sym new.2 ∙ r.3 ∙ leads_there split r.0 r.1 r.2)
  ]

  pub listed_next : Split → Gains (map context_of ps) (length ps) lower more → AreStretches more span.lo ps own.items → longer ≡ lists ++ own ∷ [] →
      AreListed nodes span pairs n lower lists → AreListed nodes span pairs (n + 1) more longer
  listed_next split gains a longer_is so =
      let items : map (λ (o : SmallVec Stretch). o.items) longer ≡ map (λ (o : SmallVec Stretch). o.items) lists ++ own.items ∷ [] =
      ap (map (λ (o : SmallVec Stretch). o.items)) longer_is ∙ map-append (λ (o : SmallVec Stretch). o.items) lists (own ∷ []) in
      let p = pushed_to (Listed more) [] (map (λ (o : SmallVec Stretch). o.items) lists) (map (λ (o : SmallVec Stretch). o.items) longer) own.items n items
      (length-map lists (λ (o : SmallVec Stretch). o.items) ∙ so.number) (λ c less. old_listed gains.stay c (stretches_at lists c) (so.each c less)) (own_listed split a) in record {
        number = sym (length-map longer (λ (o : SmallVec Stretch). o.items)) ∙ p.0;
        each = p.1;
        reached = reached_next split gains so;
      }

-- no pair is gained
pub none_gained : (list old : List Context) → Gains list 0 old old
none_gained list old = record { stay = λ k p at. at; own = λ d less. inl less }

module _ (list old lower more : List Context) (pair : Context) (n : ℕ) (before : Gains list n old lower) (is : pair ≡ context_at list n) where
  grown_stay : (k : ℕ) (p : Context) → slice_get lower k ≡ Some p → slice_get (lower ++ pair ∷ []) k ≡ Some p
  grown_stay k p at =
      let less = slice_get_within lower k p at in
      slice_get-get_or (lower ++ pair ∷ []) k no_context (omega (arith, less, length-append lower (pair ∷ []))) ∙ ap Some (get_or_append_left lower (pair ∷ []) no_context k less ∙ get_or_from_slice_get lower k p no_context at)

  -- what is gained with the next pair of the list
  gained_by : (more ≡ lower) ⊎ (more ≡ lower ++ pair ∷ []) → Stay lower more × ((d : ℕ) → d < length more → (d < length lower × (context_at more d ≡ context_at lower d)) ⊎ (context_at list n ≡ context_at more d))
  gained_by (inl e) = subst (λ new. Stay lower new × ((d : ℕ) → d < length new → (d < length lower × (context_at new d ≡ context_at lower d)) ⊎ (context_at list n ≡ context_at new d))) (sym e) (λ k p at. at, λ d less. inl (less, refl))
  gained_by (inr e) = subst (λ new. Stay lower new × ((d : ℕ) → d < length new → (d < length lower × (context_at new d ≡ context_at lower d)) ⊎ (context_at list n ≡ context_at new d))) (sym e) (
    grown_stay,
    λ d less. elim (cases_lt d (length lower)) [
      | inl small ↦ inl (small, get_or_append_left lower (pair ∷ []) no_context d small)
      | inr past ↦ inr (sym is ∙ sym (last_item no_context lower pair d (omega (arith, less, length-append lower (pair ∷ []), past))))
    ],
  )

  pub gained : (more ≡ lower) ⊎ (more ≡ lower ++ pair ∷ []) → Gains list (n + 1) old more
  gained e =
      let g = gained_by e in record {
        stay = λ k p at. g.0 k p (before.stay k p at);
        own = λ d less. elim (g.1 d less) [
          | inl small ↦ elim (before.own d small.0) [
            | inl first ↦ inl first
            | inr own ↦ inr (own.0, omega (arith, own.1), own.2 ∙ sym small.1)
          ]
          | inr new ↦ inr (n, omega arith, new)
        ];
      }

  pub stays : (more ≡ lower) ⊎ (more ≡ lower ++ pair ∷ []) → Stay lower more
  stays e = (gained_by e).0

-- the stretch of a part more
pub stretch_next : (lo hi k : ℕ) (ps : List Part) (d : Part) (old lower longer : List Context) (ss more : List Stretch) (s : Stretch) (low next : ℕ) → Fill lo hi (map to_left ps) → k < length ps →
    AreStretches lower lo (take k ps) ss → Gains (map context_of ps) k old lower → low ≡ low_after lo (take k ps) → s.span.lo ≡ low → s.span.hi ≡ (get_or ps k d).hi →
    slice_get longer s.place ≡ Some (context_of (get_or ps k d)) → (longer ≡ lower) ⊎ (longer ≡ lower ++ context_of (get_or ps k d) ∷ []) → more ≡ ss ++ s ∷ [] → (suc (get_or ps k d).hi ≤ hi → next ≡ suc (get_or ps k d).hi) →
    AreStretches longer lo (take (k + 1) ps) more × Gains (map context_of ps) (k + 1) old longer × (k + 1 < length ps → next ≡ low_after lo (take (k + 1) ps))
stretch_next lo hi k ps d old lower longer ss more s low next f less own gains low_is sl sh at longer_is more_is next_is =
    let p = get_or ps k d in
    let front = take k ps in
    let one : k + 1 ≡ suc k = omega arith in
    let taken : take (k + 1) ps ≡ front ++ p ∷ [] = ap (λ m. take m ps) one ∙ take-suc ps k d less in
    let listed = sym (get_or-map context_of ps k d no_context less) in
    let kept = still lower longer lo front ss (stays (map context_of ps) old lower longer (context_of p) k gains listed longer_is) own in (
      subst (λ qs. AreStretches longer lo qs more) (sym taken) (subst (λ xs. AreStretches longer lo (front ++ p ∷ []) xs) (sym more_is) (one_more longer lo front ss p s kept (sl ∙ low_is) sh at)),
      gained (map context_of ps) old lower longer (context_of p) k gains listed longer_is,
      λ more_parts.
          let after = next_part lo hi (k + 1) ps d f more_parts in
          let low_at = ap (low_after lo) taken ∙ low_more lo front p in
          next_is (omega (arith, after.0, after.1, low_at)) ∙ sym low_at,
    )

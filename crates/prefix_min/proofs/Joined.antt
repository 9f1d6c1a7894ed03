-- What a part saves, once one label more is joined with it.
use Rattle.std.proofs.Common.{append-nil, drop-cons, length-append, ◌≡◌, ◌≢◌, ◌∷◌, ◌++◌, ℕ, suc, List, [], ◌+◌, ◌-◌, ◌^◌, ◌<◌, ◌≤◌, Bool, true, false, refl, ap, arith, sym, ◌∙◌, inl, inr, eq-eqb, ne_eqb, subst, length, get_or, set, take, drop}
use Rattle.std.specs.Prelude.{IsTrue, ◌⊎◌, ◌&&◌, ◌==◌, cond, nat_le, nat_lt, not, slice_index}
use Rattle.std.specs.List.{insert}
use Rattle.std.proofs.Math.Seq.{take-append_seam, take-length, drop-append_seam}
use Rattle.std.proofs.lemmas.Bool.{cases_eq, cases_lt, eqb-true, false≢true, le-ltb, lt-ltb, ltb-true, ltb-false}
use Rattle.std.proofs.lemmas.List.{drop-take, get_or-drop, get_or_default, length-drop, length-take-le, set-append_right, take-append-drop, take-take}
use Rattle.std.proofs.lemmas.List.Edits.{insert-append_right}
use Rattle.prefix_min.specs.declared.savings.Gain.{Gain}
use Rattle.prefix_min.specs.declared.savings.LabelCost.{LabelCost}
use Rattle.prefix_min.specs.Costs.{Lists, RisesFrom}
use Rattle.prefix_min.specs.Merging.{AreAbove, AreKept, IsJoined, IsTaken, StandsAt, count_below, merged, no_entry}
use Rattle.prefix_min.specs.Plan.{more_labels}
use Rattle.prefix_min.specs.Savings.{AreSums, IsGain, alone, less, lowered, saved}
use Rattle.prefix_min.proofs.Listed.{below_all}

-- the entry that is put in, or added to another
module _ (x : LabelCost) where
  before : (e : LabelCost) → nat_lt e.label x.label ≡ false → e.label == x.label ≡ false → x.label < e.label
  before e t s = elim (cases_lt x.label e.label) [ inl lt ↦ lt | inr le ↦ absurd (false≢true (sym s ∙ eq-eqb e.label x.label (omega (arith, le, ltb-false e.label x.label t)))) ]

  absent_step : (t : Bool) (e : LabelCost) (es : List LabelCost) → nat_lt e.label x.label ≡ t →
      ((StandsAt es (count_below x.label es) x.label → ⊥) → insert es (count_below x.label es) x ≡ merged x es) →
      (StandsAt (e ∷ es) (cond t (suc (count_below x.label es)) 0) x.label → ⊥) →
      insert (e ∷ es) (cond t (suc (count_below x.label es)) 0) x ≡ cond t (e ∷ merged x es) (cond (e.label == x.label) (record { label = x.label; cost = e.cost + x.cost } ∷ es) (x ∷ e ∷ es))
  absent_step true e es t ih h = ap (λ zs. e ∷ zs) (ih (λ s. h (omega (arith, s.0), s.1)))
  absent_step false e es t ih h = let other : e.label == x.label ≡ false = ne_eqb e.label x.label (λ s. h (omega arith, s)) in rw other refl

  put_in : (es : List LabelCost) → (StandsAt es (count_below x.label es) x.label → ⊥) → insert es (count_below x.label es) x ≡ merged x es
  put_in [] h = refl
  put_in (e ∷ es) h = absent_step (nat_lt e.label x.label) e es refl (put_in es) h

  absent_saved : (t : Bool) (e : LabelCost) (es : List LabelCost) → nat_lt e.label x.label ≡ t → RisesFrom (e.label + 1) es →
      ((StandsAt es (count_below x.label es) x.label → ⊥) → saved es x.label ≡ 0) →
      (StandsAt (e ∷ es) (cond t (suc (count_below x.label es)) 0) x.label → ⊥) → saved (e ∷ es) x.label ≡ 0
  absent_saved true e es t r ih h =
      let lt = ltb-true e.label x.label t in
      let other : e.label == x.label ≡ false = ne_eqb e.label x.label (λ s. absurd (omega (arith, lt, s))) in
      rw other (ih (λ s. h (omega (arith, s.0), s.1)))
  absent_saved false e es t r ih h =
      let ge = ltb-false e.label x.label t in
      let ne : e.label ≢ x.label = λ s. h (omega arith, s) in
      let other : e.label == x.label ≡ false = ne_eqb e.label x.label ne in
      rw other (below_all (e.label + 1) x.label 0 es (omega (arith, ge)) r)

  saves_none : (low : ℕ) (es : List LabelCost) → RisesFrom low es → (StandsAt es (count_below x.label es) x.label → ⊥) → saved es x.label ≡ 0
  saves_none low [] r h = refl
  saves_none low (e ∷ es) r h = absent_saved (nat_lt e.label x.label) e es refl r.1 (saves_none (e.label + 1) es r.1) h

  there_step : (t : Bool) (e : LabelCost) (es : List LabelCost) → nat_lt e.label x.label ≡ t →
      (StandsAt es (count_below x.label es) x.label → set es (count_below x.label es) (record { label = x.label; cost = (get_or es (count_below x.label es) no_entry).cost + x.cost }) ≡ merged x es) →
      StandsAt (e ∷ es) (cond t (suc (count_below x.label es)) 0) x.label →
      set (e ∷ es) (cond t (suc (count_below x.label es)) 0) (record { label = x.label; cost = (get_or (e ∷ es) (cond t (suc (count_below x.label es)) 0) no_entry).cost + x.cost }) ≡
      cond t (e ∷ merged x es) (cond (e.label == x.label) (record { label = x.label; cost = e.cost + x.cost } ∷ es) (x ∷ e ∷ es))
  there_step true e es t ih h = ap (λ zs. e ∷ zs) (ih (omega (arith, h.0), h.1))
  there_step false e es t ih h = let same : e.label == x.label ≡ true = eq-eqb e.label x.label h.1 in rw same refl

  added_to : (es : List LabelCost) → StandsAt es (count_below x.label es) x.label → set es (count_below x.label es) (record { label = x.label; cost = (get_or es (count_below x.label es) no_entry).cost + x.cost }) ≡ merged x es
  added_to [] h = absurd (omega (arith, h.0))
  added_to (e ∷ es) h = there_step (nat_lt e.label x.label) e es refl (added_to es) h

  there_saved : (t : Bool) (e : LabelCost) (es : List LabelCost) → nat_lt e.label x.label ≡ t →
      (StandsAt es (count_below x.label es) x.label → saved es x.label ≡ (get_or es (count_below x.label es) no_entry).cost) →
      StandsAt (e ∷ es) (cond t (suc (count_below x.label es)) 0) x.label → saved (e ∷ es) x.label ≡ (get_or (e ∷ es) (cond t (suc (count_below x.label es)) 0) no_entry).cost
  there_saved true e es t ih h =
      let lt = ltb-true e.label x.label t in
      let other : e.label == x.label ≡ false = ne_eqb e.label x.label (λ s. absurd (omega (arith, lt, s))) in
      rw other (ih (omega (arith, h.0), h.1))
  there_saved false e es t ih h = let same : e.label == x.label ≡ true = eq-eqb e.label x.label h.1 in rw same refl

  saves_so : (es : List LabelCost) → StandsAt es (count_below x.label es) x.label → saved es x.label ≡ (get_or es (count_below x.label es) no_entry).cost
  saves_so [] h = absurd (omega (arith, h.0))
  saves_so (e ∷ es) h = there_saved (nat_lt e.label x.label) e es refl (saves_so es) h

  rises_step : (t u : Bool) (low : ℕ) (e : LabelCost) (es : List LabelCost) → nat_lt e.label x.label ≡ t → e.label == x.label ≡ u → low ≤ e.label → RisesFrom (e.label + 1) es → low ≤ x.label →
      (e.label + 1 ≤ x.label → RisesFrom (e.label + 1) (merged x es)) → RisesFrom low (cond t (e ∷ merged x es) (cond u (record { label = x.label; cost = e.cost + x.cost } ∷ es) (x ∷ e ∷ es)))
  rises_step true u low e es t s le r lx ih = (le, ih (omega (arith, ltb-true e.label x.label t)))
  rises_step false true low e es t s le r lx ih = (lx, subst (λ k. RisesFrom (k + 1) es) (eqb-true e.label x.label s) r)
  rises_step false false low e es t s le r lx ih = (lx, (omega (arith, before e t s), r))

  merged_rises : (low : ℕ) (es : List LabelCost) → RisesFrom low es → low ≤ x.label → RisesFrom low (merged x es)
  merged_rises low [] r le = (le, tt)
  merged_rises low (e ∷ es) r le = rises_step (nat_lt e.label x.label) (e.label == x.label) low e es refl refl r.0 r.1 le (merged_rises (e.label + 1) es r.1)

  first_saves : (v s : Bool) (a rest more : ℕ) → (v ≡ true → s ≡ true → ⊥) → more ≡ rest + cond s x.cost 0 → cond v a more ≡ cond v a rest + cond s x.cost 0
  first_saves true true a rest more apart h = absurd (apart refl refl)
  first_saves true false a rest more apart h = omega arith
  first_saves false s a rest more apart h = h

  same_saves : (s : Bool) (a rest : ℕ) → cond s (a + x.cost) rest ≡ cond s a rest + cond s x.cost 0
  same_saves true a rest = refl
  same_saves false a rest = omega arith

  front_saves : (s : Bool) (rest : ℕ) → (s ≡ true → rest ≡ 0) → cond s x.cost rest ≡ rest + cond s x.cost 0
  front_saves true rest h = omega (arith, h refl)
  front_saves false rest h = omega arith

  saves_step : (t u : Bool) (d : ℕ) (e : LabelCost) (es : List LabelCost) → nat_lt e.label x.label ≡ t → e.label == x.label ≡ u → RisesFrom (e.label + 1) es →
      saved (merged x es) d ≡ saved es d + cond (x.label == d) x.cost 0 →
      saved (cond t (e ∷ merged x es) (cond u (record { label = x.label; cost = e.cost + x.cost } ∷ es) (x ∷ e ∷ es))) d ≡ saved (e ∷ es) d + cond (x.label == d) x.cost 0
  saves_step true u d e es t s r ih =
      let lt = ltb-true e.label x.label t in
      first_saves (e.label == d) (x.label == d) e.cost (saved es d) (saved (merged x es) d) (λ p q. omega (arith, eqb-true e.label d p, eqb-true x.label d q, lt)) ih
  saves_step false true d e es t s r ih =
      let same : x.label == d ≡ e.label == d = ap (λ k. k == d) (sym (eqb-true e.label x.label s)) in
      same_saves (x.label == d) e.cost (saved es d) ∙ ap (λ b. cond b e.cost (saved es d) + cond (x.label == d) x.cost 0) same
  saves_step false false d e es t s r ih =
      front_saves (x.label == d) (saved (e ∷ es) d) (λ q. below_all e.label d 0 (e ∷ es) (omega (arith, before e t s, eqb-true x.label d q)) (omega arith, r))

  merged_saves : (low : ℕ) (es : List LabelCost) → RisesFrom low es → (d : ℕ) → saved (merged x es) d ≡ saved es d + cond (x.label == d) x.cost 0
  merged_saves low [] r d = omega arith
  merged_saves low (e ∷ es) r d = saves_step (nat_lt e.label x.label) (e.label == x.label) d e es refl refl r.1 (merged_saves (e.label + 1) es r.1 d)

  lists_step : (t u : Bool) (d : ℕ) (e : LabelCost) (es : List LabelCost) → (Lists (merged x es) d → Lists es d ⊎ (x.label ≡ d)) →
      Lists (cond t (e ∷ merged x es) (cond u (record { label = x.label; cost = e.cost + x.cost } ∷ es) (x ∷ e ∷ es))) d → Lists (e ∷ es) d ⊎ (x.label ≡ d)
  lists_step true u d e es ih (inl h) = inl (inl h)
  lists_step true u d e es ih (inr h) = elim (ih h) [ inl k ↦ inl (inr k) | inr k ↦ inr k ]
  lists_step false true d e es ih (inl h) = inr h
  lists_step false true d e es ih (inr h) = inl (inr h)
  lists_step false false d e es ih (inl h) = inr h
  lists_step false false d e es ih (inr h) = inl h

  merged_lists : (es : List LabelCost) (d : ℕ) → Lists (merged x es) d → Lists es d ⊎ (x.label ≡ d)
  merged_lists [] d (inl h) = inr h
  merged_lists [] d (inr h) = absurd h
  merged_lists (e ∷ es) d h = lists_step (nat_lt e.label x.label) (e.label == x.label) d e es (merged_lists es d) h

  above_step : (t u : Bool) (e : LabelCost) (es : List LabelCost) → 0 < x.cost → 0 < e.cost → AreAbove es → AreAbove (merged x es) →
      AreAbove (cond t (e ∷ merged x es) (cond u (record { label = x.label; cost = e.cost + x.cost } ∷ es) (x ∷ e ∷ es)))
  above_step true u e es some more a ih = (more, ih)
  above_step false true e es some more a ih = (omega (arith, some), a)
  above_step false false e es some more a ih = (some, (more, a))

  pub merged-above : (es : List LabelCost) → 0 < x.cost → AreAbove es → AreAbove (merged x es)
  merged-above [] some a = (some, tt)
  merged-above (e ∷ es) some a = above_step (nat_lt e.label x.label) (e.label == x.label) e es some a.0 a.1 (merged-above es some a.1)

  merged_sums : (es : List LabelCost) → RisesFrom 0 es → AreSums es (x ∷ []) (merged x es)
  merged_sums es r = record {
    rise = merged_rises 0 es r (omega arith);
    saves = merged_saves 0 es r;
    lists = λ d h. elim (merged_lists es d h) [ inl k ↦ inl k | inr k ↦ inr (inl k) ];
  }

  module _ (weights : List ℕ) (es : List LabelCost) (most : (d : ℕ) → saved es d ≤ slice_index weights d) (light : x.cost ≤ slice_index weights x.label) where
    abbrev over : ℕ
    over = saved es x.label + x.cost - slice_index weights x.label

    own : saved (x ∷ []) x.label ≡ x.cost
    own = ap (λ t. cond t x.cost 0) (eq-eqb x.label x.label refl)

    other : (d : ℕ) → x.label ≢ d → saved (x ∷ []) d ≡ 0
    other d ne = ap (λ t. cond t x.cost 0) (ne_eqb x.label d ne)

    all_most : (d : ℕ) → saved es d + saved (x ∷ []) d ≤ slice_index weights d + over
    all_most d = elim (cases_eq x.label d) [
      | inl e ↦ subst (λ y. saved es y + saved (x ∷ []) y ≤ slice_index weights y + over) e (omega (arith, own))
      | inr ne ↦ omega (arith, other d ne, most d)
    ]

    merged_gain : IsGain weights es (x ∷ []) over x.label
    merged_gain = record {
      most = all_most;
      listed = λ some. inr (inl refl);
      whole = λ some. omega (arith, own, some);
      first = λ some d lt. omega (arith, other d (λ e. omega (arith, e, lt)), most d, some);
    }

  count_step : (t : Bool) (es : List LabelCost) → count_below x.label es ≤ length es → cond t (suc (count_below x.label es)) 0 ≤ suc (length es)
  count_step true es h = omega (arith, h)
  count_step false es h = omega arith

  count_le : (es : List LabelCost) → count_below x.label es ≤ length es
  count_le [] = omega arith
  count_le (e ∷ es) = count_step (nat_lt e.label x.label) es (count_le es)

  -- where it is put, in what stands from a place on
  pub record IsPlaceOf (es : List LabelCost) (start place : ℕ) : Type 0 where
    pub le : start ≤ length es
    pub is : place ≡ start + count_below x.label (drop start es)

  module _ {es : List LabelCost} {start place : ℕ} (at : IsPlaceOf es start place) where
    abbrev count : ℕ
    count = count_below x.label (drop start es)

    left : length (drop start es) ≡ length es - start
    left = length-drop start es

    front : length (take start es) ≡ start
    front = length-take-le start es at.le

    behind : place - start ≡ count
    behind = omega (arith, at.is)

    all : es ≡ take start es ++ drop start es
    all = sym (take-append-drop start es)

    there : StandsAt es place x.label → StandsAt (drop start es) count x.label
    there h = (
      omega (arith, at.is, left, h.0),
      ap (λ e. e.label) (get_or-drop start es count no_entry) ∙ ap (λ k. (get_or es k no_entry).label) (sym at.is)
          ∙ h.1,
    )

    back : StandsAt (drop start es) count x.label → StandsAt es place x.label
    back h = (
      omega (arith, at.is, left, h.0),
      ap (λ k. (get_or es k no_entry).label) at.is ∙ sym (ap (λ e. e.label) (get_or-drop start es count no_entry))
          ∙ h.1,
    )

    pub place-le : place ≤ length es
    place-le = omega (arith, at.is, at.le, left, count_le (drop start es))

    pub merged-in : (StandsAt es place x.label → ⊥) → insert es place x ≡ take start es ++ merged x (drop start es)
    merged-in none =
        ap (λ zs. insert zs place x) all ∙ insert-append_right (take start es) (drop start es) start place x front (omega (arith, at.is))
        ∙ ap (λ k. take start es ++ insert (drop start es) k x) behind
        ∙ ap (λ zs. take start es ++ zs) (put_in (drop start es) (λ h. none (back h)))

    pub merged-none : (weight : ℕ) → RisesFrom 0 (drop start es) → x.cost ≤ weight → (StandsAt es place x.label → ⊥) → 0 ≡ saved (drop start es) x.label + x.cost - weight
    merged-none weight r light none = omega (arith, light, saves_none 0 (drop start es) r (λ h. none (back h)))

    cost_there : (get_or (drop start es) count no_entry).cost ≡ (get_or es place no_entry).cost
    cost_there = ap (λ e. e.cost) (get_or-drop start es count no_entry) ∙ ap (λ k. (get_or es k no_entry).cost) (sym at.is)

    pub merged-to : (cost : ℕ) → StandsAt es place x.label → cost ≡ (get_or es place no_entry).cost + x.cost → set es place (record { label = x.label; cost = cost }) ≡ take start es ++ merged x (drop start es)
    merged-to cost h c =
        let e : LabelCost = record { label = x.label; cost = cost } in
        let sum : cost ≡ (get_or (drop start es) count no_entry).cost + x.cost = omega (arith, c, cost_there) in
        ap (λ zs. set zs place e) all ∙ set-append_right (take start es) (drop start es) start place e front (omega (arith, at.is))
        ∙ ap (λ k. take start es ++ set (drop start es) k e) behind
        ∙ ap (λ n. take start es ++ set (drop start es) count (record { label = x.label; cost = n })) sum ∙ ap (λ zs. take start es ++ zs) (added_to (drop start es) (there h))

    pub merged-cost : StandsAt es place x.label → saved (drop start es) x.label ≡ (get_or es place no_entry).cost
    merged-cost h = saves_so (drop start es) (there h) ∙ cost_there

rest_all : (start : ℕ) (es : List LabelCost) → take (length es - start) (drop start es) ≡ drop start es
rest_all start es = ap (λ k. take k (drop start es)) (sym (length-drop start es)) ∙ take-length (drop start es)

-- the place that was found in what is left of a list
pub place-of : {es zs : List LabelCost} {start n : ℕ} (x : LabelCost) → start ≤ length es →
    n ≡ count_below x.label (take (length zs - start) (drop start zs)) → zs ≡ es → IsPlaceOf x es start (start + n)
place-of {zs = zs} {start = start} x le h e =
    record { le = le; is = ap (λ k. start + k) (h ∙ ap (count_below x.label) (rest_all start zs) ∙ ap (λ ys. count_below x.label (drop start ys)) e) }

-- an entry that was read
pub read-at : {e : LabelCost} (es : List LabelCost) (place : ℕ) → place < length es → e ≡ get_or es place e → e ≡ get_or es place no_entry
read-at {e = e} es place within is = is ∙ get_or_default es place e no_entry within

kept_step : (t : Bool) (e : LabelCost) (es : List LabelCost) → nat_lt 0 e.cost ≡ t → 0 < e.cost → lowered 0 es ≡ es → cond t (less 0 e ∷ lowered 0 es) (lowered 0 es) ≡ e ∷ es
kept_step true e es t some h = ap (λ n. (record { label = e.label; cost = n }) ∷ lowered 0 es) (let same : e.cost - 0 ≡ e.cost = omega arith in same) ∙ ap (λ zs. e ∷ zs) h
kept_step false e es t some h = absurd (omega (arith, some, ltb-false 0 e.cost t))

lowered_none : (es : List LabelCost) → AreAbove es → lowered 0 es ≡ es
lowered_none [] a = refl
lowered_none (e ∷ es) a = kept_step (nat_lt 0 e.cost) e es refl a.0 (lowered_none es a.1)

above_lowered : (gain : ℕ) (t : Bool) (e : LabelCost) (es : List LabelCost) → nat_lt gain e.cost ≡ t → AreAbove es → AreAbove (cond t (less gain e ∷ es) es)
above_lowered gain true e es t h = (omega (arith, ltb-true gain e.cost t), h)
above_lowered gain false e es t h = h

-- what is left of any savings is above 0
pub lowered-above : (gain : ℕ) (es : List LabelCost) → AreAbove (lowered gain es)
lowered-above gain [] = tt
lowered-above gain (e ∷ es) = above_lowered gain (nat_lt gain e.cost) e (lowered gain es) refl (lowered-above gain es)

-- without a gain nothing changes
pub settled-none : (start gain : ℕ) (es : List LabelCost) → gain ≡ 0 → AreAbove (drop start es) → es ≡ take start es ++ lowered gain (drop start es)
settled-none start gain es none a =
    sym (take-append-drop start es) ∙ ap (λ zs. take start es ++ zs) (sym (lowered_none (drop start es) a)) ∙ ap (λ k. take start es ++ lowered k (drop start es)) (sym none)

-- the gain is taken off what is saved with one label more
pub joined-by : {keeps : Bool} {weights : List ℕ} {x : LabelCost} {new : List LabelCost} {al0 al1 : List ℕ} (old : List LabelCost) (start : ℕ) →
    AreKept weights (drop start old) → AreKept weights (x ∷ []) → (g : Gain) → g.best ≡ x.label → g.gain ≡ saved (drop start old) x.label + x.cost - slice_index weights x.label →
    new ≡ take start old ++ lowered g.gain (merged x (drop start old)) → (IsTrue keeps → al1 ≡ al0 ++ more_labels g (merged x (drop start old))) →
    IsJoined keeps weights (drop start old) (x ∷ []) (take start old) new al0 al1 g
joined-by {weights = weights} {x = x} old start list one g best gain is labels = record {
  sums = merged x (drop start old);
  are = merged_sums x (drop start old) list.rise;
  gain = subst (λ y. IsGain weights (drop start old) (x ∷ []) g.gain y) (sym best) (subst (λ n. IsGain weights (drop start old) (x ∷ []) n x.label) (sym gain)
      (merged_gain x weights (drop start old) list.most (omega (arith, one.most x.label, ap (λ t. cond t x.cost 0) (eq-eqb x.label x.label refl)))));
  savings = is;
  also = labels;
}

-- one label is put in, and the gain is taken off
module _ {weights : List ℕ} {mid : List LabelCost} {x : LabelCost} (old : List LabelCost) (start : ℕ) (le : start ≤ length old)
    (list : AreKept weights (drop start old)) (one : AreKept weights (x ∷ [])) (put : mid ≡ take start old ++ merged x (drop start old)) where
  taken : length (take start old) ≡ start
  taken = length-take-le start old le

  mid_front : take start mid ≡ take start old
  mid_front = ap (take start) put ∙ ap (λ k. take k (take start old ++ merged x (drop start old))) (sym taken)
      ∙ take-append_seam (take start old) (merged x (drop start old))

  mid_left : drop start mid ≡ merged x (drop start old)
  mid_left = ap (drop start) put ∙ ap (λ k. drop k (take start old ++ merged x (drop start old))) (sym taken)
      ∙ drop-append_seam (take start old) (merged x (drop start old))

  pub mid-above : AreAbove (drop start mid)
  mid-above = subst AreAbove (sym mid_left) (merged-above x (drop start old) one.above.0 list.above)

  pub joined-one : {keeps : Bool} {new : List LabelCost} {al0 al1 : List ℕ} (g : Gain) → g.best ≡ x.label →
      g.gain ≡ saved (drop start old) x.label + x.cost - slice_index weights x.label →
      new ≡ take start mid ++ lowered g.gain (drop start mid) → (IsTrue keeps → al1 ≡ al0 ++ more_labels g (drop start mid)) → IsJoined keeps weights (drop start old) (x ∷ []) (take start old) new al0 al1 g
  joined-one {al0 = al0} g best gain is labels =
      joined-by old start list one g best gain (is ∙ ap (λ zs. zs ++ lowered g.gain (drop start mid)) mid_front ∙ ap (λ zs. take start old ++ lowered g.gain zs) mid_left)
      (λ yes. labels yes ∙ ap (λ zs. al0 ++ more_labels g zs) mid_left)

-- a label that alone saves its weight is doubled, gains that, and saves as much as before
module _ (y w : ℕ) where
  doubled : merged (record { label = y; cost = w }) (record { label = y; cost = w } ∷ []) ≡ record { label = y; cost = w + w } ∷ []
  doubled = let less : nat_lt y y ≡ false = le-ltb y y (omega arith) in let same : y == y ≡ true = eq-eqb y y refl in rw less (rw same refl)

  halved : 0 < w → lowered w (record { label = y; cost = w + w } ∷ []) ≡ record { label = y; cost = w } ∷ []
  halved some =
      let more : nat_lt w (w + w) ≡ true = lt-ltb w (w + w) (omega (arith, some)) in
      let left : w + w - w ≡ w = omega arith in
      rw more (ap (λ n. record { label = y; cost = n } ∷ []) left)

  none_of : (t u : Bool) → cond t (cond (u && not true) (y ∷ []) []) [] ≡ []
  none_of true true = refl
  none_of true false = refl
  none_of false u = refl

  no_other : more_labels (record { gain = w; best = y }) (record { label = y; cost = w + w } ∷ []) ≡ []
  no_other = let same : y == y ≡ true = eq-eqb y y refl in rw same (none_of (nat_lt 0 w) (nat_le w (w + w)))

pub joined-alone : {keeps : Bool} {weights : List ℕ} {x : LabelCost} {al : List ℕ} {zs : List LabelCost} (old : List LabelCost) (start : ℕ) → start ≤ length old →
    AreKept weights (drop start old) → AreKept weights (x ∷ []) → zs ≡ old → take (length zs - start) (drop start zs) ≡ alone weights x.label → x.cost ≡ slice_index weights x.label →
    IsJoined keeps weights (drop start old) (x ∷ []) (take start old) old al al (record { gain = slice_index weights x.label; best = x.label })
joined-alone {keeps = keeps} {weights = weights} {x = x} {al = al} {zs = zs} old start le list one same is whole =
    let y = x.label in
    let w = x.cost in
    let mid = take start old ++ merged x (drop start old) in
    let g : Gain = record { gain = w; best = y } in
    let single : drop start old ≡ x ∷ [] = ap (drop start) (sym same) ∙ sym (rest_all start zs) ∙ is ∙ ap (λ n. record { label = y; cost = n } ∷ []) (sym whole) in
    let left : drop start mid ≡ record { label = y; cost = w + w } ∷ [] = mid_left old start le list one refl ∙ ap (merged x) single ∙ doubled y w in
    let front : take start mid ≡ take start old = mid_front old start le list one refl in
    let own : saved (drop start old) y ≡ w = ap (λ es. saved es y) single ∙ ap (λ t. cond t w 0) (eq-eqb y y refl) in
    let after : drop start old ≡ lowered w (drop start mid) = single ∙ sym (halved y w one.above.0) ∙ ap (lowered w) (sym left) in
    let none : more_labels g (drop start mid) ≡ [] = ap (more_labels g) left ∙ no_other y w in
    subst (λ n. IsJoined keeps weights (drop start old) (x ∷ []) (take start old) old al al (record { gain = n; best = y })) whole
    (joined-one old start le list one refl g refl (omega (arith, own, whole))
    (sym (take-append-drop start old) ∙ ap (λ es. take start old ++ es) after ∙ ap (λ es. es ++ lowered w (drop start mid)) (sym front))
    (λ yes. sym (ap (λ ls. al ++ ls) none ∙ append-nil al)))

-- two parts are joined in either order
pub gain-turned : {weights : List ℕ} {xs ys : List LabelCost} {gain best : ℕ} → IsGain weights xs ys gain best → IsGain weights ys xs gain best
gain-turned g = record {
  most = λ d. omega (arith, g.most d);
  listed = λ some. elim (g.listed some) [ inl h ↦ inr h | inr h ↦ inl h ];
  whole = λ some. omega (arith, g.whole some);
  first = λ some d lt. omega (arith, g.first some d lt);
}

pub sums-turned : {xs ys sums : List LabelCost} → AreSums xs ys sums → AreSums ys xs sums
sums-turned t = record {
  rise = t.rise;
  saves = λ d. omega (arith, t.saves d);
  lists = λ d h. elim (t.lists d h) [ inl k ↦ inr k | inr k ↦ inl k ];
}

joined-turned : {keeps : Bool} {weights : List ℕ} {xs ys before after : List LabelCost} {al0 al1 : List ℕ} {g : Gain} →
    IsJoined keeps weights xs ys before after al0 al1 g → IsJoined keeps weights ys xs before after al0 al1 g
joined-turned j = record { sums = j.sums; are = sums-turned j.are; gain = gain-turned j.gain; savings = j.savings; also = j.also }

-- the upper part is cut off
pub taken-last : {left all : List LabelCost} {x : LabelCost} (start middle : ℕ) → start ≤ middle → middle ≤ length all → left ≡ take middle all → drop middle all ≡ x ∷ [] →
    IsTaken left all start middle x
taken-last {all = all} start middle le to is last =
    let more : middle ≡ start + (middle - start) = omega (arith, le) in
    record {
      long = omega (arith, ap length is, length-take-le middle all to, le);
      front = ap (take start) is ∙ take-take start middle all le;
      rest = inl (ap (drop start) is ∙ ap (λ k. drop start (take k all)) more ∙ drop-take start (middle - start) all, last);
    }

-- the lower part goes
pub taken-first : {left all : List LabelCost} {x : LabelCost} (start middle : ℕ) → middle ≡ start + 1 → middle ≤ length all →
    left ≡ take start all ++ drop (start + 1) all → x ≡ get_or all start x → IsTaken left all start middle x
taken-first {all = all} {x = x} start middle next to is read =
    let size : length (take start all) ≡ start = length-take-le start all (omega (arith, next, to)) in
    let one : middle - start ≡ 1 = omega (arith, next) in
    let rest = drop (start + 1) all in
    record {
      long = omega (arith, ap length is, length-append (take start all) rest, size);
      front = ap (take start) is ∙ ap (λ k. take k (take start all ++ rest)) (sym size) ∙ take-append_seam (take start all) rest;
      rest = inr (
        ap (λ k. take k (drop start all)) one ∙ ap (take 1) (drop-cons all start x (omega (arith, next, to))) ∙ ap (λ e. e ∷ []) (sym read),
        ap (drop start) is ∙ ap (λ k. drop k (take start all ++ rest)) (sym size) ∙ drop-append_seam (take start all) rest ∙ ap (λ k. drop k all) (sym next),
      );
    }

-- one of two parts was taken away, one entry alone
module _ {left all : List LabelCost} {x : LabelCost} {start middle : ℕ} (t : IsTaken left all start middle x) where
  module _ {weights : List ℕ} (low : AreKept weights (take (middle - start) (drop start all))) (high : AreKept weights (drop middle all)) where
    pub left-kept : AreKept weights (drop start left)
    left-kept = elim t.rest [ inl h ↦ subst (AreKept weights) (sym h.0) low | inr h ↦ subst (AreKept weights) (sym h.1) high ]

    pub taken-kept : AreKept weights (x ∷ [])
    taken-kept = elim t.rest [ inl h ↦ subst (AreKept weights) h.1 high | inr h ↦ subst (AreKept weights) h.0 low ]

  pub left-room : ((d : ℕ) → saved (take (middle - start) (drop start all)) d + saved (drop middle all) d < 2 ^ 128) → saved (drop start left) x.label + x.cost < 2 ^ 128
  left-room room =
      let own : saved (x ∷ []) x.label ≡ x.cost = ap (λ t. cond t x.cost 0) (eq-eqb x.label x.label refl) in
      let of = λ (es : List LabelCost). saved es x.label in
      elim t.rest [
        | inl h ↦ omega (arith, room x.label, own, ap of h.0, ap of h.1)
        | inr h ↦ omega (arith, room x.label, own, ap of h.0, ap of h.1)
      ]

  pub joined-taken : {keeps : Bool} {weights : List ℕ} {new : List LabelCost} {al0 al1 : List ℕ} {g : Gain} →
      IsJoined keeps weights (drop start left) (x ∷ []) (take start left) new al0 al1 g →
      IsJoined keeps weights (take (middle - start) (drop start all)) (drop middle all) (take start all) new al0 al1 g
  joined-taken {keeps = keeps} {weights = weights} {new = new} {al0 = al0} {al1 = al1} {g = g} j =
      let joins = λ (xs ys : List LabelCost). IsJoined keeps weights xs ys (take start all) new al0 al1 g in
      let k = subst (λ fs. IsJoined keeps weights (drop start left) (x ∷ []) fs new al0 al1 g) t.front j in
      elim t.rest [
        | inl h ↦ subst (joins (take (middle - start) (drop start all))) (sym h.1) (subst (λ xs. joins xs (x ∷ [])) h.0 k)
        | inr h ↦ subst (λ xs. joins xs (drop middle all)) (sym h.0) (joined-turned (subst (λ xs. joins xs (x ∷ [])) h.1 k))
      ]

-- Costs that are listed by rising label, and a loop that adds what two halves save.
use Rattle.std.proofs.Common.{◌≡◌, ◌≢◌, ◌∷◌, ◌++◌, ℕ, zero, suc, List, [], ◌+◌, ◌<◌, ◌≤◌, Bool, true, false, refl, ap, arith, sym, ◌∙◌, inl, inr, eq-eqb, length, get_or, ◌-◌, ne_eqb, subst}
use Rattle.std.specs.Prelude.{◌⊎◌, cond, ◌==◌, nat_lt, slice_index}
use Rattle.std.proofs.lemmas.Bool.{false≢true, ne_eqb, eqb-true, ltb-true, ltb-false, cases_eq}
use Rattle.std.proofs.lemmas.Bool.Decides.{eqb_tells}
use Rattle.prefix_min.specs.declared.savings.LabelCost.{LabelCost}
use Rattle.prefix_min.specs.Costs.{Lists, RisesFrom, IsHead, cost_in, after}
use Rattle.prefix_min.specs.declared.savings.Gain.{Gain}
use Rattle.prefix_min.specs.Savings.{AreSums, raised, saved}

pub rises_later : (low k : ℕ) (es : List LabelCost) → k ≤ low → RisesFrom low es → RisesFrom k es
rises_later low k [] le h = tt
rises_later low k (e ∷ es) le h = (omega (arith, h.0), h.1)

-- a label below those that are listed isn't listed
pub below_all : (low d o : ℕ) (es : List LabelCost) → d < low → RisesFrom low es → cost_in es o d ≡ o
below_all low d o [] lt h = refl
below_all low d o (e ∷ es) lt h =
    let other : e.label == d ≡ false = ne_eqb e.label d (λ s. absurd (omega (arith, s, h.0))) in
    rw other (below_all (e.label + 1) d o es (omega (arith, h.0)) h.1)

pub not_first : (d o : ℕ) (es : List LabelCost) → RisesFrom d es → (0 < length es → (get_or es 0 (record { label = 0; cost = 0 })).label ≡ d → ⊥) → cost_in es o d ≡ o
not_first d o [] h n = refl
not_first d o (e ∷ es) h n =
    let other : e.label == d ≡ false = ne_eqb e.label d (n (omega arith)) in
    rw other (below_all (e.label + 1) d o es (omega (arith, h.0)) h.1)

-- the labels rise from low on and end before high
abbrev pub Rises : ℕ → List LabelCost → ℕ → Type 0
Rises low [] high = low ≤ high
Rises low (e ∷ es) high = (low ≤ e.label) × Rises (e.label + 1) es high

rises_le : (low high : ℕ) (es : List LabelCost) → Rises low es high → low ≤ high
rises_le low high [] h = h
rises_le low high (e ∷ es) h = omega (arith, h.0, rises_le (e.label + 1) high es h.1)

pub rises_push : (low high : ℕ) (es : List LabelCost) (e : LabelCost) → Rises low es high → high ≤ e.label → Rises low (es ++ e ∷ []) (e.label + 1)
rises_push low high [] e h le = (omega (arith, h), omega arith)
rises_push low high (x ∷ es) e h le = (h.0, rises_push (x.label + 1) high es e h.1 le)

-- a label above those that are listed isn't listed
pub above_all : (low high d o : ℕ) (es : List LabelCost) → Rises low es high → high ≤ d → cost_in es o d ≡ o
above_all low high d o [] h le = refl
above_all low high d o (e ∷ es) h le =
    let other : e.label == d ≡ false = ne_eqb e.label d (λ s. absurd (omega (arith, s, rises_le (e.label + 1) high es h.1))) in
    rw other (above_all (e.label + 1) high d o es h.1 le)

pub rises-from : (low high : ℕ) (es : List LabelCost) → Rises low es high → RisesFrom low es
rises-from low high [] h = tt
rises-from low high (x ∷ es) h = (h.0, rises-from (x.label + 1) high es h.1)

pub cost-push : (es : List LabelCost) (e : LabelCost) (o d : ℕ) → cost_in (es ++ e ∷ []) o d ≡ cost_in es (cond (e.label == d) e.cost o) d
cost-push [] e o d = refl
cost-push (x ∷ es) e o d = ap (λ n. cond (x.label == d) x.cost n) (cost-push es e o d)

pub lists_push : (es : List LabelCost) (e : LabelCost) (d : ℕ) → Lists (es ++ e ∷ []) d → Lists es d ⊎ (e.label ≡ d)
lists_push [] e d (inl h) = inr h
lists_push [] e d (inr h) = absurd h
lists_push (x ∷ es) e d (inl h) = inl (inl h)
lists_push (x ∷ es) e d (inr h) = elim (lists_push es e d h) [ inl k ↦ inl (inr k) | inr k ↦ inr k ]

pub push_lists : (es : List LabelCost) (e : LabelCost) (d : ℕ) → Lists es d ⊎ (e.label ≡ d) → Lists (es ++ e ∷ []) d
push_lists [] e d (inl h) = absurd h
push_lists [] e d (inr h) = inl h
push_lists (x ∷ es) e d (inl (inl h)) = inl h
push_lists (x ∷ es) e d (inl (inr h)) = inr (push_lists es e d (inl h))
push_lists (x ∷ es) e d (inr h) = inr (push_lists es e d (inr h))

after_step : (t : Bool) (e : LabelCost) (es : List LabelCost) (d : ℕ) → (e.label == d) ≡ t → RisesFrom d (e ∷ es) → RisesFrom (d + 1) (cond t es (e ∷ es))
after_step true e es d s h = rises_later (e.label + 1) (d + 1) es (omega (arith, h.0)) h.1
after_step false e es d s h =
    let other : e.label ≢ d = λ q. false≢true (sym s ∙ eq-eqb e.label d q) in
    (omega (arith, h.0), h.1)

pub after-rises : (d : ℕ) (es : List LabelCost) → RisesFrom d es → RisesFrom (d + 1) (after d es)
after-rises d [] h = tt
after-rises d (e ∷ es) h = after_step (e.label == d) e es d refl h

after_cost : (t : Bool) (e : LabelCost) (es : List LabelCost) (d o x : ℕ) → (e.label == d) ≡ t → d ≢ x → cost_in (cond t es (e ∷ es)) o x ≡ cost_in (e ∷ es) o x
after_cost false e es d o x s ne = refl
after_cost true e es d o x s ne =
    let same : e.label ≡ d = elim (eqb_tells e.label d) [ inl q ↦ q.1 | inr q ↦ absurd (false≢true (sym q.0 ∙ s)) ] in
    let other : e.label == x ≡ false = ne_eqb e.label x (λ q. ne (sym same ∙ q)) in
    rw other refl

-- the costs of the other labels stay
pub after-cost : (d o x : ℕ) (es : List LabelCost) → d ≢ x → cost_in (after d es) o x ≡ cost_in es o x
after-cost d o x [] ne = refl
after-cost d o x (e ∷ es) ne = after_cost (e.label == d) e es d o x refl ne

after_lists : (t : Bool) (e : LabelCost) (es : List LabelCost) (d : ℕ) (x : ℕ) → Lists (cond t es (e ∷ es)) x → Lists (e ∷ es) x
after_lists true e es d x h = inr h
after_lists false e es d x h = h

pub after-lists : (d : ℕ) (es : List LabelCost) (x : ℕ) → Lists (after d es) x → Lists es x
after-lists d [] x h = h
after-lists d (e ∷ es) x h = after_lists (e.label == d) e es d x h

pub head-listed : (es : List LabelCost) (d : ℕ) → IsHead es d → Lists es d
head-listed [] d h = absurd h
head-listed (e ∷ es) d h = inl h

cost_later : (e : LabelCost) (o x : ℕ) (es : List LabelCost) → e.label < x → cost_in (e ∷ es) o x ≡ cost_in es o x
cost_later e o x es lt = let other : e.label == x ≡ false = ne_eqb e.label x (λ s. absurd (omega (arith, s, lt))) in rw other refl

pub label_later : (low k : ℕ) (d : LabelCost) (es : List LabelCost) → RisesFrom low es → k < length es → low ≤ (get_or es k d).label
label_later low k d [] r h = absurd (omega (arith, h))
label_later low zero d (e ∷ es) r h = r.0
label_later low (suc k) d (e ∷ es) r h = omega (arith, r.0, label_later (e.label + 1) k d es r.1 (omega (arith, h)))

-- each entry's cost is the one that is listed for its label
-- of two entries the first has no greater label
pub label_least : (low j k : ℕ) (d : LabelCost) (es : List LabelCost) → RisesFrom low es → j ≤ k → k < length es → (get_or es j d).label ≤ (get_or es k d).label
label_least low j k d [] r le h = absurd (omega (arith, h))
label_least low zero zero d (e ∷ es) r le h = omega arith
label_least low zero (suc k) d (e ∷ es) r le h = omega (arith, label_later (e.label + 1) k d es r.1 (omega (arith, h)))
label_least low (suc j) zero d (e ∷ es) r le h = absurd (omega (arith, le))
label_least low (suc j) (suc k) d (e ∷ es) r le h = label_least (e.label + 1) j k d es r.1 (omega (arith, le)) (omega (arith, h))

pub cost-at : (low k o : ℕ) (d : LabelCost) (es : List LabelCost) → RisesFrom low es → k < length es → cost_in es o (get_or es k d).label ≡ (get_or es k d).cost
cost-at low k o d [] r h = absurd (omega (arith, h))
cost-at low zero o d (e ∷ es) r h = let same : e.label == e.label ≡ true = eq-eqb e.label e.label refl in rw same refl
cost-at low (suc k) o d (e ∷ es) r h =
    cost_later e o (get_or es k d).label es (omega (arith, label_later (e.label + 1) k d es r.1 (omega (arith, h)))) ∙ cost-at (e.label + 1) k o d es r.1 (omega (arith, h))

pub listed-at : (k : ℕ) (d : LabelCost) (es : List LabelCost) → k < length es → Lists es (get_or es k d).label
listed-at k d [] h = absurd (omega (arith, h))
listed-at zero d (e ∷ es) h = inl refl
listed-at (suc k) d (e ∷ es) h = inr (listed-at k d es (omega (arith, h)))

pub place_of : (es : List LabelCost) (x : ℕ) → Lists es x → (k : ℕ) × (k < length es) × ((d : LabelCost) → (get_or es k d).label ≡ x)
place_of [] x h = absurd h
place_of (e ∷ es) x (inl h) = (zero, omega arith, λ d. h)
place_of (e ∷ es) x (inr h) = let p = place_of es x h in (suc p.0, omega (arith, p.1), p.2)

pub unlisted : (es : List LabelCost) (o d : ℕ) → (Lists es d → ⊥) → cost_in es o d ≡ o
unlisted [] o d n = refl
unlisted (e ∷ es) o d n = let other : e.label == d ≡ false = ne_eqb e.label d (λ s. n (inl s)) in rw other (unlisted es o d (λ h. n (inr h)))

-- the greatest gain of the sums
pub record IsBest (weights : List ℕ) (sums : List LabelCost) (next : ℕ) (g : Gain) : Type 0 where
  pub most : (d : ℕ) → saved sums d ≤ slice_index weights d + g.gain
  pub below : 0 < g.gain → g.best < next
  pub listed : 0 < g.gain → Lists sums g.best
  pub whole : 0 < g.gain → saved sums g.best ≡ slice_index weights g.best + g.gain
  pub first : 0 < g.gain → (d : ℕ) → d < g.best → saved sums d < slice_index weights d + g.gain

-- the sums so far, and what is left
pub record IsAdding (low high sums from above : List LabelCost) (next : ℕ) : Type 0 where
  pub rise : Rises 0 sums next
  pub low_rises : RisesFrom next from
  pub high_rises : RisesFrom next above
  pub saves : (d : ℕ) → saved sums d + saved from d + saved above d ≡ saved low d + saved high d
  pub lists : (d : ℕ) → Lists sums d → Lists low d ⊎ Lists high d
  pub left_low : (d : ℕ) → Lists from d → Lists low d
  pub left_high : (d : ℕ) → Lists above d → Lists high d

pub record AreAdded (weights : List ℕ) (low high sums from above : List LabelCost) (g : Gain) : Type 0 where
  pub next : ℕ
  pub adding : IsAdding low high sums from above next
  pub best : IsBest weights sums next g

-- the label's part of a list
abbrev here : ℕ → ℕ → ℕ → ℕ
here x d n = cond (x == d) n 0

saved_push : (t : Bool) (sums : List LabelCost) (e : LabelCost) (next d : ℕ) → Rises 0 sums next → next ≤ e.label → e.label == d ≡ t → saved (sums ++ e ∷ []) d ≡ saved sums d + cond t e.cost 0
saved_push true sums e next d r le t =
    let same = eqb-true e.label d t in
    let none : saved sums d ≡ 0 = above_all 0 next d 0 sums r (omega (arith, same, le)) in
    let all : saved (sums ++ e ∷ []) d ≡ e.cost = cost-push sums e 0 d ∙ ap (λ b. cost_in sums (cond b e.cost 0) d) t ∙ above_all 0 next d e.cost sums r (omega (arith, same, le)) in
    omega (arith, none, all)
saved_push false sums e next d r le t =
    let all : saved (sums ++ e ∷ []) d ≡ saved sums d = cost-push sums e 0 d ∙ ap (λ b. cost_in sums (cond b e.cost 0) d) t in
    omega (arith, all)

saved_after : (t : Bool) (x : ℕ) (es : List LabelCost) (d : ℕ) → RisesFrom x es → x == d ≡ t → saved (after x es) d + cond t (saved es x) 0 ≡ saved es d
saved_after true x es d r t =
    let same = eqb-true x d t in
    let none : saved (after x es) d ≡ 0 = below_all (x + 1) d 0 (after x es) (omega (arith, same)) (after-rises x es r) in
    omega (arith, none, ap (saved es) same)
saved_after false x es d r t =
    let kept : saved (after x es) d ≡ saved es d = after-cost x 0 d es (λ e. absurd (false≢true (sym t ∙ eq-eqb x d e))) in
    omega (arith, kept)

head_from : (next x : ℕ) (es : List LabelCost) → RisesFrom next es → IsHead es x → next ≤ x
head_from next x [] r h = absurd h
head_from next x (e ∷ es) r h = omega (arith, r.0, h)

-- the next label is one of a half
pub listed-head : {low high sums from above : List LabelCost} {next : ℕ} (x : ℕ) → IsAdding low high sums from above next → IsHead from x ⊎ IsHead above x →
    Lists low x ⊎ Lists high x
listed-head {from = from} {above = above} x a head =
    elim head [ inl h ↦ inl (a.left_low x (head-listed from x h)) | inr h ↦ inr (a.left_high x (head-listed above x h)) ]

module _ {low high sums from above : List LabelCost} {next : ℕ} (x : ℕ) (e : LabelCost) (a : IsAdding low high sums from above next) (l : e.label ≡ x)
    (c : e.cost ≡ saved from x + saved above x)
    (fr : RisesFrom x from) (ar : RisesFrom x above) (head : IsHead from x ⊎ IsHead above x) where
  pub next-from : next ≤ x
  next-from = elim head [ inl h ↦ head_from next x from a.low_rises h | inr h ↦ head_from next x above a.high_rises h ]

  none_yet : saved sums x ≡ 0
  none_yet = above_all 0 next x 0 sums a.rise next-from

  pub pushed : (d : ℕ) → saved (sums ++ e ∷ []) d ≡ saved sums d + cond (x == d) e.cost 0
  pushed d = saved_push (e.label == d) sums e next d a.rise (omega (arith, next-from, l)) refl ∙ ap (λ y. saved sums d + cond (y == d) e.cost 0) l

  here_sum : (d : ℕ) (t : Bool) → cond t e.cost 0 ≡ cond t (saved from x) 0 + cond t (saved above x) 0
  here_sum d true = c
  here_sum d false = refl

  pub added : IsAdding low high (sums ++ e ∷ []) (after x from) (after x above) (x + 1)
  added = record {
    rise = subst (λ n. Rises 0 (sums ++ e ∷ []) (n + 1)) l (rises_push 0 next sums e a.rise (omega (arith, next-from, l)));
    low_rises = after-rises x from fr;
    high_rises = after-rises x above ar;
    saves = λ d. omega (arith, pushed d, here_sum d (x == d), saved_after (x == d) x from d fr refl, saved_after (x == d) x above d ar refl, a.saves d);
    lists = λ d h. elim (lists_push sums e d h) [ inl k ↦ a.lists d k | inr k ↦ subst (λ y. Lists low y ⊎ Lists high y) (sym l ∙ k) (listed-head x a head) ];
    left_low = λ d h. a.left_low d (after-lists x from d h);
    left_high = λ d h. a.left_high d (after-lists x above d h);
  }

  module _ {weights : List ℕ} {g : Gain} (b : IsBest weights sums next g) where
    pushed_here : saved (sums ++ e ∷ []) x ≡ e.cost
    pushed_here = pushed x ∙ omega (arith, none_yet, ap (λ t. cond t e.cost 0) (eq-eqb x x refl))

    pushed_else : (d : ℕ) → x ≢ d → saved (sums ++ e ∷ []) d ≡ saved sums d
    pushed_else d ne = pushed d ∙ omega (arith, ap (λ t. cond t e.cost 0) (ne_eqb x d ne))

    all_most : (gain : ℕ) → g.gain ≤ gain → e.cost ≤ slice_index weights x + gain → (d : ℕ) → (x ≡ d) ⊎ (x ≢ d) → saved (sums ++ e ∷ []) d ≤ slice_index weights d + gain
    all_most gain le here d (inl s) = omega (arith, ap (saved (sums ++ e ∷ [])) s, ap (slice_index weights) s, pushed_here, here)
    all_most gain le here d (inr n) = omega (arith, pushed_else d n, b.most d, le)

    raised_step : (t : Bool) → nat_lt g.gain (e.cost - slice_index weights x) ≡ t →
        IsBest weights (sums ++ e ∷ []) (x + 1) (cond t (record { gain = e.cost - slice_index weights x; best = x }) g)
    raised_step true t =
        let more = ltb-true g.gain (e.cost - slice_index weights x) t in
        record {
          most = λ d. all_most (e.cost - slice_index weights x) (omega (arith, more)) (omega arith) d (cases_eq x d);
          below = λ some. omega arith;
          listed = λ some. push_lists sums e x (inr l);
          whole = λ some. omega (arith, pushed_here, more);
          first = λ some d lt. omega (arith, pushed_else d (λ s. omega (arith, s, lt)), b.most d, more);
        }
    raised_step false t =
        let no = ltb-false g.gain (e.cost - slice_index weights x) t in
        record {
          most = λ d. all_most g.gain (omega arith) (omega (arith, no)) d (cases_eq x d);
          below = λ some. omega (arith, b.below some, next-from);
          listed = λ some. push_lists sums e g.best (inl (b.listed some));
          whole = λ some. omega (arith, pushed_else g.best (λ s. omega (arith, s, b.below some, next-from)), b.whole some);
          first = λ some d lt. omega (arith, pushed_else d (λ s. omega (arith, s, lt, b.below some, next-from)), b.first some d lt);
        }

    pub add-step : AreAdded weights low high (sums ++ e ∷ []) (after x from) (after x above) (raised g x e.cost (slice_index weights x))
    add-step = record { next = x + 1; adding = added; best = raised_step (nat_lt g.gain (e.cost - slice_index weights x)) refl }

module _ {weights : List ℕ} {low high sums from above : List LabelCost} {g : Gain} (a : AreAdded weights low high sums from above g) (e : from ≡ [])
    (f : above ≡ []) where
  all_saved : (d : ℕ) → saved sums d ≡ saved low d + saved high d
  all_saved d = omega (arith, a.adding.saves d, ap (λ es. saved es d) e, ap (λ es. saved es d) f)

  pub all-sums : AreSums low high sums
  all-sums = record { rise = rises-from 0 a.next sums a.adding.rise; saves = all_saved; lists = a.adding.lists }

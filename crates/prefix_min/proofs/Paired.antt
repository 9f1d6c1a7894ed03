-- What a part saves by two labels, once one of them is joined with it.
use Rattle.std.proofs.Common.{◌≡◌, ◌∷◌, ◌++◌, ℕ, zero, suc, List, [], ◌+◌, ◌-◌, ◌<◌, ◌≤◌, Bool, true, false, refl, ap, arith, sym, ◌∙◌, inl, eq-eqb, ne_eqb, subst, length, get_or, set, take, drop}
use Rattle.std.specs.Prelude.{IsTrue, ◌&&◌, ◌==◌, cond, nat_le, nat_lt, not, slice_index}
use Rattle.std.specs.List.{insert}
use Rattle.std.proofs.lemmas.Bool.{le-ltb, lt-ltb}
use Rattle.std.proofs.lemmas.List.{length-drop, length-set, length-take-le, take-append-drop}
use Rattle.prefix_min.specs.declared.savings.Gain.{Gain}
use Rattle.prefix_min.specs.declared.savings.LabelCost.{LabelCost}
use Rattle.prefix_min.specs.Costs.{RisesFrom}
use Rattle.prefix_min.specs.Merging.{AreAbove, AreKept, IsJoined, merged, no_entry}
use Rattle.prefix_min.specs.Plan.{more_labels}
use Rattle.prefix_min.specs.Savings.{further, less, lowered, saved}
use Rattle.prefix_min.proofs.Joined.{joined-by}

abbrev pub entry : ℕ → ℕ → LabelCost
entry label cost = record { label = label; cost = cost }

-- the entry at the place, with another cost
abbrev pub costing : List LabelCost → ℕ → ℕ → LabelCost
costing es place cost = entry (get_or es place no_entry).label cost

stays : (gain : ℕ) (e : LabelCost) (es : List LabelCost) → gain < e.cost → lowered gain (e ∷ es) ≡ less gain e ∷ lowered gain es
stays gain e es lt = let more : nat_lt gain e.cost ≡ true = lt-ltb gain e.cost lt in rw more refl

goes : (gain : ℕ) (e : LabelCost) (es : List LabelCost) → e.cost ≤ gain → lowered gain (e ∷ es) ≡ lowered gain es
goes gain e es le = let none : nat_lt gain e.cost ≡ false = le-ltb gain e.cost le in rw none refl

-- the last entry costs less
pub last-lowered : (gain cost place : ℕ) (es : List LabelCost) → place + 1 ≡ length es → cost ≡ (get_or es place no_entry).cost → gain < cost →
    set es place (costing es place (cost - gain)) ≡ take place es ++ lowered gain (drop place es)
last-lowered gain cost place [] size is lt = absurd (omega (arith, size))
last-lowered gain cost zero (e ∷ []) size is lt = ap (λ n. entry e.label (n - gain) ∷ []) is ∙ sym (stays gain e [] (omega (arith, is, lt)))
last-lowered gain cost zero (e ∷ f ∷ es) size is lt = absurd (omega (arith, size))
last-lowered gain cost (suc place) (e ∷ es) size is lt = ap (λ zs. e ∷ zs) (last-lowered gain cost place es (omega (arith, size)) is lt)

-- what stands behind a front, once it is written
first_set : (gain cost : ℕ) (es : List LabelCost) (a b : LabelCost) →
    let zs = set (es ++ a ∷ b ∷ []) (length es) (costing (es ++ a ∷ b ∷ []) (length es) cost) in
    take (suc (length es)) zs ++ lowered gain (drop (suc (length es)) zs) ≡ es ++ entry a.label cost ∷ lowered gain (b ∷ [])
first_set gain cost [] a b = refl
first_set gain cost (e ∷ es) a b = ap (λ zs. e ∷ zs) (first_set gain cost es a b)

both_set : (low high : ℕ) (es : List LabelCost) (a b : LabelCost) →
    let zs = set (es ++ a ∷ b ∷ []) (length es) (costing (es ++ a ∷ b ∷ []) (length es) low) in
    set zs (suc (length es)) (costing zs (suc (length es)) high) ≡ es ++ entry a.label low ∷ entry b.label high ∷ []
both_set low high [] a b = refl
both_set low high (e ∷ es) a b = ap (λ zs. e ∷ zs) (both_set low high es a b)

only_set : (es : List LabelCost) (a b x : LabelCost) → set (take (suc (length es)) (es ++ a ∷ b ∷ [])) (length es) x ≡ es ++ x ∷ []
only_set [] a b x = refl
only_set (e ∷ es) a b x = ap (λ zs. e ∷ zs) (only_set es a b x)

-- an entry more before the last one
pub before-last : (place : ℕ) (es : List LabelCost) (e y : LabelCost) → place + 1 ≡ length es → y ≡ get_or es place no_entry → set (es ++ y ∷ []) place e ≡ insert es place e
before-last place [] e y size is = absurd (omega (arith, size))
before-last zero (z ∷ []) e y size is = ap (λ u. e ∷ u ∷ []) is
before-last zero (z ∷ u ∷ es) e y size is = absurd (omega (arith, size))
before-last (suc place) (z ∷ es) e y size is = ap (λ zs. z ∷ zs) (before-last place es e y (omega (arith, size)) is)

not_best : (t : Bool) (labels : List ℕ) (y : ℕ) → cond (t && not true) (y ∷ labels) labels ≡ labels
not_best true labels y = refl
not_best false labels y = refl

-- the best label isn't one of the further ones
own_passed : (gain : ℕ) (e : LabelCost) (es : List LabelCost) → further gain e.label (e ∷ es) ≡ further gain e.label es
own_passed gain e es = let same : e.label == e.label ≡ true = eq-eqb e.label e.label refl in rw same (not_best (nat_le gain e.cost) (further gain e.label es) e.label)

met_first : (x a b : LabelCost) → nat_lt a.label x.label ≡ false → a.label == x.label ≡ true → merged x (a ∷ b ∷ []) ≡ entry x.label (a.cost + x.cost) ∷ b ∷ []
met_first x a b none found = rw none (rw found refl)

met_second : (x a b : LabelCost) → nat_lt a.label x.label ≡ true → nat_lt b.label x.label ≡ false → b.label == x.label ≡ true →
    merged x (a ∷ b ∷ []) ≡ a ∷ entry x.label (b.cost + x.cost) ∷ []
met_second x a b lesser none found = rw lesser (rw none (rw found refl))

next_place : (n : ℕ) → n + 1 ≡ suc n
next_place n = omega arith

abbrev pub gained : LabelCost → ℕ → Gain
gained x n = record { gain = n; best = x.label }

-- two labels save, the lesser one first, and one of them is joined
module _ {weights : List ℕ} {a b x : LabelCost} (old : List LabelCost) (start : ℕ) (le : start ≤ length old) (pair : drop start old ≡ a ∷ b ∷ [])
    (list : AreKept weights (drop start old)) (one : AreKept weights (x ∷ [])) where
  -- another entry in the place of the first one
  pub first-size : {mid : List LabelCost} (e : LabelCost) → mid ≡ set old start e → start + 1 + 1 ≡ length mid
  first-size e put = omega (arith, ap length put, length-set old start e, length-drop start old, ap length pair)

  pub pair-place : x.label < length weights
  pair-place = one.within x.label (inl refl)

  front : length (take start old) ≡ start
  front = length-take-le start old le

  whole : old ≡ take start old ++ a ∷ b ∷ []
  whole = sym (take-append-drop start old) ∙ ap (λ zs. take start old ++ zs) pair

  rises : a.label < b.label
  rises = omega (arith, (subst (RisesFrom 0) pair list.rise).1.0)

  above : AreAbove (a ∷ b ∷ [])
  above = subst AreAbove pair list.above

  weighs : x.cost ≤ slice_index weights x.label
  weighs = omega (arith, one.most x.label, ap (λ t. cond t x.cost 0) (eq-eqb x.label x.label refl))

  module _ (same : a.label ≡ x.label) where
    found : a.label == x.label ≡ true
    found = eq-eqb a.label x.label same

    pub first-saved : saved (drop start old) x.label ≡ a.cost
    first-saved = ap (λ zs. saved zs x.label) pair ∙ ap (λ t. cond t a.cost (saved (b ∷ []) x.label)) found

    first_merged : merged x (drop start old) ≡ entry x.label (a.cost + x.cost) ∷ b ∷ []
    first_merged = let none : nat_lt a.label x.label ≡ false = le-ltb a.label x.label (omega (arith, same)) in ap (merged x) pair ∙ met_first x a b none found

    pub joined-first : {keeps : Bool} {new mid : List LabelCost} {al0 al1 : List ℕ} (n : ℕ) → n ≡ (a.cost + x.cost) - slice_index weights x.label →
        mid ≡ set old start (costing old start ((a.cost + x.cost) - n)) → new ≡ take (start + 1) mid ++ lowered n (drop (start + 1) mid) →
        (IsTrue keeps → al1 ≡ al0 ++ more_labels (gained x n) (b ∷ [])) →
        IsJoined keeps weights (drop start old) (x ∷ []) (take start old) new al0 al1 (gained x n)
    joined-first {al0 = al0} n gain put is labels =
        let cost = (a.cost + x.cost) - n in
        let at = λ (k : ℕ) (zs : List LabelCost). take k zs ++ lowered n (drop k zs) in
        let written = λ (zs : List LabelCost) (k : ℕ). at (suc k) (set zs k (costing zs k cost)) in
        let left : entry a.label cost ∷ lowered n (b ∷ []) ≡ lowered n (merged x (drop start old)) =
        ap (λ l. entry l cost ∷ lowered n (b ∷ [])) same ∙ sym (stays n (entry x.label (a.cost + x.cost)) (b ∷ []) (omega (arith, gain, weighs, above.0, one.above.0))) ∙ ap (lowered n) (sym first_merged) in
        joined-by old start list one (gained x n) refl (omega (arith, gain, first-saved))
        (is ∙ ap (at (start + 1)) put ∙ ap (λ k. at k (set old start (costing old start cost))) (next_place start) ∙ ap (λ zs. written zs start) whole
        ∙ ap (written (take start old ++ a ∷ b ∷ [])) (sym front) ∙ first_set n cost (take start old) a b ∙ ap (λ zs. take start old ++ zs) left)
        (λ yes. labels yes ∙ ap (λ ls. al0 ++ cond (nat_lt 0 n) ls []) (sym (own_passed n (entry x.label (a.cost + x.cost)) (b ∷ []))) ∙ ap (λ zs. al0 ++ more_labels (gained x n) zs) (sym first_merged))

  module _ (same : b.label ≡ x.label) where
    other : a.label == x.label ≡ false
    other = ne_eqb a.label x.label (λ e. absurd (omega (arith, e, same, rises)))

    met : b.label == x.label ≡ true
    met = eq-eqb b.label x.label same

    pub second-saved : saved (drop start old) x.label ≡ b.cost
    second-saved = ap (λ zs. saved zs x.label) pair ∙ ap (λ t. cond t a.cost (saved (b ∷ []) x.label)) other ∙ ap (λ t. cond t b.cost 0) met

    second_merged : merged x (drop start old) ≡ a ∷ entry x.label (b.cost + x.cost) ∷ []
    second_merged =
        let lesser : nat_lt a.label x.label ≡ true = lt-ltb a.label x.label (omega (arith, rises, same)) in
        let none : nat_lt b.label x.label ≡ false = le-ltb b.label x.label (omega (arith, same)) in
        ap (merged x) pair ∙ met_second x a b lesser none met

    by_second : {keeps : Bool} {new : List LabelCost} {al0 al1 : List ℕ} (n : ℕ) → n ≡ (b.cost + x.cost) - slice_index weights x.label →
        new ≡ take start old ++ lowered n (a ∷ entry x.label (b.cost + x.cost) ∷ []) → (IsTrue keeps → al1 ≡ al0 ++ more_labels (gained x n) (a ∷ [])) →
        IsJoined keeps weights (drop start old) (x ∷ []) (take start old) new al0 al1 (gained x n)
    by_second {al0 = al0} n gain is labels =
        joined-by old start list one (gained x n) refl (omega (arith, gain, second-saved)) (is ∙ ap (λ zs. take start old ++ lowered n zs) (sym second_merged))
        (λ yes. labels yes
        ∙ ap (λ ls. al0 ++ cond (nat_lt 0 n) (cond (nat_le n a.cost && not (a.label == x.label)) (a.label ∷ ls) ls) []) (sym (own_passed n (entry x.label (b.cost + x.cost)) []))
        ∙ ap (λ zs. al0 ++ more_labels (gained x n) zs) (sym second_merged))

    own_stays : (n : ℕ) → n ≡ (b.cost + x.cost) - slice_index weights x.label → lowered n (entry x.label (b.cost + x.cost) ∷ []) ≡ entry x.label ((b.cost + x.cost) - n) ∷ []
    own_stays n gain = stays n (entry x.label (b.cost + x.cost)) [] (omega (arith, gain, weighs, above.1.0, one.above.0))

    pub joined-alone-left : {keeps : Bool} {cut : List LabelCost} {al0 al1 : List ℕ} (n : ℕ) → n ≡ (b.cost + x.cost) - slice_index weights x.label → a.cost ≤ n →
        cut ≡ take (start + 1) old → (IsTrue keeps → al1 ≡ al0 ++ more_labels (gained x n) (a ∷ [])) →
        IsJoined keeps weights (drop start old) (x ∷ []) (take start old) (set cut start (entry x.label ((b.cost + x.cost) - n))) al0 al1 (gained x n)
    joined-alone-left n gain none is labels =
        let e = entry x.label ((b.cost + x.cost) - n) in
        by_second n gain
        (ap (λ zs. set zs start e) (is ∙ ap (λ k. take k old) (next_place start)) ∙ ap (λ zs. set (take (suc start) zs) start e) whole
        ∙ ap (λ k. set (take (suc k) (take start old ++ a ∷ b ∷ [])) k e) (sym front) ∙ only_set (take start old) a b e
        ∙ ap (λ zs. take start old ++ zs) (sym (goes n a (entry x.label (b.cost + x.cost) ∷ []) none ∙ own_stays n gain)))
        labels

    pub joined-second : {keeps : Bool} {new mid : List LabelCost} {al0 al1 : List ℕ} (n : ℕ) → n ≡ (b.cost + x.cost) - slice_index weights x.label → n < a.cost →
        mid ≡ set old start (costing old start (a.cost - n)) → new ≡ set mid (start + 1) (costing mid (start + 1) ((b.cost + x.cost) - n)) →
        (IsTrue keeps → al1 ≡ al0 ++ more_labels (gained x n) (a ∷ [])) →
        IsJoined keeps weights (drop start old) (x ∷ []) (take start old) new al0 al1 (gained x n)
    joined-second n gain some put is labels =
        let low = a.cost - n in
        let high = (b.cost + x.cost) - n in
        let at = λ (k : ℕ) (zs : List LabelCost). set zs k (costing zs k high) in
        let written = λ (zs : List LabelCost) (k : ℕ). at (suc k) (set zs k (costing zs k low)) in
        by_second n gain
        (is ∙ ap (at (start + 1)) put ∙ ap (λ k. at k (set old start (costing old start low))) (next_place start) ∙ ap (λ zs. written zs start) whole
        ∙ ap (written (take start old ++ a ∷ b ∷ [])) (sym front) ∙ both_set low high (take start old) a b
        ∙ ap (λ l. take start old ++ entry a.label low ∷ entry l high ∷ []) same
        ∙ ap (λ zs. take start old ++ zs) (sym (stays n a (entry x.label (b.cost + x.cost) ∷ []) some ∙ ap (λ zs. less n a ∷ zs) (own_stays n gain))))
        labels

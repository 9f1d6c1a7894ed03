-- Each lookup finds what the old table alone or the new one alone gives, and which of them.
use Rattle.std.proofs.Common.{◌≡◌, ◌∷◌, ℕ, zero, suc, ◌-◌, ◌≤◌, Bool, true, false, not, ◌&&◌, ◌||◌, cond, nat_le, List, [], Option, Some, None, length, take, refl, ap, sym, ◌∙◌, arith, true≢false, leb-true, leb-false, le-leb}
use Rattle.std.specs.Option.{option_or}
use Rattle.std.specs.List.{list_any}
use Rattle.bank_update.specs.Banks.{least_match, first_from}
use Rattle.bank_update.specs.Writes.{Layout, IsBeside, write_count, bank_after, old_left, new_put, turned}
use Rattle.bank_update.proofs.Looks.{look-below, look-above}

-- a match among the first entries is the match of all, and otherwise the search goes on
taken_step : {X : Type 0} (t u : Bool) (x : X) (o p q : Option X) → option_or o q ≡ cond u p q → option_or (cond t (Some x) o) q ≡ cond (t || u) (cond t (Some x) p) q
taken_step true u x o p q h = refl
taken_step false u x o p q h = h

taken : {E : Type 0} (m : E → Bool) (n : ℕ) (es : List E) (from : ℕ) (q : Option (ℕ × E)) →
    option_or (first_from m (take n es) from) q ≡ cond (list_any m (take n es)) (first_from m es from) q
taken m zero es from q = refl
taken m (suc n) [] from q = refl
taken m (suc n) (e ∷ es) from q =
    taken_step (m e) (list_any m (take n es)) (from, e) (first_from m (take n es) (suc from)) (first_from m es (suc from)) q (taken m n es (suc from) q)

none_step : {X : Type 0} (t u : Bool) (x : X) (o : Option X) → t || u ≡ false → (u ≡ false → o ≡ None) → cond t (Some x) o ≡ None
none_step true u x o h k = absurd (true≢false h)
none_step false u x o h k = k h

-- where no entry of the whole table passes
none_first : {E : Type 0} (m : E → Bool) (n : ℕ) (es : List E) (from : ℕ) → length es ≤ n → list_any m (take n es) ≡ false → first_from m es from ≡ None
none_first m n [] from all h = refl
none_first m zero (e ∷ es) from all h = absurd (omega (arith, all))
none_first m (suc n) (e ∷ es) from all h =
    none_step (m e) (list_any m (take n es)) (from, e) (first_from m es (suc from)) h (λ k. none_first m n es (suc from) (omega (arith, all)) k)

-- t: an old entry that is left passes; u: a new one that stands does; v: all new ones stand
below_case : {X : Type 0} (t u v : Bool) (old new : Option X) → (t ≡ false → v ≡ false → old ≡ None) → (u ≡ false → v ≡ true → new ≡ None) →
    cond t old (cond u new None) ≡ cond (not t && (u || v)) new old
below_case true u v old new f g = refl
below_case false true v old new f g = refl
below_case false false true old new f g = sym (g refl refl)
below_case false false false old new f g = sym (f refl refl)

above_case : {X : Type 0} (t u v : Bool) (old new : Option X) → (t ≡ false → v ≡ false → old ≡ None) → (u ≡ false → v ≡ true → new ≡ None) →
    cond u new (cond t old None) ≡ cond (u || (v && not t)) new old
above_case t true v old new f g = refl
above_case true false true old new f g = refl
above_case true false false old new f g = refl
above_case false false true old new f g = sym (g refl refl)
above_case false false false old new f g = sym (f refl refl)

or_none : {X : Type 0} (o : Option X) → option_or o None ≡ o
or_none None = refl
or_none (Some x) = refl

old_none : {E : Type 0} (s : Layout E) (m : E → Bool) (d : ℕ) → list_any m (old_left s d) ≡ false → nat_le (length s.new) d ≡ false → first_from m s.old s.a ≡ None
old_none s m d h k = let less = leb-false (length s.new) d k in none_first m (length s.old - (d - length s.new)) s.old s.a (omega (arith, less)) h

new_none : {E : Type 0} (s : Layout E) (m : E → Bool) (d : ℕ) → list_any m (new_put s d) ≡ false → nat_le (length s.new) d ≡ true → first_from m s.new s.b ≡ None
new_none s m d h k = none_first m d s.new s.b (leb-true (length s.new) d k) h

pub old-or-new : {E : Type 0} (below : Bool) (s : Layout E) (m : E → Bool) (d : ℕ) → IsBeside below s → d ≤ write_count s →
    least_match m (bank_after s d) 0 ≡ cond (turned below m s d) (first_from m s.new s.b) (first_from m s.old s.a)
old-or-new true s m d h small =
    look-below s m d h small
    ∙ taken m (length s.old - (d - length s.new)) s.old s.a (first_from m (new_put s d) s.b)
    ∙ ap (cond (list_any m (old_left s d)) (first_from m s.old s.a)) (sym (or_none (first_from m (new_put s d) s.b)) ∙ taken m d s.new s.b None)
    ∙ below_case (list_any m (old_left s d)) (list_any m (new_put s d)) (nat_le (length s.new) d) (first_from m s.old s.a) (first_from m s.new s.b) (old_none s m d) (new_none s m d)
old-or-new false s m d h small =
    look-above s m d h small
    ∙ taken m d s.new s.b (first_from m (old_left s d) s.a)
    ∙ ap (cond (list_any m (new_put s d)) (first_from m s.new s.b)) (sym (or_none (first_from m (old_left s d) s.a)) ∙ taken m (length s.old - (d - length s.new)) s.old s.a None)
    ∙ above_case (list_any m (old_left s d)) (list_any m (new_put s d)) (nat_le (length s.new) d) (first_from m s.old s.a) (first_from m s.new s.b) (old_none s m d) (new_none s m d)

-- a longer front has the matches of a shorter one
more_step : (t u v : Bool) → (u ≡ true → v ≡ true) → t || u ≡ true → t || v ≡ true
more_step true u v f h = refl
more_step false u v f h = f h

more : {E : Type 0} (m : E → Bool) (i j : ℕ) (es : List E) → i ≤ j → list_any m (take i es) ≡ true → list_any m (take j es) ≡ true
more m zero j es le h = absurd (true≢false (sym h))
more m (suc i) j [] le h = absurd (true≢false (sym h))
more m (suc i) zero (e ∷ es) le h = absurd (omega (arith, le))
more m (suc i) (suc j) (e ∷ es) le h = more_step (m e) (list_any m (take i es)) (list_any m (take j es)) (more m i j es (omega (arith, le))) h

below_keeps : (t u v x y z : Bool) → (x ≡ true → t ≡ true) → (u ≡ true → y ≡ true) → (v ≡ true → z ≡ true) → not t && (u || v) ≡ true → not x && (y || z) ≡ true
below_keeps true u v x y z f g k h = absurd (true≢false (sym h))
below_keeps false u v true y z f g k h = absurd (true≢false (sym (f refl)))
below_keeps false u v false true z f g k h = refl
below_keeps false true v false false z f g k h = absurd (true≢false (sym (g refl)))
below_keeps false false v false false z f g k h = k h

above_keeps : (t u v x y z : Bool) → (x ≡ true → t ≡ true) → (u ≡ true → y ≡ true) → (v ≡ true → z ≡ true) → u || (v && not t) ≡ true → y || (z && not x) ≡ true
above_keeps t u v x true z f g k h = refl
above_keeps t true v x false z f g k h = absurd (true≢false (sym (g refl)))
above_keeps t false false x false z f g k h = absurd (true≢false (sym h))
above_keeps true false true x false z f g k h = absurd (true≢false (sym h))
above_keeps false false true true false z f g k h = absurd (true≢false (sym (f refl)))
above_keeps false false true false false true f g k h = refl
above_keeps false false true false false false f g k h = absurd (true≢false (sym (k refl)))

-- who has turned stays turned
pub turned-stays : {E : Type 0} (below : Bool) (s : Layout E) (m : E → Bool) (d e : ℕ) → d ≤ e → turned below m s d ≡ true → turned below m s e ≡ true
turned-stays true s m d e le =
    below_keeps (list_any m (old_left s d)) (list_any m (new_put s d)) (nat_le (length s.new) d) (list_any m (old_left s e)) (list_any m (new_put s e)) (nat_le (length s.new) e)
    (more m (length s.old - (e - length s.new)) (length s.old - (d - length s.new)) s.old (omega (arith, le))) (more m d e s.new le)
    (λ k. le-leb (length s.new) e (let all = leb-true (length s.new) d k in omega (arith, all, le)))
turned-stays false s m d e le =
    above_keeps (list_any m (old_left s d)) (list_any m (new_put s d)) (nat_le (length s.new) d) (list_any m (old_left s e)) (list_any m (new_put s e)) (nat_le (length s.new) e)
    (more m (length s.old - (e - length s.new)) (length s.old - (d - length s.new)) s.old (omega (arith, le))) (more m d e s.new le)
    (λ k. le-leb (length s.new) e (let all = leb-true (length s.new) d k in omega (arith, all, le)))

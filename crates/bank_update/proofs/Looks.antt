-- What a lookup finds in two blocks side by side.
use Rattle.std.proofs.Common.{◌≡◌, ◌∷◌, ◌++◌, ℕ, zero, suc, ◌+◌, ◌-◌, ◌≤◌, Bool, true, false, cond, List, [], Option, Some, None, length, replicate, take, refl, ap, sym, ◌∙◌, arith}
use Rattle.std.specs.Option.{option_or}
use Rattle.bank_update.specs.Banks.{least_match, first_from}
use Rattle.bank_update.specs.Writes.{Layout, IsBeside, write_count, bank_after, old_left, new_put}
use Rattle.bank_update.proofs.Front.{front}
use Rattle.bank_update.proofs.Stages.{kept, stage}

look_empty : {E : Type 0} (m : E → Bool) (n from : ℕ) → least_match m (replicate n None) from ≡ None
look_empty m zero from = refl
look_empty m (suc n) from = look_empty m n (suc from)

look_past : {E : Type 0} (m : E → Bool) (n : ℕ) (bank : List (Option E)) (from to : ℕ) → from + n ≡ to → least_match m (replicate n None ++ bank) from ≡ least_match m bank to
look_past m zero bank from to h = ap (least_match m bank) (omega (arith, h))
look_past m (suc n) bank from to h = look_past m n bank (suc from) to (omega (arith, h))

found_step : {X : Type 0} (t : Bool) (x : X) (o p q : Option X) → o ≡ option_or p q → cond t (Some x) o ≡ option_or (cond t (Some x) p) q
found_step true x o p q h = refl
found_step false x o p q h = h

-- first in the block, then behind it
look_front : {E : Type 0} (m : E → Bool) (n : ℕ) (es : List E) (bank : List (Option E)) (from to : ℕ) → from + length es ≡ to →
    least_match m (front n es ++ bank) from ≡ option_or (first_from m (take n es) from) (least_match m bank to)
look_front m zero [] bank from to h = ap (least_match m bank) (omega (arith, h))
look_front m (suc n) [] bank from to h = ap (least_match m bank) (omega (arith, h))
look_front m zero (e ∷ es) bank from to h = look_front m zero es bank (suc from) to (omega (arith, h))
look_front m (suc n) (e ∷ es) bank from to h =
    found_step (m e) (from, e) (least_match m (front n es ++ bank) (suc from)) (first_from m (take n es) (suc from)) (least_match m bank to) (look_front m n es bank (suc from) to (omega (arith, h)))

or_none : {X : Type 0} (o : Option X) → option_or o None ≡ o
or_none None = refl
or_none (Some x) = refl

-- in one block
pub look-block : {E : Type 0} (m : E → Bool) (i from rest : ℕ) (es : List E) →
    least_match m (replicate from None ++ (front i es ++ replicate rest None)) 0 ≡ first_from m (take i es) from
look-block m i from rest es =
    look_past m from (front i es ++ replicate rest None) 0 from (omega arith)
    ∙ look_front m i es (replicate rest None) from (from + length es) refl
    ∙ ap (option_or (first_from m (take i es) from)) (look_empty m rest (from + length es)) ∙ or_none (first_from m (take i es) from)

-- in two blocks, with nothing in front of them and behind them
look_blocks : {E : Type 0} (m : E → Bool) (i j from to rest : ℕ) (es fs : List E) → from + length es ≡ to →
    least_match m (replicate from None ++ (front i es ++ (front j fs ++ replicate rest None))) 0 ≡ option_or (first_from m (take i es) from) (first_from m (take j fs) to)
look_blocks m i j from to rest es fs h =
    look_past m from (front i es ++ (front j fs ++ replicate rest None)) 0 from (omega arith)
    ∙ look_front m i es (front j fs ++ replicate rest None) from to h
    ∙ ap (option_or (first_from m (take i es) from)) (look_front m j fs (replicate rest None) to (to + length fs) refl
    ∙ ap (option_or (first_from m (take j fs) to)) (look_empty m rest (to + length fs)) ∙ or_none (first_from m (take j fs) to))

pub look-below : {E : Type 0} (s : Layout E) (m : E → Bool) (d : ℕ) → IsBeside true s → d ≤ write_count s →
    least_match m (bank_after s d) 0 ≡ option_or (first_from m (old_left s d) s.a) (first_from m (new_put s d) s.b)
look-below s m d h small =
    ap (λ bank. least_match m bank 0) (stage true s d h small)
    ∙ look_blocks m (kept s d) d s.a s.b (s.slots - s.b - length s.new) s.old s.new (sym h.0)

pub look-above : {E : Type 0} (s : Layout E) (m : E → Bool) (d : ℕ) → IsBeside false s → d ≤ write_count s →
    least_match m (bank_after s d) 0 ≡ option_or (first_from m (new_put s d) s.b) (first_from m (old_left s d) s.a)
look-above s m d h small =
    ap (λ bank. least_match m bank 0) (stage false s d h small)
    ∙ look_blocks m d (kept s d) s.b s.a (s.slots - s.a - length s.old) s.new s.old h.0

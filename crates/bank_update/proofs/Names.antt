-- Look-ups by the names of the table whose block has the slot.
use Rattle.std.proofs.Common.{◌≡◌, ◌∷◌, ℕ, suc, ◌+◌, ◌≤◌, ◌<◌, Bool, true, false, ◌&&◌, cond, nat_le, nat_lt, List, [], Option, Some, length, refl, ap, ◌∙◌, arith, le-leb, lt-ltb, le-ltb, leb-true}
use Rattle.std.specs.Prelude.{find, option_and_then}
use Rattle.bank_update.specs.Banks.{first_from, least_match}
use Rattle.bank_update.specs.Writes.{Layout, IsBeside, bank_after, write_count, turned, in_block}
use Rattle.bank_update.proofs.Turns.{old-or-new}

-- the name of what a table answers
abbrev pub named_answer : {E N : Type 0} → (E → Option N) → (E → Bool) → List E → Option N
named_answer name m entries = option_and_then name (find m entries)

-- the name of a found entry in the table whose block has its slot: the settled one's, or else the pending one's
abbrev pub name_in : {E N : Type 0} → Layout E → (E → Option N) → (E → Option N) → ℕ × E → Option N
name_in s p q r = cond (in_block s.a (length s.old) r.0) (p r.1) (q r.1)

name_step : {E N : Type 0} (g : ℕ × E → Option N) (p : E → Option N) (t : Bool) (k : ℕ) (e : E) (o : Option (ℕ × E)) (r : Option E) → g (k, e) ≡ p e →
    option_and_then g o ≡ option_and_then p r → option_and_then g (cond t (Some (k, e)) o) ≡ option_and_then p (cond t (Some e) r)
name_step g p true k e o r here h = here
name_step g p false k e o r here h = h

-- names that agree on the slots of the table
pub first_named : {E N : Type 0} (g : ℕ × E → Option N) (p : E → Option N) (m : E → Bool) (es : List E) (from to : ℕ) → from + length es ≡ to →
    ((k : ℕ) (e : E) → from ≤ k → k < to → g (k, e) ≡ p e) → option_and_then g (first_from m es from) ≡ named_answer p m es
first_named g p m [] from to h same = refl
first_named g p m (e ∷ es) from to h same =
    name_step g p (m e) from e (first_from m es (suc from)) (find m es) (same from e (omega arith) (omega (arith, h)))
    (first_named g p m es (suc from) to (omega (arith, h)) (λ k d low high. same k d (omega (arith, low)) high))

pub inside : (from count slot : ℕ) → from ≤ slot → slot < from + count → in_block from count slot ≡ true
inside from count slot low high = ap (λ t. t && nat_lt slot (from + count)) (le-leb from slot low) ∙ lt-ltb slot (from + count) high

outside_step : (t u : Bool) → (t ≡ true → u ≡ false) → t && u ≡ false
outside_step true u f = f refl
outside_step false u f = refl

-- the slots of the new block aren't of the old one
pub apart : {E : Type 0} (below : Bool) (s : Layout E) (k : ℕ) → IsBeside below s → s.b ≤ k → k < s.b + length s.new → in_block s.a (length s.old) k ≡ false
apart true s k h low high = outside_step (nat_le s.a k) (nat_lt k (s.a + length s.old)) (λ _. le-ltb k (s.a + length s.old) (omega (arith, h.0, low)))
apart false s k h low high = outside_step (nat_le s.a k) (nat_lt k (s.a + length s.old)) (λ t. absurd (omega (arith, leb-true s.a k t, h.0, high)))

old_named : {E N : Type 0} (s : Layout E) (p q : E → Option N) (m : E → Bool) → option_and_then (name_in s p q) (first_from m s.old s.a) ≡ named_answer p m s.old
old_named s p q m =
    first_named (name_in s p q) p m s.old s.a (s.a + length s.old) refl
    (λ k e low high. ap (λ t. cond t (p e) (q e)) (inside s.a (length s.old) k low high))

new_named : {E N : Type 0} (below : Bool) (s : Layout E) (p q : E → Option N) (m : E → Bool) → IsBeside below s → option_and_then (name_in s p q) (first_from m s.new s.b) ≡ named_answer q m s.new
new_named below s p q m h =
    first_named (name_in s p q) q m s.new s.b (s.b + length s.new) refl
    (λ k e low high. ap (λ t. cond t (p e) (q e)) (apart below s k h low high))

pub named_case : {X Y : Type 0} (f : X → Y) (t : Bool) (x y : X) (v w : Y) → f x ≡ v → f y ≡ w → f (cond t x y) ≡ cond t v w
named_case f true x y v w h k = h
named_case f false x y v w h k = k

pub answered : {E N : Type 0} (below : Bool) (s : Layout E) (p q : E → Option N) (m : E → Bool) (d : ℕ) → IsBeside below s → d ≤ write_count s →
    option_and_then (name_in s p q) (least_match m (bank_after s d) 0) ≡ cond (turned below m s d) (named_answer q m s.new) (named_answer p m s.old)
answered below s p q m d h small =
    ap (option_and_then (name_in s p q)) (old-or-new below s m d h small)
    ∙ named_case (option_and_then (name_in s p q)) (turned below m s d) (first_from m s.new s.b) (first_from m s.old s.a) (named_answer q m s.new) (named_answer p m s.old)
    (new_named below s p q m h) (old_named s p q m)

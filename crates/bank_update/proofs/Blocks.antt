-- A bank with two blocks of slots side by side.
use Rattle.std.proofs.Common.{◌≡◌, ◌++◌, ℕ, ◌+◌, ◌-◌, ◌≤◌, ◌<◌, Bool, true, false, List, [], Option, Some, None, length, map, replicate, set, ap, sym, ◌∙◌, arith, append_assoc}
use Rattle.std.proofs.lemmas.List.{length-replicate, replicate-append-replicate}
use Rattle.bank_update.specs.Banks.{alone}
use Rattle.bank_update.specs.Writes.{Layout, IsBeside}
use Rattle.bank_update.proofs.Front.{front, length-front, front-all, front-none, set-second, set-third}

-- the bank with the first i old entries and the first j new ones
abbrev pub blocks : {E : Type 0} → Bool → Layout E → ℕ → ℕ → List (Option E)
blocks true s i j = replicate s.a None ++ (front i s.old ++ (front j s.new ++ replicate (s.slots - s.b - length s.new) None))
blocks false s i j = replicate s.b None ++ (front j s.new ++ (front i s.old ++ replicate (s.slots - s.a - length s.old) None))

pub set-new : {E : Type 0} (below : Bool) (s : Layout E) (i j n k : ℕ) (v : Option E) → IsBeside below s → k < length s.new → set (front j s.new) k v ≡ front n s.new →
    set (blocks below s i j) (s.b + k) v ≡ blocks below s i n
set-new {E = E} true s i j n k v h small e =
    set-third (replicate s.a None) (front i s.old) (front j s.new) (front n s.new) (replicate (s.slots - s.b - length s.new) None) (s.b + k) k v
    (omega (arith, h.0, length-replicate {A = Option E} s.a None, length-front i s.old)) (omega (arith, small, length-front j s.new)) e
set-new {E = E} false s i j n k v h small e =
    set-second (replicate s.b None) (front j s.new) (front n s.new) (front i s.old ++ replicate (s.slots - s.a - length s.old) None) (s.b + k) k v
    (omega (arith, length-replicate {A = Option E} s.b None)) (omega (arith, small, length-front j s.new)) e

pub set-old : {E : Type 0} (below : Bool) (s : Layout E) (i j n k : ℕ) (v : Option E) → IsBeside below s → k < length s.old → set (front i s.old) k v ≡ front n s.old →
    set (blocks below s i j) (s.a + k) v ≡ blocks below s n j
set-old {E = E} true s i j n k v h small e =
    set-second (replicate s.a None) (front i s.old) (front n s.old) (front j s.new ++ replicate (s.slots - s.b - length s.new) None) (s.a + k) k v
    (omega (arith, length-replicate {A = Option E} s.a None)) (omega (arith, small, length-front i s.old)) e
set-old {E = E} false s i j n k v h small e =
    set-third (replicate s.b None) (front j s.new) (front i s.old) (front n s.old) (replicate (s.slots - s.a - length s.old) None) (s.a + k) k v
    (omega (arith, h.0, length-replicate {A = Option E} s.b None, length-front j s.new)) (omega (arith, small, length-front i s.old)) e

-- a table alone, with an empty block in front of it
gap_before : {E : Type 0} (slots x y from : ℕ) (es : List E) → from ≡ x + y →
    replicate x None ++ (replicate y None ++ (map (λ e. Some e) es ++ replicate (slots - from - length es) None)) ≡ alone slots from es
gap_before slots x y from es h =
    sym (append_assoc (replicate x None) (replicate y None) (map (λ e. Some e) es ++ replicate (slots - from - length es) None))
    ∙ ap (λ r. r ++ (map (λ e. Some e) es ++ replicate (slots - from - length es) None)) (replicate-append-replicate x y None ∙ ap (λ n. replicate n None) (sym h))

-- and behind it
gap_after : {E : Type 0} (slots from y z : ℕ) (es : List E) → slots - from - length es ≡ y + z →
    replicate from None ++ (map (λ e. Some e) es ++ (replicate y None ++ replicate z None)) ≡ alone slots from es
gap_after slots from y z es h =
    ap (λ r. replicate from None ++ (map (λ e. Some e) es ++ r)) (replicate-append-replicate y z None ∙ ap (λ n. replicate n None) (sym h))

-- where all old entries stand and no new one
pub old-alone : {E : Type 0} (below : Bool) (s : Layout E) (i : ℕ) → IsBeside below s → length s.old ≤ i → blocks below s i 0 ≡ alone s.slots s.a s.old
old-alone true s i h all =
    ap (λ r. replicate s.a None ++ (r ++ (front 0 s.new ++ replicate (s.slots - s.b - length s.new) None))) (front-all i s.old all)
    ∙ ap (λ r. replicate s.a None ++ (map (λ e. Some e) s.old ++ (r ++ replicate (s.slots - s.b - length s.new) None))) (front-none s.new)
    ∙ gap_after s.slots s.a (length s.new) (s.slots - s.b - length s.new) s.old (omega (arith, h.0, h.1))
old-alone false s i h all =
    ap (λ r. replicate s.b None ++ (front 0 s.new ++ (r ++ replicate (s.slots - s.a - length s.old) None))) (front-all i s.old all)
    ∙ ap (λ r. replicate s.b None ++ (r ++ (map (λ e. Some e) s.old ++ replicate (s.slots - s.a - length s.old) None))) (front-none s.new)
    ∙ gap_before s.slots s.b (length s.new) s.a s.old (sym h.0)

-- where all new entries stand and no old one
pub new-alone : {E : Type 0} (below : Bool) (s : Layout E) (j : ℕ) → IsBeside below s → length s.new ≤ j → blocks below s 0 j ≡ alone s.slots s.b s.new
new-alone true s j h all =
    ap (λ r. replicate s.a None ++ (front 0 s.old ++ (r ++ replicate (s.slots - s.b - length s.new) None))) (front-all j s.new all)
    ∙ ap (λ r. replicate s.a None ++ (r ++ (map (λ e. Some e) s.new ++ replicate (s.slots - s.b - length s.new) None))) (front-none s.old)
    ∙ gap_before s.slots s.a (length s.old) s.b s.new h.0
new-alone false s j h all =
    ap (λ r. replicate s.b None ++ (r ++ (front 0 s.old ++ replicate (s.slots - s.a - length s.old) None))) (front-all j s.new all)
    ∙ ap (λ r. replicate s.b None ++ (map (λ e. Some e) s.new ++ (r ++ replicate (s.slots - s.a - length s.old) None))) (front-none s.old)
    ∙ gap_after s.slots s.b (length s.old) (s.slots - s.a - length s.old) s.new (omega (arith, h.0, h.1))

-- a table of no entries stands anywhere
pub alone-empty : {E : Type 0} (slots from : ℕ) → from ≤ slots → alone {E = E} slots from [] ≡ replicate slots None
alone-empty slots from h = replicate-append-replicate from (slots - from - 0) None ∙ ap (λ n. replicate n None) (omega (arith, h))

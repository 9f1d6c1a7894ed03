-- The first place in a list at which a test passes.
use Rattle.std.proofs.Common.{◌≡◌, ◌∷◌, ℕ, suc, ◌+◌, ◌<◌, ◌≤◌, List, Bool, true, false, cond, ap, refl, arith, length, Some, None, nat_lt}
use Rattle.std.specs.Prelude.{position, option_map, not}
use Rattle.std.specs.List.{position_or_len}
use Rattle.std.proofs.lemmas.Bool.{ltb-true, ltb-false, lt-ltb, le-ltb}
use Rattle.std.proofs.lemmas.Bool.Decides.{nat_tests}

found_or_not : (n len : ℕ) (t : Bool) → nat_lt n len ≡ t → cond (nat_lt (1 + n) (suc len)) (Some (1 + n)) None ≡ option_map (λ i. i + 1) (cond t (Some n) None)
found_or_not n len true h =
    let lt : n < len = ltb-true n len h in
    let e : nat_lt (1 + n) (suc len) ≡ true = lt-ltb (1 + n) (suc len) (omega arith) in
    let same : 1 + n ≡ n + 1 = omega arith in
    rw e (ap Some same)
found_or_not n len false h =
    let le : len ≤ n = ltb-false n len h in
    let e : nat_lt (1 + n) (suc len) ≡ false = le-ltb (1 + n) (suc len) (omega arith) in
    rw e refl

position_step : (t : Bool) (n len : ℕ) → cond (nat_lt (cond (not t) (1 + n) 0) (suc len)) (Some (cond (not t) (1 + n) 0)) None ≡ cond t (Some 0) (option_map (λ i. i + 1) (cond (nat_lt n len) (Some n) None))
position_step true n len = let e : nat_lt 0 (suc len) ≡ true = grind (arith, nat_tests) in rw e refl
position_step false n len = found_or_not n len (nat_lt n len) refl

-- in a list of one more
pub position-cons : {X : Type 0} (p : X → Bool) (x : X) (xs : List X) → position p (x ∷ xs) ≡ cond (p x) (Some 0) (option_map (λ i. i + 1) (position p xs))
position-cons p x xs = position_step (p x) (position_or_len p xs) (length xs)

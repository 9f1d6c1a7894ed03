-- How many places are below a number, when one of them is lowered or one more is laid.
use Rattle.std.proofs.Common.{◌≡◌, ◌⊎◌, ◌≢◌, ◌≤◌, ◌<◌, ◌∷◌, ◌++◌, ℕ, zero, suc, Bool, if◌then◌else◌, List, [], length, set, inl, inr, refl, ap, arith, get_or}
use Rattle.slot_patch.specs.Piles.{AreLowered, IsTaken, below, laid}

-- in front of as many or more a place that is no greater
cons_lowered : (n p q : ℕ) (xs ys : List ℕ) → q ≤ p → below n xs ≤ below n ys → below n (p ∷ xs) ≤ below n (q ∷ ys)
cons_lowered n p q xs ys le h = grind arith

-- of all piles the place at k isn't above what is laid there
abbrev pub IsNoLess : List ℕ → ℕ → ℕ → Type 0
IsNoLess xs k x = k < length xs → x ≤ get_or xs k 0

tail_less : (y : ℕ) (xs : List ℕ) (k x : ℕ) → IsNoLess (y ∷ xs) (suc k) x → IsNoLess xs k x
tail_less y xs k x h = λ less. h (omega (arith, less))

pub laid-lowered : (xs : List ℕ) (k x : ℕ) → IsNoLess xs k x → AreLowered xs (laid xs k x)
laid-lowered [] k x h = λ n. omega arith
laid-lowered (y ∷ xs) zero x h = λ n. cons_lowered n y x xs xs (h (omega arith)) (omega arith)
laid-lowered (y ∷ xs) (suc k) x h = λ n. cons_lowered n y y xs (laid xs k x) (omega arith) (laid-lowered xs k x (tail_less y xs k x h) n)

pub below-more : (n : ℕ) (xs : List ℕ) → below n xs ≤ below (suc n) xs
below-more n [] = omega arith
below-more n (p ∷ xs) = grind (arith, below-more n xs)

-- the place that was laid is below the next number, and none was there
pub laid-taken : (xs : List ℕ) (k x : ℕ) → k ≤ length xs → IsNoLess xs k x → IsTaken x xs (laid xs k x)
laid-taken [] k x le h = grind arith
laid-taken (y ∷ xs) zero x le h = let above = h (omega arith) in grind (arith, above, below-more x xs)
laid-taken (y ∷ xs) (suc k) x le h = let rest = laid-taken xs k x (omega (arith, le)) (tail_less y xs k x h) in grind (arith, rest)

pub lowered-on : (a b c : List ℕ) → AreLowered a b → AreLowered b c → AreLowered a c
lowered-on a b c f g = λ n. let x = f n in let y = g n in omega (arith, x, y)

-- what is taken on the way stays taken
pub taken-on : (place : ℕ) (a b c d : List ℕ) → AreLowered a b → IsTaken place b c → AreLowered c d → IsTaken place a d
taken-on place a b c d f t g = let x = f place in let y = g (suc place) in omega (arith, x, t, y)

pub below-all : (n : ℕ) (xs : List ℕ) → below n xs ≤ length xs
below-all n [] = omega arith
below-all n (p ∷ xs) = grind (arith, below-all n xs)

-- a list with an item laid

pub length-laid : {X : Type 0} (xs : List X) (k : ℕ) (x : X) → k ≤ length xs → (n : ℕ) → n < length (laid xs k x) → (n < length xs) ⊎ (n ≡ k)
length-laid [] k x le n h = inr (omega (arith, le, h))
length-laid (y ∷ xs) zero x le n h = inl (omega (arith, h))
length-laid (y ∷ xs) (suc k) x le zero h = inl (omega arith)
length-laid (y ∷ xs) (suc k) x le (suc n) h = let rest = length-laid xs k x (omega (arith, le)) n (omega (arith, h)) in grind (arith, rest)

pub laid-same-length : {X Y : Type 0} (xs : List X) (ys : List Y) (k : ℕ) (x : X) (y : Y) → length xs ≡ length ys → length (laid xs k x) ≡ length (laid ys k y)
laid-same-length [] [] k x y h = refl
laid-same-length (a ∷ xs) (b ∷ ys) zero x y h = h
laid-same-length (a ∷ xs) (b ∷ ys) (suc k) x y h = ap suc (laid-same-length xs ys k x y (omega (arith, h)))
laid-same-length xs ys k x y h = absurd (omega (arith, h))

pub at-laid : {X : Type 0} (xs : List X) (k : ℕ) (x d : X) → k ≤ length xs → get_or (laid xs k x) k d ≡ x
at-laid [] zero x d h = refl
at-laid [] (suc k) x d h = absurd (omega (arith, h))
at-laid (y ∷ xs) zero x d h = refl
at-laid (y ∷ xs) (suc k) x d h = at-laid xs k x d (omega (arith, h))

pub beside-laid : {X : Type 0} (xs : List X) (k n : ℕ) (x d : X) → k ≤ length xs → n ≢ k → get_or (laid xs k x) n d ≡ get_or xs n d
beside-laid [] zero zero x d h apart = absurd (apart refl)
beside-laid [] zero (suc n) x d h apart = refl
beside-laid [] (suc k) n x d h apart = absurd (omega (arith, h))
beside-laid (y ∷ xs) zero zero x d h apart = absurd (apart refl)
beside-laid (y ∷ xs) zero (suc n) x d h apart = refl
beside-laid (y ∷ xs) (suc k) zero x d h apart = refl
beside-laid (y ∷ xs) (suc k) (suc n) x d h apart = beside-laid xs k n x d (omega (arith, h)) (λ same. apart (ap suc same))

pub push-laid : {X : Type 0} (xs : List X) (k : ℕ) (x : X) → k ≡ length xs → xs ++ x ∷ [] ≡ laid xs k x
push-laid {X = X} [] k x h = refl
push-laid {X = X} (y ∷ xs) zero x h = absurd (omega (arith, h))
push-laid {X = X} (y ∷ xs) (suc k) x h = ap (λ (zs : List X). y ∷ zs) (push-laid xs k x (omega (arith, h)))

pub set-laid : {X : Type 0} (xs : List X) (k : ℕ) (x : X) → k < length xs → set xs k x ≡ laid xs k x
set-laid {X = X} [] k x h = absurd (omega (arith, h))
set-laid {X = X} (y ∷ xs) zero x h = refl
set-laid {X = X} (y ∷ xs) (suc k) x h = ap (λ (zs : List X). y ∷ zs) (set-laid xs k x (omega (arith, h)))

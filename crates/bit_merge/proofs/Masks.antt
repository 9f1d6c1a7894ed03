-- Words as a mask and a value: which can be joined, and their join.
use Rattle.std.proofs.Common.{◌≡◌, ◌∷◌, ℕ, List, [], ◌≤◌, length, arith, ap, refl, sym, ◌∙◌, subst, Bool, true, false, suc, not, ◌&&◌, cond, true≢false}
use Rattle.std.specs.Bool.{beq}
use Rattle.ternary_words.specs.Headline.Word.{Trit}
use Rattle.ternary_words.specs.Word.{trit, trits}
use Rattle.bit_merge.specs.Merge.{HaveSameStars, differing, CanJoin, join, same_trit, is_star}

-- the mask and the bits in which two values differ: mask & (a ^ b)
abbrev pub unlike_bits : List Bool → List Bool → List Bool → List Bool
unlike_bits [] xs ys = []
unlike_bits (m ∷ ms) [] ys = []
unlike_bits (m ∷ ms) (a ∷ xs) [] = []
unlike_bits (m ∷ ms) (a ∷ xs) (b ∷ ys) = (m && not (beq a b)) ∷ unlike_bits ms xs ys

-- the bits of the first that the second doesn't have: mask & !unlike
abbrev pub without_bits : List Bool → List Bool → List Bool
without_bits [] us = []
without_bits (m ∷ ms) [] = []
without_bits (m ∷ ms) (u ∷ us) = (m && not u) ∷ without_bits ms us

abbrev pub ones : List Bool → ℕ
ones [] = 0
ones (b ∷ ys) = cond b (suc (ones ys)) (ones ys)

-- the bits of both: mask & value
abbrev pub both_bits : List Bool → List Bool → List Bool
both_bits [] xs = []
both_bits (m ∷ ms) [] = []
both_bits (m ∷ ms) (x ∷ xs) = (m && x) ∷ both_bits ms xs

star_bits : (m n : Bool) (a b : Bool) → is_star (trit m a) ≡ is_star (trit n b) → m ≡ n
star_bits true false a b e = absurd (true≢false (sym e))
star_bits false true a b e = absurd (true≢false e)
star_bits m n a b e = refl

pub stars-masks : (ms ns xs ys : List Bool) → length ms ≡ length xs → length ns ≡ length ys → HaveSameStars (trits ms xs) (trits ns ys) → ms ≡ ns
stars-masks [] [] xs ys l k h = refl
stars-masks [] (n ∷ ns) xs (y ∷ ys) l k h = absurd h
stars-masks (m ∷ ms) [] (x ∷ xs) ys l k h = absurd h
stars-masks (m ∷ ms) (n ∷ ns) (x ∷ xs) (y ∷ ys) l k h =
    let e = star_bits m n x y h.0 in
    let f = stars-masks ms ns xs ys (omega (arith, l)) (omega (arith, k)) h.1 in cc
stars-masks ms ns xs ys l k h = absurd (omega arith)

star_same : (m a b : Bool) → is_star (trit m a) ≡ is_star (trit m b)
star_same true a b = refl
star_same false a b = refl

pub masks-stars : (ms xs ys : List Bool) → length ms ≡ length xs → length ms ≡ length ys → HaveSameStars (trits ms xs) (trits ms ys)
masks-stars [] xs ys l k = tt
masks-stars (m ∷ ms) (x ∷ xs) (y ∷ ys) l k = (star_same m x y, masks-stars ms xs ys (omega (arith, l)) (omega (arith, k)))
masks-stars ms xs ys l k = absurd (omega arith)

same_bits : (m a b : Bool) → same_trit (trit m a) (trit m b) ≡ not (m && not (beq a b))
same_bits true true false = refl
same_bits true false true = refl
same_bits m a b = refl

count_step : (t : Bool) (n k : ℕ) → n ≡ k → cond (not t) n (suc n) ≡ cond t (suc k) k
count_step true n k e = ap suc e
count_step false n k e = e

pub differing-ones : (ms xs ys : List Bool) → length ms ≡ length xs → length ms ≡ length ys → differing (trits ms xs) (trits ms ys) ≡ ones (unlike_bits ms xs ys)
differing-ones [] xs ys l k = refl
differing-ones (m ∷ ms) (x ∷ xs) (y ∷ ys) l k =
    let n = differing (trits ms xs) (trits ms ys) in
    ap (λ t. cond t n (suc n)) (same_bits m x y)
    ∙ count_step (m && not (beq x y)) n (ones (unlike_bits ms xs ys)) (differing-ones ms xs ys (omega (arith, l)) (omega (arith, k)))
differing-ones ms xs ys l k = absurd (omega arith)

join_bits : (m a b : Bool) → cond (same_trit (trit m a) (trit m b)) (trit m a) (let s : Trit = trit false a in s) ≡ trit (m && not (m && not (beq a b))) a
join_bits true true false = refl
join_bits true false true = refl
join_bits m a b = refl

pub join-masks : (ms xs ys : List Bool) → length ms ≡ length xs → length ms ≡ length ys → join (trits ms xs) (trits ms ys) ≡ trits (without_bits ms (unlike_bits ms xs ys)) xs
join-masks [] xs ys l k = refl
join-masks (m ∷ ms) (x ∷ xs) (y ∷ ys) l k =
    let e = join_bits m x y in
    let f = join-masks ms xs ys (omega (arith, l)) (omega (arith, k)) in cc
join-masks ms xs ys l k = absurd (omega arith)

pub can-join-masks : (ms ns xs ys : List Bool) → length ms ≡ length xs → length ns ≡ length ys → CanJoin (trits ms xs) (trits ns ys) → (ms ≡ ns) × (ones (unlike_bits ms xs ys) ≤ 1)
can-join-masks ms ns xs ys l k h =
    let e = stars-masks ms ns xs ys l k h.0 in
    (e, omega (arith, differing-ones ms xs ys l (ap length e ∙ k), subst (λ z. differing (trits ms xs) (trits z ys) ≤ 1) (sym e) h.1))

pub masks-can-join : (ms xs ys : List Bool) → length ms ≡ length xs → length ms ≡ length ys → ones (unlike_bits ms xs ys) ≤ 1 → CanJoin (trits ms xs) (trits ms ys)
masks-can-join ms xs ys l k h = (masks-stars ms xs ys l k, omega (arith, differing-ones ms xs ys l k))

clear_bits : (m x : Bool) → trit m x ≡ trit m (m && x)
clear_bits true x = refl
clear_bits false x = refl

-- bits outside the mask don't matter
pub clear-masks : (ms xs : List Bool) → trits ms xs ≡ trits ms (both_bits ms xs)
clear-masks (m ∷ ms) (x ∷ xs) = let e = clear_bits m x in let f = clear-masks ms xs in cc
clear-masks ms xs = refl

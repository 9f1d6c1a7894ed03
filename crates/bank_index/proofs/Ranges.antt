-- Numbers that rise one by one.
use Rattle.std.proofs.Common.{◌≡◌, ℕ, zero, suc, ◌+◌, List, [], ◌∷◌, ◌++◌, ap, sym, ◌∙◌, arith, add-one}
use Rattle.std.specs.List.{range_with_len}

last_number : (a n : ℕ) → range_with_len a (suc n) ≡ range_with_len a n ++ (a + n) ∷ []
last_number a zero = ap (λ x. x ∷ []) (let e : a ≡ a + 0 = omega arith in e)
last_number a (suc n) = ap (λ xs. a ∷ xs) (last_number (a + 1) n ∙ ap (λ x. range_with_len (a + 1) n ++ x ∷ []) (let e : a + 1 + n ≡ a + suc n = omega arith in e))

-- one number more
pub number_more : (n : ℕ) → range_with_len 0 n ++ n ∷ [] ≡ range_with_len 0 (n + 1)
number_more n = ap (λ x. range_with_len 0 n ++ x ∷ []) (let e : n ≡ 0 + n = omega arith in e) ∙ sym (last_number 0 n) ∙ ap (range_with_len 0) (sym (add-one n))

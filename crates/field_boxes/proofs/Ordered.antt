-- The order of headers is total.
use Rattle.std.proofs.Common.{◌≡◌, ◌∷◌, ℕ, List, [], ◌<◌, refl, inl, inr, arith, length, sym}
use Rattle.std.specs.Prelude.{◌⊎◌}
use Rattle.field_boxes.specs.Fields.{ComesBefore}

three : (x y : ℕ) → (x < y) ⊎ ((x ≡ y) ⊎ (y < x))
three x y = grind arith

step : (x y : ℕ) (xs ys : List ℕ) → (ComesBefore xs ys ⊎ (xs ≡ ys) ⊎ ComesBefore ys xs) → ((x < y) ⊎ ((x ≡ y) ⊎ (y < x))) →
    ComesBefore (x ∷ xs) (y ∷ ys) ⊎ (x ∷ xs ≡ y ∷ ys) ⊎ ComesBefore (y ∷ ys) (x ∷ xs)
step x y xs ys h (inl less) = inl (inl less)
step x y xs ys h (inr (inr more)) = inr (inr (inl more))
step x y xs ys (inl before) (inr (inl same)) = inl (inr (same, before))
step x y xs ys (inr (inl equal)) (inr (inl same)) = inr (inl cc)
step x y xs ys (inr (inr after)) (inr (inl same)) = inr (inr (inr (sym same, after)))

pub ordered : (xs ys : List ℕ) → length xs ≡ length ys → ComesBefore xs ys ⊎ (xs ≡ ys) ⊎ ComesBefore ys xs
ordered [] [] e = inr (inl refl)
ordered [] (y ∷ ys) e = absurd (omega (arith, e))
ordered (x ∷ xs) [] e = absurd (omega (arith, e))
ordered (x ∷ xs) (y ∷ ys) e = step x y xs ys (ordered xs ys (omega (arith, e))) (three x y)

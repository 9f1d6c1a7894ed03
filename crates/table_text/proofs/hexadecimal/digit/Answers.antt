use Rattle.std.proofs.Common.{◌≡◌, ◌%◌, ◌∷◌, [], ℕ, zero, suc, ◌<◌, List, slice_index_or, refl, arith}
use Rattle.table_text.specs.Headline.Hexadecimal.{hex_digit}
use Rattle.table_text.proofs.hexadecimal.digit.Goals as goal

abbrev digits : List ℕ
digits = 48 ∷ 49 ∷ 50 ∷ 51 ∷ 52 ∷ 53 ∷ 54 ∷ 55 ∷ 56 ∷ 57 ∷ 65 ∷ 66 ∷ 67 ∷ 68 ∷ 69 ∷ 70 ∷ []

-- each digit stands at its place
at_place : (n : ℕ) → n < 16 → slice_index_or digits n 0 ≡ hex_digit n
at_place zero h = refl
at_place (suc zero) h = refl
at_place (suc (suc zero)) h = refl
at_place (suc (suc (suc zero))) h = refl
at_place (suc (suc (suc (suc zero)))) h = refl
at_place (suc (suc (suc (suc (suc zero))))) h = refl
at_place (suc (suc (suc (suc (suc (suc zero)))))) h = refl
at_place (suc (suc (suc (suc (suc (suc (suc zero))))))) h = refl
at_place (suc (suc (suc (suc (suc (suc (suc (suc zero)))))))) h = refl
at_place (suc (suc (suc (suc (suc (suc (suc (suc (suc zero))))))))) h = refl
at_place (suc (suc (suc (suc (suc (suc (suc (suc (suc (suc zero)))))))))) h = refl
at_place (suc (suc (suc (suc (suc (suc (suc (suc (suc (suc (suc zero))))))))))) h = refl
at_place (suc (suc (suc (suc (suc (suc (suc (suc (suc (suc (suc (suc zero)))))))))))) h = refl
at_place (suc (suc (suc (suc (suc (suc (suc (suc (suc (suc (suc (suc (suc zero))))))))))))) h = refl
at_place (suc (suc (suc (suc (suc (suc (suc (suc (suc (suc (suc (suc (suc (suc zero)))))))))))))) h = refl
at_place (suc (suc (suc (suc (suc (suc (suc (suc (suc (suc (suc (suc (suc (suc (suc zero))))))))))))))) h = refl
at_place (suc (suc (suc (suc (suc (suc (suc (suc (suc (suc (suc (suc (suc (suc (suc (suc n)))))))))))))))) h = absurd (omega arith)

pub returns : goal.returns
returns c = at_place (c.args.number % 16) (omega arith)

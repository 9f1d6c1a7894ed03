-- Rows with a flag each.
use Rattle.std.proofs.Common.{◌≡◌, ◌∷◌, ◌++◌, List, [], Bool, length, refl, ap, arith}
use Rattle.redundancy_laws.specs.Rows.{Row}
use Rattle.redundancy_laws.specs.Marks.{all_of, marked}

pub marked-append : (rows more : List Row) (flags others : List Bool) → length flags ≡ length rows → marked (rows ++ more) (flags ++ others) ≡ marked rows flags ++ marked more others
marked-append [] more [] others e = refl
marked-append [] more (b ∷ flags) others e = absurd (omega (arith, e))
marked-append (r ∷ rows) more [] others e = absurd (omega (arith, e))
marked-append (r ∷ rows) more (b ∷ flags) others e = ap (λ ms. record { row = r; kept = b } ∷ ms) (marked-append rows more flags others (omega (arith, e)))

pub all-marked : (rows : List Row) (flags : List Bool) → length flags ≡ length rows → all_of (marked rows flags) ≡ rows
all-marked [] flags e = refl
all-marked (r ∷ rows) [] e = absurd (omega (arith, e))
all-marked (r ∷ rows) (b ∷ flags) e = ap (λ rs. r ∷ rs) (all-marked rows flags (omega (arith, e)))

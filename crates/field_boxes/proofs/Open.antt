-- Sets that have every value of their field, and the rule of such sets.
use Rattle.std.proofs.Common.{◌≡◌, ◌∷◌, ℕ, ◌≤◌, List, [], true, false, refl, ap, arith, le-leb}
use Rattle.std.specs.Prelude.{◌||◌, nat_le}
use Rattle.std.proofs.lemmas.Bool.{and_from}
use Rattle.field_boxes.specs.Headline.Classifier.{Interval, matches, union_holds}
use Rattle.field_boxes.specs.Headline.Fields.{stated, IsHeader}

abbrev pub whole : ℕ → List Interval
whole g = record { lo = 0; hi = g } ∷ []

pub up_to : (v g : ℕ) → v ≤ g → union_holds v (whole g) ≡ true
up_to v g h = ap (λ t. t || false) (and_from (nat_le 0 v) (nat_le v g) (le-leb 0 v (omega arith)) (le-leb v g h))

pub open-matches : (ports : List Interval) (decision : ℕ) → ((v : ℕ) → v ≤ 65535 → union_holds v ports ≡ true) → (header : List ℕ) → IsHeader header →
    matches stated header (record { sets = whole 4294967295 ∷ whole 4294967295 ∷ ports ∷ ports ∷ whole 255 ∷ []; decision = decision }) ≡ true
open-matches ports decision all [] h = absurd h
open-matches ports decision all (a ∷ []) h = absurd h.1
open-matches ports decision all (a ∷ b ∷ []) h = absurd h.1.1
open-matches ports decision all (a ∷ b ∷ c ∷ []) h = absurd h.1.1.1
open-matches ports decision all (a ∷ b ∷ c ∷ d ∷ []) h = absurd h.1.1.1.1
open-matches ports decision all (a ∷ b ∷ c ∷ d ∷ e ∷ []) h =
    and_from _ _ (up_to a 4294967295 (omega (arith, h.0)))
    (and_from _ _ (up_to b 4294967295 (omega (arith, h.1.0)))
    (and_from _ _ (all c (omega (arith, h.1.1.0))) (and_from _ _ (all d (omega (arith, h.1.1.1.0))) (and_from _ _ (up_to e 255 (omega (arith, h.1.1.1.1.0))) refl))))
open-matches ports decision all (a ∷ b ∷ c ∷ d ∷ e ∷ f ∷ header) h = absurd h.1.1.1.1.1

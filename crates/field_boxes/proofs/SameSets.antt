-- What a rule decides has no part in whether it matches.
use Rattle.std.proofs.Common.{◌≡◌, ◌∷◌, ℕ, List, [], refl, ap, ◌∙◌}
use Rattle.std.specs.Prelude.{◌&&◌, slice_get, unwrap_or}
use Rattle.field_boxes.specs.Headline.Classifier.{Rule, union_holds, set_holds, matches}

pub matches_by_sets : {A B : Type 0} (fields values : List ℕ) (r : Rule A) (s : Rule B) → r.sets ≡ s.sets → matches fields values r ≡ matches fields values s
matches_by_sets [] values r s e = refl
matches_by_sets (f ∷ fields) [] r s e = refl
matches_by_sets (f ∷ fields) (v ∷ values) r s e =
    ap (λ sets. union_holds v (unwrap_or (slice_get sets f) []) && matches fields values r) e
    ∙ ap (λ b. set_holds f v s && b) (matches_by_sets fields values r s e)

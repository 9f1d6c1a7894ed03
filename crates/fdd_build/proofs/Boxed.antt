-- A box and a rule with the same sets.
use Rattle.std.proofs.Common.{◌≡◌, ◌∷◌, ℕ, List, [], refl, ap, ◌∙◌}
use Rattle.std.specs.Prelude.{◌&&◌, slice_get, unwrap_or}
use Rattle.field_boxes.specs.declared.rule.Rule as code
use Rattle.field_boxes.specs.Headline.Classifier.{Rule, union_holds, set_holds, matches}
use Rattle.field_boxes.specs.Rules.{sets_of, rule_of}
use Rattle.fdd_build.specs.Sets.{box_rule}

-- what a rule decides has no part in whether it matches
matches_by_sets : (fields values : List ℕ) (r s : Rule ℕ) → r.sets ≡ s.sets → matches fields values r ≡ matches fields values s
matches_by_sets [] values r s e = refl
matches_by_sets (f ∷ fields) [] r s e = refl
matches_by_sets (f ∷ fields) (v ∷ values) r s e =
    ap (λ sets. union_holds v (unwrap_or (slice_get sets f) []) && matches fields values r) e
    ∙ ap (λ b. set_holds f v s && b) (matches_by_sets fields values r s e)

pub box_matches : (fields header : List ℕ) (rule : code.Rule) → matches fields header (box_rule (sets_of rule)) ≡ matches fields header (rule_of rule)
box_matches fields header rule = matches_by_sets fields header (box_rule (sets_of rule)) (rule_of rule) refl

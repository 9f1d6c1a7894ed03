-- Rules decide a header's values alike in any order of the fields.
use Rattle.std.proofs.Common.{◌≡◌, ◌∷◌, ℕ, List, [], Bool, cond, ap, refl, sym, ◌∙◌, Some}
use Rattle.std.specs.Prelude.{◌&&◌, find, option_map, slice_index}
use Rattle.field_boxes.specs.Headline.Classifier.{Rule, matches, set_holds, source}
use Rattle.field_boxes.specs.Headline.Fields.{IsHeader, stated}
use Rattle.field_boxes.specs.Orders.{IsOrder, picked}
use Rattle.field_boxes.proofs.Orders.{any_order, of_all, picked_stated}

-- whether the rule's set of a field holds the header's value
abbrev holds_in : {A : Type 0} → List ℕ → Rule A → ℕ → Bool
holds_in header r f = set_holds f (slice_index header f) r

in_turn : {A : Type 0} (level header : List ℕ) (r : Rule A) → matches level (picked level header) r ≡ of_all (holds_in header r) level
in_turn [] header r = refl
in_turn (f ∷ level) header r = ap (λ t. holds_in header r f && t) (in_turn level header r)

matches_in : {A : Type 0} (order header : List ℕ) (r : Rule A) → IsOrder order → IsHeader header → matches order (picked order header) r ≡ matches stated header r
matches_in order header r o is =
    in_turn order header r ∙ any_order (holds_in header r) order o ∙ sym (in_turn stated header r) ∙ ap (λ values. matches stated values r) (picked_stated header is)

found_alike : {A : Type 0} (p q : Rule A → Bool) (rules : List (Rule A)) → ((r : Rule A) → p r ≡ q r) → find p rules ≡ find q rules
found_alike p q [] h = refl
found_alike p q (r ∷ rules) h = ap (λ t. cond t (Some r) (find p rules)) (h r) ∙ ap (λ rest. cond (q r) (Some r) rest) (found_alike p q rules h)

pub source_in : {A : Type 0} (order header : List ℕ) (rules : List (Rule A)) → IsOrder order → IsHeader header → source order (picked order header) rules ≡ source stated header rules
source_in order header rules o is =
    ap (λ found. option_map (λ r. r.decision) found) (found_alike (matches order (picked order header)) (matches stated header) rules (λ r. matches_in order header r o is))

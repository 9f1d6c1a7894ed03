-- The spans of a rule's set of a field, and the set.
use Rattle.std.proofs.Common.{◌≡◌, ◌<◌, ◌≤◌, ◌-◌, ◌*◌, ℕ, zero, suc, List, [], length, map, max, get_or, ap, sym, arith, ◌∙◌}
use Rattle.std.specs.Prelude.{slice_get, unwrap_or, Option}
use Rattle.std.specs.Borrow.{Bor}
use Rattle.std.proofs.lemmas.List.{get_or-map, length-map}
use Rattle.std.proofs.lemmas.Nat.{mul-le}
use Rattle.std.proofs.lemmas.Option.{slice_get-get_or}
use Rattle.field_boxes.specs.declared.rule.Rule.{Rule}
use Rattle.field_boxes.specs.declared.span.Span.{Span}
use Rattle.field_boxes.specs.Headline.Classifier.{Interval}
use Rattle.field_boxes.specs.Headline.Fields.{width}
use Rattle.field_boxes.specs.Rules.{sets_of}
use Rattle.field_boxes.specs.Spans.{interval_of, intervals_of}

-- the intervals of the spans at a place are the set there
pub at_place : (rule : Rule) (sets : List (Bor (List Span))) (k : ℕ) (d : Bor (List Span)) → map (λ s. intervals_of s.now) sets ≡ sets_of rule → k < 5 → intervals_of (get_or sets k d).now ≡ get_or (sets_of rule) k []
at_place rule sets k d same field =
    let many : length sets ≡ 5 = sym (length-map sets (λ s. intervals_of s.now)) ∙ ap length same in
    sym (get_or-map (λ s. intervals_of s.now) sets k d [] (omega arith)) ∙ ap (λ xs. get_or xs k []) same

pub set_there : (rule : Rule) (sets : List (Bor (List Span))) (k : ℕ) (d : Bor (List Span)) → map (λ s. intervals_of s.now) sets ≡ sets_of rule → k < 5 → intervals_of (get_or sets k d).now ≡ unwrap_or (slice_get (sets_of rule) k) []
set_there rule sets k d same field =
    at_place rule sets k d same field ∙ sym (ap (λ (o : Option (List Interval)). unwrap_or o []) (slice_get-get_or (sets_of rule) k [] (omega arith)))

-- of at most sixteen spans of at most 32 bits
pub few_prefixes : (spans : List Span) (set : List Interval) (width count : ℕ) → intervals_of spans ≡ set → length set ≤ 16 → width ≤ 32 → count ≤ length spans * max 1 (2 * width - 2) → count ≤ 992
few_prefixes spans set width count same few narrow bound =
    let many : length spans ≡ length set = sym (length-map spans interval_of) ∙ ap length same in
    let each : max 1 (2 * width - 2) ≤ 62 = omega arith in
    let all = mul-le (length spans) (max 1 (2 * width - 2)) 16 62 (omega arith) each in
    omega (arith, all, bound)

-- no field has more than 32 bits
pub narrow_field : (field : ℕ) → field < 5 → width field ≤ 32
narrow_field zero h = omega arith
narrow_field (suc zero) h = omega arith
narrow_field (suc (suc zero)) h = omega arith
narrow_field (suc (suc (suc zero))) h = omega arith
narrow_field (suc (suc (suc (suc zero)))) h = omega arith
narrow_field (suc (suc (suc (suc (suc k))))) h = absurd (omega arith)

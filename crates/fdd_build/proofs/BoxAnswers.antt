-- What a box's diagram answers, field by field.
use Rattle.std.proofs.Common.{◌≡◌, ℕ, List, [], ◌∷◌, ◌<◌, ◌≤◌, ◌∙◌, ap, arith, sym, subst, length, get_or}
use Rattle.std.specs.Prelude.{Bool, true, false, ◌&&◌, cond, slice_index_or}
use Rattle.std.proofs.lemmas.Option.{unwrap_or-slice_get}
use Rattle.std.proofs.lemmas.List.{get_or-map}
use Rattle.std.specs.Borrow.{Bor}
use Rattle.field_boxes.specs.declared.span.Span.{Span}
use Rattle.field_boxes.specs.Headline.Classifier.{Interval, union_holds, matches}
use Rattle.field_boxes.specs.Spans.{intervals_of}
use Rattle.node_store.specs.Diagram.{Node, answer}
use Rattle.field_boxes.specs.Headline.Fields.{AreValues}
use Rattle.field_boxes.specs.Fields.{greatest_of}
use Rattle.node_store.specs.Levels.{HasField, IsLevel, next, top_of}
use Rattle.node_store.proofs.Values.{each}
use Rattle.field_boxes.specs.Boxes.{AreSets}
use Rattle.field_boxes.specs.Unions.{RiseApart}
use Rattle.fdd_build.specs.Nothing.{AnswersNothing}
use Rattle.fdd_build.specs.Sets.{sets_seen, box_rule}

-- one of the sets that are given as slices
pub given_set : (sets : List (Bor (List Span))) (field : ℕ) (d : Bor (List Span)) → field < length sets → intervals_of (get_or sets field d).now ≡ slice_index_or (sets_seen sets) field []
given_set sets field d h = sym (get_or-map (λ (s : Bor (List Span)). intervals_of s.now) sets field d [] h)

answers_by : (nodes : List Node) (inside outside decision : ℕ) (values : List ℕ) (h m : Bool) → answer nodes inside values ≡ cond m decision 0 → answer nodes outside values ≡ 0 →
    answer nodes (cond h inside outside) values ≡ cond (h && m) decision 0
answers_by nodes inside outside decision values true m p q = p
answers_by nodes inside outside decision values false m p q = q

-- what the node of a level answers, by what its two children answer
pub box_answers : (nodes : List Node) (inside outside decision : ℕ) (box : List (List Interval)) (field : ℕ) (level : List ℕ) (v : ℕ) (values : List ℕ) →
    answer nodes inside values ≡ cond (matches level values (box_rule box)) decision 0 → answer nodes outside values ≡ 0 →
    answer nodes (cond (union_holds v (slice_index_or box field [])) inside outside) values
    ≡ cond (matches (field ∷ level) (v ∷ values) (box_rule box)) decision 0
box_answers nodes inside outside decision box field level v values p q =
    answers_by nodes inside outside decision values (union_holds v (slice_index_or box field [])) (matches level values (box_rule box)) p q
    ∙ ap (λ set. cond (union_holds v set && matches level values (box_rule box)) decision 0) (sym (unwrap_or-slice_get box field []))

-- the set of a level's first field rises inside the field
pub rises : (sets : List (Bor (List Span))) (level : List ℕ) (field : ℕ) (d : Bor (List Span)) → length sets ≡ 5 → HasField level → field ≡ slice_index_or level 0 0 → AreSets (sets_seen sets) →
    RiseApart 0 (top_of level) (intervals_of (get_or sets field d).now)
rises sets [] field d count has is inside = absurd has
rises sets (f ∷ level) field d count has is inside =
    subst (RiseApart 0 (greatest_of f)) (sym (given_set sets field d (omega (arith, count, is, has.0.0)) ∙ ap (λ k. slice_index_or (sets_seen sets) k []) is)) (inside f has.0.0)

-- the node of a level answers the decision in the box
pub box_node : (mid new : List Node) (sets : List (Bor (List Span))) (level : List ℕ) (field inside outside id decision : ℕ) (d : Bor (List Span)) → length sets ≡ 5 → HasField level → field ≡ slice_index_or level 0 0 →
    ((values : List ℕ) → AreValues (next level) values → answer mid inside values ≡ cond (matches (next level) values (box_rule (sets_seen sets))) decision 0) →
    AnswersNothing mid (next level) outside →
    ((v : ℕ) (values : List ℕ) → v ≤ top_of level → answer new id (v ∷ values) ≡ answer mid (cond (union_holds v (intervals_of (get_or sets field d).now)) inside outside) values) →
    (values : List ℕ) → AreValues level values → answer new id values ≡ cond (matches level values (box_rule (sets_seen sets))) decision 0
box_node mid new sets [] field inside outside id decision d count has is below nothing made = absurd has
box_node mid new sets (f ∷ level) field inside outside id decision d count has is below nothing made =
    each (λ values. answer new id values ≡ cond (matches (f ∷ level) values (box_rule (sets_seen sets))) decision 0) (f ∷ level) has
    (λ v rest low h. made v rest low
    ∙ ap (λ set. answer mid (cond (union_holds v set) inside outside) rest) (given_set sets field d (omega (arith, count, is, has.0.0)) ∙ ap (λ k. slice_index_or (sets_seen sets) k []) is)
    ∙ box_answers mid inside outside decision (sets_seen sets) f level v rest (below rest h) (nothing.zero rest h))

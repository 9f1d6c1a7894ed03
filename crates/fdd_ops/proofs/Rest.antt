-- Two nodes agree over the rest of a box as their children do at each value of the span of their field.
use Rattle.std.proofs.Common.{◌≡◌, ◌∷◌, ℕ, List, [], ◌≤◌, length, ap, arith, sym, ◌∙◌, subst, get_or, true, ◌&&◌, map, slice_index_or}
use Rattle.std.proofs.lemmas.Bool.{and_parts, and_from}
use Rattle.field_boxes.specs.declared.span.Span.{Span}
use Rattle.field_boxes.specs.Headline.Fields.{AreValues}
use Rattle.node_store.specs.Levels.{HasField, next, top_of}
use Rattle.field_boxes.specs.Headline.Classifier.{interval_holds}
use Rattle.field_boxes.specs.Spans.{interval_of}
use Rattle.field_boxes.specs.Boxes.{EachValue, SomeValue}
use Rattle.field_boxes.proofs.FieldByField.{box_set}
use Rattle.node_store.specs.declared.split.Part.{Part}
use Rattle.node_store.specs.Diagram.{Node, level_of, edges_of, answer}
use Rattle.node_store.specs.Edges.{child_of}
use Rattle.node_store.specs.Split.{IsSplit, to_left, to_right}
use Rattle.node_store.specs.Store.{LeadTo}
use Rattle.node_store.proofs.Values.{values_from, each}
use Rattle.node_store.proofs.Edges.{rise_of}
use Rattle.node_store.proofs.Canonical.{chosen}
use Rattle.fdd_ops.specs.declared.question.Question.{Question}
use Rattle.fdd_ops.specs.Agreement.{rest_holds, Agree, Differ}

-- one more value lies in the box's spans as it lies in that of the first field, and the others in theirs
pub rest_step : (spans : List Span) (level : List ℕ) (v : ℕ) (values : List ℕ) (k e : ℕ) (d : Span) → HasField level → length spans ≡ 5 → k ≡ get_or level 0 e →
    rest_holds spans level (v ∷ values) ≡ (interval_holds v (interval_of (slice_index_or spans k d)) && rest_holds spans (next level) values)
rest_step spans [] v values k e d field count is = absurd field
rest_step spans (f ∷ level) v values k e d field count is =
    ap (λ t. t && rest_holds spans level values) (box_set spans f v d (let five = field.0.0 in omega (arith, five, count)))
    ∙ ap (λ n. interval_holds v (interval_of (slice_index_or spans n d)) && rest_holds spans level values) (sym is)

module _ (question : Question) (nodes : List Node) (ps : List Part) (a b : ℕ) (level : List ℕ) (span : Span) (field : HasField level) (at : level_of nodes a ≡ level)
    (split : IsSplit (top_of level) (edges_of nodes a) (edges_of nodes b) ps) (lead : LeadTo nodes (next level) (map to_left ps))
    (step : (v : ℕ) (values : List ℕ) → rest_holds question.spans level (v ∷ values) ≡ (interval_holds v (interval_of span) && rest_holds question.spans (next level) values)) where
  -- the child of the first node stands at the next level
  child_at : (v : ℕ) → v ≤ top_of level → level_of nodes (child_of (map to_left ps) v) ≡ next level
  child_at v low = chosen (λ n. level_of nodes n ≡ next level) (top_of level) 0 (map to_left ps) v (rise_of (top_of level) (map to_left ps) split.full) low lead

  pub agree : EachValue (top_of level) span (λ v. Agree question nodes (child_of (map to_left ps) v) (child_of (map to_right ps) v)) → Agree question nodes a b
  agree all = record {
    decided = λ values meant.
        each (λ vs. rest_holds question.spans level vs ≡ true → answer nodes a vs ≡ question.index → answer nodes b vs ≡ question.decision) level field
        (λ v rest low ok inside index.
        let both = and_parts (interval_holds v (interval_of span)) (rest_holds question.spans (next level) rest) (sym (step v rest) ∙ inside) in
        let below = sym (child_at v low) in
        ap (λ n. answer nodes n rest) (sym (split.right v low))
        ∙ (all v low both.0).decided rest
        (subst (λ k. AreValues k rest) below ok, subst (λ k. rest_holds question.spans k rest ≡ true) below both.1, ap (λ n. answer nodes n rest) (split.left v low) ∙ index))
        values (subst (λ k. AreValues k values) at meant.0) (subst (λ k. rest_holds question.spans k values ≡ true) at meant.1) meant.2;
  }

  pub differ : SomeValue (top_of level) span (λ v. Differ question nodes (child_of (map to_left ps) v) (child_of (map to_right ps) v)) → Differ question nodes a b
  differ one =
      let v = one.0 in
      let low = one.1 in
      let below = one.3 in
      let rest = below.values in
      let level_is = child_at v low in
      let ok = values_from level v rest field low (subst (λ k. AreValues k rest) level_is below.meant.0) in
      let inside = step v rest ∙ and_from (interval_holds v (interval_of span)) (rest_holds question.spans (next level) rest) one.2 (subst (λ k. rest_holds question.spans k rest ≡ true) level_is below.meant.1) in record {
        values = v ∷ rest;
        meant = (
          subst (λ k. AreValues k (v ∷ rest)) (sym at) ok,
          subst (λ k. rest_holds question.spans k (v ∷ rest) ≡ true) (sym at) inside,
          ap (λ n. answer nodes n rest) (sym (split.left v low)) ∙ below.meant.2,
        );
        otherwise = λ e. below.otherwise (ap (λ n. answer nodes n rest) (split.right v low) ∙ e);
      }

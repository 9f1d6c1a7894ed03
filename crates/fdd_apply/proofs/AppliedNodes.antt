-- A node over edges to what comes of the parts of two nodes is what comes of the two nodes.
use Rattle.std.proofs.Common.{◌≡◌, ◌∷◌, ℕ, List, ◌≤◌, ◌∙◌, sym, ap, subst}
use Rattle.std.specs.Prelude.{map, slice_index_or}
use Rattle.std.specs.List.{AllZip}
use Rattle.field_boxes.specs.Headline.Fields.{AreValues}
use Rattle.node_store.specs.Levels.{HasField, IsLevel, next, top_of}
use Rattle.node_store.specs.declared.edge.Edge.{Edge}
use Rattle.node_store.specs.declared.edge.NodeId.{NodeId}
use Rattle.node_store.specs.declared.split.Part.{Part}
use Rattle.node_store.specs.Diagram.{Node, level_of, edges_of, answer}
use Rattle.node_store.specs.Edges.{AreFull, child_of}
use Rattle.node_store.specs.Split.{IsSplit, to_left, to_right}
use Rattle.node_store.specs.Store.{Grows, LeadTo}
use Rattle.node_store.proofs.Edges.{rise_of, full_from}
use Rattle.node_store.proofs.Canonical.{chosen, in_use, is_level, is_next}
use Rattle.fdd_apply.specs.declared.pair.Pair.{Pair}
use Rattle.fdd_apply.specs.Applied.{AreAt, IsApplied, IsAppliedPart}
use Rattle.node_store.proofs.Values.{each}
use Rattle.fdd_apply.proofs.AppliedParts as parts
use Rattle.node_store.proofs.Growth as growth

-- the edges and the parts as slices
pub from_slices : (f : ℕ → ℕ → ℕ) (nodes : List Node) (ps ps' : List Part) (es' es : List Edge) → ps ≡ ps' → es ≡ es' →
    AllZip (IsAppliedPart f nodes) ps es' → AllZip (IsAppliedPart f nodes) ps' es
from_slices f nodes ps ps' es' es p q zip =
    subst (λ x. AllZip (IsAppliedPart f nodes) ps' x) (sym q) (subst (λ x. AllZip (IsAppliedPart f nodes) x es') p zip)

-- what `make` asks of the edges
pub full : (f : ℕ → ℕ → ℕ) (nodes : List Node) (greatest : ℕ) (ps : List Part) (es : List Edge) → AreFull greatest (map to_left ps) →
    AllZip (IsAppliedPart f nodes) ps es → AreFull greatest es
full f nodes greatest ps es fills zip = full_from greatest 0 es (parts.rise f nodes greatest 0 ps es (rise_of greatest (map to_left ps) fills) zip)

pub children : (f : ℕ → ℕ → ℕ) (old mid : List Node) (place : List ℕ) (ps : List Part) (es : List Edge) → Grows old mid → IsLevel place →
    LeadTo old place (map to_left ps) → AllZip (IsAppliedPart f mid) ps es → LeadTo mid place es
children f old mid place ps es g is left zip =
    parts.lead f mid place ps es
    (λ k d h. let at = left k d h in growth.level_kept old mid (slice_index_or (map to_left ps) k d).to.0 g (in_use old (slice_index_or (map to_left ps) k d).to.0 place is at) ∙ at)
    zip

module _ (f : ℕ → ℕ → ℕ) (old mid new : List Node) (first : Grows old mid) (second : Grows mid new) where
  -- what an old node answers in the end, by its child
  by_child : (id : ℕ) (place : List ℕ) (child v : ℕ) (values : List ℕ) → level_of old id ≡ place → HasField place → child_of (edges_of old id) v ≡ child → level_of old child ≡ next place →
      answer new id (v ∷ values) ≡ answer mid child values
  by_child id place child v values l field is below =
      growth.answers_twice old mid new id (v ∷ values) first second (in_use old id place (is_level place field) l)
      ∙ ap (λ n. answer old n values) is
      ∙ sym (first.answers child values (in_use old child (next place) (is_next place field) below))

  pub made : (pair : Pair) (id : NodeId) (place : List ℕ) (ps : List Part) (es : List Edge) → HasField place → AreAt old place pair →
      IsSplit (top_of place) (edges_of old pair.left.0) (edges_of old pair.right.0) ps →
      LeadTo old (next place) (map to_left ps) → LeadTo old (next place) (map to_right ps) →
      AllZip (IsAppliedPart f mid) ps es → level_of new id.0 ≡ place →
      ((v : ℕ) (values : List ℕ) → v ≤ top_of place → answer new id.0 (v ∷ values) ≡ answer mid (child_of es v) values) →
      IsApplied f new pair id
  made pair id place ps es field at split left right zip level answers =
      let a = pair.left.0 in
      let b = pair.right.0 in
      let grown = growth.twice old mid new first second in
      let top = growth.level_kept old new a grown (in_use old a place (is_level place field) at.left) ∙ at.left in
      let bottom = growth.level_kept old new b grown (in_use old b place (is_level place field) at.right) ∙ at.right in
      let rise = rise_of (top_of place) (map to_left ps) split.full in
      let by_value : (v : ℕ) (values : List ℕ) → v ≤ top_of place → AreValues (next place) values →
      answer new id.0 (v ∷ values) ≡ f (answer new a (v ∷ values)) (answer new b (v ∷ values)) =
      λ v values low h.
      let x = child_of (map to_left ps) v in
      let y = child_of (map to_right ps) v in
      let x_at = chosen (λ n. level_of old n ≡ next place) (top_of place) 0 (map to_left ps) v rise low left in
      let y_at = parts.right_level old (next place) (top_of place) 0 v ps rise right low in
      let comes = parts.comes f mid (top_of place) 0 v ps es rise zip low in
      let x_mid = growth.level_kept old mid x first (in_use old x (next place) (is_next place field) x_at) ∙ x_at in
      answers v values low
      ∙ comes.answers values (subst (λ k. AreValues k values) (sym x_mid) h)
      ∙ sym (ap (λ n. f n (answer new b (v ∷ values))) (by_child a place x v values at.left field (sym (split.left v low)) x_at)
      ∙ ap (λ n. f (answer mid x values) n) (by_child b place y v values at.right field (sym (split.right v low)) y_at)) in record {
        within = subst IsLevel (sym top) (is_level place field);
        beside = bottom ∙ sym top;
        level = level ∙ sym top;
        answers = λ values h.
            each (λ vs. answer new id.0 vs ≡ f (answer new a vs) (answer new b vs)) place field by_value values (subst (λ k. AreValues k values) top h);
      }

-- what comes of a pair of old nodes answers all values
pub whole : (f : ℕ → ℕ → ℕ) (old new : List Node) (place : List ℕ) (pair : Pair) (id : NodeId) → Grows old new → IsLevel place → AreAt old place pair → IsApplied f new pair id →
    (level_of new id.0 ≡ place) × ((header : List ℕ) → AreValues place header →
    answer new id.0 header ≡ f (answer old pair.left.0 header) (answer old pair.right.0 header))
whole f old new place pair id g is at l =
    let a = pair.left.0 in
    let b = pair.right.0 in
    let in_a = in_use old a place is at.left in
    let in_b = in_use old b place is at.right in
    let top = growth.level_kept old new a g in_a ∙ at.left in (
      l.level ∙ top,
      λ header h.
          l.answers header (subst (λ k. AreValues k header) (sym top) h)
          ∙ ap (λ n. f n (answer new b header)) (g.answers a header in_a)
          ∙ ap (λ n. f (answer old a header) n) (g.answers b header in_b),
    )

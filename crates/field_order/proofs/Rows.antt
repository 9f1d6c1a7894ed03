-- Rows of nodes: what one row is, and what rows in turn come to.
use Rattle.std.proofs.Common.{◌≡◌, ◌∷◌, ◌++◌, ℕ, List, [], ◌≤◌, ◌<◌, ◌∙◌, length, ap, arith, sym, subst, inl, inr}
use Rattle.std.specs.Prelude.{suc, zero, cond, slice_get}
use Rattle.std.specs.List.{AllZip}
use Rattle.std.proofs.lemmas.Bool.{cases_lt, lt-ltb, le-ltb}
use Rattle.std.proofs.lemmas.List.Elements.{All-weaker}
use Rattle.field_boxes.specs.Fields.{greatest_of}
use Rattle.node_store.specs.declared.edge.Edge.{Edge}
use Rattle.node_store.specs.Levels.{HasField, IsLevel, next as next_level, top_of}
use Rattle.node_store.specs.Edges.{AreFull, child_of}
use Rattle.node_store.specs.Diagram.{Node, node_edges, level_of, edges_of, answer}
use Rattle.node_store.specs.Store.{IsStore, Grows, LeadTo}
use Rattle.node_store.proofs.Edges.{rise_of}
use Rattle.node_store.proofs.Canonical.{chosen, in_use, is_level, leads_on}
use Rattle.node_store.proofs.Growth as growth
use Rattle.fdd_build.specs.Sets.{FillBelow}
use Rattle.fdd_build.proofs.Fills.{leads_after_push}
use Rattle.field_order.specs.Fronts.{IsCell, IsSample}
use Rattle.field_order.proofs.Zipped as zipped

-- as many values, or fewer
pub narrowed : (nodes : List Node) (lo hi less : ℕ) (es ds : List Edge) → less ≤ hi → AllZip (IsCell nodes lo hi) es ds → AllZip (IsCell nodes lo less) es ds
narrowed nodes lo hi less es ds h z = zipped.weaker (IsCell nodes lo hi) (IsCell nodes lo less) es ds (λ k e d at is. (is.0, λ v low high. is.1 v low (omega (arith, high, h)))) z

module _ (nodes : List Node) (lo hi : ℕ) where
  abbrev Leads : ℕ → ℕ → Type 0
  Leads a b = (v : ℕ) → lo ≤ v → v ≤ hi → child_of (edges_of nodes a) v ≡ b

  pub row_full : (greatest : ℕ) (es ds : List Edge) → AreFull greatest es → AllZip (IsCell nodes lo hi) es ds → AreFull greatest ds
  row_full greatest es ds f z = zipped.full Leads greatest es ds f z

  pub row_leads : (greatest u v : ℕ) (es ds : List Edge) → AreFull greatest es → AllZip (IsCell nodes lo hi) es ds → u ≤ greatest → lo ≤ v → v ≤ hi →
      child_of (edges_of nodes (child_of es u)) v ≡ child_of ds u
  row_leads greatest u v es ds f z h low high = zipped.comes Leads greatest u es ds f z h v low high

  pub row_nodes : (f : ℕ) (rest : List ℕ) (es ds : List Edge) → IsStore nodes → HasField (f ∷ rest) → lo ≤ hi → hi ≤ greatest_of f → LeadTo nodes (f ∷ rest) es → AllZip (IsCell nodes lo hi) es ds →
      LeadTo nodes rest ds
  row_nodes f rest es ds s has low high lead z =
      zipped.each Leads (λ a. level_of nodes a ≡ f ∷ rest) (λ b. level_of nodes b ≡ rest) es ds
      (λ a b at leads. subst (λ c. level_of nodes c ≡ rest) (leads lo (omega arith) low)
      ((leads_on nodes a lo s (subst HasField (sym at) has) (subst (λ l. lo ≤ top_of l) (sym at) (omega (arith, low, high)))).1 ∙ ap next_level at))
      lead z

-- edges to nodes of a level lead there once the store has grown
pub lead_later : (old new : List Node) (level : List ℕ) (es : List Edge) → Grows old new → IsLevel level → LeadTo old level es → LeadTo new level es
lead_later old new level es g is lead =
    All-weaker (λ (e : Edge). level_of old e.to.0 ≡ level) (λ (e : Edge). level_of new e.to.0 ≡ level)
    (λ e at. growth.level_kept old new e.to.0 g (in_use old e.to.0 level is at) ∙ at) es lead

pub edges_kept : (old new : List Node) (id : ℕ) → Grows old new → id < length old → edges_of new id ≡ edges_of old id
edges_kept old new id g used = ap node_edges (ap (λ nodes. slice_get nodes id) g.gained.1 ∙ growth.kept_place old g.gained.0 id used)

-- a value below those that are filled leads to a node of the level
pub child_in : (nodes : List Node) (level : List ℕ) (low v : ℕ) (es : List Edge) → FillBelow low es → LeadTo nodes level es → v < low → level_of nodes (child_of es v) ≡ level
child_in nodes level zero v es fill lead h = absurd (omega (arith, h))
child_in nodes level (suc top) v es fill lead h = chosen (λ n. level_of nodes n ≡ level) top 0 es v (rise_of top es fill) (omega (arith, h)) lead

module _ (first old new : List Node) (level : List ℕ) (f : ℕ) (side : List ℕ) (asked : ℕ → List ℕ → List ℕ) (es : List Edge) (has : HasField level) (field : HasField (f ∷ side)) (s : IsStore first)
    (full : AreFull (top_of level) es) (nodes : LeadTo first (f ∷ side) es) (g : Grows first old) (k : Grows old new) where
  -- what a row's node answers, at each value of the row
  pub row_answers : (low hi to : ℕ) (cells : List Edge) → hi ≤ greatest_of f → AllZip (IsCell old low hi) es cells →
      ((u : ℕ) (values : List ℕ) → u ≤ top_of level → answer new to (u ∷ values) ≡ answer old (child_of cells u) (asked u values)) →
      (v u : ℕ) (values : List ℕ) → low ≤ v → v ≤ hi → u ≤ top_of level → answer new to (u ∷ values) ≡ answer first (child_of (edges_of first (child_of es u)) v) (asked u values)
  row_answers low hi to cells high cell made v u values late within inside =
      let node = child_of es u in
      let there : level_of first node ≡ f ∷ side = chosen (λ m. level_of first m ≡ f ∷ side) (top_of level) 0 es u (rise_of (top_of level) es full) inside nodes in
      let used = in_use first node (f ∷ side) (is_level (f ∷ side) field) there in
      let low_v : v ≤ greatest_of f = omega (arith, within, high) in
      let older = (leads_on first node v s (subst HasField (sym there) field) (subst (λ l. v ≤ top_of l) (sym there) low_v)).0 in
      made u values inside
      ∙ ap (λ c. answer old c (asked u values)) (sym (row_leads old low hi (top_of level) u v es cells full cell inside late within) ∙ ap (λ ds. child_of ds v) (edges_kept first old node g used))
      ∙ g.answers (child_of (edges_of first node) v) (asked u values) (omega (arith, older, used))

  -- what the rows so far answer, those up to one more value answer
  pub answers_more : (low hi n to : ℕ) (rows more cells : List Edge) → FillBelow low rows → LeadTo old level rows →
      ((v u : ℕ) (values : List ℕ) → v < low → u ≤ top_of level → answer old (child_of rows v) (u ∷ values) ≡ answer first (child_of (edges_of first (child_of es u)) v) (asked u values)) →
      hi ≤ greatest_of f → AllZip (IsCell old low hi) es cells →
      ((u : ℕ) (values : List ℕ) → u ≤ top_of level → answer new to (u ∷ values) ≡ answer old (child_of cells u) (asked u values)) →
      n ≡ suc hi → more ≡ rows ++ record { hi = hi; to = record { 0 = to } } ∷ [] →
      (v u : ℕ) (values : List ℕ) → v < n → u ≤ top_of level → answer new (child_of more v) (u ∷ values) ≡ answer first (child_of (edges_of first (child_of es u)) v) (asked u values)
  answers_more low hi n to rows more cells fill lead before high cell made count pushed v u values less inside =
      let e : Edge = record { hi = hi; to = record { 0 = to } } in
      let at = leads_after_push low v rows more e fill (omega (arith, less, count)) pushed in
      elim (cases_lt v low) [
        | inl early ↦
            let here : child_of more v ≡ child_of rows v = at ∙ ap (λ b. cond b (child_of rows v) to) (lt-ltb v low early) in
            ap (λ c. answer new c (u ∷ values)) here
            ∙ k.answers (child_of rows v) (u ∷ values) (in_use old (child_of rows v) level (is_level level has) (child_in old level low v rows fill lead early))
            ∙ before v u values early inside
        | inr late ↦
            let here : child_of more v ≡ to = at ∙ ap (λ b. cond b (child_of rows v) to) (le-ltb v low late) in
            ap (λ c. answer new c (u ∷ values)) here ∙ row_answers low hi to cells high cell made v u values late (omega (arith, less, count)) inside
      ]

-- a sample stays one
pub sample_kept : (first old new : List Node) (level : List ℕ) (f : ℕ) (es : List Edge) (e : Edge) → HasField level → Grows old new → IsSample first old level f es e → IsSample first new level f es e
sample_kept first old new level f es e has g s =
    let used = in_use old e.to.0 level (is_level level has) s.level_is in record {
      inside = s.inside;
      level_is = growth.level_kept old new e.to.0 g used ∙ s.level_is;
      answers = λ u values inside. g.answers e.to.0 (u ∷ values) used ∙ s.answers u values inside;
    }

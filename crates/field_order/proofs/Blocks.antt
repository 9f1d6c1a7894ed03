-- Edges of some values, and the blocks and rows that are put together of them.
use Rattle.std.proofs.Common.{◌≡◌, ◌∷◌, ◌++◌, ℕ, List, [], ◌≤◌, ◌<◌, ◌∙◌, get_or, ap, arith, refl, sym, subst, inl, inr}
use Rattle.std.specs.Prelude.{suc, cond}
use Rattle.std.proofs.lemmas.Bool.{cases_lt, lt-ltb, le-ltb}
use Rattle.std.proofs.lemmas.List.Elements.{All-push}
use Rattle.field_boxes.specs.Fields.{greatest_of}
use Rattle.node_store.specs.declared.edge.NodeId.{NodeId}
use Rattle.node_store.specs.declared.edge.Edge.{Edge}
use Rattle.node_store.specs.Levels.{HasField, next as next_level, top_of}
use Rattle.node_store.specs.Edges.{AreFull, child_of}
use Rattle.node_store.specs.Diagram.{Node, level_of, edges_of, answer}
use Rattle.node_store.specs.Store.{IsStore, Grows, LeadTo}
use Rattle.node_store.proofs.Edges.{rise_of}
use Rattle.node_store.proofs.Canonical.{chosen, in_use, is_level, leads_on}
use Rattle.fdd_build.specs.Sets.{FillBelow}
use Rattle.fdd_build.proofs.Fills.{leads_after_push}
use Rattle.field_order.proofs.Rows.{child_in, edges_kept}

-- the greatest value of the first field
pub top_first : (level : List ℕ) (d : ℕ) → HasField level → greatest_of (get_or level 0 d) ≡ top_of level
top_first [] d has = absurd has
top_first (f ∷ level) d has = refl

-- one edge more leads where it should from its values on, where it ends no earlier than they do
pub leads_from : (want : ℕ → ℕ) (lo old now filled end n : ℕ) (es more : List Edge) (to : NodeId) → FillBelow filled es → ((u : ℕ) → lo ≤ u → u ≤ old → u < filled → child_of es u ≡ want u) →
    filled ≤ suc old → ((u : ℕ) → lo ≤ u → filled ≤ u → u ≤ now → want u ≡ to.0) → n ≡ suc end → more ≡ es ++ record { hi = end; to = to } ∷ [] →
    (u : ℕ) → lo ≤ u → u ≤ now → u < n → child_of more u ≡ want u
leads_from want lo old now filled end n es more to fill before passed here count pushed u low high less =
    let e : Edge = record { hi = end; to = to } in
    let at = leads_after_push filled u es more e fill (omega (arith, less, count)) pushed in
    elim (cases_lt u filled) [
      | inl early ↦ at ∙ ap (λ b. cond b (child_of es u) to.0) (lt-ltb u filled early) ∙ before u low (omega (arith, early, passed)) early
      | inr late ↦ at ∙ ap (λ b. cond b (child_of es u) to.0) (le-ltb u filled late) ∙ sym (here u low late high)
    ]

pub leads_more : (want : ℕ → ℕ) (filled hi n : ℕ) (es more : List Edge) (to : NodeId) → FillBelow filled es → ((u : ℕ) → u < filled → child_of es u ≡ want u) →
    ((u : ℕ) → filled ≤ u → u ≤ hi → want u ≡ to.0) → n ≡ suc hi → more ≡ es ++ record { hi = hi; to = to } ∷ [] → (u : ℕ) → u < n → child_of more u ≡ want u
leads_more want filled hi n es more to fill before here count pushed u less =
    leads_from want 0 filled hi filled hi n es more to fill (λ k low high early. before k early) (omega arith) (λ k low late high. here k late high) count pushed u (omega arith) (omega (arith, less, count)) less

-- where a value leads, one edge more leads to the level
pub led : (nodes : List Node) (level : List ℕ) (top at end : ℕ) (edges es more : List Edge) (to : NodeId) → AreFull top edges → at ≤ top → child_of edges at ≡ to.0 →
    more ≡ es ++ record { hi = end; to = to } ∷ [] → LeadTo nodes level edges → LeadTo nodes level es → LeadTo nodes level more
led nodes level top at end edges es more to full high here pushed lead before =
    let e : Edge = record { hi = end; to = to } in
    subst (LeadTo nodes level) (sym pushed)
    (All-push (λ (x : Edge). level_of nodes x.to.0 ≡ level) es e before
    (subst (λ n. level_of nodes n ≡ level) here (chosen (λ n. level_of nodes n ≡ level) top 0 edges at (rise_of top edges full) high lead)))

-- the node to which a cell leads, and where it leads from a value
pub cell_level : (nodes : List Node) (level : List ℕ) (cell v to : ℕ) → IsStore nodes → HasField level → level_of nodes cell ≡ level → v ≤ top_of level → child_of (edges_of nodes cell) v ≡ to →
    level_of nodes to ≡ next_level level
cell_level nodes level cell v to s has at high leads =
    subst (λ n. level_of nodes n ≡ next_level level) leads ((leads_on nodes cell v s (subst HasField (sym at) has) (subst (λ l. v ≤ top_of l) (sym at) high)).1 ∙ ap next_level at)

module _ (first old new : List Node) (level : List ℕ) (f : ℕ) (es : List Edge) (upper : HasField (f ∷ level)) (field : HasField (f ∷ next_level level)) (s : IsStore first)
    (full : AreFull (top_of level) es) (nodes : LeadTo first (f ∷ next_level level) es) (g : Grows first old) (k : Grows old new) where
  -- what the blocks so far answer, those with one more answer
  pub blocks_more : (low n : ℕ) (e : Edge) (blocks more : List Edge) → FillBelow low blocks → LeadTo old (f ∷ level) blocks →
      ((v u : ℕ) (values : List ℕ) → v ≤ greatest_of f → u < low → answer old (child_of blocks u) (v ∷ u ∷ values) ≡ answer first (child_of (edges_of first (child_of es u)) v) values) →
      e.hi ≤ top_of level →
      ((v u : ℕ) (values : List ℕ) → v ≤ greatest_of f → low ≤ u → u ≤ e.hi → answer new e.to.0 (v ∷ u ∷ values) ≡ answer old (child_of (edges_of old (child_of es u)) v) values) →
      n ≡ suc e.hi → more ≡ blocks ++ e ∷ [] →
      (v u : ℕ) (values : List ℕ) → v ≤ greatest_of f → u < n → answer new (child_of more u) (v ∷ u ∷ values) ≡ answer first (child_of (edges_of first (child_of es u)) v) values
  blocks_more low n e blocks more fill lead before high made count pushed v u values inside less =
      let at = leads_after_push low u blocks more e fill (omega (arith, less, count)) pushed in
      elim (cases_lt u low) [
        | inl early ↦
            let here : child_of more u ≡ child_of blocks u = at ∙ ap (λ b. cond b (child_of blocks u) e.to.0) (lt-ltb u low early) in
            ap (λ c. answer new c (v ∷ u ∷ values)) here
            ∙ k.answers (child_of blocks u) (v ∷ u ∷ values) (in_use old (child_of blocks u) (f ∷ level) (is_level (f ∷ level) upper) (child_in old (f ∷ level) low u blocks fill lead early))
            ∙ before v u values inside early
        | inr late ↦
            let here : child_of more u ≡ e.to.0 = at ∙ ap (λ b. cond b (child_of blocks u) e.to.0) (le-ltb u low late) in
            let node = child_of es u in
            let top : u ≤ top_of level = omega (arith, less, count, high) in
            let there : level_of first node ≡ f ∷ next_level level = chosen (λ m. level_of first m ≡ f ∷ next_level level) (top_of level) 0 es u (rise_of (top_of level) es full) top nodes in
            let used = in_use first node (f ∷ next_level level) (is_level (f ∷ next_level level) field) there in
            let older = (leads_on first node v s (subst HasField (sym there) field) (subst (λ l. v ≤ top_of l) (sym there) inside)).0 in
            ap (λ c. answer new c (v ∷ u ∷ values)) here
            ∙ made v u values inside late (omega (arith, less, count))
            ∙ ap (λ ds. answer old (child_of ds v) values) (edges_kept first old node g used)
            ∙ g.answers (child_of (edges_of first node) v) values (omega (arith, older, used))
      ]

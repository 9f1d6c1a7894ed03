-- The pairs of nodes below the values of an interval stand for the contexts there.
use Rattle.node_store.specs.Levels.{HasField, next, top_of}
use Rattle.std.proofs.Common.{◌≡◌, ℕ, List, ◌≤◌, ap, sym, ◌∙◌, subst}
use Rattle.field_boxes.specs.Headline.Classifier.{Interval}
use Rattle.node_store.specs.Edges.{child_of}
use Rattle.node_store.specs.Diagram.{Node, answer, level_of, edges_of}
use Rattle.node_store.specs.Store.{IsStore}
use Rattle.node_store.proofs.Canonical.{leads_on}
use Rattle.redundancy_laws.specs.declared.context.Context.{Context}
use Rattle.redundancy_laws.specs.Layers.{StandsBehind, AreSplit}
use Rattle.redundancy_laws.specs.Sifted.{context_at, context_below, is_in, contexts_of, AreContexts, AreBelow}

stands : (nodes : List Node) (level : List ℕ) (pairs lower : List Context) (c v d : ℕ) → context_at lower d ≡ context_below nodes v (context_at pairs c) → StandsBehind level (contexts_of nodes pairs) (contexts_of nodes lower) c v d
stands nodes level pairs lower c v d e = record {
  after = λ values ok. ap (λ (p : Context). answer nodes p.after.0 values) e;
  met = λ values ok. ap (λ (p : Context). is_in nodes p.met.0 values) e;
}

pub split-below : (nodes : List Node) (level : List ℕ) (span : Interval) (pairs lower : List Context) (to : ℕ → ℕ → ℕ) → AreBelow nodes level span pairs lower to → AreSplit level span (contexts_of nodes pairs) (contexts_of nodes lower) to
split-below nodes level span pairs lower to below = record {
  covered = λ c v less small is. let s = below.covered c v less small is in (s.0, stands nodes level pairs lower c v (to c v) s.1);
  reached = λ d less. let g = below.reached d less in (g.0, g.1, g.2, g.3, g.4, stands nodes level pairs lower g.0 g.1 d g.5);
}

-- below a node stand those of the next level
pub level-below : (nodes : List Node) (level : List ℕ) (id v : ℕ) → IsStore nodes → HasField level → level_of nodes id ≡ level → v ≤ top_of level → level_of nodes (child_of (edges_of nodes id) v) ≡ next level
level-below nodes level id v store five e small = (leads_on nodes id v store (subst HasField (sym e) five) (subst (λ l. v ≤ top_of l) (sym e) small)).1 ∙ ap next e

pub pairs-below : (nodes : List Node) (level : List ℕ) (span : Interval) (pairs lower : List Context) (to : ℕ → ℕ → ℕ) → IsStore nodes → HasField level → AreContexts nodes level pairs →
    AreBelow nodes level span pairs lower to → AreContexts nodes (next level) lower
pairs-below nodes level span pairs lower to store five are below d less =
    let g = below.reached d less in
    let p = are g.0 g.2 in (
      ap (λ (q : Context). level_of nodes q.after.0) g.5 ∙ level-below nodes level (context_at pairs g.0).after.0 g.1 store five p.0 g.3,
      ap (λ (q : Context). level_of nodes q.met.0) g.5 ∙ level-below nodes level (context_at pairs g.0).met.0 g.1 store five p.1 g.3,
    )

-- What a store asks of the node that it makes of edges handed in, and what that node answers.
use Rattle.std.proofs.Common.{◌≡◌, ℕ, List, ◌∷◌, ◌≤◌, length, ap, sym, subst, ◌∙◌}
use Rattle.std.specs.Prelude.{Result, Ok, Err, IfOk}
use Rattle.razor_limits.specs.declared.failure.Memory.{Memory}
use Rattle.node_store.specs.declared.edge.Edge.{Edge}
use Rattle.node_store.specs.declared.edge.NodeId.{NodeId}
use Rattle.node_store.specs.Edges.{AreFull, child_of, merged}
use Rattle.node_store.specs.Levels.{HasField, IsLevel, next, top_of}
use Rattle.node_store.specs.Diagram.{Node, node_edges, level_of, edges_of, answer}
use Rattle.node_store.specs.Diagram.Node.{Inner}
use Rattle.node_store.specs.Store.{IsInner, LeadTo, LeadsOn, Grows, IsNumbered}
use Rattle.node_store.proofs.Edges.{AreEdges, rise_of, rise_in, full_from, apart_from}
use Rattle.node_store.proofs.Merged.{edges_merged, child_merged, all_merged}
use Rattle.node_store.proofs.Canonical.{chosen, within, is_next}

pub inner_merged : (nodes : List Node) (level : List ℕ) (es : List Edge) → HasField level → AreFull (top_of level) es → LeadTo nodes (next level) es →
    IsInner nodes (length nodes) level (merged es)
inner_merged nodes level es field full lead =
    let made : AreEdges (top_of level) 0 (merged es) = edges_merged (top_of level) 0 es (rise_of (top_of level) es full) in record {
      field = field;
      full = full_from (top_of level) 0 (merged es) (rise_in (top_of level) 0 (merged es) made);
      apart = apart_from (top_of level) 0 (merged es) made;
      children = all_merged (LeadsOn nodes (length nodes) level) es (λ k d less. (within nodes _ (subst IsLevel (sym (lead k d less)) (is_next level field)), lead k d less));
    }

pub answers : (old new : List Node) (level : List ℕ) (id : ℕ) (es : List Edge) → HasField level → AreFull (top_of level) es → LeadTo old (next level) es →
    edges_of new id ≡ merged es → Grows old new → (v : ℕ) (values : List ℕ) → v ≤ top_of level →
    answer new id (v ∷ values) ≡ answer old (child_of es v) values
answers old new level id es field full lead made grown v values h =
    let rise = rise_of (top_of level) es full in
    let at = chosen (λ n. level_of old n ≡ next level) (top_of level) 0 es v rise h lead in
    ap (λ ds. answer new (child_of ds v) values) made
    ∙ ap (λ n. answer new n values) (child_merged (top_of level) 0 es v rise)
    ∙ grown.answers (child_of es v) values (within old (child_of es v) (subst IsLevel (sym at) (is_next level field)))

-- the same of the number that a call gave, if it gave one
pub answers_ok : (r : Result NodeId Memory) (old new : List Node) (level own : List ℕ) (es ds : List Edge) → HasField level → AreFull (top_of level) es → LeadTo old (next level) es →
    ds ≡ merged es → IfOk r (λ id. IsNumbered old new (Inner own ds) id.0) → Grows old new →
    IfOk r (λ id. (v : ℕ) (values : List ℕ) → v ≤ top_of level → answer new id.0 (v ∷ values) ≡ answer old (child_of es v) values)
answers_ok (Err e) old new level own es ds field full lead is numbered grown = tt
answers_ok (Ok id) old new level own es ds field full lead is numbered grown =
    λ v values h. answers old new level id.0 es field full lead (ap node_edges numbered.found ∙ is) grown v values h

-- The edges of a node: where they lead is older, and is marked edge by edge.
use Rattle.std.proofs.Common.{◌≡◌, ◌∷◌, ℕ, suc, List, [], ◌<◌, ◌≤◌, ◌+◌, Bool, true, length, ap, arith, refl, sym, ◌∙◌, subst, take}
use Rattle.std.specs.Prelude.{Option, Some, None, slice_get, slice_index_or}
use Rattle.std.specs.List.{All}
use Rattle.std.proofs.Math.Seq.{take-suc}
use Rattle.std.proofs.lemmas.List.{take_all}
use Rattle.std.proofs.lemmas.List.Elements.{All-append, All-cons, All-nil, All-weaker}
use Rattle.std.proofs.lemmas.Option.{slice_get-get_or}
use Rattle.node_store.specs.declared.edge.Edge.{Edge}
use Rattle.node_store.specs.Diagram.{Node, node_edges, edges_of}
use Rattle.node_store.specs.Diagram.Node.{Leaf, Inner}
use Rattle.node_store.specs.Store.{IsStore, LeadsOn}
use Rattle.table_compose.specs.Plans.{IsMarked}

older_by : (nodes : List Node) (id : ℕ) (m : Option Node) → IsStore nodes → slice_get nodes id ≡ m → All (λ (e : Edge). e.to.0 < id) (node_edges m)
older_by nodes id None s at = All-nil (λ (e : Edge). e.to.0 < id)
older_by nodes id (Some (Leaf d)) s at = All-nil (λ (e : Edge). e.to.0 < id)
older_by nodes id (Some (Inner f es)) s at = All-weaker (LeadsOn nodes id f) (λ (e : Edge). e.to.0 < id) (λ e leads. leads.0) es (s.fits id (Inner f es) at).children

-- edges lead to older nodes
pub edge_older : (nodes : List Node) (id : ℕ) (es : List Edge) (i : ℕ) (d : Edge) → IsStore nodes → es ≡ edges_of nodes id → i < length es → (slice_index_or es i d).to.0 < id
edge_older nodes id es i d s same less = subst (λ xs. All (λ (e : Edge). e.to.0 < id) xs) (sym same) (older_by nodes id (slice_get nodes id) s refl) i d less

-- one edge more leads to a marked node
pub marked_more : (es : List Edge) (i : ℕ) (d : Edge) (old new : List Bool) → i < length es → ((k : ℕ) → IsMarked old k → IsMarked new k) → All (λ (e : Edge). IsMarked old e.to.0) (take i es) →
    IsMarked new (slice_index_or es i d).to.0 → All (λ (e : Edge). IsMarked new e.to.0) (take (i + 1) es)
marked_more es i d old new less earlier h here =
    let P : Edge → Type 0 = λ e. IsMarked new e.to.0 in
    let x = slice_index_or es i d in
    subst (λ xs. All P xs) (sym (take-suc es i d less) ∙ ap (λ n. take n es) (let n : suc i ≡ i + 1 = omega arith in n))
    (All-append P (take i es) (x ∷ []) (All-weaker (λ (e : Edge). IsMarked old e.to.0) P (λ e m. earlier e.to.0 m) (take i es) h) (All-cons P x [] here (All-nil P)))

-- all edges do
pub marked_all : (nodes : List Node) (id : ℕ) (es : List Edge) (i : ℕ) (known : List Bool) → es ≡ edges_of nodes id → length es ≤ i → All (λ (e : Edge). IsMarked known e.to.0) (take i es) →
    All (λ (e : Edge). IsMarked known e.to.0) (edges_of nodes id)
marked_all nodes id es i known same past h = subst (λ xs. All (λ (e : Edge). IsMarked known e.to.0) xs) (take_all i es past ∙ same) h

-- a mark that is set
pub marked_here : (marks : List Bool) (id : ℕ) (m : Bool) → id < length marks → m ≡ slice_index_or marks id m → m ≡ true → IsMarked marks id
marked_here marks id m less is set = slice_get-get_or marks id m less ∙ ap Some (sym is ∙ set)

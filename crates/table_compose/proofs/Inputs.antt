-- What the minimiser of a node's field is given, and what becomes of what it gives.
use Rattle.std.proofs.Common.{◌≡◌, ℕ, List, ◌∷◌, ◌<◌, ◌≤◌, ◌^◌, length, ap, arith, sym, ◌∙◌, subst}
use Rattle.std.specs.Prelude.{map, slice_get, slice_index, slice_index_or}
use Rattle.std.specs.List.{All}
use Rattle.std.proofs.lemmas.Option.{slice_get-get_or}
use Rattle.std.proofs.lemmas.List.{length-map}
use Rattle.field_boxes.specs.Fields.{greatest_of}
use Rattle.node_store.specs.Levels.{HasField}
use Rattle.node_store.specs.declared.edge.NodeId.{NodeId}
use Rattle.node_store.specs.declared.edge.Edge.{Edge}
use Rattle.node_store.specs.Edges.{child_of}
use Rattle.node_store.specs.Diagram.{Node, level_of, edges_of}
use Rattle.node_store.specs.Store.{IsStore, IsInner}
use Rattle.node_store.proofs.Edges.{rise_of}
use Rattle.node_store.proofs.Canonical.{chosen}
use Rattle.prefix_min.specs.declared.piece.Piece.{Piece}
use Rattle.prefix_min.specs.declared.row.PrefixRow.{PrefixRow}
use Rattle.prefix_min.specs.Pieces.{Follow, reach, label_at, weight_from}
use Rattle.prefix_min.specs.PrefixList.{IsRight, weight}
use Rattle.prefix_min.specs.Order.{InOrder}
use Rattle.table_compose.specs.Asked.{AreInputs, AreChildrenCosted}
use Rattle.table_compose.specs.Labels.{children_of, ArePieces}
use Rattle.table_compose.specs.Plans.{IsCosted, IsPlanned, width_of}
use Rattle.table_compose.specs.Rows.{led}
use Rattle.table_compose.proofs.NodeCost.{AreMinimal}
use Rattle.table_compose.proofs.Planned as node

pub inputs : (nodes : List Node) (id : ℕ) (costs : List ℕ) (es : List Edge) (children slice : List NodeId) (pieces : List Piece) (weights : List ℕ) → IsStore nodes →
    HasField (level_of nodes id) → es ≡ edges_of nodes id → IsInner nodes id (level_of nodes id) es → children ≡ children_of es → ArePieces (children_of es) es pieces →
    slice ≡ children → weights ≡ map (λ (c : NodeId). slice_index costs c.0) slice → AreInputs nodes id costs children pieces weights
inputs nodes id costs es children slice pieces weights s five same inner first are value weigh = record {
  store = s;
  five = five;
  inner = subst (IsInner nodes id (level_of nodes id)) same inner;
  children_are = first ∙ ap children_of same;
  pieces_are = subst (λ x. ArePieces (children_of x) x pieces) same are;
  weights_are = weigh ∙ ap (map (λ (c : NodeId). slice_index costs c.0)) (value ∙ first ∙ ap children_of same);
}

-- the same of slices of the lists
pub sliced : (nodes : List Node) (id : ℕ) (costs : List ℕ) (children : List NodeId) (items pieces : List Piece) (list weights : List ℕ) → AreInputs nodes id costs children items list →
    pieces ≡ items → weights ≡ list → AreInputs nodes id costs children pieces weights
sliced nodes id costs children items pieces list weights h same here = record {
  store = h.store;
  five = h.five;
  inner = h.inner;
  children_are = h.children_are;
  pieces_are = subst (λ ps. ArePieces (children_of (edges_of nodes id)) (edges_of nodes id) ps) (sym same) h.pieces_are;
  weights_are = here ∙ h.weights_are;
}

module _ (nodes : List Node) (id : ℕ) (costs : List ℕ) (children : List NodeId) (pieces : List Piece) (weights : List ℕ) (h : AreInputs nodes id costs children pieces weights) where
  at : (f : ℕ) × (rest : List ℕ) × (level_of nodes id ≡ f ∷ rest)
  at = node.head_of (level_of nodes id) h.five

  has : HasField (at.0 ∷ at.1)
  has = subst HasField at.2 h.five

  inner : IsInner nodes id (at.0 ∷ at.1) (edges_of nodes id)
  inner = subst (λ k. IsInner nodes id k (edges_of nodes id)) at.2 h.inner

  pub counts : length weights ≡ length children
  counts = ap length h.weights_are ∙ length-map (children_of (edges_of nodes id)) (λ (c : NodeId). slice_index costs c.0) ∙ ap length (sym h.children_are)

  pub follows : Follow (length weights) 0 pieces
  follows = subst (λ n. Follow n 0 pieces) (ap length (sym h.children_are) ∙ sym counts) (node.follows nodes h.store id at.0 at.1 has at.2 inner pieces h.pieces_are)

  pub wholes : reach 0 pieces ≡ 2 ^ width_of (level_of nodes id)
  wholes = node.wholes nodes h.store id at.0 at.1 has at.2 inner pieces h.pieces_are ∙ ap (λ k. 2 ^ width_of k) (sym at.2)

  module _ (below : AreChildrenCosted nodes costs id) where
    at_value : (v : ℕ) → v ≤ greatest_of at.0 → IsCosted nodes (child_of (edges_of nodes id) v) (slice_index costs (child_of (edges_of nodes id) v))
    at_value v le = chosen (λ n. IsCosted nodes n (slice_index costs n)) (greatest_of at.0) 0 (edges_of nodes id) v (rise_of (greatest_of at.0) (edges_of nodes id) inner.full) le below

    pub lights : weight_from weights 0 pieces ≤ 2 ^ 104
    lights = node.lights nodes h.store id at.0 at.1 has at.2 inner pieces h.pieces_are costs weights h.weights_are at_value

    pub costed : (rows : List PrefixRow) (n : ℕ) → AreMinimal (width_of (level_of nodes id)) (label_at pieces) weights rows n → IsCosted nodes id n
    costed rows n minimal =
        node.costed nodes h.store id at.0 at.1 has at.2 inner pieces h.pieces_are costs weights h.weights_are at_value rows n (subst (λ k. AreMinimal (width_of k) (label_at pieces) weights rows n) at.2 minimal)

    pub planned : (rows leading : List PrefixRow) (n : ℕ) → AreMinimal (width_of (level_of nodes id)) (label_at pieces) weights rows n → InOrder rows →
        leading ≡ map (led children) rows → IsPlanned nodes costs id leading n
    planned rows leading n minimal order same =
        subst (λ ls. IsPlanned nodes costs id ls n) (ap (λ cs. map (led cs) rows) (sym h.children_are) ∙ sym same)
        (node.planned nodes h.store id at.0 at.1 has at.2 inner pieces h.pieces_are costs weights h.weights_are at_value rows n (subst (λ k. AreMinimal (width_of k) (label_at pieces) weights rows n) at.2 minimal) order)

-- the children are older than the node, so their costs are known
pub known : (nodes : List Node) (id : ℕ) (costs : List ℕ) (es : List Edge) (children slice : List NodeId) → id ≤ length costs → IsInner nodes id (level_of nodes id) es →
    children ≡ children_of es → slice ≡ children → All (λ (c : NodeId). c.0 < length costs) slice
known nodes id costs es children slice room inner first value k d less =
    let at = ap (λ cs. slice_get cs k) (sym (value ∙ first)) ∙ slice_get-get_or slice k d less in
    let low = node.older nodes id (level_of nodes id) es inner k (slice_index_or slice k d) at in
    omega (arith, room, low)

-- what is promised for so many bits is promised for the bits of the node's field
pub minimal : (w v : ℕ) → w ≡ v → (pieces : List Piece) (weights : List ℕ) (rows : List PrefixRow) (n : ℕ) → IsRight w (label_at pieces) rows → All (λ r. r.label < length weights) rows →
    weight weights rows ≡ n → ((others : List PrefixRow) → IsRight w (label_at pieces) others → n ≤ weight weights others) → AreMinimal v (label_at pieces) weights rows n
minimal w v same pieces weights rows n right labels weighs least =
    subst (λ k. AreMinimal k (label_at pieces) weights rows n) same (record { right = right; labels = labels; weighs = weighs; least = least })

-- labels stay within as many places
pub within : (n m : ℕ) (rows slice : List PrefixRow) → n ≡ m → slice ≡ rows → All (λ r. r.label < n) rows → All (λ r. r.label < m) slice
within n m rows slice same here h = subst (λ k. All (λ r. r.label < k) slice) same (subst (λ rs. All (λ r. r.label < n) rs) (sym here) h)

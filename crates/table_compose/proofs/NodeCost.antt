-- From the children of a node to the node: what every rule list that decides as it answers costs.
use Rattle.std.proofs.Common.{◌≡◌, ◌∷◌, ℕ, zero, suc, List, [], ◌<◌, ◌≤◌, ◌^◌, length, ap, arith, refl, sym, ◌∙◌, subst}
use Rattle.node_store.proofs.Values.{in_width}
use Rattle.std.specs.Prelude.{map, Option, Some, slice_get, slice_index, slice_index_or}
use Rattle.std.specs.List.{All}
use Rattle.std.proofs.lemmas.Option.{none-some, same_Some, slice_get-get_or}
use Rattle.std.proofs.lemmas.List.Elements.{All-weaker}
use Rattle.std.proofs.lemmas.List.{length-map}
use Rattle.field_boxes.specs.Headline.Fields.{width}
use Rattle.field_boxes.specs.Fields.{greatest_of}
use Rattle.node_store.specs.Levels.{HasField, next, top_of}
use Rattle.field_boxes.specs.Headline.Classifier.{Rule, residue}
use Rattle.field_boxes.proofs.Residues.{source-residue}
use Rattle.node_store.specs.declared.edge.NodeId.{NodeId}
use Rattle.node_store.specs.Edges.{AreFull, child_of}
use Rattle.node_store.specs.Diagram.{Node, level_of, edges_of, answer}
use Rattle.node_store.specs.Store.{IsStore}
use Rattle.node_store.proofs.Edges.{Rise, rise_of}
use Rattle.node_store.proofs.Canonical.{leads_on, one}
use Rattle.prefix_min.specs.declared.piece.Piece.{Piece}
use Rattle.prefix_min.specs.declared.row.PrefixRow.{PrefixRow}
use Rattle.prefix_min.specs.Pieces.{label_at}
use Rattle.prefix_min.specs.PrefixList.{IsRight, weight}
use Rattle.table_compose.specs.Headline.LeastCost.{IsLeastCost}
use Rattle.table_compose.specs.Choices.{AreAlike}
use Rattle.table_compose.specs.Diagrams.{DecideAs, NamesApart, IsCostOf}
use Rattle.table_compose.specs.Labels.{children_of, ArePieces}
use Rattle.table_compose.proofs.Choices.{LabelsResidues, IsTaken}
use Rattle.table_compose.proofs.Cheapest.{IsCheapestList, WeighsResidues, cheapest-list}
use Rattle.table_compose.proofs.Children.{once, taken}
use Rattle.table_compose.proofs.Labelled.{leads, end_leads}

-- what a minimiser of one field promises of its rows
pub record AreMinimal (w : ℕ) (lab : ℕ → ℕ) (weights : List ℕ) (rows : List PrefixRow) (n : ℕ) : Type 0 where
  pub right : IsRight w lab rows
  pub labels : All (λ r. r.label < length weights) rows
  pub weighs : weight weights rows ≡ n
  pub least : (others : List PrefixRow) → IsRight w lab others → n ≤ weight weights others

pub map_at : {X : Type 0} (g : X → ℕ) (xs : List X) (k : ℕ) (x : X) → slice_get xs k ≡ Some x → slice_index (map g xs) k ≡ g x
map_at g [] k x h = absurd (none-some x h)
map_at g (y ∷ xs) zero x h = ap g (same_Some y x h)
map_at g (y ∷ xs) (suc k) x h = map_at g xs k x h

pub up_to : (f v : ℕ) → v < 2 ^ width f → v ≤ greatest_of f
up_to f v h = omega (arith, h)

module _ (nodes : List Node) (s : IsStore nodes) (id f : ℕ) (rest : List ℕ) (has : HasField (f ∷ rest)) (level : level_of nodes id ≡ f ∷ rest) (full : AreFull (greatest_of f) (edges_of nodes id))
    (pieces : List Piece) (are : ArePieces (children_of (edges_of nodes id)) (edges_of nodes id) pieces) where
  -- where a value leads
  abbrev pub child : ℕ → ℕ
  child v = child_of (edges_of nodes id) v

  pub rise : Rise (greatest_of f) 0 (edges_of nodes id)
  rise = rise_of (greatest_of f) (edges_of nodes id) full

  -- the child at the place of the value's label
  pub labelled : (v : ℕ) → v < 2 ^ width f → (c : NodeId) × (slice_get (children_of (edges_of nodes id)) (label_at pieces v) ≡ Some c) × (c.0 ≡ child v)
  labelled v small = leads (children_of (edges_of nodes id)) (greatest_of f) 0 v (edges_of nodes id) pieces rise are (up_to f v small)

  one_label : (v u : ℕ) → v < 2 ^ width f → u < 2 ^ width f → child v ≡ child u → label_at pieces v ≡ label_at pieces u
  one_label v u small low e =
      let a = labelled v small in
      let b = labelled u low in
      once (edges_of nodes id) (label_at pieces v) (label_at pieces u) a.0 b.0 a.1 b.1 (a.2 ∙ e ∙ sym b.2)

  one_child : (v u : ℕ) → v < 2 ^ width f → u < 2 ^ width f → label_at pieces v ≡ label_at pieces u → child v ≡ child u
  one_child v u small low e =
      let a = labelled v small in
      let b = labelled u low in
      sym a.2 ∙ ap (λ (c : NodeId). c.0) (same_Some a.0 b.0 (sym a.1 ∙ ap (slice_get (children_of (edges_of nodes id))) e ∙ b.1)) ∙ b.2

  pub child_level : (v : ℕ) → v < 2 ^ width f → level_of nodes (child v) ≡ rest
  child_level v small = (leads_on nodes id v s (subst HasField (sym level) has) (subst (λ k. v ≤ top_of k) (sym level) (up_to f v small))).1 ∙ ap next level

  -- each place of a child is the label of a value
  pub used : (k : ℕ) → k < length (children_of (edges_of nodes id)) → IsTaken (width f) (label_at pieces) k
  used k less =
      let none : NodeId = record { 0 = 0 } in
      let c = slice_index_or (children_of (edges_of nodes id)) k none in
      let at : slice_get (children_of (edges_of nodes id)) k ≡ Some c = slice_get-get_or (children_of (edges_of nodes id)) k none less in
      let u = taken (λ a. (v : ℕ) × (v < 2 ^ width f) × (child v ≡ a.0)) (edges_of nodes id)
      (λ i e there. let ends = end_leads (greatest_of f) 0 (edges_of nodes id) rise i e there in (e.hi, in_width f e.hi ends.1, ends.2)) k c at in
      let b = labelled u.0 u.1 in
      (u.0, u.1, once (edges_of nodes id) (label_at pieces u.0) k b.0 c b.1 at (b.2 ∙ u.2))

  -- the weights of labels: what their children cost
  module _ (costs weights : List ℕ) (weigh : weights ≡ map (λ (c : NodeId). slice_index costs c.0) (children_of (edges_of nodes id))) where
    pub weight_of : (v : ℕ) → v < 2 ^ width f → slice_index weights (label_at pieces v) ≡ slice_index costs (child v)
    weight_of v small =
        let a = labelled v small in
        ap (λ ws. slice_index ws (label_at pieces v)) weigh ∙ map_at (λ (c : NodeId). slice_index costs c.0) (children_of (edges_of nodes id)) (label_at pieces v) a.0 a.1 ∙ ap (slice_index costs) a.2

    module _ (below : (v : ℕ) → v < 2 ^ width f → IsCostOf nodes rest (child v) (slice_index costs (child v))) (rows : List PrefixRow) (n : ℕ)
        (minimal : AreMinimal (width f) (label_at pieces) weights rows n) (name : ℕ → Option (List ℕ)) (R : List (Rule (List ℕ)))
        (apart : NamesApart nodes (f ∷ rest) id name) (decide : DecideAs nodes (f ∷ rest) id name R) where
      -- the residue at a value decides as the child to which the value leads
      at : (v : ℕ) → v < 2 ^ width f → DecideAs nodes rest (child v) name (residue f v R)
      at v small values ok = sym (source-residue f v rest values R) ∙ decide (v ∷ values) (small, ok)

      -- two children whose answers have the same names are one
      one_of : (v u : ℕ) → v < 2 ^ width f → u < 2 ^ width f → AreAlike rest (residue f v R) (residue f u R) → child v ≡ child u
      one_of v u small low alike =
          one nodes rest (child v) (child u) s has.1 (child_level v small) (child_level u low)
          (λ values ok. apart (v ∷ values) (u ∷ values) (small, ok) (low, ok) (sym (at v small values ok) ∙ alike values ok ∙ at u low values ok))

      tells : LabelsResidues f rest R (label_at pieces)
      tells = record {
        alike = λ v u small low e values ok.
            at v small values ok ∙ ap (λ c. name (answer nodes c values)) (one_child v u small low e) ∙ sym (at u low values ok);
        same = λ v u small low alike. one_label v u small low (one_of v u small low alike);
      }

      weighs : WeighsResidues f rest R (label_at pieces) weights
      weighs v small =
          subst (IsLeastCost rest (residue f v R)) (sym (weight_of v small))
          (below v small name (residue f v R) (λ a b ok okay e. apart (v ∷ a) (v ∷ b) (small, ok) (small, okay) e) (at v small))

      cheapest : IsCheapestList (width f) (label_at pieces) weights rows n
      cheapest = record {
        right = minimal.right;
        taken = All-weaker (λ r. r.label < length weights) (λ r. IsTaken (width f) (label_at pieces) r.label)
            (λ r low. used r.label (let e = ap length weigh ∙ length-map (children_of (edges_of nodes id)) (λ (c : NodeId). slice_index costs c.0) in omega (arith, low, e))) rows minimal.labels;
        weighs = minimal.weighs;
        least = minimal.least;
      }

      least : IsLeastCost (f ∷ rest) R n
      least = cheapest-list f rest R (label_at pieces) weights rows n tells weighs cheapest

    -- the node's least cost is what a minimiser gives for its field
    pub node-cost : ((v : ℕ) → v < 2 ^ width f → IsCostOf nodes rest (child v) (slice_index costs (child v))) → (rows : List PrefixRow) (n : ℕ) →
        AreMinimal (width f) (label_at pieces) weights rows n → IsCostOf nodes (f ∷ rest) id n
    node-cost below rows n minimal = λ name R apart decide. least below rows n minimal name R apart decide

-- where no field is left, every rule list costs one entry
pub leaf-cost : {A : Type 0} (R : List (Rule A)) → IsLeastCost [] R 1
unfolding IsLeastCost
leaf-cost R = refl

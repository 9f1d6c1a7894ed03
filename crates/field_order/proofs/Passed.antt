-- The edge that is come to from a place that isn't behind it.
use Rattle.std.proofs.Common.{◌≡◌, ◌++◌, ℕ, List, ◌+◌, ◌-◌, ◌≤◌, ◌<◌, length, get_or, take, ap, arith, sym, subst, ◌∙◌, inl, inr}
use Rattle.std.specs.Prelude.{set, slice_index}
use Rattle.std.proofs.lemmas.Bool.{cases_eq, cases_lt}
use Rattle.std.proofs.lemmas.List.{get_or-set_other, get_or-set_same, length-set, take-append-le, take_all, get_or_default}
use Rattle.std.proofs.lemmas.Option.{slice_get-get_or}
use Rattle.node_store.specs.declared.edge.Edge.{Edge}
use Rattle.node_store.specs.Edges.{AreFull}
use Rattle.node_store.specs.Diagram.{Node, edges_of}
use Rattle.node_store.specs.Store.{Grows}
use Rattle.node_store.proofs.Edges.{rise_of}
use Rattle.table_compose.proofs.Labelled.{end_leads}
use Rattle.field_order.specs.Fronts.{ArePassed, ArePlaces, IsEdgeAt}
use Rattle.field_order.proofs.Rows.{edges_kept}
use Rattle.node_store.proofs.Search.{child_at}

-- not all edges end below a value of the field
pub inside : (greatest : ℕ) (es : List Edge) (v i : ℕ) → AreFull greatest es → v ≤ greatest → ArePassed es i v → i < length es
inside greatest es v i full high passed = elim (cases_lt i (length es)) [
  | inl less ↦ less
  | inr more ↦
      let d : Edge = record { hi = 0; to = record { 0 = 0 } } in
      absurd (omega (arith, passed (length es - 1) d (omega (arith, more, full.some)), full.last d, high))
]

-- one edge more ends below it
pub one_more : (es : List Edge) (v i : ℕ) → ArePassed es i v → ((d : Edge) → (get_or es i d).hi < v) → ArePassed es (i + 1) v
one_more es v i passed here k d less = elim (cases_lt k i) [
  | inl before ↦ passed k d before
  | inr after ↦ let same : i ≡ k = omega (arith, less, after) in subst (λ j. (get_or es j d).hi < v) same (here d)
]

pub edge_at : (greatest : ℕ) (es : List Edge) (v i : ℕ) → AreFull greatest es → i < length es → ArePassed es i v → ((d : Edge) → v ≤ (get_or es i d).hi) → IsEdgeAt greatest es v i
edge_at greatest es v i full less passed low = record {
  inside = less;
  low = low;
  high = λ d. (end_leads greatest 0 es (rise_of greatest es full) i (get_or es i d) (slice_get-get_or es i d less)).1;
  leads = λ d u at up. child_at es u i d (λ k h. omega (arith, passed k d h, at)) less up;
}

-- what is passed below a value is passed below a greater one
pub passed_later : (es : List Edge) (i v w : ℕ) → v ≤ w → ArePassed es i v → ArePassed es i w
passed_later es i v w more passed k d less = omega (arith, passed k d less, more)

module _ (nodes : List Node) (es : List Edge) (places : List ℕ) (v : ℕ) (are : ArePlaces nodes es places v) where
  -- the place of one edge moved on
  pub moved : (i p : ℕ) → i < length es → ((d : Edge) → ArePassed (edges_of nodes (get_or es i d).to.0) p v) → ArePlaces nodes es (set places i p) v
  moved i p less here = record {
    count = length-set places i p ∙ are.count;
    passed = λ k d inside. elim (cases_eq k i) [
      | inl same ↦
          let is : get_or (set places i p) k 0 ≡ p = ap (λ n. get_or (set places i p) n 0) same ∙ get_or-set_same places i p 0 (omega (arith, less, are.count)) in
          subst (λ n. ArePassed (edges_of nodes (get_or es k d).to.0) n v) (sym is)
          (subst (λ j. ArePassed (edges_of nodes (get_or es j d).to.0) p v) (sym same) (here d))
      | inr other ↦
          subst (λ n. ArePassed (edges_of nodes (get_or es k d).to.0) n v) (sym (get_or-set_other places i k p 0 other)) (are.passed k d inside)
    ];
  }

  -- they serve a greater value, once the store has grown
  pub later : (new : List Node) (w : ℕ) → v ≤ w → Grows nodes new → ((k : ℕ) (d : Edge) → k < length es → (get_or es k d).to.0 < length nodes) → ArePlaces new es places w
  later new w more g used = record {
    count = are.count;
    passed = λ k d less.
        let id = (get_or es k d).to.0 in
        subst (λ (xs : List Edge). ArePassed xs (slice_index places k) w) (sym (edges_kept nodes new id g (used k d less)))
        (passed_later (edges_of nodes id) (slice_index places k) v w more (are.passed k d less));
  }

pub ends_below : (es : List Edge) (i v : ℕ) (e : Edge) → i < length es → (get_or es i e).hi < v → (d : Edge) → (get_or es i d).hi < v
ends_below es i v e less h d = subst (λ (x : Edge). x.hi < v) (get_or_default es i e d less) h

pub ends_above : (es : List Edge) (i v : ℕ) (e : Edge) → i < length es → v ≤ (get_or es i e).hi → (d : Edge) → v ≤ (get_or es i d).hi
ends_above es i v e less h d = subst (λ (x : Edge). v ≤ x.hi) (get_or_default es i e d less) h

-- a vector that was lent whole is what the call left
pub lent : (n : ℕ) (xs ys : List ℕ) → n ≡ length xs → take n (xs ++ ys) ≡ xs
lent n xs ys whole = take-append-le n xs ys (omega (arith, whole)) ∙ take_all n xs (omega (arith, whole))

-- What a node's plan is made of: what a minimiser asks, and what its rows come to.
use Rattle.std.proofs.Common.{◌≡◌, ◌∷◌, ℕ, suc, List, [], ◌+◌, ◌-◌, ◌*◌, ◌<◌, ◌≤◌, ◌^◌, Bool, true, false, length, ap, arith, refl, sym, ◌∙◌, subst, take, ◌++◌}
use Rattle.std.specs.Prelude.{cond, nat_eq, find, map, Option, Some, option_map, slice_get, slice_index, slice_index_or}
use Rattle.std.specs.List.{All}
use Rattle.std.specs.Option.{option_map_or}
use Rattle.std.proofs.lemmas.Bool.{eqb-true}
use Rattle.std.proofs.lemmas.Nat.{pow_pos, pow-add}
use Rattle.std.proofs.lemmas.Option.{slice_get-get_or, get_or_from_slice_get, slice_get_within}
use Rattle.std.proofs.lemmas.List.{length-map, get_or-map, map-append}
use Rattle.std.proofs.Math.Seq.{take-suc}
use Rattle.std.proofs.lemmas.List.Elements.{All-head, All-tail, All-map, All-weaker}
use Rattle.std.proofs.lemmas.List.Sums.{sum_by-cons}
use Rattle.std.proofs.Math.Pow.{pow_mono}
use Rattle.field_boxes.specs.Headline.Fields.{width}
use Rattle.field_boxes.specs.Fields.{greatest_of}
use Rattle.field_boxes.specs.Headline.Prefix.{FitsWidth, prefix_holds}
use Rattle.node_store.specs.declared.edge.NodeId.{NodeId}
use Rattle.node_store.specs.declared.edge.Edge.{Edge}
use Rattle.node_store.specs.Edges.{AreFull, child_of}
use Rattle.node_store.specs.Diagram.{Node, level_of, edges_of}
use Rattle.node_store.specs.Store.{IsStore, IsInner}
use Rattle.node_store.proofs.Edges.{Rise, rise_of}
use Rattle.prefix_min.specs.declared.piece.Piece.{Piece}
use Rattle.prefix_min.specs.declared.row.PrefixRow.{PrefixRow}
use Rattle.prefix_min.specs.Pieces.{Follow, reach, label_at, weight_from}
use Rattle.prefix_min.specs.PrefixList.{IsRight, front, weight}
use Rattle.prefix_min.specs.Order.{ComesBefore, InOrder}
use Rattle.table_compose.specs.Headline.LeastCost.{Choice}
use Rattle.node_store.specs.Levels.{HasField, next, top_of, bits_of}
use Rattle.table_compose.specs.Diagrams.{IsCostOf}
use Rattle.table_compose.specs.Labels.{children_of, ArePieces}
use Rattle.table_compose.specs.declared.row.Row.{Row}
use Rattle.table_compose.specs.Plans.{IsCosted, IsChild, IsPlanned, width_of}
use Rattle.table_compose.specs.Rows.{child_at, led, rows_of as leading_of, row_of as as_label}
use Rattle.table_compose.proofs.FewHeaders.{narrow}
use Rattle.table_compose.proofs.Choices.{row_of, rows_of, front-rows, weight-rows}
use Rattle.table_compose.proofs.Singles.{AreSingles, singles}
use Rattle.table_compose.proofs.Children.{taken}
use Rattle.table_compose.proofs.Labelled.{follow, whole, light}
use Rattle.table_compose.proofs.NodeCost.{AreMinimal, up_to, leaf-cost}
use Rattle.table_compose.proofs.NodeCost as node

-- the headers of a level's fields
pub headers_from : (f : ℕ) (rest : List ℕ) → 2 ^ width f * 2 ^ bits_of rest ≡ 2 ^ bits_of (f ∷ rest)
headers_from f rest = sym (pow-add 2 (width f) (bits_of rest))

-- edges that rise are no more than the values
few_edges : (greatest lo : ℕ) (es : List Edge) → Rise greatest lo es → length es + lo ≤ greatest + 1
few_edges greatest lo [] r = absurd r
few_edges greatest lo (e ∷ []) r = omega (arith, r.0, r.1)
few_edges greatest lo (e ∷ d ∷ es) r = omega (arith, r.0, few_edges greatest (suc e.hi) (d ∷ es) r.1)

pub few : (f : ℕ) (es : List Edge) → AreFull (greatest_of f) es → length es ≤ 2 ^ 32
few f es full =
    let count = few_edges (greatest_of f) 0 es (rise_of (greatest_of f) es full) in
    let p = pow_pos (width f) in
    let room : 2 ^ width f ≤ 2 ^ 32 = pow_mono (narrow f) in
    omega (arith, count, p, room)

led_step : (children : List NodeId) (t : Bool) (r : PrefixRow) (o p : Option PrefixRow) → option_map (λ x. x.label) o ≡ option_map (child_at children) (option_map (λ x. x.label) p) →
    option_map (λ x. x.label) (cond t (Some (led children r)) o) ≡ option_map (child_at children) (option_map (λ x. x.label) (cond t (Some r) p))
led_step children true r o p h = refl
led_step children false r o p h = h

-- the first row's label is the child at the place of its label
front_led : (children : List NodeId) (w v : ℕ) (rows : List PrefixRow) → front w (map (led children) rows) v ≡ option_map (child_at children) (front w rows v)
front_led children w v [] = refl
front_led children w v (r ∷ rows) =
    led_step children (prefix_holds w r.prefix v) r (find (λ x. prefix_holds w x.prefix v) (map (led children) rows)) (find (λ x. prefix_holds w x.prefix v) rows) (front_led children w v rows)

-- the rows cost what their labels weigh
weight_led : (children : List NodeId) (costs weights : List ℕ) (rows : List PrefixRow) → All (λ r. slice_index weights r.label ≡ slice_index costs (child_at children r.label)) rows →
    weight costs (map (led children) rows) ≡ weight weights rows
weight_led children costs weights [] h = refl
weight_led children costs weights (r ∷ rows) h =
    let a = sum_by-cons (λ x. slice_index costs x.label) (led children r) (map (led children) rows) in
    let b = sum_by-cons (λ x. slice_index weights x.label) r rows in
    let e = All-head (λ x. slice_index weights x.label ≡ slice_index costs (child_at children x.label)) r rows h in
    let i = weight_led children costs weights rows (All-tail (λ x. slice_index weights x.label ≡ slice_index costs (child_at children x.label)) r rows h) in
    omega (arith, a, b, e, i)

-- the order of rows doesn't look at their labels
in_order_led : (children : List NodeId) (rows : List PrefixRow) → InOrder rows → InOrder (map (led children) rows)
in_order_led children rows h =
    let count = length-map rows (led children) in
    let item : (k : ℕ) (d : PrefixRow) → k < length rows → slice_index_or (map (led children) rows) k d ≡ led children (slice_index_or rows k d) =
    λ k d less. get_or-map (led children) rows k d d less in record {
      before = λ i j d less high.
          let low : j < length rows = omega (arith, high, count) in
          subst (λ x. ComesBefore x (slice_index_or (map (led children) rows) j d)) (sym (item i d (omega (arith, less, low))))
          (subst (λ y. ComesBefore (led children (slice_index_or rows i d)) y) (sym (item j d low)) (h.before i j d less low));
      some = omega (arith, h.some, count);
      last = λ d.
          subst (λ n. (slice_index_or (map (led children) rows) (n - 1) d).prefix.len ≡ 0) (sym count)
          (subst (λ x. x.prefix.len ≡ 0) (sym (item (length rows - 1) d (omega (arith, h.some)))) (h.last d));
    }

-- a row for each value is right
singles_right : (w : ℕ) (lab : ℕ → ℕ) (Costs : ℕ → ℕ → Type 0) (most : ℕ) (plan : List Choice) → AreSingles w Costs most (2 ^ w) plan → IsRight w lab (rows_of lab plan)
singles_right w lab Costs most plan h = record {
  fits = All-map (λ r. FitsWidth w r.prefix) (row_of lab) plan h.fits;
  answers = λ v small. let c = h.first v small in front-rows w lab v plan ∙ ap (option_map (λ x. lab x.value)) c.1 ∙ ap (λ x. Some (lab x)) c.2;
}

-- what holds of each item holds of the one at a place
All_at : {X : Type 0} (P : X → Type 0) (xs : List X) (k : ℕ) (x : X) → All P xs → slice_get xs k ≡ Some x → P x
All_at P xs k x all h = subst P (get_or_from_slice_get xs k x x h) (all k x (slice_get_within xs k x h))

-- the children are older than the node
pub older : (nodes : List Node) (id : ℕ) (level : List ℕ) (es : List Edge) → IsInner nodes id level es → (k : ℕ) (c : NodeId) → slice_get (children_of es) k ≡ Some c → c.0 < id
older nodes id level es inner k c at =
    taken (λ a. a.0 < id) es (λ i e there. (All_at (λ (x : Edge). (x.to.0 < id) × (level_of nodes x.to.0 ≡ next level)) es i e inner.children there).0) k c at

module _ (nodes : List Node) (s : IsStore nodes) (id f : ℕ) (rest : List ℕ) (has : HasField (f ∷ rest)) (level : level_of nodes id ≡ f ∷ rest) (inner : IsInner nodes id (f ∷ rest) (edges_of nodes id))
    (pieces : List Piece) (are : ArePieces (children_of (edges_of nodes id)) (edges_of nodes id) pieces) where
  abbrev es : List Edge
  es = edges_of nodes id

  abbrev children : List NodeId
  children = children_of (edges_of nodes id)

  rise : Rise (greatest_of f) 0 es
  rise = rise_of (greatest_of f) es inner.full

  pub follows : Follow (length children) 0 pieces
  follows = follow children (greatest_of f) 0 es pieces rise are

  pub wholes : reach 0 pieces ≡ 2 ^ width f
  wholes = let p = pow_pos (width f) in let w = whole children (greatest_of f) 0 es pieces rise are in omega (arith, w, p)

  abbrev most : ℕ
  most = 2 ^ bits_of rest

  module _ (costs weights : List ℕ) (weigh : weights ≡ map (λ (c : NodeId). slice_index costs c.0) children)
      (below : (v : ℕ) → v ≤ greatest_of f → IsCosted nodes (child_of es v) (slice_index costs (child_of es v))) where
    weighs_most : (v : ℕ) → v < 2 ^ width f → slice_index weights (label_at pieces v) ≤ most
    weighs_most v small =
        let at = node.child_level nodes s id f rest has level inner.full pieces are v small in
        let is = node.weight_of nodes s id f rest has level inner.full pieces are costs weights weigh v small in
        let few = (below v (up_to f v small)).few in
        let room : slice_index costs (child_of es v) ≤ most = subst (λ k. slice_index costs (child_of es v) ≤ 2 ^ bits_of k) at few in
        omega (arith, is, room)

    -- a place of a child is the label of a value that leads to it, and weighs what it costs
    pub leads_to : (k : ℕ) → k < length children → IsChild nodes id (child_at children k)
    leads_to k less =
        let u = node.used nodes s id f rest has level inner.full pieces are k less in
        let c = node.labelled nodes s id f rest has level inner.full pieces are u.0 u.1 in
        (u.0, subst (λ k. u.0 ≤ top_of k) (sym level) (up_to f u.0 u.1), sym c.2 ∙ ap (λ o. option_map_or (λ x. x.0) o 0) (sym c.1) ∙ ap (child_at children) u.2)

    weighs_as : (k : ℕ) → k < length children → slice_index weights k ≡ slice_index costs (child_at children k)
    weighs_as k less =
        let u = node.used nodes s id f rest has level inner.full pieces are k less in
        let c = node.labelled nodes s id f rest has level inner.full pieces are u.0 u.1 in
        let child : child_of es u.0 ≡ child_at children k = sym c.2 ∙ ap (λ o. option_map_or (λ x. x.0) o 0) (sym c.1) ∙ ap (child_at children) u.2 in
        ap (slice_index weights) (sym u.2) ∙ node.weight_of nodes s id f rest has level inner.full pieces are costs weights weigh u.0 u.1 ∙ ap (slice_index costs) child

    pub lights : weight_from weights 0 pieces ≤ 2 ^ 104
    lights =
        let bound = light (length children) 0 weights most pieces follows
        (λ k less. let u = node.used nodes s id f rest has level inner.full pieces are k less in subst (λ l. slice_index weights l ≤ most) u.2 (weighs_most u.0 u.1)) in
        let all : reach 0 pieces * most ≡ 2 ^ bits_of (f ∷ rest) = ap (λ n. n * most) wholes ∙ headers_from f rest in
        let room : 2 ^ bits_of (f ∷ rest) ≤ 2 ^ 104 = pow_mono has.0.1 in
        omega (arith, bound, all, room)

    module _ (rows : List PrefixRow) (n : ℕ) (minimal : AreMinimal (width f) (label_at pieces) weights rows n) where
      within : (k : ℕ) → k < length weights → k < length children
      within k less = let e = ap length weigh ∙ length-map children (λ (c : NodeId). slice_index costs c.0) in omega (arith, less, e)

      n_few : n ≤ 2 ^ bits_of (f ∷ rest)
      n_few =
          let Costs : ℕ → ℕ → Type 0 = λ v c. c ≡ slice_index weights (label_at pieces v) in
          let each = singles (width f) Costs most (narrow f) (λ v small. (slice_index weights (label_at pieces v), refl, weighs_most v small)) (2 ^ width f) (omega arith) in
          let plan = each.0 in
          let least = minimal.least (rows_of (label_at pieces) plan) (singles_right (width f) (label_at pieces) Costs most plan each.1) in
          let cost = weight-rows (label_at pieces) weights plan each.1.costs in
          let all = headers_from f rest in
          omega (arith, least, cost, each.1.few, all)

      right_led : IsRight (width f) (child_of es) (map (led children) rows)
      right_led = record {
        fits = All-map (λ r. FitsWidth (width f) r.prefix) (led children) rows minimal.right.fits;
        answers = λ v small.
            let c = node.labelled nodes s id f rest has level inner.full pieces are v small in
            front_led children (width f) v rows ∙ ap (option_map (child_at children)) (minimal.right.answers v small) ∙ ap Some (ap (λ o. option_map_or (λ x. x.0) o 0) c.1 ∙ c.2);
      }

      pub costed : IsCosted nodes id n
      costed = record {
        least = subst (λ k. IsCostOf nodes k id n) (sym level) (node.node-cost nodes s id f rest has level inner.full pieces are costs weights weigh
            (λ v small. subst (λ k. IsCostOf nodes k (child_of es v) (slice_index costs (child_of es v))) (node.child_level nodes s id f rest has level inner.full pieces are v small)
            (below v (up_to f v small)).least)
            rows n minimal);
        few = subst (λ k. n ≤ 2 ^ bits_of k) (sym level) n_few;
      }

      pub planned : InOrder rows → IsPlanned nodes costs id (map (led children) rows) n
      planned order = record {
        costed = costed;
        list = λ h. record {
          right = subst (λ k. IsRight (width_of k) (child_of es) (map (led children) rows)) (sym level) right_led;
          order = in_order_led children rows order;
          children = All-map (λ r. IsChild nodes id r.label) (led children) rows
              (All-weaker (λ r. r.label < length weights) (λ r. IsChild nodes id (child_at children r.label)) (λ r low. leads_to r.label (within r.label low)) rows minimal.labels);
        };
        sum = λ h. weight_led children costs weights rows
            (All-weaker (λ r. r.label < length weights) (λ r. slice_index weights r.label ≡ slice_index costs (child_at children r.label)) (λ r low. weighs_as r.label (within r.label low)) rows minimal.labels)
            ∙ minimal.weighs;
        leaf = λ h. absurd (subst HasField h (subst HasField (sym level) has));
      }

-- what a row leads to
pub leading_row : (children : List NodeId) (rows : List PrefixRow) (k : ℕ) (d : PrefixRow) (e : NodeId) → (slice_index_or rows k d).label < length children →
    led children (slice_index_or rows k d) ≡ record { prefix = (slice_index_or rows k d).prefix; label = (slice_index_or children (slice_index_or rows k d).label e).0 }
leading_row children rows k d e less = let r = slice_index_or rows k d in
    ap (λ o. record { prefix = r.prefix; label = option_map_or (λ x. x.0) o 0 }) (slice_get-get_or children r.label e less)

-- one row more
pub leading_more : (children : List NodeId) (rows : List PrefixRow) (leading : List Row) (k : ℕ) (d : PrefixRow) (e : NodeId) → k < length rows →
    (slice_index_or rows k d).label < length children → leading_of leading ≡ map (led children) (take k rows) →
    leading_of (leading ++ record { prefix = (slice_index_or rows k d).prefix; to = slice_index_or children (slice_index_or rows k d).label e } ∷ []) ≡ map (led children) (take (k + 1) rows)
leading_more children rows leading k d e less within h =
    let r = slice_index_or rows k d in
    let last : Row = record { prefix = r.prefix; to = slice_index_or children r.label e } in
    map-append as_label leading (last ∷ [])
    ∙ ap (λ xs. xs ++ as_label last ∷ []) h
    ∙ ap (λ x. map (led children) (take k rows) ++ x ∷ []) (sym (leading_row children rows k d e within))
    ∙ sym (map-append (led children) (take k rows) (r ∷ []))
    ∙ ap (map (led children)) (sym (take-suc rows k d less) ∙ ap (λ n. take n rows) (let n : suc k ≡ k + 1 = omega arith in n))

-- a level with a field is the field and what is left
pub head_of : (level : List ℕ) → HasField level → (f : ℕ) × (rest : List ℕ) × (level ≡ f ∷ rest)
head_of [] has = absurd has
head_of (f ∷ rest) has = (f, rest, refl)

pub width_head : (level : List ℕ) (d : ℕ) → HasField level → width (slice_index_or level 0 d) ≡ width_of level
width_head [] d has = absurd has
width_head (f ∷ rest) d has = refl

pub few_at : (level : List ℕ) (edges : List Edge) → HasField level → AreFull (top_of level) edges → length edges ≤ 2 ^ 32
few_at [] edges has full = absurd has
few_at (f ∷ rest) edges has full = few f edges full

pub no_fields : (level : List ℕ) → nat_eq (length level) 0 ≡ true → level ≡ []
no_fields [] h = refl
no_fields (f ∷ level) h = let e = eqb-true (length (f ∷ level)) 0 h in absurd (omega (arith, e))

-- a leaf costs one entry
pub leaf_costed : (nodes : List Node) (id : ℕ) → level_of nodes id ≡ [] → IsCosted nodes id 1
leaf_costed nodes id level = record {
  least = subst (λ k. IsCostOf nodes k id 1) (sym level) (λ name R apart decide. leaf-cost R);
  few = pow_pos (bits_of (level_of nodes id));
}

pub leaf_planned : (nodes : List Node) (costs : List ℕ) (id : ℕ) (rows : List PrefixRow) → level_of nodes id ≡ [] → IsPlanned nodes costs id rows 1
leaf_planned nodes costs id rows level = record {
  costed = leaf_costed nodes id level;
  list = λ five. absurd (subst HasField level five);
  sum = λ five. absurd (subst HasField level five);
  leaf = λ h. refl;
}

-- From what the parts of a node by a field cost to what the node costs.
use Rattle.std.proofs.Common.{◌≡◌, ◌∷◌, ℕ, zero, suc, List, [], ◌*◌, ◌<◌, ◌≤◌, ◌^◌, length, map, ap, arith, refl, sym, ◌∙◌, subst}
use Rattle.std.proofs.lemmas.Slice.Zip.{AllZip-long}
use Rattle.std.specs.Prelude.{Some, option_map, slice_get, slice_index, sum}
use Rattle.std.specs.List.{AllZip}
use Rattle.std.proofs.lemmas.Nat.{pow_pos}
use Rattle.std.proofs.lemmas.Option.{none-some, same_Some, slice_get_within}
use Rattle.std.proofs.lemmas.List.Elements.{All-map, All-weaker}
use Rattle.std.proofs.Math.Pow.{pow_mono}
use Rattle.field_boxes.specs.Headline.Fields.{width}
use Rattle.field_boxes.specs.Fields.{greatest_of}
use Rattle.field_boxes.specs.Headline.Prefix.{FitsWidth}
use Rattle.node_store.specs.declared.edge.NodeId.{NodeId}
use Rattle.node_store.specs.Levels.{HasField, bits_of}
use Rattle.node_store.specs.Edges.{child_of}
use Rattle.node_store.specs.Diagram.{Node, level_of, edges_of, answer}
use Rattle.node_store.specs.Store.{IsStore, IsInner}
use Rattle.node_store.proofs.Canonical.{one}
use Rattle.prefix_min.specs.declared.piece.Piece.{Piece}
use Rattle.prefix_min.specs.declared.row.PrefixRow.{PrefixRow}
use Rattle.prefix_min.specs.Pieces.{Follow, reach, label_at, weight_from}
use Rattle.prefix_min.specs.PrefixList.{IsRight}
use Rattle.field_boxes.specs.Orders.{AreDistinct, Has}
use Rattle.table_compose.specs.Headline.LeastCost.{Choice}
use Rattle.table_compose.specs.Labels.{children_of, ArePieces}
use Rattle.table_compose.proofs.Choices.{IsTaken, row_of, rows_of, front-rows, weight-rows}
use Rattle.table_compose.proofs.Children.{once}
use Rattle.table_compose.proofs.FewHeaders.{narrow}
use Rattle.table_compose.proofs.Labelled.{follow, whole, light}
use Rattle.table_compose.proofs.Later.{inner_of}
use Rattle.table_compose.proofs.NodeCost.{AreMinimal}
use Rattle.table_compose.proofs.NodeCost as node
use Rattle.table_compose.proofs.Planned.{headers_from}
use Rattle.table_compose.proofs.Singles.{AreSingles, singles}
use Rattle.field_order.specs.Fronts.{Fits, without, IsFront}
use Rattle.field_order.specs.Worth.{IsRearranged, IsCostBy, IsAtLeast, IsExact, answer_by}
use Rattle.field_order.proofs.Without.{parted, missing, order_missing, order_distinct, distinct as left_distinct}
use Rattle.field_order.proofs.Values.{put, put_fits, put_same, put_map, assigned, assigned_fits, assigned_map}
use Rattle.field_order.proofs.Parts.{parts_cost, some_parts}
use Rattle.field_order.proofs.Zipped.{weaker}

-- what goes with the item at a place
zip_at : {X : Type 0} (R : X → ℕ → Type 0) (xs : List X) (ys : List ℕ) (k : ℕ) (x : X) → AllZip R xs ys → slice_get xs k ≡ Some x → R x (slice_index ys k)
zip_at R [] ys k x z h = absurd (none-some x h)
zip_at R (y ∷ xs) [] k x z h = absurd z
zip_at R (y ∷ xs) (n ∷ ys) zero x z h = subst (λ w. R w n) (same_Some y x h) z.0
zip_at R (y ∷ xs) (n ∷ ys) (suc k) x z h = zip_at R xs ys k x z.1 h

-- a row for each value is right
right_singles : (w : ℕ) (lab : ℕ → ℕ) (Costs : ℕ → ℕ → Type 0) (most : ℕ) (plan : List Choice) → AreSingles w Costs most (2 ^ w) plan → IsRight w lab (rows_of lab plan)
right_singles w lab Costs most plan h = record {
  fits = All-map (λ r. FitsWidth w r.prefix) (row_of lab) plan h.fits;
  answers = λ v small. let c = h.first v small in front-rows w lab v plan ∙ ap (option_map (λ x. lab x.value)) c.1 ∙ ap (λ x. Some (lab x)) c.2;
}

module _ (nodes : List Node) (s : IsStore nodes) (id f F : ℕ) (front : IsFront nodes id f F) (has : Has f (level_of nodes id)) (apart : AreDistinct (level_of nodes id))
    (p : List ℕ) (order : IsRearranged p (without f (level_of nodes id))) (pieces : List Piece) (are : ArePieces (children_of (edges_of nodes F)) (edges_of nodes F) pieces) where
  abbrev rest : List ℕ
  rest = without f (level_of nodes id)

  inner : IsInner nodes F (f ∷ rest) (edges_of nodes F)
  inner = subst (λ l. IsInner nodes F l (edges_of nodes F)) front.level (inner_of nodes F s (subst HasField (sym front.level) front.field))

  abbrev child : ℕ → ℕ
  child v = child_of (edges_of nodes F) v

  abbrev parts : ℕ → (ℕ → ℕ) → ℕ
  parts v h = answer nodes (child v) (map h rest)

  labelled : (v : ℕ) → v < 2 ^ width f → (c : NodeId) × (slice_get (children_of (edges_of nodes F)) (label_at pieces v) ≡ Some c) × (c.0 ≡ child v)
  labelled v small = node.labelled nodes s F f rest front.field front.level inner.full pieces are v small

  child_level : (v : ℕ) → v < 2 ^ width f → level_of nodes (child v) ≡ rest
  child_level v small = node.child_level nodes s F f rest front.field front.level inner.full pieces are v small

  pub used : (k : ℕ) → k < length (children_of (edges_of nodes F)) → IsTaken (width f) (label_at pieces) k
  used k less = node.used nodes s F f rest front.field front.level inner.full pieces are k less

  at : (v : ℕ) (h : ℕ → ℕ) → v < 2 ^ width f → Fits h → answer_by nodes (level_of nodes id) id (put f v h) ≡ parts v h
  at v h small fits =
      sym (front.answers (put f v h) (put_fits f v h small fits))
      ∙ ap (λ x. answer nodes F (x ∷ map (put f v h) rest)) (put_same f v h)
      ∙ ap (answer nodes (child v)) (put_map f v h rest (missing f (level_of nodes id)))

  one_child : (v u : ℕ) → v < 2 ^ width f → u < 2 ^ width f → label_at pieces v ≡ label_at pieces u → child v ≡ child u
  one_child v u small low e =
      let a = labelled v small in
      let b = labelled u low in
      sym a.2 ∙ ap (λ (c : NodeId). c.0) (same_Some a.0 b.0 (sym a.1 ∙ ap (slice_get (children_of (edges_of nodes F))) e ∙ b.1)) ∙ b.2

  one_label : (v u : ℕ) → v < 2 ^ width f → u < 2 ^ width f → child v ≡ child u → label_at pieces v ≡ label_at pieces u
  one_label v u small low e =
      let a = labelled v small in
      let b = labelled u low in
      once (edges_of nodes F) (label_at pieces v) (label_at pieces u) a.0 b.0 a.1 b.1 (a.2 ∙ e ∙ sym b.2)

  same_child : (v u : ℕ) → v < 2 ^ width f → u < 2 ^ width f → ((h : ℕ → ℕ) → Fits h → parts v h ≡ parts u h) → child v ≡ child u
  same_child v u small low same =
      one nodes rest (child v) (child u) s front.field.1 (child_level v small) (child_level u low)
      (λ vs ok. let is = assigned_map rest vs (left_distinct f (level_of nodes id) apart) ok in
      ap (answer nodes (child v)) (sym is) ∙ same (assigned rest vs) (assigned_fits rest vs ok) ∙ ap (answer nodes (child u)) is)

  alike : (v u : ℕ) → v < 2 ^ width f → u < 2 ^ width f → label_at pieces v ≡ label_at pieces u → (h : ℕ → ℕ) → parts v h ≡ parts u h
  alike v u small low e h = ap (λ c. answer nodes c (map h rest)) (one_child v u small low e)

  apart_parts : (v u : ℕ) → v < 2 ^ width f → u < 2 ^ width f → ((h : ℕ → ℕ) → Fits h → parts v h ≡ parts u h) → label_at pieces v ≡ label_at pieces u
  apart_parts v u small low same = one_label v u small low (same_child v u small low same)

  -- what is known of the child at a label's place is known of the value's part
  moved : (P : ((ℕ → ℕ) → ℕ) → ℕ → Type 0) (ns : List ℕ) → AllZip (λ (c : NodeId) n. P (answer_by nodes (level_of nodes c.0) c.0) n) (children_of (edges_of nodes F)) ns →
      (v : ℕ) → v < 2 ^ width f → P (parts v) (slice_index ns (label_at pieces v))
  moved P ns z v small =
      let c = labelled v small in
      let here = zip_at (λ (c : NodeId) n. P (answer_by nodes (level_of nodes c.0) c.0) n) (children_of (edges_of nodes F)) ns (label_at pieces v) c.0 z c.1 in
      let n = slice_index ns (label_at pieces v) in
      subst (λ l. P (λ h. answer nodes (child v) (map h l)) n) (child_level v small)
      (subst (λ k. P (λ h. answer nodes k (map h (level_of nodes k))) n) c.2 here)

  -- a value's part is where it leads
  abbrev IsPart : NodeId → ℕ → Type 0
  IsPart c v = (v < 2 ^ width f) × (c.0 ≡ child v)

  one_part : (c d : NodeId) (v u : ℕ) → IsPart c v → IsPart d u → ((h : ℕ → ℕ) → Fits h → parts v h ≡ parts u h) → c ≡ d
  one_part c d v u a b same = ap (λ (n : ℕ). let r : NodeId = record { 0 = n } in r) (a.1 ∙ same_child v u a.0 b.0 same ∙ sym b.1)

  bounded : (k : ℕ) (c : NodeId) (n : ℕ) → slice_get (children_of (edges_of nodes F)) k ≡ Some c → IsAtLeast p (answer_by nodes (level_of nodes c.0) c.0) n → (v : ℕ) × IsPart c v × IsAtLeast p (parts v) n
  bounded k c n at low =
      let u = used k (slice_get_within (children_of (edges_of nodes F)) k c at) in
      let d = labelled u.0 u.1 in
      let same : c ≡ d.0 = same_Some c d.0 (sym at ∙ ap (slice_get (children_of (edges_of nodes F))) (sym u.2) ∙ d.1) in
      let here : c.0 ≡ child u.0 = ap (λ (x : NodeId). x.0) same ∙ d.2 in (
        u.0,
        (u.1, here),
        subst (λ l. IsAtLeast p (λ h. answer nodes (child u.0) (map h l)) n) (child_level u.0 u.1)
            (subst (λ x. IsAtLeast p (λ h. answer nodes x (map h (level_of nodes x))) n) here low),
      )

  pub bound : (lows : List ℕ) → AllZip (λ (c : NodeId) n. IsAtLeast p (answer_by nodes (level_of nodes c.0) c.0) n) (children_of (edges_of nodes F)) lows →
      IsAtLeast (f ∷ p) (answer_by nodes (level_of nodes id) id) (sum lows)
  bound lows z =
      some_parts f p (order_missing f p rest order (missing f (level_of nodes id))) (order_distinct p rest order) (answer_by nodes (level_of nodes id) id) parts at IsPart (λ c v is. is.0) one_part
      (children_of (edges_of nodes F)) lows (weaker (λ (c : NodeId) n. IsAtLeast p (answer_by nodes (level_of nodes c.0) c.0) n) (λ c n. (v : ℕ) × IsPart c v × IsAtLeast p (parts v) n)
      (children_of (edges_of nodes F)) lows bounded z)
      (λ i j c a b. once (edges_of nodes F) i j c c a b refl)

  pub follows : Follow (length (children_of (edges_of nodes F))) 0 pieces
  follows = follow (children_of (edges_of nodes F)) (greatest_of f) 0 (edges_of nodes F) pieces (node.rise nodes s F f rest front.field front.level inner.full pieces are) are

  pub wholes : reach 0 pieces ≡ 2 ^ width f
  wholes = let q = pow_pos (width f) in let w = whole (children_of (edges_of nodes F)) (greatest_of f) 0 (edges_of nodes F) pieces (node.rise nodes s F f rest front.field front.level inner.full pieces are) are in omega (arith, w, q)

  module _ (weights : List ℕ) (z : AllZip (λ (c : NodeId) n. IsExact nodes p c.0 n) (children_of (edges_of nodes F)) weights) where
    abbrev most : ℕ
    most = 2 ^ bits_of rest

    pub counts : length weights ≡ length (children_of (edges_of nodes F))
    counts = AllZip-long (λ (c : NodeId) n. IsExact nodes p c.0 n) (children_of (edges_of nodes F)) weights z

    exact_at : (v : ℕ) → v < 2 ^ width f → IsCostBy p (parts v) (slice_index weights (label_at pieces v)) × (slice_index weights (label_at pieces v) ≤ most)
    exact_at v small =
        let c = labelled v small in
        let here = zip_at (λ (c : NodeId) n. IsExact nodes p c.0 n) (children_of (edges_of nodes F)) weights (label_at pieces v) c.0 z c.1 in
        let n = slice_index weights (label_at pieces v) in (
          subst (λ l. IsCostBy p (λ h. answer nodes (child v) (map h l)) n) (child_level v small)
              (subst (λ k. IsCostBy p (λ h. answer nodes k (map h (level_of nodes k))) n) c.2 here.least),
          subst (λ l. n ≤ 2 ^ bits_of l) (child_level v small) (subst (λ k. n ≤ 2 ^ bits_of (level_of nodes k)) c.2 here.few),
        )

    headers : 2 ^ width f * most ≡ 2 ^ bits_of (level_of nodes id)
    headers = headers_from f rest ∙ ap (λ n. 2 ^ n) (sym (parted f (level_of nodes id) has apart front.within).bits)

    pub lights : weight_from weights 0 pieces ≤ 2 ^ 104
    lights =
        let bound = light (length (children_of (edges_of nodes F))) 0 weights most pieces follows
        (λ k less. let u = used k less in subst (λ l. slice_index weights l ≤ most) u.2 (exact_at u.0 u.1).1) in
        let all : reach 0 pieces * most ≡ 2 ^ bits_of (f ∷ rest) = ap (λ n. n * most) wholes ∙ headers_from f rest in
        let room : 2 ^ bits_of (f ∷ rest) ≤ 2 ^ 104 = pow_mono front.field.0.1 in
        omega (arith, bound, all, room)

    pub exact : (rows : List PrefixRow) (n : ℕ) → AreMinimal (width f) (label_at pieces) weights rows n → IsExact nodes (f ∷ p) id n
    exact rows n minimal =
        let Costs : ℕ → ℕ → Type 0 = λ v c. c ≡ slice_index weights (label_at pieces v) in
        let each = singles (width f) Costs most (narrow f) (λ v small. (slice_index weights (label_at pieces v), refl, (exact_at v small).1)) (2 ^ width f) (omega arith) in
        let least = minimal.least (rows_of (label_at pieces) each.0) (right_singles (width f) (label_at pieces) Costs most each.0 each.1) in
        let cost = weight-rows (label_at pieces) weights each.0 each.1.costs in
        record {
          least = parts_cost f p (order_missing f p rest order (missing f (level_of nodes id))) (order_distinct p rest order) (answer_by nodes (level_of nodes id) id) parts at (label_at pieces) alike apart_parts
              weights rows n (λ v small. (exact_at v small).0)
              (record {
                right = minimal.right;
                taken = All-weaker (λ r. r.label < length weights) (λ r. IsTaken (width f) (label_at pieces) r.label) (λ r low. used r.label (omega (arith, low, counts))) rows minimal.labels;
                weighs = minimal.weighs;
                least = minimal.least;
              });
          few = omega (arith, least, cost, each.1.few, headers);
        }

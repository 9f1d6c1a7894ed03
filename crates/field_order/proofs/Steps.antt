-- What a node costs in an order, from what its parts by the order's first field cost in the rest of the order.
use Rattle.std.proofs.Common.{◌≡◌, ◌∷◌, ℕ, List, [], ◌+◌, ◌-◌, ◌/◌, ◌%◌, ◌<◌, ◌≤◌, ◌^◌, length, get_or, ap, arith, sym, ◌∙◌, subst}
use Rattle.std.specs.Prelude.{slice_get, Option, Some, None, sum}
use Rattle.std.specs.Global.{Vec}
use Rattle.std.specs.List.{All, AllZip}
use Rattle.std.proofs.lemmas.Nat.{pow_pos}
use Rattle.std.proofs.lemmas.List.{length-append}
use Rattle.std.proofs.lemmas.Option.{slice_get-get_or}
use Rattle.field_boxes.specs.Headline.Fields.{width}
use Rattle.node_store.specs.declared.edge.NodeId.{NodeId}
use Rattle.node_store.specs.declared.edge.Edge.{Edge}
use Rattle.node_store.specs.Levels.{HasField, IsLevel, bits_of}
use Rattle.node_store.specs.Diagram.{Node, level_of, edges_of}
use Rattle.node_store.specs.Store.{IsStore, IsInner, Grows}
use Rattle.node_store.proofs.Canonical.{in_use, is_level}
use Rattle.node_store.proofs.Growth as growth
use Rattle.prefix_min.specs.declared.piece.Piece.{Piece}
use Rattle.prefix_min.specs.declared.row.PrefixRow.{PrefixRow}
use Rattle.prefix_min.specs.Pieces.{Follow, reach, label_at, weight_from}
use Rattle.field_boxes.specs.Orders.{AreDistinct, Has}
use Rattle.table_compose.specs.Labels.{children_of, ArePieces}
use Rattle.table_compose.proofs.Children.{taken}
use Rattle.table_compose.proofs.Later.{inner_of}
use Rattle.table_compose.proofs.NodeCost.{AreMinimal, leaf-cost}
use Rattle.field_order.specs.Fronts.{without, IsFront}
use Rattle.field_order.specs.declared.worth.Worth.{Worth}
use Rattle.field_order.specs.Worth.{IsRearranged, IsCostBy, IsAtLeast, IsExact, IsWorth, IsKept, AreFields, AreWeights, answer_by, digits}
use Rattle.field_order.proofs.Digits.{digits_parts}
use Rattle.field_order.proofs.Fronted.{some_field}
use Rattle.field_order.proofs.Without as left
use Rattle.field_order.proofs.Stays as stays
use Rattle.field_order.proofs.Parts.{lower}
use Rattle.field_order.proofs.Rows.{edges_kept}
use Rattle.field_order.proofs.NodeParts as parts
use Rattle.field_order.proofs.Zipped.{all_at}

-- the first field of the order, and the order of the others
pub record IsStep (level : List ℕ) (order f next : ℕ) : Type 0 where
  pub has : Has f level
  pub order_is : digits (length level) order ≡ f ∷ digits (length (without f level)) next
  pub rest : IsRearranged (digits (length (without f level)) next) (without f level)

pub step : (nodes : List Node) (level : List ℕ) (order id unit : ℕ) → IsLevel level → HasField level → AreFields nodes level (digits (length level) order) id → unit ≡ 5 ^ (length level - 1) →
    IsStep level order (order / unit) (order % unit)
step nodes level order id unit is has fields unit_is =
    let k = length level - 1 in
    let f = order / unit in
    let next = order % unit in
    let all : digits (length level) order ≡ f ∷ digits k next = digits_parts (length level) order unit unit_is (omega (arith, some_field level has)) in
    let both : IsRearranged (f ∷ digits k next) level = subst (λ o. IsRearranged o level) all fields.rearranged in
    let count = (left.parted f level both.0 fields.apart is).count in
    let long : k ≡ length (without f level) = omega (arith, count) in record {
      has = both.0;
      order_is = all ∙ ap (λ n. f ∷ digits n next) long;
      rest = subst (λ n. IsRearranged (digits n next) (without f level)) long both.1;
    }

-- the field is one
pub small : (level : List ℕ) (order f next : ℕ) → IsLevel level → AreDistinct level → IsStep level order f next → f < 5
small level order f next is apart s = (left.parted f level s.has apart is).small

-- what the minimiser is asked, and what its answer says of the node
pub record IsAsked (nodes : List Node) (f : ℕ) (order : List ℕ) (id : ℕ) (pieces : List Piece) (weights : List ℕ) : Type 0 where
  pub follow : Follow (length weights) 0 pieces
  pub whole : reach 0 pieces ≡ 2 ^ width f
  pub light : weight_from weights 0 pieces ≤ 2 ^ 104
  pub exact : (rows : List PrefixRow) (n : ℕ) → AreMinimal (width f) (label_at pieces) weights rows n → IsExact nodes order id n

-- a node, and its front by the first field of the order, which was made as the store grew
pub record IsOpened (n0 n1 : List Node) (level : List ℕ) (order id unit F : ℕ) : Type 0 where
  pub store : IsStore n1
  pub is : IsLevel level
  pub fields : AreFields n0 level (digits (length level) order) id
  pub step : IsStep level order (order / unit) (order % unit)
  pub front : IsFront n1 id (order / unit) F
  pub grows : Grows n0 n1

pub opened : (n0 n1 : List Node) (level : List ℕ) (order id unit F : ℕ) → IsStore n1 → IsLevel level → HasField level → AreFields n0 level (digits (length level) order) id → unit ≡ 5 ^ (length level - 1) →
    IsFront n1 id (order / unit) F → Grows n0 n1 → IsOpened n0 n1 level order id unit F
opened n0 n1 level order id unit F s is some fields unit_is front g = record { store = s; is = is; fields = fields; step = step n0 level order id unit is some fields unit_is; front = front; grows = g }

-- the front's children as slices bring them, with their pieces, when the store has grown further
pub record AreTold (n1 n2 : List Node) (rest : List ℕ) (F : ℕ) (pieces : List Piece) (slice : List ℕ) (ids : List NodeId) : Type 0 where
  pub store : IsStore n2
  pub grows : Grows n1 n2
  pub are : ArePieces (children_of (edges_of n1 F)) (edges_of n1 F) pieces
  pub level : slice ≡ rest
  pub nodes : ids ≡ children_of (edges_of n1 F)

pub brought : (n1 n2 : List Node) (rest : List ℕ) (F : ℕ) (seen : List Edge) (pieces : List Piece) (slice : List ℕ) (ids : List NodeId) → IsStore n2 → Grows n1 n2 → seen ≡ edges_of n1 F →
    ArePieces (children_of seen) seen pieces → slice ≡ rest → ids ≡ children_of seen → AreTold n1 n2 rest F pieces slice ids
brought n1 n2 rest F seen pieces slice ids s g same are level_is ids_are =
    record { store = s; grows = g; are = subst (λ es. ArePieces (children_of es) es pieces) same are; level = level_is; nodes = ids_are ∙ ap children_of same }

module _ {n0 n1 : List Node} {level : List ℕ} {order id unit F : ℕ} (o : IsOpened n0 n1 level order id unit F) where
  abbrev f : ℕ
  f = order / unit

  abbrev rest : List ℕ
  rest = without f level

  abbrev p : List ℕ
  p = digits (length rest) (order % unit)

  at1 : level_of n1 id ≡ level
  at1 = growth.level_kept n0 n1 id o.grows (in_use n0 id level o.is o.fields.at) ∙ o.fields.at

  F_level : level_of n1 F ≡ f ∷ rest
  F_level = o.front.level ∙ ap (λ l. f ∷ without f l) at1

  F_field : HasField (f ∷ rest)
  F_field = subst (λ l. HasField (f ∷ without f l)) at1 o.front.field

  pub front_field : HasField (level_of n1 F)
  front_field = subst HasField (sym F_level) F_field

  inner : IsInner n1 F (f ∷ rest) (edges_of n1 F)
  inner = subst (λ l. IsInner n1 F l (edges_of n1 F)) F_level (inner_of n1 F o.store front_field)

  child_level : (k : ℕ) (c : NodeId) → slice_get (children_of (edges_of n1 F)) k ≡ Some c → level_of n1 c.0 ≡ rest
  child_level k c at =
      taken (λ a. level_of n1 a.0 ≡ rest) (edges_of n1 F)
      (λ i e there. (all_at (λ (x : Edge). (x.to.0 < F) × (level_of n1 x.to.0 ≡ rest)) (edges_of n1 F) i e inner.children there).1) k c at

  -- the children are to be read in the rest of the order
  pub children : (slice : List ℕ) (ids : List NodeId) → slice ≡ rest → ids ≡ children_of (edges_of n1 F) → All (λ (c : NodeId). AreFields n1 slice (digits (length slice) (order % unit)) c.0) ids
  children slice ids same_level same_ids =
      let each : All (λ (c : NodeId). AreFields n1 rest p c.0) (children_of (edges_of n1 F)) = λ k d less. record {
        at = child_level k (get_or (children_of (edges_of n1 F)) k d) (slice_get-get_or (children_of (edges_of n1 F)) k d less);
        apart = left.distinct f level o.fields.apart;
        rearranged = o.step.rest;
      } in
      subst (λ l. All (λ (c : NodeId). AreFields n1 l (digits (length l) (order % unit)) c.0) ids) (sym same_level) (subst (All (λ (c : NodeId). AreFields n1 rest p c.0)) (sym same_ids) each)

  module _ {n2 : List Node} {pieces : List Piece} {slice : List ℕ} {ids : List NodeId} (told : AreTold n1 n2 rest F pieces slice ids) where
    at2 : level_of n2 id ≡ level
    at2 = growth.level_kept n1 n2 id told.grows (in_use n1 id level o.is at1) ∙ at1

    front2 : IsFront n2 id f F
    front2 = stays.front n1 n2 told.grows id f F o.front

    same : edges_of n2 F ≡ edges_of n1 F
    same = edges_kept n1 n2 F told.grows (in_use n1 F (f ∷ rest) (is_level (f ∷ rest) F_field) F_level)

    has2 : Has f (level_of n2 id)
    has2 = subst (Has f) (sym at2) o.step.has

    apart2 : AreDistinct (level_of n2 id)
    apart2 = subst AreDistinct (sym at2) o.fields.apart

    rest2 : IsRearranged p (without f (level_of n2 id))
    rest2 = subst (λ l. IsRearranged p (without f l)) (sym at2) o.step.rest

    are2 : ArePieces (children_of (edges_of n2 F)) (edges_of n2 F) pieces
    are2 = subst (λ es. ArePieces (children_of es) es pieces) (sym same) told.are

    -- what goes with the nodes of the slice goes with the children
    zip_back : (P : List ℕ → NodeId → ℕ → Type 0) (ns : List ℕ) → AllZip (P (digits (length slice) (order % unit))) ids ns → AllZip (P p) (children_of (edges_of n2 F)) ns
    zip_back P ns z =
        subst (λ cs. AllZip (P p) cs ns) (told.nodes ∙ ap children_of (sym same)) (subst (λ l. AllZip (P (digits (length l) (order % unit))) ids ns) told.level z)

    pub beyond : (cap : ℕ) (found : Option (Vec ℕ)) → found ≡ None → AreWeights n2 (digits (length slice) (order % unit)) ids cap found →
        IsAtLeast (digits (length level) order) (answer_by n2 (level_of n2 id) id) (cap + 1)
    beyond cap found none w =
        let low = subst (AreWeights n2 (digits (length slice) (order % unit)) ids cap) none w in
        let z = zip_back (λ q c n. IsAtLeast q (answer_by n2 (level_of n2 c.0) c.0) n) low.0 low.1 in
        subst (λ q. IsAtLeast q (answer_by n2 (level_of n2 id) id) (cap + 1)) (sym o.step.order_is)
        (lower (f ∷ p) (answer_by n2 (level_of n2 id) id) (sum low.0) (cap + 1) (omega (arith, low.2)) (parts.bound n2 told.store id f F front2 has2 apart2 p rest2 pieces are2 low.0 z))

    pub asked : (cap : ℕ) (found : Option (Vec ℕ)) (weights : Vec ℕ) (seen : List Piece) (costs : List ℕ) → found ≡ Some weights → seen ≡ pieces → costs ≡ weights.items →
        AreWeights n2 (digits (length slice) (order % unit)) ids cap found → IsAsked n2 f (digits (length level) order) id seen costs
    asked cap found weights seen costs some same_pieces same_costs w =
        let ws = weights.items in
        let z = zip_back (λ q c n. IsExact n2 q c.0 n) ws (subst (AreWeights n2 (digits (length slice) (order % unit)) ids cap) some w) in
        let made : IsAsked n2 f (digits (length level) order) id pieces ws = record {
          follow = subst (λ n. Follow n 0 pieces) (sym (parts.counts n2 told.store id f F front2 has2 apart2 p rest2 pieces are2 ws z)) (parts.follows n2 told.store id f F front2 has2 apart2 p rest2 pieces are2);
          whole = parts.wholes n2 told.store id f F front2 has2 apart2 p rest2 pieces are2;
          light = parts.lights n2 told.store id f F front2 has2 apart2 p rest2 pieces are2 ws z;
          exact = λ rows n minimal. subst (λ q. IsExact n2 q id n) (sym o.step.order_is) (parts.exact n2 told.store id f F front2 has2 apart2 p rest2 pieces are2 ws z rows n minimal);
        } in
        subst (λ ps. IsAsked n2 f (digits (length level) order) id ps costs) (sym same_pieces) (subst (IsAsked n2 f (digits (length level) order) id pieces) (sym same_costs) made)

-- a leaf costs one entry
pub leaf : (nodes : List Node) (level : List ℕ) (order id : ℕ) → level_of nodes id ≡ level → level ≡ [] → IsExact nodes (digits (length level) order) id 1
leaf nodes level order id at none = record {
  least = subst (λ l. IsCostBy (digits (length l) order) (answer_by nodes (level_of nodes id) id) 1) (sym none) (λ name R apart decide. leaf-cost R);
  few = pow_pos (bits_of (level_of nodes id));
}

-- what is kept of a node is what was found of it
pub to_keep : (n0 n1 : List Node) (level : List ℕ) (order : ℕ) (id : NodeId) (worth : Worth) → IsLevel level → level_of n0 id.0 ≡ level → Grows n0 n1 → IsWorth n1 (digits (length level) order) id.0 worth →
    IsKept n1 (record { id = id; order = order }) worth
to_keep n0 n1 level order id worth is at g w =
    let used = in_use n0 id.0 level is at in
    let now = growth.level_kept n0 n1 id.0 g used ∙ at in
    let long = ap (λ (nodes : List Node). length nodes) g.gained.1 ∙ length-append n0 g.gained.0 in record {
      number = omega (arith, used, long);
      worth_is = subst (λ l. IsWorth n1 (digits (length l) order) id.0 worth) (sym now) w;
    }

pub kept_is : (nodes : List Node) (level : List ℕ) (order : ℕ) (id : NodeId) (worth : Worth) → level_of nodes id.0 ≡ level → IsKept nodes (record { id = id; order = order }) worth →
    IsWorth nodes (digits (length level) order) id.0 worth
kept_is nodes level order id worth at k = subst (λ l. IsWorth nodes (digits (length l) order) id.0 worth) at k.worth_is

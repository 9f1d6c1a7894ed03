-- What a node costs at least: as much as any of its children without the node's field, and as its parts at some values of another one.
use Rattle.std.proofs.Common.{◌≡◌, ◌∷◌, ℕ, List, [], ◌+◌, ◌<◌, ◌^◌, length, get_or, map, ap, arith, refl, sym, ◌∙◌, subst, inl, inr}
use Rattle.std.specs.Prelude.{Some, None, Bool, true, false, slice_get, sum}
use Rattle.std.specs.Bool.{OnTrue}
use Rattle.std.specs.List.{All, AllZip}
use Rattle.std.proofs.lemmas.Nat.{pow_pos}
use Rattle.field_boxes.specs.Headline.Fields.{width}
use Rattle.field_boxes.specs.Fields.{greatest_of}
use Rattle.node_store.specs.declared.edge.NodeId.{NodeId}
use Rattle.node_store.specs.declared.edge.Edge.{Edge}
use Rattle.node_store.specs.Levels.{HasField, IsLevel, next as next_level}
use Rattle.node_store.specs.Edges.{child_of}
use Rattle.node_store.specs.Diagram.{Node, level_of, edges_of, answer}
use Rattle.node_store.specs.Store.{IsStore, IsInner, Grows}
use Rattle.std.proofs.lemmas.Option.{slice_get-get_or}
use Rattle.node_store.proofs.Canonical.{in_use, one}
use Rattle.node_store.proofs.Edges.{rise_of, same_id}
use Rattle.node_store.proofs.Growth as growth
use Rattle.field_boxes.specs.Orders.{IsMissing, AreDistinct, Has}
use Rattle.table_compose.specs.Labels.{children_of}
use Rattle.table_compose.proofs.Children.{once, taken}
use Rattle.table_compose.proofs.Labelled.{end_leads}
use Rattle.table_compose.proofs.Later.{inner_of}
use Rattle.field_order.specs.Fronts.{Fits, without, IsFrontEdge, IsSample}
use Rattle.field_order.specs.Order.{place_of}
use Rattle.field_order.specs.Worth.{IsRearranged, IsAtLeast, IsAbove, AreAbove, AreFields, AreWeights, answer_by, digits}
use Rattle.field_order.proofs.Without as left
use Rattle.field_order.proofs.Values.{put, put_same, put_map, assigned, assigned_fits, assigned_map}
use Rattle.field_order.proofs.Parts.{least_alike, lower as lowered, some_parts}
use Rattle.field_order.proofs.Rows.{edges_kept}
use Rattle.field_order.proofs.Stays as stays
use Rattle.field_order.proofs.Digits.{below_is, below_order}
use Rattle.field_order.proofs.Narrowed.{least_at}
use Rattle.field_order.proofs.Zipped.{all_at, weaker}
use Rattle.field_order.proofs.Fronted.{crossing, sampled}

-- a node costs no less than one of its children in the order without the node's own field
pub child_bound : (nodes : List Node) (id g : ℕ) (rest order : List ℕ) (k : ℕ) (e : Edge) (n : ℕ) → IsStore nodes → level_of nodes id ≡ g ∷ rest → IsLevel (g ∷ rest) → AreDistinct (g ∷ rest) →
    IsRearranged order (g ∷ rest) → slice_get (edges_of nodes id) k ≡ Some e → IsAtLeast (without g order) (answer_by nodes (level_of nodes e.to.0) e.to.0) n →
    IsAtLeast order (answer_by nodes (level_of nodes id) id) n
child_bound nodes id g rest order k e n s at is d r here low =
    let inner : IsInner nodes id (g ∷ rest) (edges_of nodes id) = subst (λ l. IsInner nodes id l (edges_of nodes id)) at (inner_of nodes id s (subst HasField (sym at) is)) in
    let ends = end_leads (greatest_of g) 0 (edges_of nodes id) (rise_of (greatest_of g) (edges_of nodes id) inner.full) k e here in
    let u = e.hi in
    let positive = pow_pos (width g) in
    let small : u < 2 ^ width g = omega (arith, ends.1, positive) in
    let below : level_of nodes e.to.0 ≡ rest = (all_at (λ (x : Edge). (x.to.0 < id) × (level_of nodes x.to.0 ≡ rest)) (edges_of nodes id) k e inner.children here).1 in
    least_at order g u (answer_by nodes (level_of nodes id) id) (answer_by nodes (level_of nodes e.to.0) e.to.0) n (left.order_has g order (g ∷ rest) r (inl refl)) (left.order_distinct order (g ∷ rest) r) small
    (λ h fits.
    ap (λ l. answer nodes id (map (put g u h) l)) at
    ∙ ap (λ x. answer nodes (child_of (edges_of nodes id) x) (map (put g u h) rest)) (put_same g u h)
    ∙ ap (answer nodes (child_of (edges_of nodes id) u)) (put_map g u h rest d.0)
    ∙ ap (λ c. answer nodes c (map h rest)) ends.2
    ∙ ap (λ l. answer nodes e.to.0 (map h l)) (sym below))
    low

module _ (n0 n1 n2 n3 : List Node) (id f g : ℕ) (rest : List ℕ) (s : IsStore n0) (s3 : IsStore n3) (at : level_of n0 id ≡ g ∷ rest) (is : IsLevel (g ∷ rest)) (d : AreDistinct (g ∷ rest)) (has : Has f rest)
    (g01 : Grows n0 n1) (g03 : Grows n0 n3) (g23 : Grows n2 n3) (es : List Edge) (zip : AllZip (IsFrontEdge n1 f) (edges_of n0 id) es)
    (samples : List Edge) (all : All (IsSample n1 n2 (g ∷ without f rest) f es) samples) (p : List ℕ) (order : IsRearranged p (g ∷ without f rest)) where
  abbrev lower : List ℕ
  lower = g ∷ without f rest

  is_lower : IsLevel lower
  is_lower = (crossing f g rest has d is).upper.1

  abbrev whole : (ℕ → ℕ) → ℕ
  whole = answer_by n3 (g ∷ rest) id

  -- the node answers as the whole where the field has the value
  abbrev IsPart : NodeId → ℕ → Type 0
  IsPart c v = (v < 2 ^ width f) × (level_of n3 c.0 ≡ lower) × ((h : ℕ → ℕ) → Fits h → answer n3 c.0 (map h lower) ≡ whole (put f v h))

  sample : (e : Edge) → IsSample n1 n2 lower f es e → (v : ℕ) × IsPart e.to v
  sample e is_sample =
      let positive = pow_pos (width f) in
      let small : e.hi < 2 ^ width f = omega (arith, is_sample.inside, positive) in
      let stands = in_use n2 e.to.0 lower is_lower is_sample.level_is in
      (e.hi, (small, growth.level_kept n2 n3 e.to.0 g23 stands ∙ is_sample.level_is, sampled n0 n1 id f g rest s at is d has g01 es zip n2 n3 g03 g23 e is_sample small))

  part : (k : ℕ) (c : NodeId) → slice_get (children_of samples) k ≡ Some c → (v : ℕ) × IsPart c v
  part = taken (λ c. (v : ℕ) × IsPart c v) samples (λ i e there. sample e (all_at (IsSample n1 n2 lower f es) samples i e all there))

  distinct : AreDistinct lower
  distinct = subst AreDistinct (crossing f g rest has d is).lower (left.distinct f (g ∷ rest) d)

  missing : IsMissing f lower
  missing = subst (IsMissing f) (crossing f g rest has d is).lower (left.missing f (g ∷ rest))

  single : (a b : NodeId) (v u : ℕ) → IsPart a v → IsPart b u → ((h : ℕ → ℕ) → Fits h → whole (put f v h) ≡ whole (put f u h)) → a ≡ b
  single a b v u x y same =
      same_id a b
      (one n3 lower a.0 b.0 s3 is_lower x.1 y.1
      (λ vs ok.
      let h = assigned lower vs in
      let fits = assigned_fits lower vs ok in
      let map_is = assigned_map lower vs distinct ok in
      ap (answer n3 a.0) (sym map_is) ∙ x.2 h fits ∙ same h fits ∙ sym (y.2 h fits) ∙ ap (answer n3 b.0) map_is))

  pub bound : (lows : List ℕ) → AllZip (λ (c : NodeId) n. IsAtLeast p (answer_by n3 (level_of n3 c.0) c.0) n) (children_of samples) lows → IsAtLeast (f ∷ p) whole (sum lows)
  bound lows z =
      some_parts f p (left.order_missing f p lower order missing) (left.order_distinct p lower order) whole (λ v h. whole (put f v h)) (λ v h small fits. refl) IsPart (λ c v a. a.0) single
      (children_of samples) lows
      (weaker (λ (c : NodeId) n. IsAtLeast p (answer_by n3 (level_of n3 c.0) c.0) n) (λ (c : NodeId) n. (v : ℕ) × IsPart c v × IsAtLeast p (λ h. whole (put f v h)) n) (children_of samples) lows
      (λ k c n here low.
      let found = part k c here in
      (found.0, found.1, least_alike p (answer_by n3 (level_of n3 c.0) c.0) (λ h. whole (put f found.0 h)) (λ h fits. sym (found.1.2 h fits) ∙ ap (λ l. answer n3 c.0 (map h l)) (sym found.1.1)) n low)) z)
      (λ i j c a b. once samples i j c c a b refl)

-- the same over what the code hands over
pub children_fields : (nodes : List Node) (level slice : List ℕ) (order below d id : ℕ) (seen : List Edge) → IsStore nodes → IsLevel level → HasField level → AreFields nodes level (digits (length level) order) id →
    slice ≡ next_level level → seen ≡ edges_of nodes id → below ≡ place_of (without (get_or level 0 d) (digits (length level) order)) → All (λ (e : Edge). AreFields nodes slice (digits (length slice) below) e.to.0) seen
children_fields nodes [] slice order below d id seen s is some fields same_slice same_edges place = absurd some
children_fields nodes (g ∷ rest) slice order below d id seen s is some fields same_slice same_edges place =
    let inner : IsInner nodes id (g ∷ rest) (edges_of nodes id) = subst (λ l. IsInner nodes id l (edges_of nodes id)) fields.at (inner_of nodes id s (subst HasField (sym fields.at) is)) in
    let each : All (λ (e : Edge). AreFields nodes rest (digits (length rest) below) e.to.0) (edges_of nodes id) = λ k e less. record {
      at = (inner.children k e less).1;
      apart = fields.apart.1;
      rearranged = below_order g rest order is fields.apart fields.rearranged below place;
    } in
    subst (λ l. All (λ (e : Edge). AreFields nodes l (digits (length l) below) e.to.0) seen) (sym same_slice)
    (subst (All (λ (e : Edge). AreFields nodes rest (digits (length rest) below) e.to.0)) (sym same_edges) each)

pub child_told : (b : Bool) (n0 n1 : List Node) (level slice : List ℕ) (order below cap d : ℕ) (id : NodeId) (seen : List Edge) → IsStore n1 → IsLevel level → HasField level →
    AreFields n0 level (digits (length level) order) id.0 → Grows n0 n1 → slice ≡ next_level level → seen ≡ edges_of n0 id.0 → below ≡ place_of (without (get_or level 0 d) (digits (length level) order)) →
    OnTrue b ((k : ℕ) × (e : Edge) × (slice_get seen k ≡ Some e) × IsAbove n1 (digits (length slice) below) cap e.to) → OnTrue b (IsAbove n1 (digits (length level) order) cap id)
child_told false n0 n1 level slice order below cap d id seen s is some fields grown same_slice same_edges below_place told = tt
child_told true n0 n1 [] slice order below cap d id seen s is some fields grown same_slice same_edges below_place told = absurd some
child_told true n0 n1 (g ∷ rest) slice order below cap d id seen s is some fields grown same_slice same_edges below_place told =
    let k = told.0 in
    let e = told.1 in
    let stands = in_use n0 id.0 (g ∷ rest) is fields.at in
    let at = growth.level_kept n0 n1 id.0 grown stands ∙ fields.at in
    let edge = ap (λ xs. slice_get xs k) (edges_kept n0 n1 id.0 grown stands ∙ sym same_edges) ∙ told.2 in
    let o : digits (length slice) below ≡ without g (digits (length (g ∷ rest)) order) = ap (λ l. digits (length l) below) same_slice ∙ below_is g rest order is fields.apart fields.rearranged below below_place in
    child_bound n1 id.0 g rest (digits (length (g ∷ rest)) order) k e (cap + 1) s at is fields.apart fields.rearranged edge
    (subst (λ x. IsAtLeast x (answer_by n1 (level_of n1 e.to.0) e.to.0) (cap + 1)) o told.3)

pub several_told : (b : Bool) (n0 n1 n2 : List Node) (level others : List ℕ) (id : NodeId) (f order cap : ℕ) (es seen : List Edge) → IsStore n0 → IsStore n2 → IsLevel level → HasField level → AreDistinct level →
    level_of n0 id.0 ≡ level → Has f (next_level level) → IsRearranged (digits (length (without f level)) order) (without f level) → Grows n0 n1 → AllZip (IsFrontEdge n1 f) (edges_of n0 id.0) es → Grows n1 n2 →
    others ≡ without f level → seen ≡ es → OnTrue b (AreAbove n1 n2 others f seen (digits (length others) order) cap) → OnTrue b (IsAbove n2 (f ∷ digits (length (without f level)) order) cap id)
several_told false n0 n1 n2 level others id f order cap es seen s s2 is some d at has r g01 zip g12 same_level same_edges a = tt
several_told true n0 n1 n2 [] others id f order cap es seen s s2 is some d at has r g01 zip g12 same_level same_edges a = absurd some
several_told true n0 n1 n2 (g ∷ rest) others id f order cap es seen s s2 is some d at has r g01 zip g12 same_level same_edges a =
    let whole = answer_by n2 (level_of n2 id.0) id.0 in
    let same : without f (g ∷ rest) ≡ g ∷ without f rest = (crossing f g rest has d is).lower in
    let now = growth.level_kept n0 n2 id.0 (growth.twice n0 n1 n2 g01 g12) (in_use n0 id.0 (g ∷ rest) is at) ∙ at in
    let p = digits (length (without f (g ∷ rest))) order in
    let are = subst (λ l. All (IsSample a.first a.made l f es) a.samples) (same_level ∙ same) (subst (λ xs. All (IsSample a.first a.made others f xs) a.samples) same_edges a.are) in
    let above = subst (λ l. AreWeights n2 (digits (length l) order) (children_of a.samples) cap None) same_level a.above in
    let least = bound n0 a.first a.made n2 id.0 f g rest s s2 at is d has (growth.twice n0 n1 a.first g01 a.begun) (growth.twice n0 n1 n2 g01 g12) a.grows es (stays.front_edges n1 a.first a.begun f (edges_of n0 id.0) es zip) a.samples are
    p (subst (IsRearranged p) same r) above.0 above.1 in
    lowered (f ∷ p) whole (sum above.0) (cap + 1) (omega (arith, above.2)) (subst (λ l. IsAtLeast (f ∷ p) (answer_by n2 l id.0) (sum above.0)) (sym now) least)

-- the parts at some values are to be read in the rest of the order
pub sample_fields : (old new : List Node) (level order : List ℕ) (f : ℕ) (es samples : List Edge) → AreDistinct level → IsRearranged order level → All (IsSample old new level f es) samples →
    All (λ (c : NodeId). AreFields new level order c.0) (children_of samples)
sample_fields old new level order f es samples d r all k c less = record {
  at = taken (λ (a : NodeId). level_of new a.0 ≡ level) samples (λ i e there. (all_at (IsSample old new level f es) samples i e all there).level_is) k (get_or (children_of samples) k c)
      (slice_get-get_or (children_of samples) k c less);
  apart = d;
  rearranged = r;
}

pub above_later : (old first new : List Node) (level order : List ℕ) (f : ℕ) (es : List Edge) (cap : ℕ) → Grows old first → AreAbove first new level f es order cap → AreAbove old new level f es order cap
above_later old first new level order f es cap g a = record {
  first = a.first;
  made = a.made;
  samples = a.samples;
  begun = growth.twice old first a.first g a.begun;
  grows = a.grows;
  are = a.are;
  above = a.above;
}

pub first_has : (level : List ℕ) (d : ℕ) → HasField level → Has (get_or level 0 d) level
first_has [] d some = absurd some
first_has (g ∷ rest) d some = inl refl

pub next_has : (f : ℕ) (level : List ℕ) → Has f (next_level level) → Has f level
next_has f [] has = has
next_has f (g ∷ rest) has = inr has

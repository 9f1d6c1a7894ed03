-- Two lists of edges, part by part up to a value.
use Rattle.std.proofs.Common.{◌≡◌, ◌∷◌, ◌++◌, ℕ, List, [], ◌+◌, ◌≤◌, ◌<◌, length, refl, ap, arith, sym, ◌∙◌, subst, inl, inr}
use Rattle.std.specs.Prelude.{◌⊎◌, suc, map, All}
use Rattle.std.proofs.lemmas.Bool.{cases_lt}
use Rattle.std.proofs.lemmas.List.{append-nil}
use Rattle.std.proofs.lemmas.List.Elements.{All-cons, All-nil}
use Rattle.node_store.specs.declared.edge.Edge.{Edge}
use Rattle.node_store.specs.declared.edge.NodeId.{NodeId}
use Rattle.node_store.specs.declared.split.Part.{Part}
use Rattle.node_store.specs.Edges.{child_of}
use Rattle.node_store.specs.Split.{to_left, to_right}
use Rattle.node_store.proofs.Edges as edge_lists
use Rattle.field_sets.specs.Fill.{Fill, reaching}
use Rattle.field_sets.specs.Parting.{IsSplitWithin, IsFirstWithin}
use Rattle.field_sets.proofs.Onward as onward

-- the parts are the first one and, unless it ends at hi, those of what is left past it
abbrev pub Follows : ℕ → List Edge → List Edge → List Part → Type 0
Follows hi left right [] = (left ≡ []) ⊎ (right ≡ [])
Follows hi left right (p ∷ ps) =
    IsFirstWithin hi left right p × (p.hi ≡ hi → ps ≡ []) × (p.hi < hi → Follows hi (reaching (suc p.hi) left) (reaching (suc p.hi) right) ps)

-- two lists that begin with an edge each
module _ (hi lo top : ℕ) (e d : Edge) (es ds : List Edge) (p : Part) (first : IsFirstWithin hi (e ∷ es) (d ∷ ds) p) where
  begins : lo ≤ hi → lo ≤ e.hi → lo ≤ d.hi → lo ≤ p.hi
  begins h a b = omega (arith, first.0, h, a, b)

  ends : p.hi ≤ hi
  ends = omega (arith, first.0)

  -- each value of the part leads where the part does
  on_left : (v : ℕ) → v ≤ p.hi → p.left.0 ≡ child_of (e ∷ es) v
  on_left v h = ap (λ (n : NodeId). n.0) first.1 ∙ sym (edge_lists.within e es v (omega (arith, first.0, h)))

  on_right : (v : ℕ) → v ≤ p.hi → p.right.0 ≡ child_of (d ∷ ds) v
  on_right v h = ap (λ (n : NodeId). n.0) first.2 ∙ sym (edge_lists.within d ds v (omega (arith, first.0, h)))

  last : lo ≤ hi → lo ≤ e.hi → lo ≤ d.hi → p.hi ≡ hi → IsSplitWithin lo hi (e ∷ es) (d ∷ ds) (p ∷ [])
  last h a b end = record {
    fill = (begins h a b, ap suc end);
    left = λ v low high. edge_lists.within (to_left p) [] v (omega (arith, end, high)) ∙ on_left v (omega (arith, end, high));
    right = λ v low high. edge_lists.within (to_right p) [] v (omega (arith, end, high)) ∙ on_right v (omega (arith, end, high));
  }

  one_more : (ps : List Part) → lo ≤ hi → lo ≤ e.hi → lo ≤ d.hi → IsSplitWithin (suc p.hi) hi (reaching (suc p.hi) (e ∷ es)) (reaching (suc p.hi) (d ∷ ds)) ps →
      IsSplitWithin lo hi (e ∷ es) (d ∷ ds) (p ∷ ps)
  one_more ps h a b more = record {
    fill = (begins h a b, more.fill);
    left = λ v low high. elim (cases_lt p.hi v) [
      | inl past ↦ edge_lists.past (to_left p) (map to_left ps) v past ∙ more.left v past high ∙ onward.child_on (suc p.hi) v (e ∷ es) past
      | inr within ↦ edge_lists.within (to_left p) (map to_left ps) v within ∙ on_left v within
    ];
    right = λ v low high. elim (cases_lt p.hi v) [
      | inl past ↦ edge_lists.past (to_right p) (map to_right ps) v past ∙ more.right v past high ∙ onward.child_on (suc p.hi) v (d ∷ ds) past
      | inr within ↦ edge_lists.within (to_right p) (map to_right ps) v within ∙ on_right v within
    ];
  }

some_left : (lo hi top : ℕ) (es : List Edge) → lo ≤ hi → hi ≤ top → Fill lo top es → es ≡ [] → ⊥
some_left lo hi top es h k f none = let end : lo ≡ suc top = subst (λ xs. Fill lo top xs) none f in omega (arith, h, k, end)

module _ (hi top : ℕ) (within : hi ≤ top) where
  by_end : (lo : ℕ) (e d : Edge) (es ds : List Edge) (p : Part) (ps : List Part) → lo ≤ hi → Fill lo top (e ∷ es) → Fill lo top (d ∷ ds) → IsFirstWithin hi (e ∷ es) (d ∷ ds) p →
      (p.hi ≡ hi → ps ≡ []) → (p.hi < hi → IsSplitWithin (suc p.hi) hi (reaching (suc p.hi) (e ∷ es)) (reaching (suc p.hi) (d ∷ ds)) ps) →
      IsSplitWithin lo hi (e ∷ es) (d ∷ ds) (p ∷ ps)
  by_end lo e d es ds p ps h f g first none more = elim (cases_lt p.hi hi) [
    | inl less ↦ one_more hi lo top e d es ds p first ps h f.0 g.0 (more less)
    | inr end ↦
        let at : p.hi ≡ hi = omega (arith, end, ends hi lo top e d es ds p first) in
        subst (λ qs. IsSplitWithin lo hi (e ∷ es) (d ∷ ds) (p ∷ qs)) (sym (none at)) (last hi lo top e d es ds p first h f.0 g.0 at)
  ]

  pub parted : (lo : ℕ) (ps : List Part) (left right : List Edge) → lo ≤ hi → Fill lo top left → Fill lo top right → Follows hi left right ps → IsSplitWithin lo hi left right ps
  parted lo [] left right h f g (inl none) = absurd (some_left lo hi top left h within f none)
  parted lo [] left right h f g (inr none) = absurd (some_left lo hi top right h within g none)
  parted lo (p ∷ ps) [] right h f g follows = absurd follows.0
  parted lo (p ∷ ps) (e ∷ es) [] h f g follows = absurd follows.0
  parted lo (p ∷ ps) (e ∷ es) (d ∷ ds) h f g follows =
      let low = begins hi lo top e d es ds p follows.0 h f.0 g.0 in
      let high = ends hi lo top e d es ds p follows.0 in
      by_end lo e d es ds p ps h f g follows.0 follows.1
      (λ less. parted (suc p.hi) ps (reaching (suc p.hi) (e ∷ es)) (reaching (suc p.hi) (d ∷ ds)) less
      (onward.fill_on (suc p.hi) lo top (e ∷ es) (omega (arith, low)) (omega (arith, high, within)) f)
      (onward.fill_on (suc p.hi) lo top (d ∷ ds) (omega (arith, low)) (omega (arith, high, within)) g) (follows.2 less))

-- what holds of each child of the edges holds of each child of the parts
module _ (P : ℕ → Type 0) (hi : ℕ) where
  abbrev Each : List Edge → Type 0
  Each es = All (λ (e : Edge). P e.to.0) es

  left_by : (p : Part) (ps : List Part) → (p.hi ≡ hi → ps ≡ []) → p.hi ≤ hi → (p.hi < hi → Each (map to_left ps)) → Each (map to_left ps)
  left_by p ps none bound more = elim (cases_lt p.hi hi) [
    | inl less ↦ more less
    | inr end ↦ subst (λ qs. Each (map to_left qs)) (sym (none (omega (arith, end, bound)))) (All-nil (λ (e : Edge). P e.to.0))
  ]

  right_by : (p : Part) (ps : List Part) → (p.hi ≡ hi → ps ≡ []) → p.hi ≤ hi → (p.hi < hi → Each (map to_right ps)) → Each (map to_right ps)
  right_by p ps none bound more = elim (cases_lt p.hi hi) [
    | inl less ↦ more less
    | inr end ↦ subst (λ qs. Each (map to_right qs)) (sym (none (omega (arith, end, bound)))) (All-nil (λ (e : Edge). P e.to.0))
  ]

  pub all_left : (ps : List Part) (left right : List Edge) → Follows hi left right ps → Each left → Each (map to_left ps)
  all_left [] left right follows all = All-nil (λ (e : Edge). P e.to.0)
  all_left (p ∷ ps) [] right follows all = absurd follows.0
  all_left (p ∷ ps) (e ∷ es) [] follows all = absurd follows.0
  all_left (p ∷ ps) (e ∷ es) (d ∷ ds) follows all =
      All-cons (λ (c : Edge). P c.to.0) (to_left p) (map to_left ps) (subst (λ (n : NodeId). P n.0) (sym follows.0.1) (all 0 e (omega arith)))
      (left_by p ps follows.1 (ends hi 0 0 e d es ds p follows.0)
      (λ less. all_left ps (reaching (suc p.hi) (e ∷ es)) (reaching (suc p.hi) (d ∷ ds)) (follows.2 less) (onward.all_on (λ (c : Edge). P c.to.0) (suc p.hi) (e ∷ es) all)))

  pub all_right : (ps : List Part) (left right : List Edge) → Follows hi left right ps → Each right → Each (map to_right ps)
  all_right [] left right follows all = All-nil (λ (e : Edge). P e.to.0)
  all_right (p ∷ ps) [] right follows all = absurd follows.0
  all_right (p ∷ ps) (e ∷ es) [] follows all = absurd follows.0
  all_right (p ∷ ps) (e ∷ es) (d ∷ ds) follows all =
      All-cons (λ (c : Edge). P c.to.0) (to_right p) (map to_right ps) (subst (λ (n : NodeId). P n.0) (sym follows.0.2) (all 0 d (omega arith)))
      (right_by p ps follows.1 (ends hi 0 0 e d es ds p follows.0)
      (λ less. all_right ps (reaching (suc p.hi) (e ∷ es)) (reaching (suc p.hi) (d ∷ ds)) (follows.2 less) (onward.all_on (λ (c : Edge). P c.to.0) (suc p.hi) (d ∷ ds) all)))

-- a part that ends below hi ends an edge, so fewer are left past it
pub shorter : (hi : ℕ) (left right : List Edge) (p : Part) → IsFirstWithin hi left right p → p.hi < hi →
    length (reaching (suc p.hi) left) + length (reaching (suc p.hi) right) < length left + length right
shorter hi [] right p first less = absurd first
shorter hi (e ∷ es) [] p first less = absurd first
shorter hi (e ∷ es) (d ∷ ds) p first less =
    let n = onward.no_more (suc p.hi) (e ∷ es) in
    let m = onward.no_more (suc p.hi) (d ∷ ds) in
    elim (cases_lt p.hi e.hi) [
      | inl under ↦ let k = onward.fewer (suc p.hi) d ds (omega (arith, first.0, under, less)) in omega (arith, n, k)
      | inr whole ↦ let k = onward.fewer (suc p.hi) e es (omega (arith, whole)) in omega (arith, m, k)
    ]

-- the parts so far are all where the last one ends at hi, or no edges are left
module _ (hi : ℕ) (all_left all_right left right : List Edge) (parts : List Part)
    (before : (rest : List Part) → Follows hi left right rest → Follows hi all_left all_right (parts ++ rest)) where
  pub stopped : (more : List Part) (p : Part) → more ≡ parts ++ p ∷ [] → IsFirstWithin hi left right p → p.hi ≡ hi → Follows hi all_left all_right more
  stopped more p pushed first end =
      subst (λ ps. Follows hi all_left all_right ps) (sym pushed) (before (p ∷ []) (first, (λ same. refl), λ less. absurd (omega (arith, less, end))))

  pub whole : (left ≡ []) ⊎ (right ≡ []) → Follows hi all_left all_right parts
  whole none = subst (λ ps. Follows hi all_left all_right ps) (append-nil parts) (before [] none)

-- a step leaves fewer edges
pub shrinks : (hi : ℕ) (left right left' right' : List Edge) (p : Part) → left' ≡ reaching (suc p.hi) left → right' ≡ reaching (suc p.hi) right → IsFirstWithin hi left right p →
    (p.hi ≡ hi → ⊥) → p.hi ≤ hi → length left' + length right' < length left + length right
shrinks hi left right left' right' p l r first other bound =
    let fewer = shorter hi left right p first (grind (arith, other, bound)) in omega (arith, ap (λ xs. length xs) l, ap (λ xs. length xs) r, fewer)

pub bound : (hi : ℕ) (left right : List Edge) (p : Part) → IsFirstWithin hi left right p → p.hi ≤ hi
bound hi [] right p first = absurd first
bound hi (e ∷ es) [] p first = absurd first
bound hi (e ∷ es) (d ∷ ds) p first = omega (arith, first.0)

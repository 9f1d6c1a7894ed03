-- Two lists of edges that fill a field, part by part.
use Rattle.std.proofs.Common.{◌≡◌, ◌∷◌, ℕ, List, [], ◌+◌, ◌≤◌, ◌<◌, length, refl, ap, arith, sym, ◌∙◌, subst, inl, inr}
use Rattle.std.specs.Prelude.{◌≢◌, ◌⊎◌, cond, suc, min, map, nat_le, nat_eq, true, false, Bool, All}
use Rattle.std.specs.List.{AllAdjacentBelow}
use Rattle.std.proofs.lemmas.Bool.{leb-true, eqb-true}
use Rattle.std.proofs.lemmas.List.Elements.{All-cons, All-tail}
use Rattle.node_store.specs.declared.edge.Edge.{Edge}
use Rattle.node_store.specs.declared.edge.NodeId.{NodeId}
use Rattle.node_store.specs.declared.split.Part.{Part}
use Rattle.node_store.specs.Edges.{child_of, AreFull, LeadApart}
use Rattle.node_store.specs.Parts.{IsFirst, past}
use Rattle.node_store.specs.Split.{IsSplit, to_left, to_right}
use Rattle.node_store.proofs.Adjacent as adjacent
use Rattle.node_store.proofs.Edges as edges

-- the parts are the first one, and those of what is left past it, until nothing is left
abbrev pub Follows : List Edge → List Edge → List Part → Type 0
Follows left right [] = (left ≡ []) ⊎ (right ≡ [])
Follows left right (p ∷ ps) = IsFirst left right p × Follows (past p.hi left) (past p.hi right) ps

-- the edges fill the values from lo on; none are left past the greatest one
abbrev pub Fill : ℕ → ℕ → List Edge → Type 0
Fill greatest lo [] = lo ≡ suc greatest
Fill greatest lo (e ∷ es) = (lo ≤ e.hi) × Fill greatest (suc e.hi) es

rise_fills : (greatest lo : ℕ) (es : List Edge) → edges.Rise greatest lo es → Fill greatest lo es
rise_fills greatest lo [] r = absurd r
rise_fills greatest lo (e ∷ []) r = (r.0, ap suc r.1)
rise_fills greatest lo (e ∷ d ∷ es) r = (r.0, rise_fills greatest (suc e.hi) (d ∷ es) r.1)

fill_rises : (greatest lo : ℕ) (e : Edge) (es : List Edge) → Fill greatest lo (e ∷ es) → edges.Rise greatest lo (e ∷ es)
fill_rises greatest lo e [] f = (f.0, omega (arith, f.1))
fill_rises greatest lo e (d ∷ es) f = (f.0, fill_rises greatest (suc e.hi) d es f.1)

fills : (greatest : ℕ) (es : List Edge) → AreFull greatest es → Fill greatest 0 es
fills greatest es full = rise_fills greatest 0 es (edges.rise_of greatest es full)

filled : (greatest : ℕ) (es : List Edge) → Fill greatest 0 es → AreFull greatest es
filled greatest [] f = absurd (omega (arith, f))
filled greatest (e ∷ es) f = edges.full_from greatest 0 (e ∷ es) (fill_rises greatest 0 e es f)

-- what is left past a value that the first edge holds
beyond : (a b : ℕ) → nat_eq a b ≡ false → b ≤ a → suc b ≤ a
beyond a b is h = grind (arith, is, h)

fill_step : (t : Bool) (greatest lo hi : ℕ) (e : Edge) (es : List Edge) → nat_eq e.hi hi ≡ t → hi ≤ e.hi → Fill greatest lo (e ∷ es) → Fill greatest (suc hi) (cond t es (e ∷ es))
fill_step true greatest lo hi e es is h f = subst (λ n. Fill greatest (suc n) es) (eqb-true e.hi hi is) f.1
fill_step false greatest lo hi e es is h f = (beyond e.hi hi is h, f.1)

child_step : (t : Bool) (hi v : ℕ) (e : Edge) (es : List Edge) → nat_eq e.hi hi ≡ t → hi < v → child_of (cond t es (e ∷ es)) v ≡ child_of (e ∷ es) v
child_step true hi v e es is h = let same = eqb-true e.hi hi is in sym (edges.past e es v (omega (arith, same, h)))
child_step false hi v e es is h = refl

apart_step : (t : Bool) (e : Edge) (es : List Edge) → LeadApart (e ∷ es) → LeadApart (cond t es (e ∷ es))
apart_step true e es h = adjacent.tail (λ (x y : Edge). x.to ≢ y.to) e es h
apart_step false e es h = h

apart_past : (hi : ℕ) (es : List Edge) → LeadApart es → LeadApart (past hi es)
apart_past hi [] h = h
apart_past hi (e ∷ es) h = apart_step (nat_eq e.hi hi) e es h

all_step : (P : Edge → Type 0) (t : Bool) (e : Edge) (es : List Edge) → All P (e ∷ es) → All P (cond t es (e ∷ es))
all_step P true e es h = All-tail P e es h
all_step P false e es h = h

all_past : (P : Edge → Type 0) (hi : ℕ) (es : List Edge) → All P es → All P (past hi es)
all_past P hi [] h = h
all_past P hi (e ∷ es) h = all_step P (nat_eq e.hi hi) e es h

-- one of the two first edges ends with the part
neither : (a b hi : ℕ) → nat_eq a hi ≡ false → nat_eq b hi ≡ false → hi ≡ min a b → ⊥
neither a b hi is at h = grind (arith, is, at, h)

one_ends : (t s : Bool) (a b hi : ℕ) → nat_eq a hi ≡ t → nat_eq b hi ≡ s → hi ≡ min a b → (t ≡ true) ⊎ (s ≡ true)
one_ends true s a b hi is at h = inl refl
one_ends false true a b hi is at h = inr refl
one_ends false false a b hi is at h = absurd (neither a b hi is at h)

shorter_step : (t s : Bool) (e d : Edge) (es ds : List Edge) → (t ≡ true) ⊎ (s ≡ true) →
    length (cond t es (e ∷ es)) + length (cond s ds (d ∷ ds)) < length (e ∷ es) + length (d ∷ ds)
shorter_step true true e d es ds h = omega arith
shorter_step true false e d es ds h = omega arith
shorter_step false true e d es ds h = omega arith
shorter_step false false e d es ds (inl h) = cc
shorter_step false false e d es ds (inr h) = cc

-- so fewer edges are left past it
pub shorter : (left right : List Edge) (p : Part) → IsFirst left right p → length (past p.hi left) + length (past p.hi right) < length left + length right
shorter [] right p h = absurd h
shorter (e ∷ es) [] p h = absurd h
shorter (e ∷ es) (d ∷ ds) p h =
    shorter_step (nat_eq e.hi p.hi) (nat_eq d.hi p.hi) e d es ds (one_ends (nat_eq e.hi p.hi) (nat_eq d.hi p.hi) e.hi d.hi p.hi refl refl h.0)

-- two parts in turn
abbrev Differ : Part → Part → Type 0
Differ p q = (p.left ≢ q.left) ⊎ (p.right ≢ q.right)

leads_left : (e : Edge) (es ds : List Edge) (q : Part) → IsFirst (e ∷ es) ds q → q.left ≡ e.to
leads_left e es [] q h = absurd h
leads_left e es (d ∷ ds) q h = h.1

differ_step : (t s : Bool) (e d : Edge) (es ds : List Edge) (p q : Part) → (t ≡ true) ⊎ (s ≡ true) → LeadApart (e ∷ es) → LeadApart (d ∷ ds) →
    IsFirst (e ∷ es) (d ∷ ds) p → IsFirst (cond t es (e ∷ es)) (cond s ds (d ∷ ds)) q → Differ p q
differ_step true s e d [] ds p q one a b h k = absurd k
differ_step true s e d (c ∷ es) ds p q one a b h k =
    inl (λ same. adjacent.head (λ (x y : Edge). x.to ≢ y.to) e c es a (sym h.1 ∙ same ∙ leads_left c es (cond s ds (d ∷ ds)) q k))
differ_step false true e d es [] p q one a b h k = absurd k
differ_step false true e d es (c ∷ ds) p q one a b h k =
    inr (λ same. adjacent.head (λ (x y : Edge). x.to ≢ y.to) d c ds b (sym h.2 ∙ same ∙ k.2))
differ_step false false e d es ds p q (inl one) a b h k = cc
differ_step false false e d es ds p q (inr one) a b h k = cc

differ : (left right : List Edge) (p q : Part) → LeadApart left → LeadApart right → IsFirst left right p → IsFirst (past p.hi left) (past p.hi right) q → Differ p q
differ [] right p q a b h k = absurd h
differ (e ∷ es) [] p q a b h k = absurd h
differ (e ∷ es) (d ∷ ds) p q a b h k =
    differ_step (nat_eq e.hi p.hi) (nat_eq d.hi p.hi) e d es ds p q (one_ends (nat_eq e.hi p.hi) (nat_eq d.hi p.hi) e.hi d.hi p.hi refl refl h.0) a b h k

-- the parts of what is left from lo on
record AreParts (greatest lo : ℕ) (left_edges right_edges : List Edge) (parts : List Part) : Type 0 where
  pub fill : Fill greatest lo (map to_left parts)
  pub left : (v : ℕ) → lo ≤ v → v ≤ greatest → child_of (map to_left parts) v ≡ child_of left_edges v
  pub right : (v : ℕ) → lo ≤ v → v ≤ greatest → child_of (map to_right parts) v ≡ child_of right_edges v
  pub apart : AllAdjacentBelow Differ parts (length parts)

ended : (greatest lo : ℕ) (left right : List Edge) → lo ≡ suc greatest → AreParts greatest lo left right []
ended greatest lo left right e = record {
  fill = e;
  left = λ v low high. absurd (omega (arith, e, low, high));
  right = λ v low high. absurd (omega (arith, e, low, high));
  apart = λ k d less. absurd (omega (arith, less));
}

leads : (t : Bool) (c e : Edge) (es rest : List Edge) (v : ℕ) → nat_le v c.hi ≡ t → c.hi ≤ e.hi → c.to ≡ e.to →
    (suc c.hi ≤ v → child_of rest v ≡ child_of (past c.hi (e ∷ es)) v) → child_of (c ∷ rest) v ≡ child_of (e ∷ es) v
leads true c e es rest v is h to more =
    let low = leb-true v c.hi is in edges.within c rest v low ∙ ap (λ (n : NodeId). n.0) to ∙ sym (edges.within e es v (omega (arith, low, h)))
leads false c e es rest v is h to more =
    let high : c.hi < v = grind (arith, is) in edges.past c rest v high ∙ more (omega (arith, high)) ∙ child_step (nat_eq e.hi c.hi) c.hi v e es refl high

apart_more : (left right : List Edge) (p : Part) (ps : List Part) → LeadApart left → LeadApart right → IsFirst left right p → Follows (past p.hi left) (past p.hi right) ps →
    AllAdjacentBelow Differ ps (length ps) → AllAdjacentBelow Differ (p ∷ ps) (length (p ∷ ps))
apart_more left right p [] a b h k more = λ n d less. absurd (omega (arith, less))
apart_more left right p (q ∷ ps) a b h k more = adjacent.cons Differ p q ps (differ left right p q a b h k.0) more

one_more : (greatest lo : ℕ) (e d : Edge) (es ds : List Edge) (p : Part) (ps : List Part) → Fill greatest lo (e ∷ es) → Fill greatest lo (d ∷ ds) →
    LeadApart (e ∷ es) → LeadApart (d ∷ ds) → IsFirst (e ∷ es) (d ∷ ds) p → Follows (past p.hi (e ∷ es)) (past p.hi (d ∷ ds)) ps →
    AreParts greatest (suc p.hi) (past p.hi (e ∷ es)) (past p.hi (d ∷ ds)) ps → AreParts greatest lo (e ∷ es) (d ∷ ds) (p ∷ ps)
one_more greatest lo e d es ds p ps f g a b h k more = record {
  fill = (omega (arith, h.0, f.0, g.0), more.fill);
  left = λ v low high. leads (nat_le v p.hi) (to_left p) e es (map to_left ps) v refl (omega (arith, h.0)) h.1 (λ past. more.left v past high);
  right = λ v low high. leads (nat_le v p.hi) (to_right p) d ds (map to_right ps) v refl (omega (arith, h.0)) h.2 (λ past. more.right v past high);
  apart = apart_more (e ∷ es) (d ∷ ds) p ps a b h k more.apart;
}

parted : (greatest lo : ℕ) (parts : List Part) (left right : List Edge) → Fill greatest lo left → Fill greatest lo right → LeadApart left → LeadApart right →
    Follows left right parts → AreParts greatest lo left right parts
parted greatest lo [] left right f g a b (inl none) = ended greatest lo left right (subst (λ es. Fill greatest lo es) none f)
parted greatest lo [] left right f g a b (inr none) = ended greatest lo left right (subst (λ es. Fill greatest lo es) none g)
parted greatest lo (p ∷ ps) [] right f g a b h = absurd h.0
parted greatest lo (p ∷ ps) (e ∷ es) [] f g a b h = absurd h.0
parted greatest lo (p ∷ ps) (e ∷ es) (d ∷ ds) f g a b h =
    one_more greatest lo e d es ds p ps f g a b h.0 h.1
    (parted greatest (suc p.hi) ps (past p.hi (e ∷ es)) (past p.hi (d ∷ ds))
    (fill_step (nat_eq e.hi p.hi) greatest lo p.hi e es refl (omega (arith, h.0.0)) f)
    (fill_step (nat_eq d.hi p.hi) greatest lo p.hi d ds refl (omega (arith, h.0.0)) g)
    (apart_past p.hi (e ∷ es) a) (apart_past p.hi (d ∷ ds) b) h.1)

-- the parts of two full lists of edges are their split
pub split : (greatest : ℕ) (left right : List Edge) (parts : List Part) → Follows left right parts → AreFull greatest left → AreFull greatest right →
    LeadApart left → LeadApart right → IsSplit greatest left right parts
split greatest left right parts h f g a b =
    let s = parted greatest 0 parts left right (fills greatest left f) (fills greatest right g) a b h in record {
      full = filled greatest (map to_left parts) s.fill;
      left = λ v high. s.left v (omega arith) high;
      right = λ v high. s.right v (omega arith) high;
      apart = s.apart;
    }

-- what holds of each child of the edges holds of each child of the parts
pub all_left : (P : ℕ → Type 0) (parts : List Part) (left right : List Edge) → Follows left right parts → All (λ (e : Edge). P e.to.0) left → All (λ (e : Edge). P e.to.0) (map to_left parts)
all_left P [] left right h all = λ k d less. absurd (omega (arith, less))
all_left P (p ∷ ps) [] right h all = absurd h.0
all_left P (p ∷ ps) (e ∷ es) [] h all = absurd h.0
all_left P (p ∷ ps) (e ∷ es) (d ∷ ds) h all =
    All-cons (λ (c : Edge). P c.to.0) (to_left p) (map to_left ps) (subst (λ (n : NodeId). P n.0) (sym h.0.1) (all 0 e (omega arith)))
    (all_left P ps (past p.hi (e ∷ es)) (past p.hi (d ∷ ds)) h.1 (all_past (λ (c : Edge). P c.to.0) p.hi (e ∷ es) all))

pub all_right : (P : ℕ → Type 0) (parts : List Part) (left right : List Edge) → Follows left right parts → All (λ (e : Edge). P e.to.0) right → All (λ (e : Edge). P e.to.0) (map to_right parts)
all_right P [] left right h all = λ k d less. absurd (omega (arith, less))
all_right P (p ∷ ps) [] right h all = absurd h.0
all_right P (p ∷ ps) (e ∷ es) [] h all = absurd h.0
all_right P (p ∷ ps) (e ∷ es) (d ∷ ds) h all =
    All-cons (λ (c : Edge). P c.to.0) (to_right p) (map to_right ps) (subst (λ (n : NodeId). P n.0) (sym h.0.2) (all 0 d (omega arith)))
    (all_right P ps (past p.hi (e ∷ es)) (past p.hi (d ∷ ds)) h.1 (all_past (λ (c : Edge). P c.to.0) p.hi (d ∷ ds) all))

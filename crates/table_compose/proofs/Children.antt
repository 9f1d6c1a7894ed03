-- The children to which edges lead: each once, and each that of an edge.
use Rattle.std.proofs.Common.{◌≡◌, ◌∷◌, ◌++◌, ℕ, zero, suc, List, [], ◌+◌, ◌<◌, ◌≤◌, true, false, Bool, ap, arith, refl, sym, ◌∙◌, subst, length, inl, inr, eq-eqb, take, get_or}
use Rattle.std.specs.Prelude.{◌⊎◌, ◌||◌, cond, nat_eq, Some, slice_get, fold}
use Rattle.std.specs.List.{list_any, AllZip}
use Rattle.std.proofs.lemmas.List.Sums.{fold_more}
use Rattle.std.proofs.lemmas.List.{length-append}
use Rattle.node_store.proofs.Growth.{kept_place}
use Rattle.prefix_min.specs.declared.piece.Piece.{Piece}
use Rattle.std.proofs.lemmas.Option.{none-some, same_Some, slice_get_within}
use Rattle.std.proofs.lemmas.Bool.{true≢false, eqb-true}
use Rattle.node_store.specs.declared.edge.NodeId.{NodeId}
use Rattle.node_store.specs.declared.edge.Edge.{Edge}
use Rattle.table_compose.specs.Labels.{with_child, children_of, IsPiece, ArePieces}

-- a place is an old one, or the last
pub place_of : {X : Type 0} (xs : List X) (x y : X) (i : ℕ) → slice_get (xs ++ x ∷ []) i ≡ Some y → (slice_get xs i ≡ Some y) ⊎ ((i ≡ length xs) × (x ≡ y))
place_of [] x y zero h = inr (refl, same_Some x y h)
place_of [] x y (suc i) h = absurd (none-some y h)
place_of (z ∷ xs) x y zero h = inl h
place_of (z ∷ xs) x y (suc i) h = elim (place_of xs x y i h) [ inl p ↦ inl p | inr p ↦ inr (ap suc p.0, p.1) ]

-- no child stands twice
abbrev pub Once : List NodeId → Type 0
Once children = (i j : ℕ) (a b : NodeId) → slice_get children i ≡ Some a → slice_get children j ≡ Some b → a.0 ≡ b.0 → i ≡ j

neither : (a b : Bool) → (a || b) ≡ false → (a ≡ false) × (b ≡ false)
neither true b h = absurd (true≢false h)
neither false b h = (refl, h)

-- what isn't found stands at no place
absent : (children : List NodeId) (c a : NodeId) (i : ℕ) → list_any (λ x. nat_eq c.0 x.0) children ≡ false → slice_get children i ≡ Some a → c.0 ≡ a.0 → ⊥
absent [] c a i none h e = none-some a h
absent (x ∷ xs) c a zero none h e = true≢false (sym (eq-eqb c.0 x.0 (e ∙ ap (λ (y : NodeId). y.0) (sym (same_Some x a h)))) ∙ (neither (nat_eq c.0 x.0) (list_any (λ y. nat_eq c.0 y.0) xs) none).0)
absent (x ∷ xs) c a (suc i) none h e = absent xs c a i (neither (nat_eq c.0 x.0) (list_any (λ y. nat_eq c.0 y.0) xs) none).1 h e

once_with : (children : List NodeId) (c : NodeId) (t : Bool) → list_any (λ x. nat_eq c.0 x.0) children ≡ t → Once children → Once (cond t children (children ++ c ∷ []))
once_with children c true is h = λ i j a b p q e. h i j a b p q e
once_with children c false is h = λ i j a b p q e. elim (place_of children c a i p) [
  | inl old ↦ elim (place_of children c b j q) [
    | inl older ↦ h i j a b old older e
    | inr last ↦ absurd (absent children c a i is old (ap (λ (x : NodeId). x.0) last.1 ∙ sym e))
  ]
  | inr last ↦ elim (place_of children c b j q) [
    | inl old ↦ absurd (absent children c b j is old (ap (λ (x : NodeId). x.0) last.1 ∙ e))
    | inr later ↦ last.0 ∙ sym later.0
  ]
]

once_from : (children : List NodeId) (es : List Edge) → Once children → Once (fold (λ cs e. with_child cs e.to) children es)
once_from children [] h = h
once_from children (e ∷ es) h = once_from (with_child children e.to) es (once_with children e.to (list_any (λ x. nat_eq e.to.0 x.0) children) refl h)

pub once : (es : List Edge) → Once (children_of es)
once es = once_from [] es (λ i j a b p q e. absurd (none-some a p))

-- each child is that of an edge
taken_with : (P : NodeId → Type 0) (children : List NodeId) (c : NodeId) (t : Bool) → P c → ((i : ℕ) (a : NodeId) → slice_get children i ≡ Some a → P a) →
    (i : ℕ) (a : NodeId) → slice_get (cond t children (children ++ c ∷ [])) i ≡ Some a → P a
taken_with P children c true p h = h
taken_with P children c false p h = λ i a at. elim (place_of children c a i at) [ inl old ↦ h i a old | inr last ↦ subst P last.1 p ]

taken_from : (P : NodeId → Type 0) (children : List NodeId) (es : List Edge) → ((k : ℕ) (e : Edge) → slice_get es k ≡ Some e → P e.to) →
    ((i : ℕ) (a : NodeId) → slice_get children i ≡ Some a → P a) → (i : ℕ) (a : NodeId) → slice_get (fold (λ cs e. with_child cs e.to) children es) i ≡ Some a → P a
taken_from P children [] all h = h
taken_from P children (e ∷ es) all h =
    taken_from P (with_child children e.to) es (λ k d at. all (suc k) d at) (taken_with P children e.to (list_any (λ x. nat_eq e.to.0 x.0) children) (all 0 e refl) h)

pub taken : (P : NodeId → Type 0) (es : List Edge) → ((k : ℕ) (e : Edge) → slice_get es k ≡ Some e → P e.to) → (i : ℕ) (a : NodeId) → slice_get (children_of es) i ≡ Some a → P a
taken P es all = taken_from P [] es all (λ i a at. absurd (none-some a at))

-- the children of one edge more
pub children_more : (es : List Edge) (i : ℕ) (d : Edge) → i < length es → children_of (take (i + 1) es) ≡ with_child (children_of (take i es)) (get_or es i d).to
children_more es i d h = fold_more (λ cs (e : Edge). with_child cs e.to) [] es i d h

few_with : (children : List NodeId) (c : NodeId) (t : Bool) → length (cond t children (children ++ c ∷ [])) ≤ suc (length children)
few_with children c true = omega arith
few_with children c false = omega (arith, length-append children (c ∷ []))

-- no more children than edges
pub few_more : (es : List Edge) (i : ℕ) (d : Edge) → i < length es → length (children_of (take i es)) ≤ i → length (children_of (take (i + 1) es)) ≤ i + 1
few_more es i d h few =
    let e = (get_or es i d).to in
    rw (children_more es i d h) (omega (arith, few, few_with (children_of (take i es)) e (list_any (λ x. nat_eq e.0 x.0) (children_of (take i es)))))

kept_with : (children : List NodeId) (c a : NodeId) (t : Bool) (k : ℕ) → slice_get children k ≡ Some a → slice_get (cond t children (children ++ c ∷ [])) k ≡ Some a
kept_with children c a true k h = h
kept_with children c a false k h = kept_place children (c ∷ []) k (slice_get_within children k a h) ∙ h

pieces_with : (children : List NodeId) (c : NodeId) (es : List Edge) (ps : List Piece) → ArePieces children es ps → ArePieces (with_child children c) es ps
pieces_with children c [] [] z = z
pieces_with children c [] (p ∷ ps) z = absurd z
pieces_with children c (e ∷ es) [] z = absurd z
pieces_with children c (e ∷ es) (p ∷ ps) z =
    ((z.0.0, kept_with children c e.to (list_any (λ x. nat_eq c.0 x.0) children) p.label z.0.1), pieces_with children c es ps z.1)

module _ {A B : Type 0} (R : A → B → Type 0) where
  -- one more item of the first list, and what it goes with
  pub next : (xs : List A) (ys : List B) (i : ℕ) (d : A) (y : B) → i < length xs → AllZip R (take i xs) ys → R (get_or xs i d) y → AllZip R (take (suc i) xs) (ys ++ y ∷ [])
  next [] ys i d y h z r = absurd (omega (arith, h))
  next (x ∷ xs) [] zero d y h z r = (r, tt)
  next (x ∷ xs) (b ∷ ys) zero d y h z r = absurd z
  next (x ∷ xs) [] (suc i) d y h z r = absurd z
  next (x ∷ xs) (b ∷ ys) (suc i) d y h z r = (z.0, next xs ys i d y (omega (arith, h)) z.1 r)

-- the pieces of one edge more
pub pieces_more : (es : List Edge) (ps : List Piece) (i : ℕ) (d : Edge) (p : Piece) → i < length es → ArePieces (children_of (take i es)) (take i es) ps →
    IsPiece (children_of (take (i + 1) es)) (get_or es i d) p → ArePieces (children_of (take (i + 1) es)) (take (i + 1) es) (ps ++ p ∷ [])
pieces_more es ps i d p h z is =
    let one : suc i ≡ i + 1 = omega arith in
    let cs = children_of (take (i + 1) es) in
    let now : ArePieces cs (take i es) ps = subst (λ c. ArePieces c (take i es) ps) (sym (children_more es i d h)) (pieces_with (children_of (take i es)) (get_or es i d).to (take i es) ps z) in
    subst (λ k. ArePieces cs (take k es) (ps ++ p ∷ [])) one (next (IsPiece cs) es ps i d p h now is)

pub same_id : (a b : NodeId) → nat_eq a.0 b.0 ≡ true → a ≡ b
same_id a b h = ap (λ (n : ℕ). let r : NodeId = record { 0 = n } in r) (eqb-true a.0 b.0 h)

-- where the child is stored
pub stored : (keys children : List NodeId) (place : ℕ) (k c : NodeId) → keys ≡ children → slice_get keys place ≡ Some k → nat_eq c.0 k.0 ≡ true → slice_get children place ≡ Some c
stored keys children place k c same at is = ap (λ xs. slice_get xs place) (sym same) ∙ at ∙ ap Some (sym (same_id c k is))

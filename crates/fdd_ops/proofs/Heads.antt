-- The first edges as the code reads and compares them.
use Rattle.std.proofs.Common.{◌≡◌, ◌≢◌, ◌∷◌, ℕ, List, [], ◌+◌, ◌-◌, ◌≤◌, ◌<◌, length, get_or, take, drop, refl, ap, arith, sym, ◌∙◌, subst, true≢false, add-one, Bool, true, false, not, ◌&&◌, nat_eq, take_all}
use Rattle.std.proofs.lemmas.Bool.Decides.{Decides-eqb, Decides-and}
use Rattle.node_store.specs.declared.edge.Edge.{Edge}
use Rattle.node_store.proofs.Edges.{edge_same}
use Rattle.fdd_ops.proofs.Fronts.{AreLeft, passed}

-- the two tests of the `==` of edges
pub both : (a b c d : ℕ) → true ≡ (nat_eq a b && nat_eq c d) → (a ≡ b) × (c ≡ d)
both a b c d h = (Decides-and (nat_eq a b) (nat_eq c d) (Decides-eqb a b) (Decides-eqb c d)).0 (sym h)

not_both : (a b c d : ℕ) → (nat_eq a b && nat_eq c d) ≡ false → c ≡ d → a ≢ b
not_both a b c d h q p = true≢false (sym ((Decides-and (nat_eq a b) (nat_eq c d) (Decides-eqb a b) (Decides-eqb c d)).1 (p, q)) ∙ h)

-- of two that lead to one node, the one that doesn't end sooner ends later
pub less_of : (a b c d : ℕ) → false ≡ (nat_eq a b && nat_eq c d) → c ≡ d → b ≤ a → b < a
less_of a b c d h q low = let apart = not_both a b c d (sym h) q in omega (arith, apart, low)

-- the `!=` of numbers of nodes
negated : (t : Bool) → false ≡ not t → t ≡ true
negated true h = refl
negated false h = absurd (true≢false (sym h))

pub same_to : (a b : ℕ) → false ≡ not (nat_eq a b) → a ≡ b
same_to a b h = (Decides-eqb a b).0 (negated (nat_eq a b) h)

pub other_to : (a b : ℕ) → true ≡ not (nat_eq a b) → a ≢ b
other_to a b h p = true≢false (h ∙ ap not ((Decides-eqb a b).1 p))

whole : (e : Edge) (xs : List Edge) → take (length (e ∷ xs) - 1) xs ≡ xs
whole e xs = take_all (length (e ∷ xs) - 1) xs (omega arith)

-- the two first edges are equal, and are passed
pub passed_heads : (g : ℕ) (first second : List Edge) (start : ℕ) (left right : List Edge) (d : Edge) → AreLeft g first second start left right →
    (get_or left 0 d).hi ≡ (get_or right 0 d).hi → (get_or left 0 d).to.0 ≡ (get_or right 0 d).to.0 →
    ((get_or left 0 d).hi < g) × AreLeft g first second ((get_or left 0 d).hi + 1) (take (length left - 1) (drop 1 left)) (take (length right - 1) (drop 1 right))
passed_heads g first second start [] right d h p q = absurd h.left_edges
passed_heads g first second start (e ∷ xs) [] d h p q = absurd h.right_edges
passed_heads g first second start (e ∷ xs) (c ∷ ys) d h p q =
    let on = passed g first second start e xs ys (subst (λ x. AreLeft g first second start (e ∷ xs) (x ∷ ys)) (sym (edge_same e c p q)) h) in
    (on.0, rw (add-one e.hi, whole e xs, whole c ys) on.1)

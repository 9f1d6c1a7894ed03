-- How many boxes a node can have.
use Rattle.std.proofs.Common.{◌≡◌, ◌∷◌, ℕ, suc, ◌+◌, ◌*◌, ◌^◌, ◌-◌, ◌≤◌, List, [], length, ap, sym, ◌∙◌, subst, arith, mul-le-mul_right, suc-mul, length-append, nat_eq, cond, Bool, true, false, flat_map, pow_pos, pow-add}
use Rattle.std.proofs.Math.Pow.{pow_mono}
use Rattle.std.proofs.lemmas.List.{length-map}
use Rattle.field_boxes.specs.Headline.Classifier.{Interval}
use Rattle.field_boxes.specs.Headline.Fields.{width}
use Rattle.field_boxes.specs.Fields.{greatest_of}
use Rattle.node_store.specs.declared.edge.Edge.{Edge}
use Rattle.node_store.specs.Edges.{child_of}
use Rattle.node_store.specs.Levels.{HasField, IsLevel, bits_of, next as next_level, top_of}
use Rattle.node_store.specs.Diagram.{Node, level_of, edges_of, answer}
use Rattle.node_store.specs.Store.{IsStore}
use Rattle.node_store.proofs.Canonical.{leads_on}
use Rattle.node_store.proofs.Edges as edges
use Rattle.box_query.specs.Boxes.{put_first}
use Rattle.box_query.specs.NodeBoxes.{Branch, branch, branches, branch_boxes, node_boxes}
use Rattle.box_query.proofs.NodeBoxes.{leaf_boxes, inner_boxes, node-edges, Leads, leads-first, leads-rest}

one-count : (boxes : ℕ → List (List Interval)) (b : Branch) (more : List Branch) → length (flat_map (branch_boxes boxes) (b ∷ more)) ≡ length (boxes b.to) + length (flat_map (branch_boxes boxes) more)
one-count boxes b more =
    length-append (branch_boxes boxes b) (flat_map (branch_boxes boxes) more) ∙ ap (λ n. n + length (flat_map (branch_boxes boxes) more)) (length-map (boxes b.to) (put_first b.first))

-- no more than its values times what each child can have
few-edges : (boxes : ℕ → List (List Interval)) (g lo : ℕ) (es : List Edge) (most : ℕ) → edges.Rise g lo es → Leads (λ n. length (boxes n) ≤ most) lo g es →
    length (flat_map (branch_boxes boxes) (branches lo es)) + lo * most ≤ suc g * most
few-edges boxes g lo [] most r each = absurd r
few-edges boxes g lo (e ∷ []) most r each =
    let le : lo ≤ g = omega (arith, r.0, r.1) in
    let times : lo * most ≤ g * most = mul-le-mul_right most le in
    let all : suc g * most ≡ g * most + most = suc-mul g most in
    omega (arith, one-count boxes (branch lo e) [], leads-first (λ n. length (boxes n) ≤ most) lo g e [] r each, times, all)
few-edges boxes g lo (e ∷ d ∷ es) most r each =
    let here = leads-first (λ n. length (boxes n) ≤ most) lo g e (d ∷ es) r each in
    let rest = few-edges boxes g (suc e.hi) (d ∷ es) most r.1 (leads-rest (λ n. length (boxes n) ≤ most) lo g e (d ∷ es) r.0 each) in
    let le : suc lo ≤ suc e.hi = omega (arith, r.0) in
    let times : suc lo * most ≤ suc e.hi * most = mul-le-mul_right most le in
    let step : suc lo * most ≡ lo * most + most = suc-mul lo most in
    omega (arith, one-count boxes (branch lo e) (branches (suc e.hi) (d ∷ es)), here, rest, times, step)

leaf-few : (t : Bool) → length (let none : List (List Interval) = [] in cond t ([] ∷ none) none) ≤ 1
leaf-few true = omega arith
leaf-few false = omega arith

few-in : (n w m : ℕ) → n + 0 * m ≤ suc (2 ^ w - 1) * m → n ≤ 2 ^ w * m
few-in n w m h =
    let e : suc (2 ^ w - 1) ≡ 2 ^ w = omega (arith, pow_pos w) in
    let k : n + 0 * m ≤ 2 ^ w * m = subst (λ x. n + 0 * m ≤ x * m) e h in omega (arith, k)

pub few : (nodes : List Node) (level : List ℕ) → IsStore nodes → IsLevel level → (id : ℕ) → level_of nodes id ≡ level → length (node_boxes nodes level id) ≤ 2 ^ bits_of level
few nodes [] s is id at = subst (λ bs. length bs ≤ 1) (sym (leaf_boxes nodes id)) (leaf-few (nat_eq (answer nodes id []) 1))
few nodes (f ∷ level) s is id at =
    let all = edges.rise_in (greatest_of f) 0 (edges_of nodes id) (node-edges nodes (f ∷ level) id s is at) in
    let most = 2 ^ bits_of level in
    let n = few-edges (node_boxes nodes level) (greatest_of f) 0 (edges_of nodes id) most all
    (λ v low high. few nodes level s is.1 (child_of (edges_of nodes id) v)
    ((leads_on nodes id v s (subst HasField (sym at) is) (subst (λ l. v ≤ top_of l) (sym at) high)).1 ∙ ap next_level at)) in
    subst (λ bs. length bs ≤ 2 ^ (width f + bits_of level)) (sym (inner_boxes nodes f level id))
    (subst (λ x. length (flat_map (branch_boxes (node_boxes nodes level)) (branches 0 (edges_of nodes id))) ≤ x) (sym (pow-add 2 (width f) (bits_of level)))
    (few-in (length (flat_map (branch_boxes (node_boxes nodes level)) (branches 0 (edges_of nodes id)))) (width f) most n))

pub few-headers : (nodes : List Node) (level : List ℕ) → IsStore nodes → HasField level → (id : ℕ) → level_of nodes id ≡ level → length (node_boxes nodes level id) ≤ 2 ^ 104
few-headers nodes [] s is id at = absurd is
few-headers nodes (f ∷ level) s is id at =
    let p = pow_mono {i = bits_of (f ∷ level)} {j = 104} is.0.1 in omega (arith, few nodes (f ∷ level) s is id at, p)

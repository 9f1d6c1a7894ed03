-- The table of a node: how many boxes it has, and which one is first for a header.
use Rattle.std.proofs.Common.{◌≡◌, ◌∷◌, ◌++◌, ℕ, suc, List, [], ◌<◌, Bool, true, false, length, map, ap, arith, refl, sym, ◌∙◌, subst}
use Rattle.std.specs.Prelude.{cond, find, ◌&&◌, Option, Some, option_map, slice_index, slice_index_or}
use Rattle.std.specs.List.{All, flat_map}
use Rattle.std.proofs.lemmas.Option.{none-some, same_Some}
use Rattle.std.proofs.lemmas.List.{length-append, length-map}
use Rattle.std.proofs.lemmas.List.Elements.{All-nil, All-cons, All-append, All-map, All-head, All-tail}
use Rattle.std.proofs.lemmas.List.Sums.{sum_by-cons}
use Rattle.field_boxes.specs.declared.prefix.Prefix.{Prefix}
use Rattle.field_boxes.specs.Headline.Fields.{width, AreValues}
use Rattle.node_store.specs.Levels.{HasField, IsLevel, next}
use Rattle.field_boxes.specs.Headline.Prefix.{prefix_holds}
use Rattle.ternary_words.specs.Prefixes.{all_hold}
use Rattle.node_store.specs.Edges.{child_of}
use Rattle.node_store.specs.Diagram.{Node, level_of, edges_of, answer}
use Rattle.node_store.specs.Store.{IsStore}
use Rattle.prefix_min.specs.declared.row.PrefixRow.{PrefixRow}
use Rattle.prefix_min.specs.PrefixList.{IsRight, front, weight}
use Rattle.table_compose.specs.declared.diagram_plans.Plans.{Plans}
use Rattle.table_compose.specs.Rows.{rows_at}
use Rattle.table_compose.specs.Plans.{IsMarked, IsListOf, ArePlansOf, width_of}
use Rattle.table_compose.specs.Composed.{Box, behind, boxes, in_turn, HaveCosts, HaveLists}
use Rattle.table_compose.proofs.Later.{child_older, child_marked, inner_of}

-- as many boxes as the rows' children have together
length_rows : (lists : ℕ → List Box) (costs : List ℕ) (rows : List PrefixRow) → All (λ r. length (lists r.label) ≡ slice_index costs r.label) rows →
    length (flat_map (λ r. map (behind (r.prefix ∷ [])) (lists r.label)) rows) ≡ weight costs rows
length_rows lists costs [] h = refl
length_rows lists costs (r ∷ rows) h =
    let a = sum_by-cons (λ x. slice_index costs x.label) r rows in
    let b = length-append (map (behind (r.prefix ∷ [])) (lists r.label)) (flat_map (λ x. map (behind (x.prefix ∷ [])) (lists x.label)) rows) in
    let d = length-map (lists r.label) (behind (r.prefix ∷ [])) in
    let e = All-head (λ x. length (lists x.label) ≡ slice_index costs x.label) r rows h in
    let i = length_rows lists costs rows (All-tail (λ x. length (lists x.label) ≡ slice_index costs x.label) r rows h) in
    omega (arith, a, b, d, e, i)

-- what the first box that passes decides
abbrev pub first_of : (Box → Bool) → List Box → Option ℕ
first_of test bs = option_map (λ b. b.decision) (find test bs)

decided_step : (t : Bool) (b c : Box) (o p : Option Box) (d : ℕ) → b.decision ≡ c.decision → (option_map (λ x. x.decision) o ≡ Some d → option_map (λ x. x.decision) p ≡ Some d) →
    option_map (λ x. x.decision) (cond t (Some b) o) ≡ Some d → option_map (λ x. x.decision) (cond t (Some c) p) ≡ Some d
decided_step true b c o p d same later h = ap Some (sym same) ∙ h
decided_step false b c o p d same later h = later h

-- where the prefix in front holds, the first of the boxes behind it is first
here : (test inner : Box → Bool) (p : Prefix) (bs rest : List Box) (d : ℕ) → ((b : Box) → test (behind (p ∷ []) b) ≡ inner b) → first_of inner bs ≡ Some d →
    first_of test (map (behind (p ∷ [])) bs ++ rest) ≡ Some d
here test inner p [] rest d same h = absurd (none-some d h)
here test inner p (b ∷ bs) rest d same h =
    subst (λ t. option_map (λ x. x.decision) (cond t (Some (behind (p ∷ []) b)) (find test (map (behind (p ∷ [])) bs ++ rest))) ≡ Some d) (sym (same b))
    (decided_step (inner b) b (behind (p ∷ []) b) (find inner bs) (find test (map (behind (p ∷ [])) bs ++ rest)) d refl (here test inner p bs rest d same) h)

-- where it doesn't hold, none of them passes
not_here : (test : Box → Bool) (p : Prefix) (bs rest : List Box) → ((b : Box) → test (behind (p ∷ []) b) ≡ false) → first_of test (map (behind (p ∷ [])) bs ++ rest) ≡ first_of test rest
not_here test p [] rest none = refl
not_here test p (b ∷ bs) rest none =
    ap (λ t. option_map (λ x. x.decision) (cond t (Some (behind (p ∷ []) b)) (find test (map (behind (p ∷ [])) bs ++ rest)))) (none b) ∙ not_here test p bs rest none

module _ (f : ℕ) (fields : List ℕ) (v : ℕ) (values : List ℕ) (tables : ℕ → List Box) (answers : ℕ → ℕ) where
  abbrev inner : Box → Bool
  inner b = all_hold fields b.prefixes values

  abbrev outer : Box → Bool
  outer b = all_hold (f ∷ fields) b.prefixes (v ∷ values)

  abbrev Decides : PrefixRow → Type 0
  Decides r = first_of inner (tables r.label) ≡ Some (answers r.label)

  abbrev all_of : List PrefixRow → List Box
  all_of rows = flat_map (λ r. map (behind (r.prefix ∷ [])) (tables r.label)) rows

  row_step : (t : Bool) (r : PrefixRow) (rows : List PrefixRow) (c : ℕ) → prefix_holds (width f) r.prefix v ≡ t → Decides r →
      (front (width f) rows v ≡ Some c → first_of outer (all_of rows) ≡ Some (answers c)) →
      option_map (λ x. x.label) (cond t (Some r) (find (λ x. prefix_holds (width f) x.prefix v) rows)) ≡ Some c →
      first_of outer (map (behind (r.prefix ∷ [])) (tables r.label) ++ all_of rows) ≡ Some (answers c)
  row_step true r rows c is decides later h =
      here outer inner r.prefix (tables r.label) (all_of rows) (answers c) (λ b. ap (λ t. t && all_hold fields b.prefixes values) is)
      (decides ∙ ap (λ n. Some (answers n)) (same_Some r.label c h))
  row_step false r rows c is decides later h =
      not_here outer r.prefix (tables r.label) (all_of rows) (λ b. ap (λ t. t && all_hold fields b.prefixes values) is) ∙ later h

  -- the first row that holds the value has the first box
  pub first_rows : (rows : List PrefixRow) (c : ℕ) → All Decides rows → front (width f) rows v ≡ Some c → first_of outer (all_of rows) ≡ Some (answers c)
  first_rows [] c all h = absurd (none-some c h)
  first_rows (r ∷ rows) c all h =
      row_step (prefix_holds (width f) r.prefix v) r rows c refl (All-head Decides r rows all) (λ k. first_rows rows c (All-tail Decides r rows all) k) h

-- for all values of these fields the first box that holds them decides what the node answers
abbrev pub DecideAll : List Node → (ℕ → List PrefixRow) → List ℕ → ℕ → Type 0
DecideAll nodes lists fields id = (values : List ℕ) → AreValues fields values → first_of (λ b. all_hold fields b.prefixes values) (boxes nodes lists fields id) ≡ Some (answer nodes id values)

decide_leaf : (nodes : List Node) (lists : ℕ → List PrefixRow) (id : ℕ) → DecideAll nodes lists [] id
decide_leaf nodes lists id [] ok = refl
decide_leaf nodes lists id (v ∷ values) ok = absurd ok

decide_inner : (nodes : List Node) (lists : ℕ → List PrefixRow) (id f : ℕ) (fields : List ℕ) → level_of nodes id ≡ f ∷ fields → IsListOf nodes id (lists id) → All (λ r. DecideAll nodes lists fields r.label) (lists id) →
    DecideAll nodes lists (f ∷ fields) id
decide_inner nodes lists id f fields level list all [] ok = absurd ok
decide_inner nodes lists id f fields level list all (v ∷ values) ok =
    let right = subst (λ k. IsRight (width_of k) (child_of (edges_of nodes id)) (lists id)) level list.right in
    first_rows f fields v values (boxes nodes lists fields) (λ c. answer nodes c values) (lists id) (child_of (edges_of nodes id) v)
    (λ k d less. all k d less values ok.1) (right.answers v ok.0)

-- the first box that holds values of the fields decides what the node answers
pub decide_by : (nodes : List Node) (lists : ℕ → List PrefixRow) → IsStore nodes → (level : List ℕ) (id : ℕ) → IsLevel level → level_of nodes id ≡ level → HaveLists nodes lists level id →
    DecideAll nodes lists level id
decide_by nodes lists s [] id is level have = decide_leaf nodes lists id
decide_by nodes lists s (f ∷ fields) id is level h =
    decide_inner nodes lists id f fields level h.0
    (λ k d less.
    let r = slice_index_or (lists id) k d in
    let child = child_older nodes id r.label s (subst HasField (sym level) is) (h.0.children k d less) in
    decide_by nodes lists s fields r.label is.1 (child.1 ∙ ap next level) (h.1 k d less))

-- as many boxes as the node costs
pub count : (nodes : List Node) (lists : ℕ → List PrefixRow) (costs fields : List ℕ) (id : ℕ) → HaveCosts nodes lists costs fields id → length (boxes nodes lists fields id) ≡ slice_index costs id
count nodes lists costs [] id h = sym h.1
count nodes lists costs (f ∷ fields) id h =
    length_rows (boxes nodes lists fields) costs (lists id) (λ k d less. count nodes lists costs fields (slice_index_or (lists id) k d).label (h.2 k d less)) ∙ h.1

-- plans give each node of a known one's diagram its list, with the costs of its rows
pub have_by : (nodes : List Node) (plans : Plans) → IsStore nodes → ArePlansOf nodes plans → (level : List ℕ) (id : ℕ) → IsLevel level → level_of nodes id ≡ level → IsMarked plans.known.items id →
    HaveLists nodes (rows_at plans.lists.items) level id × HaveCosts nodes (rows_at plans.lists.items) plans.costs.items level id
have_by nodes plans s are [] id is level mark = let k = are.kept id mark in (tt, (k.room, k.planned.leaf level))
have_by nodes plans s are (f ∷ fields) id is level mark =
    let has : HasField (level_of nodes id) = subst HasField (sym level) is in
    let k = are.kept id mark in
    let rows = rows_at plans.lists.items id in
    let below : (k : ℕ) (d : PrefixRow) → k < length rows → HaveLists nodes (rows_at plans.lists.items) fields (slice_index_or rows k d).label × HaveCosts nodes (rows_at plans.lists.items) plans.costs.items fields (slice_index_or rows k d).label =
    λ i d within.
    let r = slice_index_or rows i d in
    let c = (k.planned.list has).children i d within in
    let child = child_older nodes id r.label s has c in
    let there = subst (IsMarked plans.known.items) c.2 (child_marked nodes plans.known.items id c.0 are.closed mark (inner_of nodes id s has) c.1) in
    have_by nodes plans s are fields r.label is.1 (child.1 ∙ ap next level) there in
    ((k.planned.list has, λ i d within. (below i d within).0), (k.room, k.planned.sum has, λ i d within. (below i d within).1))

count_rows : (tables : ℕ → List Box) (n : ℕ) (rows : List PrefixRow) → ((id : ℕ) → All (λ b. length b.prefixes ≡ n) (tables id)) → All (λ b. length b.prefixes ≡ suc n) (in_turn tables rows)
count_rows tables n [] h = All-nil (λ (b : Box). length b.prefixes ≡ suc n)
count_rows tables n (r ∷ rows) h =
    All-append (λ (b : Box). length b.prefixes ≡ suc n) (map (behind (r.prefix ∷ [])) (tables r.label)) (in_turn tables rows)
    (All-map (λ (b : Box). length b.prefixes ≡ suc n) (behind (r.prefix ∷ [])) (tables r.label) (λ k d less. ap suc (h r.label k d less)))
    (count_rows tables n rows h)

-- a box has a prefix for each field
pub prefix_count : (nodes : List Node) (lists : ℕ → List PrefixRow) (fields : List ℕ) (id : ℕ) → All (λ b. length b.prefixes ≡ length fields) (boxes nodes lists fields id)
prefix_count nodes lists [] id = All-cons (λ (b : Box). length b.prefixes ≡ 0) (record { prefixes = []; decision = answer nodes id [] }) [] refl (All-nil (λ (b : Box). length b.prefixes ≡ 0))
prefix_count nodes lists (f ∷ fields) id = count_rows (boxes nodes lists fields) (length fields) (lists id) (λ n. prefix_count nodes lists fields n)

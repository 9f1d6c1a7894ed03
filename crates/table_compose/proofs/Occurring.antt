-- What the entries of a table decide, the diagram answers on some header.
use Rattle.std.proofs.Common.{◌≡◌, ◌∷◌, ℕ, List, [], ◌≤◌, map, ap, refl, sym, ◌∙◌, subst}
use Rattle.std.specs.Prelude.{slice_index_or}
use Rattle.std.specs.List.{All, AllZip}
use Rattle.std.proofs.lemmas.List.Elements.{All-nil, All-cons, All-head, All-tail, All-append, All-map}
use Rattle.node_store.specs.Levels.{HasField, IsLevel, next, top_of}
use Rattle.ternary_words.specs.declared.entry.Entry.{Entry}
use Rattle.node_store.specs.Diagram.{Node, level_of, answer}
use Rattle.node_store.specs.Store.{IsStore}
use Rattle.node_store.proofs.Values.{values_from}
use Rattle.prefix_min.specs.declared.row.PrefixRow.{PrefixRow}
use Rattle.table_compose.specs.Plans.{IsChild}
use Rattle.table_compose.specs.Composed.{Box, HaveLists, IsAnswer, IsPlaced, open_all, behind, boxes, in_turn}
use Rattle.table_compose.proofs.Later.{child_older}

-- what a child answers for some values, its node answers for one more
longer : (nodes : List Node) (level : List ℕ) (id child decision : ℕ) → HasField level → level_of nodes id ≡ level → IsChild nodes id child → IsAnswer nodes (next level) child decision →
    IsAnswer nodes level id decision
longer nodes level id child decision has at c a =
    let le : c.0 ≤ top_of level = subst (λ k. c.0 ≤ top_of k) at c.1 in
    (c.0 ∷ a.0, values_from level c.0 a.0 has le a.1, ap (λ n. answer nodes n a.0) c.2 ∙ a.2)

abbrev Occur : List Node → List ℕ → ℕ → List Box → Type 0
Occur nodes level id bs = All (λ b. IsAnswer nodes level id b.decision) bs

occur_rows : (nodes : List Node) (level : List ℕ) (id : ℕ) (tables : ℕ → List Box) (rows : List PrefixRow) → HasField level → level_of nodes id ≡ level → All (λ r. IsChild nodes id r.label) rows →
    All (λ r. Occur nodes (next level) r.label (tables r.label)) rows → Occur nodes level id (in_turn tables rows)
occur_rows nodes level id tables [] has at children below = All-nil (λ b. IsAnswer nodes level id b.decision)
occur_rows nodes level id tables (r ∷ rows) has at children below =
    let child = All-head (λ x. IsChild nodes id x.label) r rows children in
    let here = All-head (λ x. Occur nodes (next level) x.label (tables x.label)) r rows below in
    All-append (λ b. IsAnswer nodes level id b.decision) (map (behind (r.prefix ∷ [])) (tables r.label)) (in_turn tables rows)
    (All-map (λ b. IsAnswer nodes level id b.decision) (behind (r.prefix ∷ [])) (tables r.label)
    (λ k d less. longer nodes level id r.label (slice_index_or (tables r.label) k d).decision has at child (here k d less)))
    (occur_rows nodes level id tables rows has at (All-tail (λ x. IsChild nodes id x.label) r rows children) (All-tail (λ x. Occur nodes (next level) x.label (tables x.label)) r rows below))

occur_leaf : (nodes : List Node) (lists : ℕ → List PrefixRow) (id : ℕ) → All (λ b. IsAnswer nodes [] id b.decision) (boxes nodes lists [] id)
occur_leaf nodes lists id =
    All-cons (λ b. IsAnswer nodes [] id b.decision) (record { prefixes = []; decision = answer nodes id [] }) [] ([], tt, refl) (All-nil (λ b. IsAnswer nodes [] id b.decision))

-- what the boxes of a node decide, the node answers for some values
pub occur_by : (nodes : List Node) (lists : ℕ → List PrefixRow) → IsStore nodes → (level : List ℕ) (id : ℕ) → IsLevel level → level_of nodes id ≡ level → HaveLists nodes lists level id →
    Occur nodes level id (boxes nodes lists level id)
occur_by nodes lists s [] id is at have = occur_leaf nodes lists id
occur_by nodes lists s (f ∷ level) id is at h =
    occur_rows nodes (f ∷ level) id (boxes nodes lists level) (lists id) is at h.0.children
    (λ k d less.
    let r = slice_index_or (lists id) k d in
    let child = child_older nodes id r.label s (subst HasField (sym at) is) (h.0.children k d less) in
    occur_by nodes lists s level r.label is.1 (child.1 ∙ ap next at) (h.1 k d less))

-- the same of the entries
pub entries_occur : (level : List ℕ) (P : ℕ → Type 0) (bs : List Box) (es : List Entry) → AllZip (IsPlaced level open_all) bs es → All (λ b. P b.decision) bs → All (λ e. P e.decision) es
entries_occur level P [] [] z all = All-nil (λ e. P e.decision)
entries_occur level P [] (e ∷ es) z all = absurd z
entries_occur level P (b ∷ bs) [] z all = absurd z
entries_occur level P (b ∷ bs) (e ∷ es) z all =
    All-cons (λ x. P x.decision) e es (subst P (sym z.0.1) (All-head (λ x. P x.decision) b bs all)) (entries_occur level P bs es z.1 (All-tail (λ x. P x.decision) b bs all))

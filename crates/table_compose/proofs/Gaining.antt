-- Entries that are added row by row.
use Rattle.std.proofs.Common.{◌≡◌, ◌∷◌, ◌++◌, ℕ, zero, suc, List, [], ◌+◌, ◌<◌, ◌≤◌, length, map, take, ap, arith, append_assoc, refl, sym, ◌∙◌, subst, set}
use Rattle.std.specs.Prelude.{Some, None, Option, slice_get, slice_index, slice_index_or, slice_set}
use Rattle.std.specs.List.{All, AllZip}
use Rattle.std.specs.Option.{option_map_or}
use Rattle.std.specs.Global.{Vec}
use Rattle.std.proofs.lemmas.Option.{slice_get-get_or, slice_get_within}
use Rattle.std.proofs.lemmas.List.{map-append, length-map, get_or-map, take_all, append-nil}
use Rattle.std.proofs.lemmas.Grind.{flat_map-append}
use Rattle.std.proofs.Math.Seq.{take-suc}
use Rattle.field_boxes.specs.declared.prefix.Prefix.{Prefix}
use Rattle.field_boxes.specs.Headline.Fields.{width, stated}
use Rattle.field_boxes.specs.Headline.Prefix.{FitsWidth}
use Rattle.ternary_words.specs.declared.entry.Entry.{Entry}
use Rattle.ternary_words.specs.Prefixes.{FitFields}
use Rattle.prefix_min.specs.declared.row.PrefixRow.{PrefixRow}
use Rattle.table_compose.specs.declared.row.Row.{Row}
use Rattle.table_compose.specs.Rows.{row_of, rows_of, rows_at}
use Rattle.field_boxes.proofs.Orders.{place_of_field}
use Rattle.node_store.specs.Diagram.{Node, level_of, answer}
use Rattle.node_store.specs.Store.{IsStore}
use Rattle.table_compose.specs.Plans.{IsChild, IsListOf, width_of}
use Rattle.table_compose.specs.Composed.{Box, HaveLists, IsPlaced, Gains, behind, boxes, in_turn}
use Rattle.table_compose.proofs.Later.{child_older}
use Rattle.node_store.specs.Levels.{HasField, next}

-- results of two lists, one after another
pub zip_append : {A B : Type 0} (R : A → B → Type 0) (xs cs : List A) (bs ds : List B) → AllZip R xs bs → AllZip R cs ds → AllZip R (xs ++ cs) (bs ++ ds)
zip_append R [] cs [] ds p q = q
zip_append R [] cs (b ∷ bs) ds p q = absurd p
zip_append R (a ∷ xs) cs [] ds p q = absurd p
zip_append R (a ∷ xs) cs (b ∷ bs) ds p q = (p.0, zip_append R xs cs bs ds p.1 q)

-- the boxes of one row more
pub turn_more : (tables : ℕ → List Box) (rows : List Row) (i : ℕ) (d : Row) → i < length rows →
    in_turn tables (rows_of (take (i + 1) rows)) ≡ in_turn tables (rows_of (take i rows)) ++ map (behind ((slice_index_or rows i d).prefix ∷ [])) (tables (slice_index_or rows i d).to.0)
turn_more tables rows i d less =
    let r = slice_index_or rows i d in
    let one : i + 1 ≡ suc i = omega arith in
    let table : PrefixRow → List Box = λ x. map (behind (x.prefix ∷ [])) (tables x.label) in
    ap (λ n. in_turn tables (rows_of (take n rows))) one
    ∙ ap (λ rs. in_turn tables (rows_of rs)) (take-suc rows i d less)
    ∙ ap (in_turn tables) (map-append row_of (take i rows) (r ∷ []))
    ∙ flat_map-append table (rows_of (take i rows)) (row_of r ∷ [])
    ∙ ap (λ xs. in_turn tables (rows_of (take i rows)) ++ xs) (append-nil (table (row_of r)))

-- the entries of a row's node are those of the row
pub one_row : (f : ℕ) (level : List ℕ) (base : List Prefix) (p : Prefix) (bs : List Box) (es : List Entry) → AllZip (IsPlaced level (slice_set base f p)) bs es →
    AllZip (IsPlaced (f ∷ level) base) (map (behind (p ∷ [])) bs) es
one_row f level base p [] [] z = tt
one_row f level base p [] (e ∷ es) z = absurd z
one_row f level base p (b ∷ bs) [] z = absurd z
one_row f level base p (b ∷ bs) (e ∷ es) z = (z.0, one_row f level base p bs es z.1)

pub gains_more : (level : List ℕ) (base : List Prefix) (old mid new : List Entry) (tables : ℕ → List Box) (rows : List Row) (i : ℕ) (d : Row) → HasField level → i < length rows →
    Gains level base old mid (in_turn tables (rows_of (take i rows))) →
    Gains (next level) (slice_set base (slice_index_or level 0 0) (slice_index_or rows i d).prefix) mid new (tables (slice_index_or rows i d).to.0) →
    Gains level base old new (in_turn tables (rows_of (take (i + 1) rows)))
gains_more [] base old mid new tables rows i d has less g h = absurd has
gains_more (f ∷ level) base old mid new tables rows i d has less g h = let r = slice_index_or rows i d in (
  g.0 ++ h.0,
  h.1 ∙ ap (λ xs. xs ++ h.0) g.1 ∙ append_assoc old g.0 h.0,
  subst (λ bs. AllZip (IsPlaced (f ∷ level) base) bs (g.0 ++ h.0)) (sym (turn_more tables rows i d less))
      (zip_append (IsPlaced (f ∷ level) base) (in_turn tables (rows_of (take i rows))) (map (behind (r.prefix ∷ [])) (tables r.to.0)) g.0 h.0
      g.2 (one_row f level base r.prefix (tables r.to.0) h.0 h.2)),
)

-- prefixes of fields with another one in one field
fit_set : (fs : List ℕ) (ps : List Prefix) (k : ℕ) (p : Prefix) → k < length fs → FitFields fs ps → FitsWidth (width (slice_index fs k)) p → FitFields fs (set ps k p)
fit_set [] ps k p less fits fit = tt
fit_set (f ∷ fs) [] k p less fits fit = tt
fit_set (f ∷ fs) (q ∷ ps) zero p less fits fit = (fit, fits.1)
fit_set (f ∷ fs) (q ∷ ps) (suc k) p less fits fit = (fits.0, fit_set fs ps k p (omega (arith, less)) fits.1 fit)

pub fit_longer : (ps : List Prefix) (f : ℕ) (p : Prefix) → f < 5 → FitFields stated ps → FitsWidth (width f) p → FitFields stated (set ps f p)
fit_longer ps f p five fits fit = fit_set stated ps f p five fits (subst (λ k. FitsWidth (width k) p) (sym (place_of_field f five)) fit)

-- the rows of a list that is there
pub rows_there : (lists : List (Vec Row)) (id : ℕ) (d : Vec Row) → id < length lists → rows_at lists id ≡ rows_of (slice_index_or lists id d).items
rows_there lists id d less = ap (λ o. option_map_or (λ l. rows_of l.items) o []) (slice_get-get_or lists id d less)

within_by : (lists : List (Vec Row)) (id : ℕ) (o : Option (Vec Row)) → slice_get lists id ≡ o → 0 < length (option_map_or (λ l. rows_of l.items) o []) → id < length lists
within_by lists id None at some = absurd (omega (arith, some))
within_by lists id (Some l) at some = slice_get_within lists id l at

-- a list that has rows is there
pub list_there : (lists : List (Vec Row)) (id : ℕ) → 0 < length (rows_at lists id) → id < length lists
list_there lists id some = within_by lists id (slice_get lists id) refl some

-- the list of a node, and the lists of its rows' nodes
pub lists_at : (nodes : List Node) (lists : ℕ → List PrefixRow) (level : List ℕ) (id : ℕ) → HasField level → HaveLists nodes lists level id →
    IsListOf nodes id (lists id) × All (λ r. HaveLists nodes lists (next level) r.label) (lists id)
lists_at nodes lists [] id has have = absurd has
lists_at nodes lists (f ∷ level) id has have = have

-- the rows that the code reads are the node's
pub rows_read : (nodes : List Node) (lists : List (Vec Row)) (level : List ℕ) (id : ℕ) (list : Vec Row) (items : List Row) → HasField level → HaveLists nodes (rows_at lists) level id →
    list ≡ slice_index_or lists id list → items ≡ list.items → rows_at lists id ≡ rows_of items
rows_read nodes lists level id list items has have at same =
    rows_there lists id list (list_there lists id ((lists_at nodes (rows_at lists) level id has have).0.order.some)) ∙ ap (λ (v : Vec Row). rows_of v.items) (sym at) ∙ ap rows_of (sym same)

-- what holds of each row of a list holds of each of its rows as the code has it
pub all_row : (P : PrefixRow → Type 0) (rows : List PrefixRow) (items : List Row) (i : ℕ) (d : Row) → rows ≡ rows_of items → i < length items → All P rows → P (row_of (slice_index_or items i d))
all_row P rows items i d is less all =
    let n = length-map items row_of in
    subst P (get_or-map row_of items i d (row_of d) less) (subst (λ rs. All P rs) is all i (row_of d) (omega (arith, n, less)))

-- what is asked of the table of a row's node
pub record IsNext (nodes : List Node) (lists : ℕ → List PrefixRow) (level : List ℕ) (ps : List Prefix) (r : Row) : Type 0 where
  pub at : level_of nodes r.to.0 ≡ next level
  pub have : HaveLists nodes lists (next level) r.to.0
  pub fit : FitFields stated (set ps (slice_index_or level 0 0) r.prefix)

pub next_of : (nodes : List Node) (lists : ℕ → List PrefixRow) (level : List ℕ) (id : ℕ) (ps : List Prefix) (items : List Row) (i : ℕ) (d : Row) → IsStore nodes → HasField level → level_of nodes id ≡ level →
    HaveLists nodes lists level id → lists id ≡ rows_of items → i < length items → FitFields stated ps → IsNext nodes lists level ps (slice_index_or items i d)
next_of nodes lists [] id ps items i d s has level have is less fits = absurd has
next_of nodes lists (f ∷ rest) id ps items i d s has level l is less fits =
    let r = slice_index_or items i d in
    let child = child_older nodes id r.to.0 s (subst HasField (sym level) has) (all_row (λ x. IsChild nodes id x.label) (lists id) items i d is less l.0.children) in
    let fit = all_row (λ x. FitsWidth (width_of (level_of nodes id)) x.prefix) (lists id) items i d is less l.0.right.fits in record {
      at = child.1 ∙ ap next level;
      have = all_row (λ x. HaveLists nodes lists rest x.label) (lists id) items i d is less l.1;
      fit = fit_longer ps f r.prefix has.0.0 fits (subst (λ k. FitsWidth (width_of k) r.prefix) level fit);
    }

pub some_field : (level : List ℕ) → HasField level → 0 < length level
some_field [] has = absurd has
some_field (f ∷ level) has = omega arith

-- a leaf's entry is its table
pub gains_leaf : (nodes : List Node) (lists : ℕ → List PrefixRow) (level : List ℕ) (id : ℕ) (ps : List Prefix) (old new : List Entry) → level ≡ [] →
    Gains [] ps old new (record { prefixes = []; decision = answer nodes id [] } ∷ []) → Gains level ps old new (boxes nodes lists level id)
gains_leaf nodes lists level id ps old new e g = subst (λ k. Gains k ps old new (boxes nodes lists k id)) (sym e) g

-- all rows in turn are the table of an inner node
pub gains_all : (nodes : List Node) (lists : ℕ → List PrefixRow) (level : List ℕ) (id : ℕ) (ps : List Prefix) (items : List Row) (i : ℕ) (old new : List Entry) → HasField level → lists id ≡ rows_of items → length items ≤ i →
    Gains level ps old new (in_turn (boxes nodes lists (next level)) (rows_of (take i items))) → Gains level ps old new (boxes nodes lists level id)
gains_all nodes lists [] id ps items i old new has is past g = absurd has
gains_all nodes lists (f ∷ level) id ps items i old new has is past g =
    subst (λ rs. Gains (f ∷ level) ps old new (in_turn (boxes nodes lists level) rs)) (ap rows_of (take_all i items past) ∙ sym is) g

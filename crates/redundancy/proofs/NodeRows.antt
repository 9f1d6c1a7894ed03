-- The rows of a node are its boxes, and match what the entries of the boxes do, so what is kept of them is tight.
use Rattle.std.proofs.Common.{◌≡◌, ◌∷◌, ◌++◌, ℕ, List, [], ◌-◌, Bool, length, map, ap, refl, subst, sym, ◌∙◌, ◌≤◌, true, false, cond, arith, Some, inl, inr}
use Rattle.std.specs.Prelude.{◌&&◌, All, slice_index_or, find, option_map, slice_index, Option}
use Rattle.std.specs.List.{AllZip, All}
use Rattle.std.proofs.lemmas.List.{map-append}
use Rattle.std.proofs.lemmas.List.Elements.{All-nil, All-cons, All-append, All-head, All-map, All-tail}
use Rattle.field_boxes.specs.declared.prefix.Prefix.{Prefix}
use Rattle.field_boxes.specs.Headline.Fields.{AreValues, IsHeader, width}
use Rattle.field_boxes.specs.Headline.Classifier.{Interval, interval_holds}
use Rattle.field_boxes.specs.Headline.Prefix.{FitsWidth, prefix_holds}
use Rattle.field_boxes.specs.Prefix.{prefix_interval}
use Rattle.field_boxes.proofs.Prefixes.{interval-prefix}
use Rattle.ternary_words.specs.declared.entry.Entry.{Entry}
use Rattle.ternary_words.specs.Prefixes.{FitFields, IsPrefixInEach, all_hold}
use Rattle.ternary_words.specs.Views.{word_of}
use Rattle.node_store.specs.Diagram.{Node, answer as diagram_answer, level_of}
use Rattle.node_store.specs.Levels.{HasField, IsLevel, next}
use Rattle.node_store.specs.Store.{IsStore}
use Rattle.prefix_min.specs.declared.row.PrefixRow.{PrefixRow}
use Rattle.table_compose.specs.Composed.{Box, HaveLists, IsPlaced, behind, boxes, open_all, AreComposed, HaveCosts, IsAnswer, decided}
use Rattle.table_compose.specs.Composed as composed
use Rattle.table_compose.specs.Plans.{width_of}
use Rattle.table_compose.proofs.Boxes.{prefix_count}
use Rattle.table_compose.proofs.Later.{child_older}
use Rattle.table_compose.proofs.Placing.{box_at}
use Rattle.table_compose.proofs.Tables.{prefix_words, answers, counted}
use Rattle.ternary_words.specs.Entries.{ArePrefixes, IsPart, answer}
use Rattle.redundancy_laws.specs.Built.{row_at}
use Rattle.field_boxes.specs.Orders.{IsOrder, picked}
use Rattle.redundancy_laws.specs.Rows.{Row, each_holds, in_front, matches}
use Rattle.node_store.proofs.Orders.{order_level, picked_values, some_header}
use Rattle.redundancy_laws.proofs.Prefixed.{row-matches}
use Rattle.redundancy.specs.NodeBlocks.{in_turn, node_rows}
use Rattle.redundancy.proofs.WholeFlags.{AreAlikeRows, flags_alike}
use Rattle.std.proofs.lemmas.Option.{none-some, same_Some}
use Rattle.ternary_words.specs.Headline.Word.{agrees, header_bits}
use Rattle.table_compose.proofs.Occurring.{entries_occur, occur_by}
use Rattle.redundancy_laws.specs.Flags.{with_flags}
use Rattle.redundancy_laws.specs.Pass.{Keeps}
use Rattle.redundancy_laws.proofs.Chosen.{chosen}
use Rattle.redundancy.specs.Kept.{AreKeptOf, AreWholeFlags, GainsFlagged}

-- the values that prefixes of these fields hold
abbrev pub spans_of : List ℕ → List Prefix → List Interval
spans_of [] ps = []
spans_of (f ∷ fs) [] = []
spans_of (f ∷ fs) (p ∷ ps) = prefix_interval (width f) p ∷ spans_of fs ps

-- a box over these fields as a row
abbrev pub box_row : List ℕ → Box → Row
box_row fields b = record { spans = spans_of fields b.prefixes; decision = b.decision }

-- boxes with one more prefix in front
rows_behind : (f : ℕ) (fields : List ℕ) (p : Prefix) (bs : List Box) →
    map (box_row (f ∷ fields)) (map (behind (p ∷ [])) bs) ≡ map (in_front (prefix_interval (width f) p)) (map (box_row fields) bs)
rows_behind f fields p [] = refl
rows_behind f fields p (b ∷ bs) = ap (λ (rs : List Row). in_front (prefix_interval (width f) p) (box_row fields b) ∷ rs) (rows_behind f fields p bs)

rows_in_turn : (f : ℕ) (fields : List ℕ) (tables : ℕ → List Box) (rows : List PrefixRow) →
    map (box_row (f ∷ fields)) (composed.in_turn tables rows) ≡ in_turn f (λ id. map (box_row fields) (tables id)) rows
rows_in_turn f fields tables [] = refl
rows_in_turn f fields tables (r ∷ rows) =
    map-append (box_row (f ∷ fields)) (map (behind (r.prefix ∷ [])) (tables r.label)) (composed.in_turn tables rows)
    ∙ ap (λ (rs : List Row). rs ++ map (box_row (f ∷ fields)) (composed.in_turn tables rows)) (rows_behind f fields r.prefix (tables r.label))
    ∙ ap (λ (rs : List Row). map (in_front (prefix_interval (width f) r.prefix)) (map (box_row fields) (tables r.label)) ++ rs) (rows_in_turn f fields tables rows)

-- tables that are the same for each row
pub same_in_turn : (f : ℕ) (some others : ℕ → List Row) (rows : List PrefixRow) → All (λ (r : PrefixRow). some r.label ≡ others r.label) rows → in_turn f some rows ≡ in_turn f others rows
same_in_turn f some others [] same = refl
same_in_turn f some others (r ∷ rows) same =
    ap (λ (rs : List Row). map (in_front (prefix_interval (width f) r.prefix)) rs ++ in_turn f some rows) (All-head (λ (x : PrefixRow). some x.label ≡ others x.label) r rows same)
    ∙ ap (λ (rs : List Row). map (in_front (prefix_interval (width f) r.prefix)) (others r.label) ++ rs) (same_in_turn f some others rows (All-tail (λ (x : PrefixRow). some x.label ≡ others x.label) r rows same))

-- the boxes of a node, as rows, are the rows of the node
pub rows_of_boxes : (nodes : List Node) (lists : ℕ → List PrefixRow) (fields : List ℕ) (id : ℕ) → map (box_row fields) (boxes nodes lists fields id) ≡ node_rows nodes lists fields id
rows_of_boxes nodes lists [] id = refl
rows_of_boxes nodes lists (f ∷ fields) id =
    rows_in_turn f fields (boxes nodes lists fields) (lists id)
    ∙ same_in_turn f (λ child. map (box_row fields) (boxes nodes lists fields child)) (node_rows nodes lists fields) (lists id) (λ k d less. rows_of_boxes nodes lists fields (slice_index_or (lists id) k d).label)

both : (a b c d : Bool) → a ≡ b → c ≡ d → (a && c) ≡ (b && d)
both a b c d h k = cc

-- the intervals hold what the prefixes do
spans_hold : (fields : List ℕ) (ps : List Prefix) (values : List ℕ) → FitFields fields ps → AreValues fields values → each_holds (spans_of fields ps) values ≡ all_hold fields ps values
spans_hold [] ps values fits are = refl
spans_hold (f ∷ fields) [] values fits are = refl
spans_hold (f ∷ fields) (p ∷ ps) [] fits are = absurd are
spans_hold (f ∷ fields) (p ∷ ps) (v ∷ values) fits are =
    both (interval_holds v (prefix_interval (width f) p)) (prefix_holds (width f) p v) (each_holds (spans_of fields ps) values) (all_hold fields ps values)
    (let len = fits.0 in interval-prefix (width f - p.len) p.value v len.low) (spans_hold fields ps values fits.1 are.1)

abbrev Fit : List ℕ → List Box → Type 0
Fit level bs = All (λ (b : Box). FitFields level b.prefixes) bs

fit_rows : (f : ℕ) (level : List ℕ) (tables : ℕ → List Box) (rows : List PrefixRow) → All (λ (r : PrefixRow). FitsWidth (width f) r.prefix) rows → All (λ (r : PrefixRow). Fit level (tables r.label)) rows →
    Fit (f ∷ level) (composed.in_turn tables rows)
fit_rows f level tables [] fits below = All-nil (λ (b : Box). FitFields (f ∷ level) b.prefixes)
fit_rows f level tables (r ∷ rows) fits below =
    let fit = All-head (λ (x : PrefixRow). FitsWidth (width f) x.prefix) r rows fits in
    let here = All-head (λ (x : PrefixRow). Fit level (tables x.label)) r rows below in
    All-append (λ (b : Box). FitFields (f ∷ level) b.prefixes) (map (behind (r.prefix ∷ [])) (tables r.label)) (composed.in_turn tables rows)
    (All-map (λ (b : Box). FitFields (f ∷ level) b.prefixes) (behind (r.prefix ∷ [])) (tables r.label) (λ k d less. (fit, here k d less)))
    (fit_rows f level tables rows (All-tail (λ (x : PrefixRow). FitsWidth (width f) x.prefix) r rows fits) (All-tail (λ (x : PrefixRow). Fit level (tables x.label)) r rows below))

-- the prefixes of a node's boxes fit their fields
pub boxes_fit : (nodes : List Node) (lists : ℕ → List PrefixRow) → IsStore nodes → (level : List ℕ) (id : ℕ) → IsLevel level → level_of nodes id ≡ level → HaveLists nodes lists level id → Fit level (boxes nodes lists level id)
boxes_fit nodes lists s [] id is at have = All-cons (λ (b : Box). FitFields [] b.prefixes) (record { prefixes = []; decision = diagram_answer nodes id [] }) [] tt (All-nil (λ (b : Box). FitFields [] b.prefixes))
boxes_fit nodes lists s (f ∷ level) id is at h =
    fit_rows f level (boxes nodes lists level) (lists id) (subst (λ k. All (λ (r : PrefixRow). FitsWidth (width_of k) r.prefix) (lists id)) at h.0.right.fits)
    (λ k d less.
    let r = slice_index_or (lists id) k d in
    let child = child_older nodes id r.label s (subst HasField (sym at) is) (h.0.children k d less) in
    boxes_fit nodes lists s level r.label is.1 (child.1 ∙ ap next at) (h.1 k d less))

-- a box as a row matches, at all values of the order's fields, what its entry does
box_alike : (order : List ℕ) (b : Box) (e : Entry) (values : List ℕ) → IsOrder order → FitFields order b.prefixes → length b.prefixes ≡ length order → IsPlaced order open_all b e → IsPrefixInEach (word_of e.word) →
    (header : List ℕ) × IsHeader header × (picked order header ≡ values) → matches values (row_at order e) ≡ matches values (box_row order b)
box_alike order b e values o fits count is prefix (header, ok, same) =
    ap (λ vs. matches vs (row_at order e)) (sym same)
    ∙ row-matches order header e o prefix ok
    ∙ is.0.holds header ok
    ∙ box_at order b.prefixes header (order_level order o) o.distinct ok count
    ∙ sym (spans_hold order b.prefixes (picked order header) fits (picked_values order header (order_level order o) ok))
    ∙ ap (λ vs. matches vs (box_row order b)) same

rows_alike : (order : List ℕ) (bs : List Box) (es : List Entry) → IsOrder order → Fit order bs → All (λ (b : Box). length b.prefixes ≡ length order) bs → ArePrefixes es → AllZip (IsPlaced order open_all) bs es →
    AreAlikeRows order (map (row_at order) es) (map (box_row order) bs)
rows_alike order [] [] o fit count prefixes z = tt
rows_alike order [] (e ∷ es) o fit count prefixes z = absurd z
rows_alike order (b ∷ bs) [] o fit count prefixes z = absurd z
rows_alike order (b ∷ bs) (e ∷ es) o fit count prefixes z = (
  z.0.1,
  λ values ok. box_alike order b e values o (All-head (λ (x : Box). FitFields order x.prefixes) b bs fit) (All-head (λ (x : Box). length x.prefixes ≡ length order) b bs count) z.0
      (All-head (λ (x : Entry). IsPrefixInEach (word_of x.word)) e es prefixes) (some_header order values o ok),
  rows_alike order bs es o (All-tail (λ (x : Box). FitFields order x.prefixes) b bs fit) (All-tail (λ (x : Box). length x.prefixes ≡ length order) b bs count)
      (All-tail (λ (x : Entry). IsPrefixInEach (word_of x.word)) e es prefixes) z.1,
)

-- composed entries have prefix words
pub are_prefix_words : (order : List ℕ) (bs : List Box) (es : List Entry) → AllZip (IsPlaced order open_all) bs es → ArePrefixes es
are_prefix_words order bs es z = λ k d less. let h = prefix_words order bs es z k d less in (h.0, record { five = h.1.five; fit = h.1.fit; same = h.1.trits })

-- the entries of a node's boxes are alike to the rows of the node
pub table_alike : (nodes : List Node) (lists : ℕ → List PrefixRow) (order : List ℕ) (id : ℕ) (es : List Entry) → IsStore nodes → IsOrder order → level_of nodes id ≡ order → HaveLists nodes lists order id →
    AllZip (IsPlaced order open_all) (boxes nodes lists order id) es → AreAlikeRows order (map (row_at order) es) (node_rows nodes lists order id)
table_alike nodes lists order id es s o at have z =
    subst (λ (rs : List Row). AreAlikeRows order (map (row_at order) es) rs) (rows_of_boxes nodes lists order id)
    (rows_alike order (boxes nodes lists order id) es o (boxes_fit nodes lists s order id (order_level order o) at have) (prefix_count nodes lists order id) (are_prefix_words order (boxes nodes lists order id) es z) z)

-- flags that are right for the rows of a node keep of its entries what a pass keeps
pub kept_by_rows : (nodes : List Node) (lists : ℕ → List PrefixRow) (order : List ℕ) (id : ℕ) (rows : List Row) (flags : List Bool) (entries : List Entry) → IsStore nodes → IsOrder order → level_of nodes id ≡ order → HaveLists nodes lists order id →
    rows ≡ node_rows nodes lists order id → AreWholeFlags order rows flags → AllZip (IsPlaced order open_all) (boxes nodes lists order id) entries → Keeps [] entries (with_flags entries flags)
kept_by_rows nodes lists order id rows flags entries s o at have are right z =
    chosen order entries flags o (are_prefix_words order (boxes nodes lists order id) entries z)
    (flags_alike order (node_rows nodes lists order id) entries flags (table_alike nodes lists order id entries s o at have z) (subst (λ (rs : List Row). AreWholeFlags order rs flags) are right))

-- what was added to no entries, where the flags are right for all entries of the boxes
pub kept_of : (nodes : List Node) (lists : ℕ → List PrefixRow) (costs order : List ℕ) (root : ℕ) (old new : List Entry) (all flags : List Bool) → old ≡ [] → flags ≡ all →
    ((entries : List Entry) → AllZip (IsPlaced order open_all) (boxes nodes lists order root) entries → Keeps [] entries (with_flags entries all)) →
    HaveLists nodes lists order root → HaveCosts nodes lists costs order root → GainsFlagged order open_all old new (boxes nodes lists order root) flags → AreKeptOf nodes order root (slice_index costs root) new
kept_of nodes lists costs order root old new all flags none seen right have cost g = record {
  all = g.0;
  composed = record { lists = lists; have = have; entries_are = g.1 };
  many = counted nodes order root costs lists g.0 cost g.1;
  pass = subst (Keeps [] g.0) (sym (g.2 ∙ ap (λ (es : List Entry). es ++ with_flags g.0 flags) none ∙ ap (with_flags g.0) seen)) (right g.0 g.1);
}

answer_step : (t : Bool) (e : Entry) (o : Option Entry) (rest n : ℕ) → (option_map (λ (x : Entry). x.decision) o ≡ Some n → rest ≡ n) → option_map (λ (x : Entry). x.decision) (cond t (Some e) o) ≡ Some n → cond t e.decision rest ≡ n
answer_step true e o rest n k h = same_Some e.decision n h
answer_step false e o rest n k h = k h

-- what the first entry that matches decides is what the table answers
answered : (entries : List Entry) (header : List ℕ) (n : ℕ) → decided entries header ≡ Some n → answer entries header ≡ n
answered [] header n h = absurd (none-some n h)
answered (e ∷ entries) header n h =
    answer_step (agrees (word_of e.word) (header_bits header)) e (find (λ (x : Entry). agrees (word_of x.word) (header_bits header)) entries) (answer entries header) n (answered entries header n) h

-- what holds of all entries holds of a part of them
pub all_of_part : (P : Entry → Type 0) (xs ys : List Entry) → IsPart xs ys → All P ys → All P xs
all_of_part P xs [] part all = subst (All P) (sym part) (All-nil P)
all_of_part P xs (y ∷ ys) (inl kept) all = subst (All P) (sym kept.1) (All-cons P y kept.0 (All-head P y ys all) (all_of_part P kept.0 ys kept.2 (All-tail P y ys all)))
all_of_part P xs (y ∷ ys) (inr part) all = all_of_part P xs ys part (All-tail P y ys all)

-- a part is no longer than the whole
pub part_few : (xs ys : List Entry) → IsPart xs ys → length xs ≤ length ys
part_few xs [] part = omega (arith, ap length part)
part_few xs (y ∷ ys) (inl kept) = omega (arith, ap length kept.1, part_few kept.0 ys kept.2)
part_few xs (y ∷ ys) (inr part) = omega (arith, part_few xs ys part)

-- a composed table answers as the diagram
pub table_answers : (nodes : List Node) (order : List ℕ) (root : ℕ) (entries : List Entry) → IsStore nodes → IsOrder order → level_of nodes root ≡ order → AreComposed nodes order root entries →
    (header : List ℕ) → IsHeader header → answer entries header ≡ diagram_answer nodes root (picked order header)
table_answers nodes order root entries s o at c header is =
    answered entries header (diagram_answer nodes root (picked order header)) (answers nodes order root c.lists entries s (order_level order o) o.distinct at c.have c.entries_are header is)

-- each of its entries decides what the diagram answers for some values
pub table_decides : (nodes : List Node) (order : List ℕ) (root : ℕ) (entries : List Entry) → IsStore nodes → IsOrder order → level_of nodes root ≡ order → AreComposed nodes order root entries →
    All (λ (e : Entry). IsAnswer nodes order root e.decision) entries
table_decides nodes order root entries s o at c =
    entries_occur order (IsAnswer nodes order root) (boxes nodes c.lists order root) entries c.entries_are (occur_by nodes c.lists s order root (order_level order o) at c.have)

-- and its words are prefixes in each field
pub table_prefixes : (nodes : List Node) (order : List ℕ) (root : ℕ) (entries : List Entry) → AreComposed nodes order root entries → ArePrefixes entries
table_prefixes nodes order root entries c = are_prefix_words order (boxes nodes c.lists order root) entries c.entries_are

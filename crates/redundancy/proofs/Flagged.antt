-- Flagged entries that are added row by row: the words of prefixes that fit their fields, and what the nodes of a row cost.
use Rattle.std.proofs.Common.{◌≡◌, ◌∷◌, ◌++◌, ℕ, List, [], ◌+◌, ◌*◌, ◌<◌, ◌^◌, length, map, ap, arith, refl, subst, sym, ◌∙◌, set, suc, ◌≤◌, Bool, true, false, take, drop, append_assoc}
use Rattle.std.specs.Prelude.{All, slice_index, slice_index_or, OnOk, Result, slice_set}
use Rattle.std.specs.List.{AllZip, list_any}
use Rattle.std.proofs.lemmas.List.{length-map, length-set, append-nil, take_all}
use Rattle.std.proofs.lemmas.List.Elements.{All-head, All-tail}
use Rattle.field_boxes.specs.declared.prefix.Prefix.{Prefix}
use Rattle.field_boxes.specs.Headline.Bits.{bits}
use Rattle.field_boxes.specs.Headline.Fields.{stated, width}
use Rattle.field_boxes.specs.Headline.Prefix.{FitsWidth}
use Rattle.ternary_words.specs.declared.entry.Entry.{Entry}
use Rattle.ternary_words.specs.declared.word.Word.{Word}
use Rattle.ternary_words.specs.Prefixes.{FitFields, fields_trits, masks_of}
use Rattle.ternary_words.specs.Views.{word_of}
use Rattle.ternary_words.specs.Headline.Word.{agrees, header_bits}
use Rattle.ternary_words.specs.Word.{key_of, trits}
use Rattle.ternary_words.proofs.Fives.{fit_five, five_of, masks_below, values_below}
use Rattle.ternary_words.proofs.Joined.{bits-header}
use Rattle.ternary_words.proofs.Masked.{masked_key}
use Rattle.ternary_words.proofs.PrefixHolds.{agrees-fields}
use Rattle.ternary_words.proofs.PrefixTrits.{trits-fields}
use Rattle.node_store.specs.Diagram.{Node, answer, level_of}
use Rattle.node_store.specs.Levels.{HasField, IsLevel, next, next as next_level}
use Rattle.node_store.specs.Store.{IsStore}
use Rattle.prefix_min.specs.declared.row.PrefixRow.{PrefixRow}
use Rattle.table_compose.specs.Composed.{Box, HaveLists, IsPlaced, IsWordOf, behind, boxes, in_turn, HaveCosts}
use Rattle.table_compose.specs.Plans.{width_of}
use Rattle.table_compose.proofs.Gaining.{fit_longer, one_row, zip_append, all_row, turn_more}
use Rattle.table_compose.proofs.Later.{child_older}
use Rattle.table_compose.specs.declared.row.Row.{Row}
use Rattle.table_compose.specs.Rows.{rows_of}
use Rattle.std.proofs.lemmas.Slice.Zip.{AllZip-long}
use Rattle.std.proofs.Math.Seq.{drop-nil}
use Rattle.redundancy_laws.specs.Flags.{with_flags}
use Rattle.redundancy.specs.Kept.{GainsFlagged}

-- the key of five values that are below the sizes of their fields
key_bits : (v : List ℕ) → length v ≡ 5 → ((k : ℕ) → k < 5 → slice_index v k < 2 ^ width k) → bits 104 (key_of v) ≡ header_bits v
key_bits v five small =
    let nested : key_of v ≡ (((slice_index v 0 * 2 ^ 32 + slice_index v 1) * 2 ^ 16 + slice_index v 2) * 2 ^ 16 + slice_index v 3) * 2 ^ 8 + slice_index v 4 = omega arith in
    ap (bits 104) nested ∙ bits-header v five (small 1 (omega arith)) (small 2 (omega arith)) (small 3 (omega arith)) (small 4 (omega arith))

key_small : (v : List ℕ) → ((k : ℕ) → k < 5 → slice_index v k < 2 ^ width k) → key_of v < 2 ^ 104
key_small v small =
    let a : slice_index v 0 < 2 ^ 32 = small 0 (omega arith) in
    let b : slice_index v 1 < 2 ^ 32 = small 1 (omega arith) in
    let c : slice_index v 2 < 2 ^ 16 = small 2 (omega arith) in
    let d : slice_index v 3 < 2 ^ 16 = small 3 (omega arith) in
    let e : slice_index v 4 < 2 ^ 8 = small 4 (omega arith) in
    omega (arith, a, b, c, d, e)

abbrev any : Prefix
any = record { value = 0; len = 0 }

values_small : (ps : List Prefix) → length ps ≡ 5 → FitFields stated ps → (k : ℕ) → k < 5 → slice_index (map (λ (p : Prefix). p.value) ps) k < 2 ^ width k
values_small ps five fits k less =
    subst (λ (qs : List Prefix). slice_index (map (λ (p : Prefix). p.value) qs) k < 2 ^ width k) (sym (five_of ps any five)) (values_below ps any (fit_five ps any five fits) k less)

masks_small : (ps : List Prefix) → length ps ≡ 5 → FitFields stated ps → (k : ℕ) → k < 5 → slice_index (masks_of stated ps) k < 2 ^ width k
masks_small ps five fits k less =
    subst (λ (qs : List Prefix). slice_index (masks_of stated qs) k < 2 ^ width k) (sym (five_of ps any five)) (masks_below ps any (fit_five ps any five fits) _ _ _ _ _ refl refl refl refl refl k less)

masks_count : (ps : List Prefix) → length ps ≡ 5 → length (masks_of stated ps) ≡ 5
masks_count ps five = ap (λ (qs : List Prefix). length (masks_of stated qs)) (five_of ps any five)

-- the word of five prefixes
pub word_there : (ps : List Prefix) → length ps ≡ 5 → FitFields stated ps → (w : Word) × IsWordOf w ps
word_there ps five fits =
    let vs = map (λ (p : Prefix). p.value) ps in
    let ms = masks_of stated ps in
    let w : Word = record { value = key_of vs; mask = key_of ms; narrow = key_small ms (masks_small ps five fits); masked = masked_key ps any five fits } in
    let same : word_of w ≡ fields_trits stated ps =
    ap (λ bs. trits bs (bits 104 (key_of vs))) (key_bits ms (masks_count ps five) (masks_small ps five fits))
    ∙ ap (trits (header_bits ms)) (key_bits vs (length-map ps (λ (p : Prefix). p.value) ∙ five) (values_small ps five fits))
    ∙ trits-fields stated ps fits in
    (w, record { five = five; fit = fits; trits = same; holds = λ header is. ap (λ ts. agrees ts (header_bits header)) same ∙ agrees-fields stated ps header fits is })

-- entries of these boxes
abbrev pub HaveEntries : List ℕ → List Prefix → List Box → Type 0
HaveEntries level base bs = (entries : List Entry) × AllZip (IsPlaced level base) bs entries

rows_there : (f : ℕ) (level : List ℕ) (base : List Prefix) (tables : ℕ → List Box) (rows : List PrefixRow) → All (λ (r : PrefixRow). HaveEntries level (set base f r.prefix) (tables r.label)) rows →
    HaveEntries (f ∷ level) base (in_turn tables rows)
rows_there f level base tables [] below = ([], tt)
rows_there f level base tables (r ∷ rows) below =
    let here = All-head (λ (x : PrefixRow). HaveEntries level (set base f x.prefix) (tables x.label)) r rows below in
    let rest = rows_there f level base tables rows (All-tail (λ (x : PrefixRow). HaveEntries level (set base f x.prefix) (tables x.label)) r rows below) in (
      here.0 ++ rest.0,
      zip_append (IsPlaced (f ∷ level) base) (map (behind (r.prefix ∷ [])) (tables r.label)) (in_turn tables rows) here.0 rest.0 (one_row f level base r.prefix (tables r.label) here.0 here.1) rest.1,
    )

pub entries_there : (nodes : List Node) (lists : ℕ → List PrefixRow) → IsStore nodes → (level : List ℕ) (id : ℕ) (base : List Prefix) → IsLevel level → level_of nodes id ≡ level → HaveLists nodes lists level id →
    length base ≡ 5 → FitFields stated base → HaveEntries level base (boxes nodes lists level id)
entries_there nodes lists s [] id base is at have five fits =
    let w = word_there base five fits in
    let e : Entry = record { word = w.0; decision = answer nodes id [] } in
    (e ∷ [], ((w.1, refl), tt))
entries_there nodes lists s (f ∷ level) id base is at h five fits =
    rows_there f level base (boxes nodes lists level) (lists id)
    (λ k d less.
    let r = slice_index_or (lists id) k d in
    let child = child_older nodes id r.label s (subst HasField (sym at) is) (h.0.children k d less) in
    let fit : FitsWidth (width f) r.prefix = subst (λ n. FitsWidth (width_of n) r.prefix) at (h.0.right.fits k d less) in
    entries_there nodes lists s level r.label (set base f r.prefix) is.1 (child.1 ∙ ap next at) (h.1 k d less) (length-set base f r.prefix ∙ five) (fit_longer base f r.prefix is.0.0 fits fit))

-- what a node costs stands under its number
pub costs_room : (nodes : List Node) (lists : ℕ → List PrefixRow) (costs level : List ℕ) (id : ℕ) → HaveCosts nodes lists costs level id → id < length costs
costs_room nodes lists costs [] id h = h.0
costs_room nodes lists costs (f ∷ level) id h = h.0

-- so do the costs of the node of a row
pub costs_at : (nodes : List Node) (lists : ℕ → List PrefixRow) (costs level : List ℕ) (id : ℕ) (items : List Row) (i : ℕ) (d : Row) → HasField level → HaveCosts nodes lists costs level id → lists id ≡ rows_of items → i < length items →
    HaveCosts nodes lists costs (next_level level) (slice_index_or items i d).to.0
costs_at nodes lists costs [] id items i d has h is less = absurd has
costs_at nodes lists costs (f ∷ level) id items i d has h is less = all_row (λ x. HaveCosts nodes lists costs level x.label) (lists id) items i d is less h.2

-- the level after the first field has one field less
pub one_less : (level : List ℕ) → HasField level → suc (length (next_level level)) ≡ length level
one_less [] has = absurd has
one_less (f ∷ level) has = refl

no_flags : (es : List Entry) → with_flags es [] ≡ []
no_flags [] = refl
no_flags (e ∷ es) = refl

-- the flagged ones of two lists
flags_append : (xs ys : List Entry) (flags : List Bool) → with_flags (xs ++ ys) flags ≡ with_flags xs flags ++ with_flags ys (drop (length xs) flags)
flags_append [] ys flags = refl
flags_append (x ∷ xs) ys [] = sym (no_flags ys)
flags_append (x ∷ xs) ys (true ∷ flags) = ap (λ (es : List Entry). x ∷ es) (flags_append xs ys flags)
flags_append (x ∷ xs) ys (false ∷ flags) = flags_append xs ys flags

drop_append : (xs ys : List Entry) (flags : List Bool) → drop (length ys) (drop (length xs) flags) ≡ drop (length (xs ++ ys)) flags
drop_append [] ys flags = refl
drop_append (x ∷ xs) ys [] = drop-nil (length ys)
drop_append (x ∷ xs) ys (b ∷ flags) = drop_append xs ys flags

-- only so many flags count as there are entries
flags_taken : (xs : List Entry) (flags : List Bool) → with_flags xs (take (length xs) flags) ≡ with_flags xs flags
flags_taken [] flags = refl
flags_taken (x ∷ xs) [] = refl
flags_taken (x ∷ xs) (true ∷ flags) = ap (λ (es : List Entry). x ∷ es) (flags_taken xs flags)
flags_taken (x ∷ xs) (false ∷ flags) = flags_taken xs flags

-- where no flag is set nothing is flagged
none_flagged : (xs : List Entry) (flags : List Bool) → list_any (λ (b : Bool). b) flags ≡ false → with_flags xs flags ≡ []
none_flagged [] flags none = refl
none_flagged (x ∷ xs) [] none = refl
none_flagged (x ∷ xs) (true ∷ flags) none = absurd cc
none_flagged (x ∷ xs) (false ∷ flags) none = none_flagged xs flags none

-- the flagged entries of these boxes were added, and these flags are left
abbrev pub AreFlagged : List ℕ → List Prefix → List Entry → List Entry → List Box → List Bool → List Bool → Type 0
AreFlagged level base old new bs flags rest = (more : List Entry) × AllZip (IsPlaced level base) bs more × (new ≡ old ++ with_flags more flags) × (rest ≡ drop (length more) flags)

-- one row more
pub flagged_more : (level : List ℕ) (base : List Prefix) (old mid new : List Entry) (tables : ℕ → List Box) (rows : List Row) (i : ℕ) (d : Row) (flags left own rest : List Bool) (cost : ℕ) → HasField level → i < length rows →
    AreFlagged level base old mid (in_turn tables (rows_of (take i rows))) flags left →
    length (tables (slice_index_or rows i d).to.0) ≡ cost → own ≡ take cost left → rest ≡ drop cost left →
    GainsFlagged (next level) (slice_set base (slice_index_or level 0 0) (slice_index_or rows i d).prefix) mid new (tables (slice_index_or rows i d).to.0) own →
    AreFlagged level base old new (in_turn tables (rows_of (take (i + 1) rows))) flags rest
flagged_more [] base old mid new tables rows i d flags left own rest cost has less g many mine others h = absurd has
flagged_more (f ∷ level) base old mid new tables rows i d flags left own rest cost has less g many mine others h =
    let r = slice_index_or rows i d in
    let count : length h.0 ≡ cost = AllZip-long (IsPlaced level (slice_set base f r.prefix)) (tables r.to.0) h.0 h.1 ∙ many in
    let seen : with_flags h.0 own ≡ with_flags h.0 left = ap (with_flags h.0) (mine ∙ ap (λ n. take n left) (sym count)) ∙ flags_taken h.0 left in (
      g.0 ++ h.0,
      subst (λ bs. AllZip (IsPlaced (f ∷ level) base) bs (g.0 ++ h.0)) (sym (turn_more tables rows i d less))
          (zip_append (IsPlaced (f ∷ level) base) (in_turn tables (rows_of (take i rows))) (map (behind (r.prefix ∷ [])) (tables r.to.0)) g.0 h.0
          g.1 (one_row f level base r.prefix (tables r.to.0) h.0 h.1)),
      h.2 ∙ ap (λ (es : List Entry). es ++ with_flags h.0 own) g.2 ∙ append_assoc old (with_flags g.0 flags) (with_flags h.0 own)
          ∙ ap (λ (es : List Entry). old ++ (with_flags g.0 flags ++ es)) (seen ∙ ap (with_flags h.0) g.3) ∙ ap (λ (es : List Entry). old ++ es) (sym (flags_append g.0 h.0 flags)),
      others ∙ ap (λ n. drop n left) (sym count) ∙ ap (drop (length h.0)) g.3 ∙ drop_append g.0 h.0 flags,
    )

-- no row yet
pub flagged_none : (level : List ℕ) (base : List Prefix) (old : List Entry) (tables : ℕ → List Box) (flags : List Bool) → AreFlagged level base old old (in_turn tables []) flags flags
flagged_none level base old tables flags = ([], tt, sym (append-nil old), refl)

-- all rows in turn are the table of an inner node
pub flagged_all : (nodes : List Node) (lists : ℕ → List PrefixRow) (level : List ℕ) (id : ℕ) (base : List Prefix) (items : List Row) (i : ℕ) (old new : List Entry) (flags rest : List Bool) → HasField level → lists id ≡ rows_of items → length items ≤ i →
    AreFlagged level base old new (in_turn (boxes nodes lists (next level)) (rows_of (take i items))) flags rest → GainsFlagged level base old new (boxes nodes lists level id) flags
flagged_all nodes lists [] id base items i old new flags rest has is past g = absurd has
flagged_all nodes lists (f ∷ level) id base items i old new flags rest has is past g =
    subst (λ rs. GainsFlagged (f ∷ level) base old new (in_turn (boxes nodes lists level) rs) flags) (ap rows_of (take_all i items past) ∙ sym is) (g.0, g.1, g.2)

-- a leaf's entry is its table
pub flagged_leaf : {E : Type 0} (nodes : List Node) (lists : ℕ → List PrefixRow) (level : List ℕ) (id : ℕ) (base : List Prefix) (old new : List Entry) (flags : List Bool) (result : Result (Unit {0}) E) → level ≡ [] →
    OnOk result (GainsFlagged [] base old new (record { prefixes = []; decision = answer nodes id [] } ∷ []) flags) → OnOk result (GainsFlagged level base old new (boxes nodes lists level id) flags)
flagged_leaf nodes lists level id base old new flags result e g = subst (λ k. OnOk result (GainsFlagged k base old new (boxes nodes lists k id) flags)) (sym e) g

-- a table of which no entry is flagged is passed over
pub passed_over : (nodes : List Node) (lists : ℕ → List PrefixRow) (level : List ℕ) (id : ℕ) (base : List Prefix) (old : List Entry) (flags : List Bool) → IsStore nodes → IsLevel level → level_of nodes id ≡ level → HaveLists nodes lists level id →
    length base ≡ 5 → FitFields stated base → list_any (λ (b : Bool). b) flags ≡ false → GainsFlagged level base old old (boxes nodes lists level id) flags
passed_over nodes lists level id base old flags s is at have five fits none =
    let there = entries_there nodes lists s level id base is at have five fits in
    (there.0, there.1, sym (append-nil old) ∙ ap (λ (es : List Entry). old ++ es) (sym (none_flagged there.0 flags none)))

-- the entry of one box, where its flag is set
pub leaf_kept : (base : List Prefix) (b : Box) (e : Entry) (old new : List Entry) (flags : List Bool) → IsPlaced [] base b e → slice_index_or flags 0 false ≡ true → new ≡ old ++ e ∷ [] → GainsFlagged [] base old new (b ∷ []) flags
leaf_kept base b e old new [] is first added = absurd cc
leaf_kept base b e old new (true ∷ flags) is first added = (e ∷ [], (is, tt), added ∙ ap (λ (es : List Entry). old ++ e ∷ es) (sym refl))
leaf_kept base b e old new (false ∷ flags) is first added = absurd cc

-- and where it isn't
pub leaf_passed : (base : List Prefix) (b : Box) (e : Entry) (old : List Entry) (flags : List Bool) → IsPlaced [] base b e → slice_index_or flags 0 false ≡ false → GainsFlagged [] base old old (b ∷ []) flags
leaf_passed base b e old [] is first = (e ∷ [], (is, tt), sym (append-nil old))
leaf_passed base b e old (true ∷ flags) is first = absurd cc
leaf_passed base b e old (false ∷ flags) is first = (e ∷ [], (is, tt), sym (append-nil old))

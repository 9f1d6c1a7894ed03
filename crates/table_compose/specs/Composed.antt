-- Composed tables: the order of their entries, and what each is.
use Rattle.std.specs.Prelude.{◌≡◌, ℕ, ◌<◌, List, [], ◌∷◌, ◌++◌, Option, All, find, length, map, option_map, slice_set, slice_index, ◌≢◌}
use Rattle.std.specs.List.{AllZip, flat_map}
use Rattle.field_boxes.specs.declared.prefix.Prefix.{Prefix}
use Rattle.field_boxes.specs.Headline.Fields.{stated, AreValues, IsHeader}
use Rattle.ternary_words.specs.declared.entry.Entry.{Entry}
use Rattle.ternary_words.specs.declared.word.Word.{Word}
use Rattle.ternary_words.specs.Headline.Word.{agrees, header_bits}
use Rattle.ternary_words.specs.Prefixes.{FitFields, all_hold, fields_trits}
use Rattle.ternary_words.specs.Views.{word_of}
use Rattle.node_store.specs.Diagram.{Node, answer}
use Rattle.prefix_min.specs.declared.row.PrefixRow.{PrefixRow}
use Rattle.prefix_min.specs.PrefixList.{weight}
use Rattle.table_compose.specs.Diagrams.{IsCostOf}
use Rattle.table_compose.specs.Plans.{IsListOf}
use Rattle.table_compose.specs.declared.composition.ComposeError.{ComposeError}
use Rattle.table_compose.specs.declared.composition.ComposeError.TheVariants.{Memory, TooMany}

-- prefixes of some fields, one each, and the decision of the values that all of them hold
pub record Box : Type 0 where
  pub prefixes : List Prefix
  pub decision : ℕ

-- the box with prefixes of the fields before it in front
abbrev pub behind : List Prefix → Box → Box
behind ps b = record { prefixes = ps ++ b.prefixes; decision = b.decision }

-- for each row, in the order of the rows, the boxes of its child, in their order, each with the row's prefix in front
abbrev pub in_turn : (ℕ → List Box) → List PrefixRow → List Box
in_turn tables rows = flat_map (λ r. map (behind (r.prefix ∷ [])) (tables r.label)) rows

-- the table of a node over these fields: the boxes of the children of its list in turn, and one at a leaf
abbrev pub boxes : List Node → (ℕ → List PrefixRow) → List ℕ → ℕ → List Box
boxes nodes lists [] id = record { prefixes = []; decision = answer nodes id [] } ∷ []
boxes nodes lists (f ∷ fields) id = in_turn (boxes nodes lists fields) (lists id)

-- each node of the diagram over these fields has a prefix list of its field
abbrev pub HaveLists : List Node → (ℕ → List PrefixRow) → List ℕ → ℕ → Type 0
HaveLists nodes lists [] id = Unit {0}
HaveLists nodes lists (f ∷ fields) id = IsListOf nodes id (lists id) × All (λ r. HaveLists nodes lists fields r.label) (lists id)

-- each node of the diagram costs what the nodes of its rows cost together, and a leaf 1
abbrev pub HaveCosts : List Node → (ℕ → List PrefixRow) → List ℕ → List ℕ → ℕ → Type 0
HaveCosts nodes lists costs [] id = (id < length costs) × (slice_index costs id ≡ 1)
HaveCosts nodes lists costs (f ∷ fields) id = (id < length costs) × (weight costs (lists id) ≡ slice_index costs id) × All (λ r. HaveCosts nodes lists costs fields r.label) (lists id)

-- the entry's word is that of a prefix in each field
pub record IsWordOf (word : Word) (prefixes : List Prefix) : Type 0 where
  pub five : length prefixes ≡ 5
  pub fit : FitFields stated prefixes
  pub trits : word_of word ≡ fields_trits stated prefixes
  pub holds : (header : List ℕ) → IsHeader header → agrees (word_of word) (header_bits header) ≡ all_hold stated prefixes header

-- the prefixes of the level's fields, each put at its field's place
abbrev pub placed : List ℕ → List Prefix → List Prefix → List Prefix
placed [] base ps = base
placed (f ∷ level) base [] = base
placed (f ∷ level) base (p ∷ ps) = placed level (slice_set base f p) ps

-- the entry is the box of the level's fields, with these prefixes in the other fields
abbrev pub IsPlaced : List ℕ → List Prefix → Box → Entry → Type 0
IsPlaced level base box entry = IsWordOf entry.word (placed level base box.prefixes) × (entry.decision ≡ box.decision)

-- the whole of each field
abbrev pub open_all : List Prefix
open_all = let p : Prefix = record { value = 0; len = 0 } in p ∷ p ∷ p ∷ p ∷ p ∷ []

-- the entries are the table of the diagram over the level's fields, by prefix lists of its nodes
pub record AreComposed (nodes : List Node) (level : List ℕ) (root : ℕ) (entries : List Entry) : Type 0 where
  pub lists : ℕ → List PrefixRow
  pub have : HaveLists nodes lists level root
  pub entries_are : AllZip (IsPlaced level open_all) (boxes nodes lists level root) entries

-- what the first entry that matches the header decides
abbrev pub decided : List Entry → List ℕ → Option ℕ
decided entries header = option_map (λ e. e.decision) (find (λ e. agrees (word_of e.word) (header_bits header)) entries)

-- the node answers this for some values of the fields
abbrev pub IsAnswer : List Node → List ℕ → ℕ → ℕ → Type 0
IsAnswer nodes fields id decision = (values : List ℕ) × AreValues fields values × (answer nodes id values ≡ decision)

-- the word is a prefix in each field
abbrev pub IsPrefixWord : Word → Type 0
IsPrefixWord word = (prefixes : List Prefix) × IsWordOf word prefixes

-- entries of these boxes were added
abbrev pub Gains : List ℕ → List Prefix → List Entry → List Entry → List Box → Type 0
Gains level base old new bs = (more : List Entry) × (new ≡ old ++ more) × AllZip (IsPlaced level base) bs more

-- what a refusal says: the least cost, where it is above the limit
abbrev pub IsRefusal : List Node → List ℕ → ℕ → ℕ → ComposeError → Type 0
IsRefusal nodes level root most Memory = Unit {0}
IsRefusal nodes level root most (TooMany needed limit) = IsCostOf nodes level root needed × (limit ≡ most) × (most < needed)

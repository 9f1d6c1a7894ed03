-- Lists of rows by their last items: each is empty, or another with an item behind it.
use Rattle.std.specs.Prelude.{◌≡◌, ℕ, zero, suc, ◌<◌, ◌≤◌, List, [], ◌∷◌, ◌++◌, Option, Some, None, length, map, slice_get}
use Rattle.field_boxes.specs.Headline.Classifier.{Interval}
use Rattle.redundancy_laws.specs.Rows.{Row, in_front, last_row}
use Rattle.redundancy.specs.declared.blocks.Blocks.{Blocks}
use Rattle.redundancy.specs.declared.blocks.lists.Item.{Item}
use Rattle.redundancy.specs.declared.blocks.lists.Item.TheVariants.{Last, Behind}
use Rattle.redundancy.specs.declared.blocks.lists.ListedRun.{ListedRun}
use Rattle.redundancy.specs.declared.blocks.lists.Link.{Link}
use Rattle.redundancy.specs.declared.blocks.lists.Lists.{Lists}
use Rattle.redundancy.specs.Blocks.{rows_of, run_by, BlocksGrow, FitRuns}
use Rattle.node_store.specs.Diagram.{Node}
use Rattle.redundancy_laws.specs.Layers.{rows_of_runs}
use Rattle.redundancy.specs.declared.blocks.Run.{Run}

abbrev pub interval_of_run : ListedRun → Interval
interval_of_run p = record { lo = p.lo; hi = p.hi }

-- the rows of an item, by those of blocks: one with no field left, or an interval in front of a block
abbrev pub item_rows : (ℕ → List Row) → Item → List Row
item_rows rows (Last decision) = last_row decision ∷ []
item_rows rows (Behind piece) = map (in_front (interval_of_run piece)) (rows piece.block)

abbrev pub link_rows_by : (ℕ → List Row) → (Option ℕ → List Row) → Option Link → List Row
link_rows_by rows lists None = []
link_rows_by rows lists (Some link) = lists link.before ++ item_rows rows link.item

-- the rows of the list whose last link stands at the place, where lists lead on to others at most so often; none of the empty list
abbrev pub list_within : (ℕ → List Row) → ℕ → List Link → Option ℕ → List Row
list_within rows n links None = []
list_within rows zero links (Some place) = []
list_within rows (suc n) links (Some place) = link_rows_by rows (list_within rows n links) (slice_get links place)

-- as often as links lead to earlier places
abbrev pub enough : Option ℕ → ℕ
enough None = 0
enough (Some place) = suc place

-- the rows of the list; lists lead to earlier ones
unfoldable pub list_rows : (ℕ → List Row) → List Link → Option ℕ → List Row
list_rows rows links list = list_within rows (enough list) links list

-- the list has its last link before the place
abbrev pub IsBefore : ℕ → Option ℕ → Type 0
IsBefore most None = Unit {0}
IsBefore most (Some place) = place < most

-- the item leads to one of so many blocks
abbrev pub FitsItem : ℕ → Item → Type 0
FitsItem most (Last decision) = Unit {0}
FitsItem most (Behind piece) = piece.block < most

-- each link leads to a list before it and to one of so many blocks
abbrev pub AreLinks : ℕ → List Link → Type 0
AreLinks most links = (place : ℕ) (link : Link) → slice_get links place ≡ Some link → IsBefore place link.before × FitsItem most link.item

-- the block that is known of a list has its rows
abbrev pub AreKnownLists : (ℕ → List Row) → ℕ → List Link → List (Option ℕ) → Type 0
AreKnownLists rows most links known = (place number : ℕ) → slice_get known place ≡ Some (Some number) → (number < most) × (rows number ≡ list_rows rows links (Some place))

pub record AreLists (blocks : Blocks) (lists : Lists) : Type 0 where
  pub links : AreLinks (length blocks.blocks.items) lists.links.keys
  pub count : length lists.known.items ≡ length lists.links.keys
  pub known : AreKnownLists (rows_of blocks.blocks.items) (length blocks.blocks.items) lists.links.keys lists.known.items

-- lists were added, each old one has its rows, and the list has these
pub record IsListed (blocks : Blocks) (old new : Lists) (rows : List Row) (list : Option ℕ) : Type 0 where
  pub lists : AreLists blocks new
  pub count : length old.links.keys ≤ length new.links.keys
  pub stay : (other : Option ℕ) → IsBefore (length old.links.keys) other → list_rows (rows_of blocks.blocks.items) new.links.keys other ≡ list_rows (rows_of blocks.blocks.items) old.links.keys other
  pub within : IsBefore (length new.links.keys) list
  pub rows_are : list_rows (rows_of blocks.blocks.items) new.links.keys list ≡ rows

-- blocks and lists were added, and each old list has its rows
pub record ListsGrow (old_blocks blocks : Blocks) (old new : Lists) : Type 0 where
  pub lists : AreLists blocks new
  pub count : length old.links.keys ≤ length new.links.keys
  pub stay : (other : Option ℕ) → IsBefore (length old.links.keys) other → list_rows (rows_of blocks.blocks.items) new.links.keys other ≡ list_rows (rows_of old_blocks.blocks.items) old.links.keys other

-- these rows are those of the list and of the runs, which lead on to blocks that are there
pub record AreGathered (old_nodes nodes : List Node) (old new : Blocks) (old_lists lists : Lists) (level : List ℕ) (rows : List Row) (list : Option ℕ) (runs : List Run) : Type 0 where
  pub blocks : BlocksGrow old_nodes nodes old new
  pub lists_grow : ListsGrow old new old_lists lists
  pub within : IsBefore (length lists.links.keys) list
  pub list_is : list_rows (rows_of new.blocks.items) lists.links.keys list ≡ rows
  pub runs_are : rows_of_runs (map (run_by (rows_of new.blocks.items)) runs) ≡ rows
  pub leads : FitRuns new level runs

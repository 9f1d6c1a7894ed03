-- Blocks of rows by number, and blocks that are added.
use Rattle.std.specs.Prelude.{◌≡◌, ℕ, zero, suc, ◌<◌, ◌≤◌, ◌++◌, List, [], ◌∷◌, Option, Some, None, All, length, map, slice_get, slice_index_or}
use Rattle.node_store.specs.Levels.{HasField, IsLevel, next as next_level, top_of}
use Rattle.field_boxes.specs.Spans.{interval_of}
use Rattle.node_store.specs.Diagram.{Node, level_of}
use Rattle.redundancy_laws.specs.Rows.{Row, last_row}
use Rattle.redundancy_laws.specs.Layers as laws
use Rattle.redundancy_laws.specs.Layers.{AreApart, rows_of_runs}
use Rattle.redundancy_laws.specs.Sifted.{IsCover}
use Rattle.redundancy.specs.declared.blocks.Block.{Block}
use Rattle.redundancy.specs.declared.blocks.Block.TheVariants.{Last, Layer, Two}
use Rattle.redundancy.specs.declared.blocks.Cover.{Cover}
use Rattle.redundancy.specs.declared.blocks.Run.{Run}
use Rattle.redundancy.specs.declared.blocks.Blocks.{Blocks}
use Rattle.std.specs.List.{flat_map}
use Rattle.node_store.specs.Store.{Grows}
use Rattle.field_sets.specs.declared.placed.Placed.{Placed}

-- a run with the rows of its block
abbrev pub run_by : (ℕ → List Row) → Run → laws.Run
run_by rows r = record { span = interval_of r.span; rows = rows r.block }

-- the rows of a block, by the rows of the blocks that it leads to
abbrev pub rows_by : (ℕ → List Row) → Option Block → List Row
rows_by rows None = []
rows_by rows (Some (Last decision)) = last_row decision ∷ []
rows_by rows (Some (Layer runs)) = rows_of_runs (map (run_by rows) runs.items)
rows_by rows (Some (Two first second)) = rows first ++ rows second

-- the rows of a block, where blocks lead on to others at most so often
abbrev pub rows_within : ℕ → List Block → ℕ → List Row
rows_within zero blocks number = []
rows_within (suc n) blocks number = rows_by (rows_within n blocks) (slice_get blocks number)

-- the rows of the block under the number; blocks lead to smaller numbers
unfoldable pub rows_of : List Block → ℕ → List Row
rows_of blocks number = rows_within (suc number) blocks number

abbrev pub no_cover : Cover
no_cover = record { level = record { ref_ptr = (0, 0); now = [] }; set = record { 0 = 0 } }

abbrev pub cover_at : List Cover → ℕ → Cover
cover_at covers number = slice_index_or covers number no_cover

-- the run leads to a block before the number, of the level after the field, and its span ends within the field
pub record FitsRun (covers : List Cover) (number : ℕ) (field : List ℕ) (r : Run) : Type 0 where
  pub older : r.block < number
  pub level : (cover_at covers r.block).level.now ≡ next_level field
  pub inside : r.span.hi ≤ top_of field

-- the spans of the runs rise and are apart
abbrev pub RiseApart : List Run → Type 0
RiseApart runs = AreApart 0 (map (run_by (λ block. [])) runs)

-- the block leads to smaller numbers, at the levels that its own asks for
abbrev pub FitsAt : List Cover → ℕ → Block → Type 0
FitsAt covers number (Last decision) = (cover_at covers number).level.now ≡ []
FitsAt covers number (Layer runs) =
    HasField (cover_at covers number).level.now × All (FitsRun covers number (cover_at covers number).level.now) runs.items × RiseApart runs.items
FitsAt covers number (Two first second) =
    (first < number) × (second < number) × ((cover_at covers first).level.now ≡ (cover_at covers number).level.now) × ((cover_at covers second).level.now ≡ (cover_at covers number).level.now)

-- the set stands at its level, and is that of the values which some row matches
pub record HasCover (nodes : List Node) (cover : Cover) (rows : List Row) : Type 0 where
  pub within : IsLevel cover.level.now
  pub level : level_of nodes cover.set.0 ≡ cover.level.now
  pub set : IsCover nodes cover.level.now cover.set.0 rows

-- each block fits where it stands, and has its cover
pub record AreBlocks (nodes : List Node) (blocks : List Block) (covers : List Cover) : Type 0 where
  pub count : length covers ≡ length blocks
  pub fits : (number : ℕ) (block : Block) → slice_get blocks number ≡ Some block → FitsAt covers number block
  pub covered : (number : ℕ) → number < length blocks → HasCover nodes (cover_at covers number) (rows_of blocks number)

abbrev pub IsBlocks : List Node → Blocks → Type 0
IsBlocks nodes b = AreBlocks nodes b.blocks.items b.covers.items

-- the number is that of a block of the level
abbrev pub StandsAt : Blocks → List ℕ → ℕ → Type 0
StandsAt b level number = (number < length b.blocks.items) × ((cover_at b.covers.items number).level.now ≡ level)

abbrev pub StandAt : Blocks → List ℕ → List ℕ → Type 0
StandAt b level numbers = All (StandsAt b level) numbers

-- the runs lead to blocks of the level after theirs, and their spans end within the field
abbrev pub FitRuns : Blocks → List ℕ → List Run → Type 0
FitRuns b level runs = All (FitsRun b.covers.items (length b.blocks.items) level) runs

-- the block was added behind all others, with its cover
pub record IsAdded (old new : Blocks) (block : Block) (cover : Cover) (number : ℕ) : Type 0 where
  pub number_is : number ≡ length old.blocks.items
  pub blocks : new.blocks.items ≡ old.blocks.items ++ block ∷ []
  pub covers : new.covers.items ≡ old.covers.items ++ cover ∷ []

-- blocks were added, each old one is as it was, and the number is that of a block with these rows
pub record IsBuilt (old_nodes nodes : List Node) (old new : Blocks) (level : List ℕ) (rows : List Row) (number : ℕ) : Type 0 where
  pub grows : Grows old_nodes nodes
  pub blocks : IsBlocks nodes new
  pub count : length old.blocks.items ≤ length new.blocks.items
  pub rows_stay : (k : ℕ) → k < length old.blocks.items → rows_of new.blocks.items k ≡ rows_of old.blocks.items k
  pub covers_stay : (k : ℕ) → k < length old.blocks.items → cover_at new.covers.items k ≡ cover_at old.covers.items k
  pub number_in : number < length new.blocks.items
  pub level_is : (cover_at new.covers.items number).level.now ≡ level
  pub rows_are : rows_of new.blocks.items number ≡ rows

-- the same of the numbers of blocks that have these rows one behind another
pub record AreBuilt (old_nodes nodes : List Node) (old new : Blocks) (level : List ℕ) (rows : List Row) (numbers : List ℕ) : Type 0 where
  pub grows : Grows old_nodes nodes
  pub blocks : IsBlocks nodes new
  pub count : length old.blocks.items ≤ length new.blocks.items
  pub rows_stay : (k : ℕ) → k < length old.blocks.items → rows_of new.blocks.items k ≡ rows_of old.blocks.items k
  pub covers_stay : (k : ℕ) → k < length old.blocks.items → cover_at new.covers.items k ≡ cover_at old.covers.items k
  pub numbers_in : StandAt new level numbers
  pub rows_are : flat_map (rows_of new.blocks.items) numbers ≡ rows

-- the run's span, leading to the set of its block
abbrev pub run_placed : List Cover → Run → Placed
run_placed covers r = record { span = r.span; to = (cover_at covers r.block).set }

-- blocks were added, and each old one is as it was
pub record BlocksGrow (old_nodes nodes : List Node) (old new : Blocks) : Type 0 where
  pub grows : Grows old_nodes nodes
  pub blocks : IsBlocks nodes new
  pub count : length old.blocks.items ≤ length new.blocks.items
  pub rows_stay : (k : ℕ) → k < length old.blocks.items → rows_of new.blocks.items k ≡ rows_of old.blocks.items k
  pub covers_stay : (k : ℕ) → k < length old.blocks.items → cover_at new.covers.items k ≡ cover_at old.covers.items k

-- Entries that are kept of a composed table.
use Rattle.std.specs.Prelude.{◌≡◌, ◌++◌, ℕ, Bool, List, [], length}
use Rattle.std.specs.List.{AllZip}
use Rattle.field_boxes.specs.declared.prefix.Prefix.{Prefix}
use Rattle.ternary_words.specs.declared.entry.Entry.{Entry}
use Rattle.node_store.specs.Diagram.{Node}
use Rattle.table_compose.specs.Composed.{AreComposed, Box, IsPlaced}
use Rattle.redundancy_laws.specs.Contexts.{IsRight, whole}
use Rattle.redundancy_laws.specs.Flags.{with_flags}
use Rattle.redundancy_laws.specs.Marks.{marked}
use Rattle.redundancy_laws.specs.Pass.{Keeps}
use Rattle.redundancy_laws.specs.Rows.{Row}

-- a flag for each row, and what they keep is right for the rows as a whole table, read in the order
pub record AreWholeFlags (order : List ℕ) (rows : List Row) (flags : List Bool) : Type 0 where
  pub count : length flags ≡ length rows
  pub out : ℕ → List ℕ → ℕ
  pub right : IsRight order whole (marked rows flags) out

-- of entries of these boxes the flagged ones were added
abbrev pub GainsFlagged : List ℕ → List Prefix → List Entry → List Entry → List Box → List Bool → Type 0
GainsFlagged level base old new bs flags = (more : List Entry) × AllZip (IsPlaced level base) bs more × (new ≡ old ++ with_flags more flags)

-- these are what a pass keeps of so many entries that are composed of the diagram
pub record AreKeptOf (nodes : List Node) (order : List ℕ) (root count : ℕ) (kept : List Entry) : Type 0 where
  pub all : List Entry
  pub composed : AreComposed nodes order root all
  pub many : length all ≡ count
  pub pass : Keeps [] all kept

-- What removal worked out of the nodes of a store and their plans.
use Rattle.std.specs.Prelude.{List, Result, Ok, Err}
use Rattle.node_store.specs.Diagram.{Node}
use Rattle.table_compose.specs.declared.diagram_plans.Plans.{Plans}
use Rattle.table_compose.specs.declared.composition.ComposeError.{ComposeError}
use Rattle.table_compose.specs.declared.composition.ComposeError.TheVariants.{Memory, TooMany}
use Rattle.redundancy.specs.declared.removal.Removal.{Removal}
use Rattle.redundancy.specs.Blocks.{IsBlocks}
use Rattle.redundancy.specs.NodeBlocks.{AreKnown}
use Rattle.redundancy.specs.Remembered.{IsMemo}

-- its blocks are blocks, those that are known of nodes are theirs, and what it kept of blocks was worked out
pub record IsRemovalOf (nodes : List Node) (plans : Plans) (r : Removal) : Type 0 where
  pub blocks : IsBlocks r.sets r.blocks
  pub known : AreKnown nodes plans r.blocks r.known
  pub memo : IsMemo r.sets r.blocks r.memo

-- a fact unless memory was refused
abbrev pub UnlessMemory : {A : Type 0} → Result A ComposeError → Type 0 → Type 0
UnlessMemory (Ok table) P = P
UnlessMemory (Err Memory) P = Unit {0}
UnlessMemory (Err (TooMany needed limit)) P = P

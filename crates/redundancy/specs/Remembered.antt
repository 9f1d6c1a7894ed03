-- What was worked out of blocks before.
use Rattle.std.specs.Prelude.{◌≡◌, ℕ, ◌<◌, ◌&&◌, nat_eq, Bool, List, Some, length}
use Rattle.std.specs.Cmp.Lexicographic.{pointwise}
use Rattle.std.specs.HashMap.{get}
use Rattle.node_store.specs.Levels.{IsLevel}
use Rattle.node_store.specs.Diagram.{Node}
use Rattle.redundancy_laws.specs.declared.context.Context.{Context}
use Rattle.redundancy_laws.specs.declared.sifted.Sifted.{Sifted}
use Rattle.redundancy_laws.specs.Sifted.{AreContexts, IsSifted}
use Rattle.redundancy.specs.declared.blocks.Blocks.{Blocks}
use Rattle.redundancy.specs.declared.sifting.BlockContexts.{BlockContexts}
use Rattle.redundancy.specs.declared.sifting.Memo.{Memo}
use Rattle.redundancy.specs.Blocks.{rows_of, cover_at}

-- the pairs are of the same nodes
abbrev pub same_context : Context → Context → Bool
same_context p q = nat_eq p.after.0 q.after.0 && nat_eq p.met.0 q.met.0

-- there is a block under the number, and it was gone through for these contexts
pub record IsAnswered (nodes : List Node) (blocks : Blocks) (number : ℕ) (pairs : List Context) (s : Sifted) : Type 0 where
  pub there : number < length blocks.blocks.items
  pub within : IsLevel (cover_at blocks.covers.items number).level.now
  pub contexts : AreContexts nodes (cover_at blocks.covers.items number).level.now pairs
  pub sifted : IsSifted nodes (cover_at blocks.covers.items number).level.now (rows_of blocks.blocks.items number) pairs s

-- the blocks are the same and the contexts too
abbrev pub same_asked : BlockContexts → BlockContexts → Bool
same_asked p q = nat_eq p.number q.number && pointwise same_context p.contexts.items q.contexts.items

-- what is kept was worked out
abbrev pub IsMemo : List Node → Blocks → Memo → Type 0
IsMemo nodes blocks memo = (asked : BlockContexts) (s : Sifted) → get same_asked memo.done asked ≡ Some s → IsAnswered nodes blocks asked.number asked.contexts.items s

use Rattle.std.proofs.Common.{[], map, take}
use Rattle.redundancy_laws.specs.Built.{row_at}
use Rattle.redundancy.specs.declared.blocks.Blocks.{Blocks}
use Rattle.redundancy.specs.Lists.{AreLists, IsListed}
use Rattle.redundancy.proofs.blocks.lists.Lists.lasts.Given as goal

abbrev pub invariant-loop-entry : goal.invariant-loop-entry
invariant-loop-entry l = (blocks : Blocks) → AreLists blocks l.initial.self → IsListed blocks l.initial.self l.self (map (row_at []) (take l.entry-index l.entries)) l.list

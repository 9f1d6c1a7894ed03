use Rattle.std.proofs.Common.{◌≡◌, [], length, map, take}
use Rattle.redundancy_laws.specs.Built.{row_at}
use Rattle.redundancy.specs.Blocks.{AreBuilt}
use Rattle.redundancy.proofs.blocks.Blocks.each_last.Given as goal

abbrev pub invariant-loop-entry : goal.invariant-loop-entry
invariant-loop-entry l = record {
  built : AreBuilt l.sets l.sets l.initial.self l.self [] (map (row_at []) (take l.entry-index l.entries)) l.numbers.items;
  count : length l.numbers.items ≡ l.entry-index;
}

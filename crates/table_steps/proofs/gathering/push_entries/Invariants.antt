use Rattle.std.proofs.Common.{◌++◌, take}
use Rattle.table_steps.specs.Free.{words_of}
use Rattle.word_cover.specs.Covers.{AreAmong}
use Rattle.table_steps.proofs.gathering.push_entries.Given as goal

abbrev pub invariant-loop-entry : goal.invariant-loop-entry
invariant-loop-entry l = AreAmong l.above.items (l.initial.above.items ++ words_of (take l.entry-index l.entries))

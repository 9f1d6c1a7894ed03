use Rattle.std.proofs.Common.{◌++◌, take}
use Rattle.word_cover.specs.Covers.{AreAmong}
use Rattle.table_steps.proofs.gathering.push_words.Given as goal

abbrev pub invariant-loop-other : goal.invariant-loop-other
invariant-loop-other l = AreAmong l.above.items (l.initial.above.items ++ take l.other-index l.words)

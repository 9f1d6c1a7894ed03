use Rattle.std.proofs.Common.{◌≡◌, drop}
use Rattle.ternary_words.specs.Entries.{answer}
use Rattle.table_steps.proofs.wanted.answered.Given as goal

abbrev pub invariant-loop-entry : goal.invariant-loop-entry
invariant-loop-entry l = answer l.entries l.header.values ≡ answer (drop l.entry-index l.entries) l.header.values
